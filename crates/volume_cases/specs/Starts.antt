-- Starts of volumes: what is accepted, and which rule is broken where.
use Rattle.std.specs.Prelude.{◌≡◌, ℕ, List, [], ◌∷◌, ◌++◌, replicate, Ok}
use Rattle.volume.specs.declared.fault.VolumeRule.TheVariants.{Text, Size, Sum, VolumeName}
use Rattle.calls.specs.Calls.{started}
use Rattle.images.specs.Reading.{image_of}
use Rattle.images.specs.Volumes.{volume_with, header_words, volume_before, named_volume, volume_of, starting, start_breaks}

-- a start that is its first three words alone
abbrev pub text_and_size : ℕ → ℕ → ℕ → List ℕ
text_and_size first second size = image_of 512 (first ∷ second ∷ size ∷ [])

pub record StartCases : Type 0 where
  -- another byte of the text, in its first word, in its second, and at its end
  pub other_text : starting (text_and_size 0x2d726f6e 0x3166732d 0) ≡ start_breaks 0 Text
  pub other_half : starting (text_and_size 0x2d726f6d 0x3066732d 0) ≡ start_breaks 0 Text
  pub other_end : starting (text_and_size 0x2d726f6d 0x3166732e 0) ≡ start_breaks 0 Text
  -- a size that is no multiple of 16, one above the image's length, and the image's length
  pub odd_size : starting (text_and_size 0x2d726f6d 0x3166732d 72) ≡ start_breaks 8 Size
  pub size_above : starting (text_and_size 0x2d726f6d 0x3166732d 528) ≡ start_breaks 8 Size
  pub full_size : starting (volume_of (header_words 2 0 0 ++ replicate 112 0)) ≡ Ok (started (record { size = 512; root = 32 }))
  -- of two rules that are broken the text comes first, then the size, then the sum
  pub text_before_size : starting (text_and_size 0x2d726f6e 0x3166732d 72) ≡ start_breaks 0 Text
  pub sum_before_name : starting (text_and_size 0x2d726f6d 0x3166732d 16) ≡ start_breaks 12 Sum
  -- the word at 12 higher by 16, and by 2^31
  pub sum_16_more : starting (volume_with 0x3bbfb626) ≡ start_breaks 12 Sum
  pub sum_half_more : starting (volume_with 0xbbbfb616) ≡ start_breaks 12 Sum
  -- bytes behind the volume's end are in no sum, and no word at all sums to zero
  pub words_behind : starting (volume_before (0 ∷ 0 ∷ 0 ∷ 0 ∷ header_words 2 0 0) (1 ∷ [])) ≡ Ok (started (record { size = 64; root = 32 }))
  pub no_words : starting (text_and_size 0x2d726f6d 0x3166732d 0) ≡ start_breaks 16 VolumeName
  -- a name of 128 bytes, and of 127; of 16 and of 15; and no room for a header behind one
  pub endless_name : starting (named_volume (replicate 32 0x61616161 ++ replicate 12 0)) ≡ start_breaks 16 VolumeName
  pub longest_name : starting (named_volume (replicate 31 0x61616161 ++ 0x61616100 ∷ replicate 8 0)) ≡ Ok (started (record { size = 176; root = 144 }))
  pub name_of_16 : starting (named_volume (replicate 4 0x61616161 ++ replicate 4 0 ++ header_words 2 0 0)) ≡ Ok (started (record { size = 80; root = 48 }))
  pub name_of_15 : starting (named_volume (replicate 3 0x61616161 ++ 0x61616100 ∷ header_words 2 0 0)) ≡ Ok (started (record { size = 64; root = 32 }))
  pub no_header : starting (volume_of (replicate 4 0)) ≡ start_breaks 16 VolumeName
