-- The six calls: what they answer, and in which order they are refused.
use Rattle.std.specs.Prelude.{◌≡◌, ℕ, [], ◌∷◌, ◌++◌, replicate, codes, Ok, Err, None, Some, false}
use Rattle.volume.specs.declared.types.Kind.TheVariants.{File}
use Rattle.volume.specs.Use.{Extent}
use Rattle.calls.specs.declared.refusal.MountRule.{MountRule}
use Rattle.calls.specs.declared.refusal.MountRule.TheVariants.{Label, Handle, Length, Held, NotBegun}
use Rattle.calls.specs.declared.refusal.Refusal.TheVariants.{Mount}
use Rattle.calls.specs.Calls.{begin, open_file, read, whole, list, close, Reply, State, started, opened, count, all, listed, closed, fresh}
use Rattle.calls.specs.Mount.{image_length, made, mount}
use Rattle.device.specs.Program.{asked, result}
use Rattle.images.specs.Reading.{reply, begun}
use Rattle.images.specs.Volumes.{v, file_a, one}
use Rattle.mount_cases.specs.Cards.{giving, cached}

-- refused by a rule of the mount, with a buffer of n zeros
abbrev pub refused : MountRule → ℕ → Reply ℕ
refused rule n = record { answer = Err (Mount rule); buffer = replicate n 0 }

-- V begun, with so many handles held
abbrev pub holding : ℕ → State
holding n = record { begun = Some (record { size = 80; root = 32 }); held = n }

-- V not begun, with handles held
abbrev pub only_held : ℕ → State
only_held n = record { begun = None; held = n }

-- bytes of V to its end, and to one past it
abbrev pub to_the_end : Extent
to_the_end = record { start = 64; size = 16 }

abbrev pub past_the_end : Extent
past_the_end = record { start = 64; size = 17 }

pub record CallCases : Type 0 where
  -- begin again; each call before it
  pub begins_again : reply v (begun v) begin ≡ record { answer = Ok (started (record { size = 80; root = 32 })); buffer = [] }
  pub open_not_begun : reply v fresh (open_file (codes "a")) ≡ refused NotBegun 0
  pub read_not_begun : reply v fresh (read file_a 0 3) ≡ refused NotBegun 3
  pub whole_not_begun : reply v (only_held 1) (whole file_a 3) ≡ refused NotBegun 3
  pub list_not_begun : reply v fresh (list [] 0 128) ≡ refused NotBegun 128
  pub close_not_begun : reply v (only_held 1) (close file_a) ≡ refused NotBegun 0
  pub not_begun_before_held : reply v (only_held 65535) (open_file (codes "a")) ≡ refused NotBegun 0
  pub not_begun_before_handle : reply v fresh (whole past_the_end 3) ≡ refused NotBegun 3
  -- a handle more can be held after 65,534, and none after 65,535, whatever the path
  pub last_handle : reply v (holding 65534) (open_file (codes "a")) ≡ record { answer = Ok (opened file_a); buffer = [] }
  pub all_held : reply v (holding 65535) (open_file []) ≡ refused Held 0
  pub read_all_held : reply v (holding 65535) (read file_a 0 3) ≡ record { answer = Ok (count 3); buffer = codes "egg" }
  -- read: no handle need be held; as many bytes as the buffer has and the file has behind the offset, and zeros behind them
  pub read_unheld : reply v (begun v) (read file_a 0 3) ≡ record { answer = Ok (count 3); buffer = codes "egg" }
  pub read_longer : reply v (one v) (read file_a 0 6) ≡ record { answer = Ok (count 3); buffer = codes "egg" ++ replicate 3 0 }
  pub read_shorter : reply v (one v) (read file_a 0 2) ≡ record { answer = Ok (count 2); buffer = codes "eg" }
  pub read_eight : reply v (one v) (read (record { start = 60; size = 9 }) 1 8) ≡ record { answer = Ok (count 8); buffer = 0 ∷ 0 ∷ 0 ∷ codes "egg" ++ replicate 2 0 }
  pub read_nothing : reply v (one v) (read file_a 0 0) ≡ record { answer = Ok (count 0); buffer = [] }
  pub read_to_the_end : reply v (one v) (read to_the_end 14 4) ≡ record { answer = Ok (count 2); buffer = replicate 4 0 }
  pub read_past_the_end : reply v (one v) (read past_the_end 0 1) ≡ refused Handle 1
  pub read_handle_before_offset : reply v (one v) (read past_the_end 18 1) ≡ refused Handle 1
  -- whole: a handle is held, and the buffer is as long as the file
  pub whole_file : reply v (one v) (whole file_a 3) ≡ record { answer = Ok all; buffer = codes "egg" }
  pub whole_to_the_end : reply v (one v) (whole to_the_end 16) ≡ record { answer = Ok all; buffer = codes "egg" ++ replicate 13 0 }
  pub whole_past_the_end : reply v (one v) (whole past_the_end 17) ≡ refused Handle 17
  pub whole_unheld : reply v (begun v) (whole file_a 3) ≡ refused Handle 3
  pub whole_shorter : reply v (one v) (whole file_a 2) ≡ refused Length 2
  pub whole_longer : reply v (one v) (whole file_a 4) ≡ refused Length 4
  pub whole_handle_before_length : reply v (one v) (whole past_the_end 3) ≡ refused Handle 3
  pub whole_unheld_before_length : reply v (begun v) (whole file_a 2) ≡ refused Handle 2
  -- list: the name with zeros behind it, in a buffer of 128; another length comes before the path
  pub list_first : reply v (begun v) (list [] 0 128) ≡ record { answer = Ok (listed (record { kind = File; executable = false; size = 3 })); buffer = 0x61 ∷ replicate 127 0 }
  pub list_shorter : reply v (begun v) (list [] 0 127) ≡ refused Length 127
  pub list_longer : reply v (begun v) (list [] 0 129) ≡ refused Length 129
  pub list_length_before_path : reply v (begun v) (list (codes "a/") 0 1) ≡ refused Length 1
  -- close: a handle is held, whatever the one that is given
  pub closes : reply v (one v) (close file_a) ≡ record { answer = Ok closed; buffer = [] }
  pub close_another : reply v (one v) (close past_the_end) ≡ record { answer = Ok closed; buffer = [] }
  pub close_unheld : reply v (begun v) (close file_a) ≡ refused Handle 0
  -- with a label that was refused each call is, and nothing is asked
  pub label_begin : (result (giving 512 v) (mount cached (made cached None) begin)).0.answer ≡ Err (Mount Label)
  pub label_before_begun : (result (giving 512 v) (mount cached (made cached None) (close file_a))).0.answer ≡ Err (Mount Label)
  pub label_asks : asked (giving 512 v) (mount cached (made cached None) begin) ≡ []
  -- an image is its data blocks
  pub image_bytes : image_length (record { data_block = 512; hash_block = 1024; blocks = 3; slot = 32 }) ≡ 1536
