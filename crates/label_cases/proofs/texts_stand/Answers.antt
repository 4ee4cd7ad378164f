use Rattle.std.proofs.Common.{refl}
use Rattle.std.specs.Fmt.{digits}
use Rattle.tree.specs.Shape.{levels_from, levels_of, width, blocks_from}
use Rattle.text.specs.Hex.{unhex_of}
use Rattle.label_text.specs.Lines.{value_of}
use Rattle.label_text.specs.Label.{label_in}
use Rattle.label_text.specs.Printed.{text_of}
use Rattle.label_cases.proofs.texts_stand.Goals as goal

pub returns : goal.returns
unfolding digits levels_from levels_of width blocks_from unhex_of value_of label_in text_of
returns c = record {
  told = refl;
  other_order = refl;
  others_between = refl;
  no_last_feed = refl;
  blanks = refl;
  blank_before = refl;
  blank_behind = refl;
  type_0 = refl;
  type_11 = refl;
  no_digit = refl;
  no_number = refl;
  too_large = refl;
  largest = refl;
  data_size = refl;
  hash_size = refl;
  no_function = refl;
  capitals = refl;
  longer_digest = refl;
  sha512 = refl;
  longer_root = refl;
  no_hex = refl;
  no_salt = refl;
  short_salt = refl;
  salt_in_capitals = refl;
  empty_salt = refl;
  odd_salt = refl;
  longest_salt = refl;
  longer_salt = refl;
  no_line = refl;
  no_root_line = refl;
  twice = refl;
  twice_the_same = refl;
  first_fault = refl;
  function_before_salt = refl;
  salt_before_root = refl;
  printed = refl;
  printed_unsalted = refl;
  printed_outside = refl;
  fits = refl;
  longest_fits = refl;
  longer_fits_not = refl;
  other_root_fits_not = refl;
  of_shape = refl;
}
