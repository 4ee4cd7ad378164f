-- What a fault prints: what is wrong, and the key of the line.
use Rattle.std.specs.Prelude.{ℕ, List, ◌++◌, codes}
use Rattle.label_text.specs.Key.{front_of}
use Rattle.label_text.specs.declared.fault.Fault.{Fault}
use Rattle.label_text.specs.declared.fault.Fault.TheVariants.{Missing, Doubled, Malformed}

abbrev pub fault_text : Fault → List ℕ
fault_text (Missing key) = codes "no line of the label begins with '" ++ (front_of key ++ codes "'")
fault_text (Doubled key) = codes "more than one line of the label begins with '" ++ (front_of key ++ codes "'")
fault_text (Malformed key) = codes "the label's line that begins with '" ++ (front_of key ++ codes "' has a malformed value")
