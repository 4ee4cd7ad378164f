-- A call that a line asks for, apart from where its path lies.
use Rattle.std.specs.Prelude.{ℕ, List}
use Rattle.text.specs.HexText.{bytes_told}
use Rattle.script.specs.declared.call.Call.{Call}
use Rattle.script.specs.declared.call.Call.TheVariants as call
use Rattle.script.specs.declared.call.PathWord.{PathWord}
use Rattle.script.specs.declared.call.PathWord.TheVariants.{Plain, Hex}

-- handles are told by number, paths by their bytes
pub data Asked : Type 0 where
  to_begin : Asked
  to_open : List ℕ → Asked
  to_read : ℕ → ℕ → ℕ → Asked
  to_whole : ℕ → ℕ → Asked
  to_list : ℕ → ℕ → List ℕ → Asked
  to_close : ℕ → Asked

abbrev pub path_told : PathWord → List ℕ
path_told (Plain text) = text.now
path_told (Hex digits) = bytes_told digits

abbrev pub asked : Call → Asked
asked call.Begin = to_begin
asked (call.Open path) = to_open (path_told path)
asked (call.Read handle offset size) = to_read handle offset size
asked (call.Whole handle size) = to_whole handle size
asked (call.List index size path) = to_list index size (path_told path)
asked (call.Close handle) = to_close handle
