-- The lines that answer a script.
use Rattle.std.specs.Prelude.{ℕ, if◌then◌else◌, List, ◌++◌, Option, Some, None, codes, option_copied}
use Rattle.std.specs.Char.{encode_utf8}
use Rattle.std.specs.Fmt.{decimal}
use Rattle.text.specs.Hex.{hex_of}
use Rattle.layers.specs.declared.fault.StorageFault.{StorageFault}
use Rattle.volume.specs.declared.types.Entry.{Entry}
use Rattle.volume.specs.Letter.{letter_of}
use Rattle.calls.specs.declared.refusal.Refusal.{Refusal}
use Rattle.script.specs.Code.{code_text}
use Rattle.script.specs.Name.{name_text}
use Rattle.script.specs.declared.bottom.Bottom.{Bottom}
use Rattle.script.specs.declared.name.Name.{Name}
use Rattle.script.specs.declared.reply.Reply.{Reply}
use Rattle.script.specs.declared.reply.Reply.TheVariants as reply

-- kind, bit, size and the buffer of a listed entry
abbrev pub listed_text : Entry → List ℕ → List ℕ
listed_text entry buf =
    codes "list ok " ++ (encode_utf8 (letter_of entry.kind) ++ (codes " " ++ (encode_utf8 (if entry.executable then 120 else 45)
    ++ (codes " " ++ (decimal entry.size ++ (codes " " ++ hex_of buf))))))

-- a refusal, and the buffer of a call that has one
abbrev pub refused_text : Name → List ℕ → Option (List ℕ) → List ℕ
refused_text call code None = name_text call ++ (codes " refused " ++ code)
refused_text call code (Some buf) = name_text call ++ (codes " refused " ++ (code ++ (codes " buf " ++ hex_of buf)))

-- by what a refusal of the device at the bottom is in short
abbrev pub reply_text : {R : Type 0} → (R → Bottom) → Reply R → List ℕ
reply_text short (reply.Begun start) = codes "begin ok " ++ (decimal start.size ++ (codes " " ++ decimal start.root))
reply_text short (reply.Opened handle start size) = codes "open ok " ++ (decimal handle ++ (codes " " ++ (decimal start ++ (codes " " ++ decimal size))))
reply_text short (reply.Read count buf) = codes "read ok " ++ (decimal count ++ (codes " " ++ hex_of buf.now))
reply_text short (reply.Whole buf) = codes "whole ok " ++ hex_of buf.now
reply_text short (reply.Listed entry buf) = listed_text entry buf.now
reply_text short reply.Closed = codes "close ok"
reply_text short (reply.Refused call refusal buf) = refused_text call (code_text short refusal) (option_copied buf)
reply_text short (reply.NoHandle call handle) = name_text call ++ (codes " no handle " ++ decimal handle)
reply_text short (reply.NoMemory call) = name_text call ++ codes " no memory"
reply_text short (reply.Unknown line) = codes "unknown line: " ++ line.now
