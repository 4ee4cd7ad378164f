-- A header: the words next, info, size and checksum, then the name with its zero byte, padded to 16.
use Rattle.std.specs.Prelude.{ℕ, ◌+◌, ◌-◌, ◌/◌, ◌%◌, min, Bool, cond, ◌&&◌, ◌||◌, not, List, length, take, drop, Result, Ok, Err, Option, Some, None, ◌==◌, nat_le, nat_lt}
use Rattle.std.specs.List.{list_all}
use Rattle.volume.specs.declared.types.Start.{Start}
use Rattle.volume.specs.declared.types.Kind.{Kind}
use Rattle.volume.specs.declared.types.Kind.TheVariants.{HardLink, Directory, File, SymbolicLink, BlockDevice, CharDevice, Socket, Pipe}
use Rattle.volume.specs.declared.types.Entry.{Entry}
use Rattle.volume.specs.declared.fault.VolumeRule.TheVariants.{Range, Name, HeaderSum, Next}
use Rattle.volume.specs.declared.fault.VolumeFault.{VolumeFault}
use Rattle.volume.specs.declared.fault.VolumeFault.TheVariants.{Rule, Storage}
use Rattle.volume.specs.Sizes.{header_size}
use Rattle.volume.specs.Words.{word, sums_to_zero, up_to_16, zero_at}
use Rattle.volume.specs.Fetches.{Fetches, refuse, fetch, settled}

pub record Header : Type 0 where
  -- where it stands
  pub at : ℕ
  -- where the following header of its list stands; 0 ends the list
  pub next : ℕ
  pub info : ℕ
  pub entry : Entry
  pub name : List ℕ
  -- the bytes of the header; a file's data stand behind them
  pub length : ℕ

-- the kind by its bits
abbrev pub kind_of : ℕ → Kind
kind_of n = cond (n == 0) HardLink (cond (n == 1) Directory (cond (n == 2) File (cond (n == 3) SymbolicLink (cond (n == 4) BlockDevice (cond (n == 5) CharDevice (cond (n == 6) Socket Pipe))))))

-- printable, and no slash
abbrev pub is_name_byte : ℕ → Bool
is_name_byte b = nat_le 0x20 b && nat_le b 0x7e && not (b == 0x2f)

abbrev pub is_name : List ℕ → Bool
is_name name = nat_lt 0 (length name) && list_all is_name_byte name

-- by where the name's zero byte stands
abbrev pub named : {F : Type 0} → ℕ → List ℕ → Option ℕ → Result Header (VolumeFault F)
named at bytes None = Err (Rule at Name)
named at bytes (Some n) =
    let name = take n (drop 16 bytes) in
    let len = 16 + up_to_16 (n + 1) in
    let first = word bytes 0 in
    let next = first - first % 16 in
    cond (not (is_name name)) (Err (Rule at Name))
    (cond (not (sums_to_zero (take len bytes))) (Err (Rule at HeaderSum))
    (cond (not (next == 0) && nat_le next at) (Err (Rule at Next))
    (Ok (record {
      at = at;
      next = next;
      info = word bytes 4;
      entry = record { kind = kind_of (first % 8); executable = first / 8 % 2 == 1; size = word bytes 8 };
      name = name;
      length = len;
    }))))

-- of the bytes that were fetched for it
unfoldable pub header_of : {F : Type 0} → ℕ → List ℕ → Result Header (VolumeFault F)
header_of at bytes = named at bytes (zero_at (drop 16 bytes))

-- the header at an offset: its bytes, up to the longest name's and the volume's end
unfoldable pub header : {F : Type 0} → Start → ℕ → Fetches F (VolumeFault F) Header
header start at =
    cond (nat_lt at start.root || nat_lt start.size (at + 32)) (refuse (Rule at Range))
    (fetch at (min (at + header_size) start.size - at) (λ fault. Storage at fault) (λ bytes. settled (header_of at bytes)))
