-- A fetch as the code makes it: of each block that it touches the part that is wanted.
use Rattle.std.specs.Prelude.{ℕ, zero, suc, ◌-◌, min, cond, List, [], ◌++◌, take, drop, Ok, Err, ◌==◌}
use Rattle.device.specs.declared.question.Area.TheVariants.{Data}
use Rattle.device.specs.Answer.{Answer}
use Rattle.device.specs.Program.{Program, done, ask, bind}
use Rattle.volume.specs.declared.fault.VolumeFault.{VolumeFault}
use Rattle.volume.specs.declared.fault.VolumeFault.TheVariants.{Storage}
use Rattle.volume.specs.Fetches.{Fetches, give, fetch}

-- n bytes of an answer's bytes, from byte `skip` on
abbrev pub cut : {F : Type 0} → ℕ → ℕ → Answer F → Answer F
cut skip n (Ok bytes) = Ok (take n (drop skip bytes))
cut skip n (Err fault) = Err fault

-- bytes in front of an answer
abbrev pub prefixed : {F : Type 0} → List ℕ → Answer F → Answer F
prefixed front (Ok bytes) = Ok (front ++ bytes)
prefixed front (Err fault) = Err fault

-- one part: n bytes from byte `skip` of block b, of blocks of d bytes
abbrev pub part_of : {F : Type 0} → ℕ → ℕ → ℕ → ℕ → Program F (Answer F)
part_of d b skip n = ask (record { area = Data; block = b; length = d }) (λ answer. done (cut skip n answer))

-- goes on with a part, and ends with a fault
abbrev pub with_part : {F : Type 0} → (List ℕ → Program F (Answer F)) → Answer F → Program F (Answer F)
with_part next (Ok bytes) = next bytes
with_part next (Err fault) = done (Err fault)

-- n bytes from byte `skip` of block b on; more parts than bytes are never needed
unfoldable pub gather : {F : Type 0} → ℕ → ℕ → ℕ → ℕ → ℕ → Program F (Answer F)
gather d zero b skip n = done (Ok [])
gather d (suc fuel) b skip n =
    cond (n == 0) (done (Ok []))
    (bind (part_of d b skip (min n (d - skip))) (with_part (λ piece. bind (gather d fuel (suc b) 0 (n - min n (d - skip))) (λ more. done (prefixed piece more)))))

-- n bytes from an offset, where a fault has that place
abbrev pub bytes_at : {F : Type 0} → ℕ → ℕ → Fetches F (VolumeFault F) (List ℕ)
bytes_at from n = fetch from n (λ fault. Storage from fault) (λ bytes. give bytes)
