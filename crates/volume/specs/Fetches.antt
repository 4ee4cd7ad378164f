-- Programs of fetches: a fetch is a range of the volume's bytes. The rules of the volume are such programs; a device answers
-- a fetch by its blocks, and the publisher's image by its bytes.
use Rattle.std.specs.Prelude.{ℕ, suc, zero, ◌+◌, ◌-◌, ◌/◌, ◌%◌, cond, List, [], ◌++◌, take, drop, Result, Ok, Err, ◌==◌}
use Rattle.device.specs.declared.question.Area.TheVariants as area
use Rattle.device.specs.Answer.{Answer}
use Rattle.device.specs.Program.{Program, done, ask, bind}

-- a value, a refusal, or a fetch of n bytes from an offset: with what is refused where the device refuses it, and what is
-- done with its bytes
pub data Fetches (F E X : Type 0) : Type 0 where
  give : X → Fetches F E X
  refuse : E → Fetches F E X
  fetch : ℕ → ℕ → (F → E) → (List ℕ → Fetches F E X) → Fetches F E X

-- first one program, and then what its value leads to; a refusal ends both
abbrev pub after : {F E X Y : Type 0} → Fetches F E X → (X → Fetches F E Y) → Fetches F E Y
after (give x) next = next x
after (refuse e) next = refuse e
after (fetch from n fault rest) next = fetch from n fault (λ bytes. after (rest bytes) next)

-- the same program, with its refusals put into others
abbrev pub put : {F E D X : Type 0} → (E → D) → Fetches F E X → Fetches F D X
put within (give x) = give x
put within (refuse e) = refuse (within e)
put within (fetch from n fault rest) = fetch from n (λ f. within (fault f)) (λ bytes. put within (rest bytes))

-- a value or a refusal
abbrev pub settled : {F E X : Type 0} → Result X E → Fetches F E X
settled (Ok x) = give x
settled (Err e) = refuse e

-- what a program comes to where each fetch gives an image's bytes
abbrev pub by_image : {F E X : Type 0} → List ℕ → Fetches F E X → Result X E
by_image image (give x) = Ok x
by_image image (refuse e) = Err e
by_image image (fetch from n fault rest) = by_image image (rest (take n (drop from image)))

-- the blocks from b on, n of them, of d bytes each: they are asked for in rising order, and a refusal ends it
abbrev pub blocks : {F : Type 0} → ℕ → ℕ → ℕ → Program F (Answer F)
blocks d zero b = done (Ok [])
blocks d (suc n) b =
    ask (record { area = area.Data; block = b; length = d })
    (λ answer. elim answer [ Ok block ↦ bind (blocks d n (suc b)) (λ more. done (elim more [ Ok bytes ↦ Ok (block ++ bytes) | Err fault ↦ Err fault ])) | Err fault ↦ done (Err fault) ])

-- how many blocks n bytes from an offset touch
abbrev pub touched : ℕ → ℕ → ℕ → ℕ
touched d from n = cond (n == 0) 0 (suc ((from + n - 1) / d) - from / d)

-- a fetch by blocks: once each block that it touches
abbrev pub fetch_blocks : {F : Type 0} → ℕ → ℕ → ℕ → Program F (Answer F)
fetch_blocks d from n =
    bind (blocks d (touched d from n) (from / d)) (λ answer. done (elim answer [ Ok bytes ↦ Ok (take n (drop (from % d) bytes)) | Err fault ↦ Err fault ]))

-- a program of fetches, by blocks of d bytes
abbrev pub by_blocks : {F E X : Type 0} → ℕ → Fetches F E X → Program F (Result X E)
by_blocks d (give x) = done (Ok x)
by_blocks d (refuse e) = done (Err e)
by_blocks d (fetch from n fault rest) = bind (fetch_blocks d from n) (λ answer. elim answer [ Ok bytes ↦ by_blocks d (rest bytes) | Err f ↦ done (Err (fault f)) ])
