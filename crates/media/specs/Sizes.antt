-- Each answer has as many bytes as were asked for: what the interface asks of a device.
use Rattle.std.proofs.Common.{◌≡◌, ℕ, ◌+◌, ◌*◌, ◌-◌, ◌≤◌, Bool, true, false, cond, List, [], ◌∷◌, length, take, drop, Ok, Err, IfOk, refl, leb, ltb, arith}
use Rattle.std.proofs.lemmas.List.{length-take, length-drop}
use Rattle.std.proofs.lemmas.Bool.{and_parts, cond_both, leb-true}
use Rattle.device.specs.declared.question.Question.{Question}
use Rattle.media.specs.Memory.{area_of, inside, memory}
use Rattle.device.specs.Program.{Meaning, Fits, Sized}
use Rattle.media.specs.declared.fault.Outside.{Outside}
use Rattle.media.specs.Turning.{turning}
use Rattle.media.specs.Tape.{left, used_after, tape}

-- n bytes from m on, if they lie within
piece : (bytes : List ℕ) (m n : ℕ) → m + n ≤ length bytes → length (take n (drop m bytes)) ≡ n
piece bytes m n within = omega (arith, length-take n (drop m bytes), length-drop m bytes)

-- a tested answer
tested : {R : Type 0} (b : Bool) (bytes : List ℕ) (n : ℕ) (e : R) → (b ≡ true → length bytes ≡ n) → IfOk (cond b (Ok bytes) (Err e)) (λ xs. length xs ≡ n)
tested true bytes n e h = h refl
tested false bytes n e h = tt

pub memory-sized : (for_data for_tree : List ℕ) (qs : List Question) (q : Question) → IfOk (memory for_data for_tree qs q) (λ bytes. length bytes ≡ q.length)
memory-sized for_data for_tree qs q =
    let bytes = area_of for_data for_tree q.area in
    tested (inside bytes q) (take q.length (drop (q.block * q.length) bytes)) q.length _
    (λ is. piece bytes (q.block * q.length) q.length (leb-true (q.block * q.length + q.length) (length bytes) (and_parts (ltb 0 q.length) (leb (q.block * q.length + q.length) (length bytes)) is).1))

pub tape-sized : (bytes : List ℕ) (used : ℕ) (qs : List Question) (q : Question) → IfOk (tape bytes used qs q) (λ bs. length bs ≡ q.length)
tape-sized bytes used [] q =
    tested (left bytes used q) (take q.length (drop used bytes)) q.length _
    (λ is. piece bytes used q.length (leb-true (used + q.length) (length bytes) (and_parts (ltb 0 q.length) (leb (used + q.length) (length bytes)) is).1))
tape-sized bytes used (r ∷ qs) q = tape-sized bytes (used_after bytes used r) qs q

pub turning-sized : (first second : Meaning Outside) → Sized first → Sized second → (left : ℕ) → Sized (turning first second left)
turning-sized first second one other left [] q =
    cond_both (ltb 0 left) (first [] q) (second [] q) (λ answer. Fits q answer) (λ is. one [] q) (λ is. other [] q)
turning-sized first second one other left (r ∷ qs) q = turning-sized first second one other (left - 1) qs q
