-- Gathering parts block by block is a fetch.
use Rattle.std.proofs.Common.{◌≡◌, ◌⊎◌, ℕ, zero, suc, ◌+◌, ◌-◌, ◌*◌, ◌/◌, ◌%◌, ◌≤◌, ◌<◌, min, cond, eqb, List, [], ◌++◌, length, take, drop, Result, Ok, Err, append_assoc, refl, sym, ap, ap₂, ◌∙◌, subst, inl, inr, arith}
use Rattle.std.proofs.lemmas.Bool.{cases_eq, cases_lt, eq-eqb, ne_eqb}
use Rattle.std.proofs.lemmas.Nat.{mod_below, div-add-mod', div_below}
use Rattle.std.proofs.Math.Seq.{take-append-add}
use Rattle.std.proofs.Math.Nat.{add-mul-div_right, mul-div_left}
use Rattle.std.proofs.lemmas.List.{drop-append-le, take-append-le, take_all, length-drop, append-nil}
use Rattle.device.specs.declared.question.Area.TheVariants.{Data}
use Rattle.device.specs.declared.question.Question.{Question}
use Rattle.device.specs.Answer.{Answer}
use Rattle.device.specs.Program.{Program, done, bind, Meaning, Fits, Sized}
use Rattle.device.specs.Run.{Ran}
use Rattle.device.proofs.Runs.{ran-bind, ran-put, ran-then}
use Rattle.volume.specs.declared.fault.VolumeFault.{VolumeFault}
use Rattle.volume.specs.declared.fault.VolumeFault.TheVariants.{Storage}
use Rattle.volume.specs.Fetches.{blocks, by_blocks, give, touched}
use Rattle.reader.specs.Fetched.{Fetched}
use Rattle.reader.specs.Gather.{bytes_at, cut, prefixed, part_of, with_part, gather}
use Rattle.reader.proofs.Running.{ran-fetched}

-- how many blocks n bytes from byte `skip` of a block touch
abbrev count : ℕ → ℕ → ℕ → ℕ
count d skip n = cond (eqb n 0) 0 (suc ((skip + n - 1) / d))

-- a block in front of an answer
abbrev joined : {F : Type 0} → List ℕ → Answer F → Answer F
joined block answer = elim answer [ Ok bytes ↦ Ok (block ++ bytes) | Err fault ↦ Err fault ]

cases_le : (a b : ℕ) → (a ≤ b) ⊎ (b < a)
cases_le a b = elim (cases_lt b a) [ inl less ↦ inr less | inr le ↦ inl le ]

-- the bytes that are wanted of a block and those behind it
two_parts : (d skip n : ℕ) (block more : List ℕ) → skip < d → length block ≡ d
    → take n (drop skip (block ++ more)) ≡ take (min n (d - skip)) (drop skip block) ++ take (n - min n (d - skip)) (drop 0 more)
two_parts d skip n block more inside long =
    let xs = drop skip block in
    let size : length xs ≡ d - skip = length-drop skip block ∙ ap (λ k. k - skip) long in
    let front : drop skip (block ++ more) ≡ xs ++ more = drop-append-le skip block more (omega arith) in
    ap (take n) front
    ∙ elim (cases_le n (d - skip)) [
      | inl low ↦
          let all : min n (d - skip) ≡ n = omega arith in
          let none : n - min n (d - skip) ≡ 0 = omega arith in
          take-append-le n xs more (omega arith) ∙ sym (append-nil (take n xs)) ∙ ap₂ (λ j k. take j xs ++ take k more) (sym all) (sym none)
      | inr high ↦
          let whole : min n (d - skip) ≡ length xs = omega arith in
          let rest : n ≡ length xs + (n - length xs) = omega arith in
          ap (λ k. take k (xs ++ more)) rest ∙ take-append-add xs more (n - length xs)
          ∙ ap₂ (λ ys k. ys ++ take k more) (sym (take_all (min n (d - skip)) xs (omega arith))) (ap (λ k. n - k) (sym whole))
    ]

one_more : (d k : ℕ) → 0 < d → (d + k) / d ≡ suc (k / d)
one_more d k some =
    let parts : d + k ≡ k + 1 * d = omega arith in
    let sum = add-mul-div_right k 1 some in
    ap (λ m. m / d) parts ∙ omega (arith, sum)

-- the blocks behind the first
counts : (d skip n : ℕ) → 0 < d → skip < d → (n ≡ 0 → ⊥) → count d skip n ≡ suc (count d 0 (n - min n (d - skip)))
counts d skip n some inside more =
    let m = n - min n (d - skip) in
    rw (ne_eqb n 0 more)
    (ap suc (elim (cases_le n (d - skip)) [
      | inl low ↦
          let none : m ≡ 0 = omega arith in
          let small = div_below (skip + n - 1) d 1 some (omega arith) in
          rw (eq-eqb m 0 none) (omega arith)
      | inr high ↦
          let parts : skip + n - 1 ≡ d + (0 + m - 1) = omega arith in
          rw (ne_eqb m 0 (λ e. absurd (omega arith))) (ap (λ k. k / d) parts ∙ one_more d (0 + m - 1) some)
    ]))

same_count : (d from n : ℕ) → 0 < d → count d (from % d) n ≡ touched d from n
same_count d from n some =
    elim (cases_eq n 0) [
      | inl none ↦ rw (eq-eqb n 0 none) refl
      | inr more ↦
          let parts = div-add-mod' from d in
          let whole : from + n - 1 ≡ from % d + n - 1 + from / d * d = omega arith in
          let sum : (from + n - 1) / d ≡ (from % d + n - 1) / d + from / d = ap (λ k. k / d) whole ∙ add-mul-div_right (from % d + n - 1) (from / d) some in
          rw (ne_eqb n 0 more) (omega arith)
    ]

-- what is left to gather from an offset: whatever run it has from here, the whole has from the start
abbrev pub Going : {S R : Type 0} → (S → Meaning R) → (S → Question → S → Type 0) → ℕ → S → ℕ → ℕ → S → ℕ → ℕ → List ℕ → Type 0
Going {S = S} {R = R} meaning moves d start from whole now at n front =
    (k : ℕ) × (n ≤ k) × ((answer : Answer R) (end : S) → Ran meaning moves now (gather d k (at / d) (at % d) n) answer end
    → Ran meaning moves start (gather d whole (from / d) (from % d) whole) (prefixed front answer) end)

module _ {S R : Type 0} (meaning : S → Meaning R) (moves : S → Question → S → Type 0) (sized : (s : S) → Sized (meaning s)) (d : ℕ) (some : 0 < d) where
  -- nothing is asked for nothing
  empty : (k b skip n : ℕ) → n ≡ 0 → gather {F = R} d k b skip n ≡ done (Ok [])
  unfolding gather
  empty zero b skip n none = refl
  empty (suc k) b skip n none = rw none refl

  pub gather-none : (k b skip n : ℕ) → n ≡ 0 → (s : S) → Ran meaning moves s (gather d k b skip n) (Ok []) s
  gather-none k b skip n none s = subst (λ p. Ran meaning moves s p (Ok []) s) (sym (empty k b skip n none)) (refl, refl)

  module _ (k b skip n : ℕ) (more : n ≡ 0 → ⊥) (s : S) where
    abbrev size : ℕ
    size = min n (d - skip)

    part_by : (piece : Answer R) (u : S) (answer : Answer R) (t : S) → Ran meaning moves s (part_of d b skip size) piece u
        → Ran meaning moves u (with_part (λ p. bind (gather d k (suc b) 0 (n - size)) (λ rest. done (prefixed p rest))) piece) answer t → Ran meaning moves s (gather d (suc k) b skip n) answer t
    unfolding gather
    part_by piece u answer t part rest =
        rw (ne_eqb n 0 more) (ran-bind meaning moves (part_of d b skip size) (with_part (λ p. bind (gather d k (suc b) 0 (n - size)) (λ r. done (prefixed p r)))) s piece u answer t part rest)

    -- it ends with the fault of a part
    pub gather-ends : (fault : R) (u : S) → Ran meaning moves s (part_of d b skip size) (Err fault) u → Ran meaning moves s (gather d (suc k) b skip n) (Err fault) u
    gather-ends fault u part = part_by (Err fault) u (Err fault) u part (refl, refl)

    -- and goes on behind a part
    pub gather-goes : (piece : List ℕ) (u : S) (answer : Answer R) (t : S) → Ran meaning moves s (part_of d b skip size) (Ok piece) u → Ran meaning moves u (gather d k (suc b) 0 (n - size)) answer t
        → Ran meaning moves s (gather d (suc k) b skip n) (prefixed piece answer) t
    gather-goes piece u answer t part rest =
        part_by (Ok piece) u (prefixed piece answer) t part (ran-then meaning moves (prefixed piece) (gather d k (suc b) 0 (n - size)) u answer t rest)

  -- the blocks, and of them what is wanted
  abbrev row : ℕ → ℕ → ℕ → ℕ → Program R (Answer R)
  row c b skip n = bind (blocks d c b) (λ answer. done (cut skip n answer))

  nothing : (n : ℕ) → n ≡ 0 → (b skip : ℕ) (s : S) (answer : Answer R) (t : S) → answer ≡ Ok [] → t ≡ s → Ran meaning moves s (row (count d skip n) b skip n) answer t
  nothing n none b skip s answer t is same =
      rw none (is, same)

  -- what was wanted of a block and of those behind it
  both : (skip n : ℕ) (block : List ℕ) → skip < d → length block ≡ d → (y : Answer R) → prefixed (take (min n (d - skip)) (drop skip block)) (cut 0 (n - min n (d - skip)) y) ≡ cut skip n (joined block y)
  both skip n block inside long (Ok more) = ap (λ xs. Ok xs) (sym (two_parts d skip n block more inside long))
  both skip n block inside long (Err fault) = refl

  module _ (k b skip n : ℕ) (inside : skip < d) (u t : S) (answer : Answer R) where
    abbrev left : ℕ
    left = n - min n (d - skip)

    abbrev later : ℕ
    later = count d 0 left

    by_answer : ((x : Answer R) → Ran meaning moves u (gather d k (suc b) 0 left) x t → Ran meaning moves u (row later (suc b) 0 left) x t)
        → (got : Answer R) → Fits (record { area = Data; block = b; length = d }) got
        → Ran meaning moves u (with_part (λ piece. bind (gather d k (suc b) 0 left) (λ more. done (prefixed piece more))) (cut skip (min n (d - skip)) got)) answer t
        → Ran meaning moves u (bind (elim got as (λ x. Program R (Answer R)) [ Ok block ↦ bind (blocks d later (suc b)) (λ more. done (joined block more)) | Err fault ↦ done (Err fault) ]) (λ a. done (cut skip n a))) answer t
    by_answer hyp (Err fault) fits ran = ran
    by_answer hyp (Ok block) fits ran =
        let piece = take (min n (d - skip)) (drop skip block) in
        let first = ran-put meaning moves (prefixed piece) (gather d k (suc b) 0 left) u answer t ran in
        let second = ran-put meaning moves (cut 0 left) (blocks d later (suc b)) u first.0 t (hyp first.0 first.1) in
        let y = second.0 in
        let value : answer ≡ cut skip n (joined block y) = first.2 ∙ ap (prefixed piece) second.2 ∙ both skip n block inside fits y in
        subst (λ a. Ran meaning moves u (bind (bind (blocks d later (suc b)) (λ more. done (joined block more))) (λ z. done (cut skip n z))) a t) (sym value)
        (ran-then meaning moves (cut skip n) (bind (blocks d later (suc b)) (λ more. done (joined block more))) u (joined block y) t
        (ran-then meaning moves (joined block) (blocks d later (suc b)) u y t second.1))

  pub gathered : (k b skip n : ℕ) → n ≤ k → skip < d → (s : S) (answer : Answer R) (t : S) → Ran meaning moves s (gather d k b skip n) answer t → Ran meaning moves s (row (count d skip n) b skip n) answer t
  unfolding gather
  gathered zero b skip n room inside s answer t ran = nothing n (omega arith) b skip s answer t ran.0 ran.1
  gathered (suc k) b skip n room inside s answer t ran =
      let q : Question = record { area = Data; block = b; length = d } in
      elim (cases_eq n 0) [
        | inl none ↦ let at_end = rw (eq-eqb n 0 none) at ran in nothing n none b skip s answer t at_end.0 at_end.1
        | inr more ↦
            let went = rw (ne_eqb n 0 more) at ran in
            let u = went.0 in
            subst (λ c. Ran meaning moves s (row c b skip n) answer t) (sym (counts d skip n some inside more))
            (u, went.1, by_answer k b skip n inside u t answer (λ x r. gathered k (suc b) 0 (n - min n (d - skip)) (omega arith) some u x t r) (meaning s [] q) (sized s [] q) went.2)
      ]

  -- and so gathering from an offset is a fetch, whose fault has that place
  abbrev placed : ℕ → Answer R → Result (List ℕ) (VolumeFault R)
  placed from (Ok bytes) = Ok bytes
  placed from (Err fault) = Err (Storage from fault)

  pub fetched : (from n k : ℕ) → n ≤ k → (s : S) (answer : Answer R) (t : S) → Ran meaning moves s (gather d k (from / d) (from % d) n) answer t → Fetched meaning moves d s (bytes_at from n) (placed from answer) t
  fetched from n k room s answer t ran =
      ran-fetched meaning moves d from n (λ fault. Storage from fault) (λ bytes. give bytes) s t t answer (placed from answer)
      (subst (λ c. Ran meaning moves s (row c (from / d) (from % d) n) answer t) (same_count d from n some) (gathered k (from / d) (from % d) n room (mod_below from d some) s answer t ran)) (ends answer)
    where
      ends : (answer : Answer R) → Ran meaning moves t (elim answer as (λ x. Program R (Result (List ℕ) (VolumeFault R))) [ Ok bytes ↦ by_blocks d (give bytes) | Err fault ↦ done (Err (Storage from fault)) ]) (placed from answer) t
      ends (Ok bytes) = (refl, refl)
      ends (Err fault) = (refl, refl)

  -- fronts in a row
  fronts : (a b : List ℕ) (answer : Answer R) → prefixed a (prefixed b answer) ≡ prefixed (a ++ b) answer
  fronts a b (Ok bytes) = ap (λ xs. Ok xs) (sym (append_assoc a b bytes))
  fronts a b (Err fault) = refl

  module _ (start now then : S) (from whole at n size : ℕ) (front : List ℕ) (going : Going meaning moves d start from whole now at n front) (more : 0 < n) (sized' : size ≡ min n (d - at % d)) where
    fuel : going.0 ≡ suc (going.0 - 1)
    fuel = omega (arith, going.1)

    rest_of : (answer : Answer R) → Ran meaning moves now (part_of d (at / d) (at % d) size) answer then → Ran meaning moves now (part_of d (at / d) (at % d) (min n (d - at % d))) answer then
    rest_of answer part = subst (λ m. Ran meaning moves now (part_of d (at / d) (at % d) m) answer then) sized' part

    -- it ends with a part's fault
    pub going-ends : (fault : R) → Ran meaning moves now (part_of d (at / d) (at % d) size) (Err fault) then → Ran meaning moves start (gather d whole (from / d) (from % d) whole) (Err fault) then
    going-ends fault part =
        going.2 (Err fault) then
        (rw fuel
        (gather-ends (going.0 - 1) (at / d) (at % d) n (λ e. absurd (omega arith)) now fault then (rest_of (Err fault) part)))

    -- and goes on behind a part
    pub going-goes : (piece : List ℕ) → Ran meaning moves now (part_of d (at / d) (at % d) size) (Ok piece) then → (next left : ℕ) → next ≡ at + size → left ≡ n - size → (longer : List ℕ) → longer ≡ front ++ piece
        → Going meaning moves d start from whole then next left longer
    going-goes piece part next left there rest longer is = (
      going.0 - 1,
      omega (arith, going.1, low),
      λ answer end ran.
          subst (λ a. Ran meaning moves start (gather d whole (from / d) (from % d) whole) a end) (fronts front piece answer ∙ ap (λ f. prefixed f answer) (sym is))
          (going.2 (prefixed piece answer) end
          (rw fuel
          (gather-goes (going.0 - 1) (at / d) (at % d) n (λ e. absurd (omega arith)) now piece then answer end (rest_of (Ok piece) part) (behind answer end ran)))),
    )
      where
        low : 0 < size
        low = omega (arith, mod_below at d some)

        behind : (answer : Answer R) (end : S) → Ran meaning moves then (gather d (going.0 - 1) (next / d) (next % d) left) answer end → Ran meaning moves then (gather d (going.0 - 1) (suc (at / d)) 0 (n - min n (d - at % d))) answer end
        behind answer end ran = elim (cases_le n (d - at % d)) [
          | inl short ↦
              subst (λ p. Ran meaning moves then p answer end)
              (empty (going.0 - 1) (next / d) (next % d) left (omega arith) ∙ sym (empty (going.0 - 1) (suc (at / d)) 0 (n - min n (d - at % d)) (omega arith))) ran
          | inr long ↦
              let parts = div-add-mod' at d in
              let inside = mod_below at d some in
              let row_next : suc (at / d) * d ≡ at / d * d + d = omega arith in
              let place : next ≡ suc (at / d) * d = omega arith in
              let block : next / d ≡ suc (at / d) = ap (λ k. k / d) place ∙ mul-div_left (suc (at / d)) some in
              let sum = div-add-mod' next d in
              let times : next / d * d ≡ suc (at / d) * d = ap (λ k. k * d) block in
              let skip : next % d ≡ 0 = omega arith in
              let same : left ≡ n - min n (d - at % d) = omega arith in
              rw (block, skip, same) at ran
        ]
