-- The table through any questions, and what each is answered.
use Rattle.std.proofs.Common.{◌≡◌, ℕ, ◌+◌, ◌%◌, ◌<◌, cond, leb, List, [], ◌∷◌, ◌++◌, length, set, Option, Some, None, Ok, Err, IfOk, IfSome, refl, sym, ap, ◌∙◌, subst, inl, inr, append_assoc, arith}
use Rattle.std.specs.List.{AllByRecursion}
use Rattle.std.proofs.lemmas.List.{length-set}
use Rattle.std.proofs.lemmas.Nat.{mod_below}
use Rattle.device.specs.declared.question.Question.{Question}
use Rattle.device.specs.Answer.{Answer}
use Rattle.device.specs.Program.{Meaning, Exchange, Somewhere, Fits, Sized, after, result, asked, exchanges}
use Rattle.device.specs.Run.{Ran}
use Rattle.device.specs.Layer.{state_after, meaning_after, asked_for}
use Rattle.layers.specs.Path.{given}
use Rattle.layers.specs.Cache.{Row, Table, empty, find, keep, cached, cache_layer}
use Rattle.layers.specs.CacheLaws.{Holds, Keeps, CacheStands}
use Rattle.layers.proofs.Tests.{tested}
use Rattle.layers.proofs.Descent.{at}
use Rattle.layers.proofs.Rows.{found, all-set, once-set}
use Rattle.layers.proofs.Keeping.{keep-keeps}

-- what was somewhere still is, with more behind it
pub still : {X : Type 0} (P : X → Type 0) (xs ys : List X) → Somewhere P xs → Somewhere P (xs ++ ys)
still P [] ys there = absurd there
still P (x ∷ xs) ys (inl here) = inl here
still P (x ∷ xs) ys (inr later) = inr (still P xs ys later)

pub behind : {X : Type 0} (P : X → Type 0) (xs ys : List X) → Somewhere P ys → Somewhere P (xs ++ ys)
behind P [] ys there = there
behind P (x ∷ xs) ys there = inr (behind P xs ys there)

each : {X : Type 0} (P Q : X → Type 0) (rows : List (Option X)) → ((x : X) → P x → Q x) → AllByRecursion (λ row. IfSome row P) rows → AllByRecursion (λ row. IfSome row Q) rows
each P Q [] on all = tt
each P Q (None ∷ rows) on all = (tt, each P Q rows on all.1)
each P Q (Some x ∷ rows) on all = (on x all.0, each P Q rows on all.1)

module _ {R : Type 0} where
  abbrev Gave : List (Exchange R) → Row → Type 0
  Gave xs row = Somewhere (λ x. x ≡ given row.question row.bytes) xs

  longer : (table : Table) (xs ys : List (Exchange R)) → Holds table xs → Holds table (xs ++ ys)
  longer table xs ys holds = record {
    four = holds.four;
    turn = holds.turn;
    gave = each (Gave xs) (Gave (xs ++ ys)) table.rows (λ row there. still (λ x. x ≡ given row.question row.bytes) xs ys there) holds.gave;
    once = holds.once;
  }

  -- an answer from below
  kept : (table : Table) (xs : List (Exchange R)) (q : Question) → find q table.rows ≡ None → Holds table xs → (answer : Answer R) → Holds (keep table q answer) (xs ++ at q answer ∷ [])
  kept table xs q none holds (Err refusal) = longer table xs (at q (Err refusal) ∷ []) holds
  kept table xs q none holds (Ok bytes) =
      let more = longer table xs (at q (Ok bytes) ∷ []) holds in
      let row : Row = record { question = q; bytes = bytes } in
      let new : Table = record { rows = set table.rows table.turn (Some row); turn = (table.turn + 1) % 4 } in
      tested (leb (length bytes) 4096) (λ b. Holds (cond b new table) (xs ++ at q (Ok bytes) ∷ []))
      (λ is. record {
        four = length-set table.rows table.turn (Some row) ∙ holds.four;
        turn = mod_below (table.turn + 1) 4 (omega arith);
        gave = all-set (Gave (xs ++ at q (Ok bytes) ∷ [])) table.rows table.turn row more.gave (behind (λ x. x ≡ given q bytes) xs (at q (Ok bytes) ∷ []) (inl refl));
        once = once-set table.rows table.turn row holds.once none;
      })
      (λ is. more)

  -- one question
  module _ (m : Meaning R) (q : Question) where
    by_found : (table : Table) (xs : List (Exchange R)) (o : Option (List ℕ)) → find q table.rows ≡ o → Holds table xs → Holds (result m (cached table q o)).1 (xs ++ exchanges m (cached table q o))
    by_found table xs (Some bytes) is holds = longer table xs [] holds
    by_found table xs None is holds = kept table xs q is holds (m [] q)

    pub holds-next : (table : Table) (xs : List (Exchange R)) → Holds table xs → Holds (result m (cache_layer table q)).1 (xs ++ exchanges m (cache_layer table q))
    unfolding cache_layer
    holds-next table xs holds = by_found table xs (find q table.rows) refl holds

    last : (xs : List (Exchange R)) (answer : Answer R) → IfOk answer (λ bytes. Somewhere (λ x. x ≡ given q bytes) (xs ++ at q answer ∷ []))
    last xs (Err refusal) = tt
    last xs (Ok bytes) = behind (λ x. x ≡ given q bytes) xs (at q (Ok bytes) ∷ []) (inl refl)

    genuine : (table : Table) (xs : List (Exchange R)) (o : Option (List ℕ)) → find q table.rows ≡ o → Holds table xs
        → IfOk (result m (cached table q o)).0 (λ bytes. Somewhere (λ x. x ≡ given q bytes) (xs ++ exchanges m (cached table q o)))
    genuine table xs (Some bytes) is holds = still (λ x. x ≡ given q bytes) xs [] (found (Gave xs) q table.rows bytes holds.gave is)
    genuine table xs None is holds = last xs (m [] q)

    pub genuine-next : (table : Table) (xs : List (Exchange R)) → Holds table xs
        → IfOk (result m (cache_layer table q)).0 (λ bytes. Somewhere (λ x. x ≡ given q bytes) (xs ++ exchanges m (cache_layer table q)))
    unfolding cache_layer
    genuine-next table xs holds = genuine table xs (find q table.rows) refl holds

  pub holds-after : (qs : List Question) (m : Meaning R) (table : Table) (xs : List (Exchange R)) → Holds table xs
      → Holds (state_after cache_layer table m qs) (xs ++ asked_for cache_layer table m qs)
  holds-after [] m table xs holds = longer table xs [] holds
  holds-after (q ∷ qs) m table xs holds =
      let p = cache_layer {R = R} table q in
      let next = result m p in
      let left = after m (asked m p) in
      subst (Holds (state_after cache_layer next.1 left qs)) (append_assoc xs (exchanges m p) (asked_for cache_layer next.1 left qs))
      (holds-after qs left next.1 (xs ++ exchanges m p) (holds-next m q table xs holds))

  none-yet : Holds {R = R} empty []
  none-yet = record { four = refl; turn = omega arith; gave = (tt, (tt, (tt, (tt, tt)))); once = (tt, (tt, (tt, (tt, tt)))) }

  hit_is : (m : Meaning R) (table : Table) (q : Question) (bytes : List ℕ) → find q table.rows ≡ Some bytes
      → (result m (cache_layer table q) ≡ (Ok bytes, table)) × (asked m (cache_layer table q) ≡ [])
  unfolding cache_layer
  hit_is m table q bytes is = (ap (λ o. result m (cached table q o)) is, ap (λ o. asked m (cached table q o)) is)

  miss_is : (m : Meaning R) (table : Table) (q : Question) → find q table.rows ≡ None → (asked m (cache_layer table q) ≡ q ∷ []) × ((result m (cache_layer table q)).0 ≡ m [] q)
  unfolding cache_layer
  miss_is m table q is = (ap (λ o. asked m (cached table q o)) is, ap (λ o. (result m (cached table q o)).0) is)

  keeps_is : (m : Meaning R) (table : Table) (q : Question) → length table.rows ≡ 4 → table.turn < 4 → find q table.rows ≡ None → Keeps table q (result m (cache_layer table q)).0 (result m (cache_layer table q)).1
  unfolding cache_layer
  keeps_is m table q four low is = subst (λ o. Keeps table q (result m (cached table q o)).0 (result m (cached table q o)).1) (sym is) (keep-keeps table four low q (m [] q))

pub cache_stands_lem : {R : Type 0} → CacheStands R
cache_stands_lem {R = R} m qs q =
    let table = state_after (cache_layer {R = R}) empty m qs in
    let left = meaning_after (cache_layer {R = R}) empty m qs in
    let holds = holds-after qs m empty [] none-yet in
    record {
      holds = holds;
      hit = hit_is left table q;
      miss = miss_is left table q;
      keeps = keeps_is left table q holds.four holds.turn;
      gave = genuine-next left q table (asked_for cache_layer empty m qs) holds;
    }

-- bytes as many as were asked for
abbrev pub Whole : Row → Type 0
Whole row = length row.bytes ≡ row.question.length

abbrev pub AllWhole : Table → Type 0
AllWhole table = AllByRecursion (λ row. IfSome row Whole) table.rows

module _ {R : Type 0} (m : Meaning R) (sized : Sized m) (table : Table) (whole : AllWhole table) (q : Question) where
  keep_fits : (answer : Answer R) → Fits q answer → AllWhole (keep table q answer)
  keep_fits (Err refusal) fits = whole
  keep_fits (Ok bytes) fits =
      let row : Row = record { question = q; bytes = bytes } in
      let new : Table = record { rows = set table.rows table.turn (Some row); turn = (table.turn + 1) % 4 } in
      tested (leb (length bytes) 4096) (λ b. AllWhole (cond b new table)) (λ is. all-set Whole table.rows table.turn row whole fits) (λ is. whole)

  cached_fits : (o : Option (List ℕ)) → find q table.rows ≡ o → Fits q (result m (cached table q o)).0 × AllWhole (result m (cached table q o)).1
  cached_fits (Some bytes) is = (found Whole q table.rows bytes whole is, whole)
  cached_fits None is = (sized [] q, keep_fits (m [] q) (sized [] q))

  pub cache_layer-fits : Fits q (result m (cache_layer table q)).0 × AllWhole (result m (cache_layer table q)).1
  unfolding cache_layer
  cache_layer-fits = cached_fits (find q table.rows) refl

-- a question to the cache as a run on a device
module _ {S R : Type 0} (meaning : S → Meaning R) (moves : S → Question → S → Type 0) (table : Table) (q : Question) (s : S) where
  pub ran-hit : (bytes : List ℕ) → find q table.rows ≡ Some bytes → Ran meaning moves s (cache_layer table q) (Ok bytes, table) s
  unfolding cache_layer
  ran-hit bytes is = subst (λ o. Ran meaning moves s (cached table q o) (Ok bytes, table) s) (sym is) (refl, refl)

  pub ran-miss : find q table.rows ≡ None → (t : S) → moves s q t → (answer : Answer R) → answer ≡ meaning s [] q → Ran meaning moves s (cache_layer table q) (answer, keep table q answer) t
  unfolding cache_layer
  ran-miss is t moved answer was = subst (λ o. Ran meaning moves s (cached table q o) (answer, keep table q answer) t) (sym is) (t, moved, (ap (λ a. (a, keep table q a)) was, refl))
