-- The path check is a store, and so is a cache over one.
use Rattle.std.proofs.Common.{◌≡◌, ℕ, ◌+◌, ◌%◌, cond, leb, List, [], length, set, Option, None, Some, Ok, Err, refl, sym, ap, ◌∙◌, subst, inl, inr}
use Rattle.device.specs.declared.question.Question.{Question}
use Rattle.device.specs.Answer.{Answer}
use Rattle.device.specs.Program.{Program, done, bind, Meaning, Exchange, result, exchanges}
use Rattle.device.specs.Run.{Ran}
use Rattle.device.specs.Layer.{layered, through, Through}
use Rattle.device.proofs.Runs.{Onward, ran-put, ran-then}
use Rattle.device.proofs.Layers.{layer-answer}
use Rattle.device.proofs.Exchanges.{of-put}
use Rattle.layers.specs.declared.fault.StorageFault.{StorageFault}
use Rattle.layers.specs.declared.fault.StorageFault.TheVariants.{Label, NoBlock, Refused, Mismatch}
use Rattle.layers.specs.Anchor.{Anchor}
use Rattle.layers.specs.Verity.{verity, verity_layer}
use Rattle.layers.specs.Cache.{Row, Table, find, keep, cached, cache_layer}
use Rattle.layers.specs.Publisher.{Publisher, anchor_of, right_block, NoTwin}
use Rattle.layers.specs.Judged.{Judged}
use Rattle.layers.specs.Laws.{Stops, NamesLast}
use Rattle.layers.specs.Store.{StoreRule, path_check, cache_over, IsFair, GivesPublished, IsServed, ServesByPaths, AllRight, IsStore}
use Rattle.layers.proofs.Tests.{tested}
use Rattle.layers.proofs.Rows.{found, all-set}
use Rattle.layers.proofs.Judging.{answers_judged_lem}
use Rattle.layers.proofs.Stopping.{paths_stop_lem}

-- The path check

module _ {R : Type 0} where
  fair_judged : (p : Publisher) (q : Question) (answer : Answer (StorageFault R)) (xs : List (Exchange R)) → NoTwin p xs → Judged p q answer xs → IsFair p q answer xs
  fair_judged p q (Ok block) xs none judged = judged none
  fair_judged p q (Err (Refused place refusal)) xs none judged = judged
  fair_judged p q (Err (Mismatch place)) xs none judged = judged none
  fair_judged p q (Err Label) xs none judged = judged
  fair_judged p q (Err (NoBlock block)) xs none judged = judged

  served_stopped : (a : Anchor) (k : ℕ) (answer : Answer (StorageFault R)) (xs : List (Exchange R)) → Stops a k answer xs → NamesLast a.shape answer xs → IsServed a k answer xs
  served_stopped a k (Ok bytes) xs stops last = inr ((stops.accepted bytes).0 refl)
  served_stopped a k (Err fault) xs stops last = ((stops.refused fault).0 refl, last)

  abbrev alone : Answer (StorageFault R) → Answer (StorageFault R) × Unit {0}
  alone answer = (answer, tt)

  check_published : GivesPublished (path_check R) (λ p none. Unit {0})
  check_published p whole m sized none keeps q block =
      let check = verity {R = R} (Some (anchor_of p)) q in
      of-put (λ (end : Answer (StorageFault R) × Unit {0}) xs. NoTwin p xs → IsFair p q end.0 xs × Unit {0}) check alone m
      (λ quiet. (fair_judged p q (result m check) (exchanges m check) quiet (answers_judged_lem p whole m sized q block), tt))

  check_paths : ServesByPaths (path_check R)
  check_paths a wide m none q block =
      let check = verity {R = R} (Some a) q in
      let law = paths_stop_lem a m q block in
      of-put (λ (end : Answer (StorageFault R) × Unit {0}) xs. IsServed a q.block end.0 xs) check alone m (served_stopped a q.block (result m check) (exchanges m check) law.0 (law.1 wide))

  pub path_check-store : IsStore (path_check R) (λ p none. Unit {0})
  path_check-store = record { begins = λ p. tt; published = check_published; paths = check_paths }

-- a question to the layer of the path check is one by its rule, and leaves the label
pub check-steps : {R D : Type 0} (meaning : D → Meaning R) (moves : D → Question → D → Type 0) → Onward meaning moves → (label : Option Anchor) (d : D) (q : Question) (new : Option Anchor) (e : D)
    → Through meaning moves verity_layer label d q new e
    → Ran meaning moves d ((path_check R).step label tt q) (layered verity_layer label (meaning d) [] q, tt) e × (new ≡ label)
check-steps {R = R} meaning moves onward label d q new e (answer, ran) =
    let end = ran-put meaning moves (λ a. (a, label)) (verity label q) d (answer, new) e ran in
    let is : end.0 ≡ layered verity_layer label (meaning d) [] q =
    ap (λ (both : Answer (StorageFault R) × Option Anchor). both.0) (sym end.2) ∙ layer-answer meaning moves onward verity_layer label d q answer new e ran in (
      subst (λ a. Ran meaning moves d ((path_check R).step label tt q) (a, tt) e) is (ran-then meaning moves alone (verity label q) d end.0 e end.1),
      ap (λ (both : Answer (StorageFault R) × Option Anchor). both.1) end.2,
    )

-- A cache over a store

module _ {R M : Type 0} (lower : StoreRule R M) where
  -- what holds of an answer from a row, and of one from the store below, holds of every answer
  module _ (label : Option Anchor) (m : Meaning R) (table : Table) (s : M) (q : Question) (P : Answer (StorageFault R) × (Table × M) → List (Exchange R) → Type 0) where
    abbrev turned : (Answer (StorageFault R) × Table) × M → Answer (StorageFault R) × (Table × M)
    turned end = (end.0.0, (end.0.1, end.1))

    abbrev kept : Answer (StorageFault R) × M → (Answer (StorageFault R) × Table) × M
    kept r = ((r.0, keep table q r.0), r.1)

    abbrev over : Option (List ℕ) → Program R (Answer (StorageFault R) × (Table × M))
    over o = bind (through (lower.step label) (cached table q o) s) (λ end. done (turned end))

    module _ (row : (bytes : List ℕ) → find q table.rows ≡ Some bytes → P (Ok bytes, (table, s)) [])
        (below : let program = lower.step label s q in P (turned (kept (result m program))) (exchanges m program)) where
      by_found : (o : Option (List ℕ)) → find q table.rows ≡ o → P (result m (over o)) (exchanges m (over o))
      by_found (Some bytes) is = row bytes is
      by_found None is =
          let first = lower.step label s q in
          of-put P (bind first (λ r. done (kept r))) turned m (of-put (λ end xs. P (turned end) xs) first kept m below)

      pub from_rows : let program = (cache_over lower).step label (table, s) q in P (result m program) (exchanges m program)
      unfolding cache_layer
      from_rows = by_found (find q table.rows) refl

  module _ (Below : Publisher → M → Type 0) (laws : IsStore lower Below) where
    abbrev Keeps : Publisher → Table × M → Type 0
    Keeps p both = AllRight p both.0 × Below p both.1

    kept_right : (p : Publisher) (table : Table) (q : Question) (answer : Answer (StorageFault R)) (xs : List (Exchange R)) → AllRight p table → IsFair p q answer xs → AllRight p (keep table q answer)
    kept_right p table q (Err fault) xs right fair = right
    kept_right p table q (Ok bytes) xs right fair =
        let row : Row = record { question = q; bytes = bytes } in
        let new : Table = record { rows = set table.rows table.turn (Some row); turn = (table.turn + 1) % 4 } in
        tested (leb (length bytes) 4096) (λ b. AllRight p (cond b new table)) (λ is. all-set (λ r. right_block p r.question ≡ Some r.bytes) table.rows table.turn row right fair) (λ is. right)

    over_published : GivesPublished (cache_over lower) Keeps
    over_published p whole m sized both keeps q block =
        let label = Some (anchor_of p) in
        let program = lower.step label both.1 q in
        let r = result m program in
        from_rows label m both.0 both.1 q (λ end xs. NoTwin p xs → IsFair p q end.0 xs × Keeps p end.1)
        (λ bytes is quiet. (found (λ row. right_block p row.question ≡ Some row.bytes) q both.0.rows bytes keeps.0 is, keeps))
        (λ quiet. let low = laws.published p whole m sized both.1 keeps.1 q block quiet in (low.0, (kept_right p both.0 q r.0 (exchanges m program) keeps.0 low.0, low.1)))

    over_paths : ServesByPaths (cache_over lower)
    over_paths a wide m both q block =
        from_rows (Some a) m both.0 both.1 q (λ end xs. IsServed a q.block end.0 xs) (λ bytes is. inl refl) (laws.paths a wide m both.1 q block)

    pub cache_over-store : IsStore (cache_over lower) Keeps
    cache_over-store = record { begins = λ p. ((tt, (tt, (tt, (tt, tt)))), laws.begins p); published = over_published; paths = over_paths }

-- the cache over the path check
pub cached_check-store : {R : Type 0} → IsStore (cache_over (path_check R)) (λ p both. AllRight p both.0 × Unit {0})
cached_check-store {R = R} = cache_over-store (path_check R) (λ p none. Unit {0}) path_check-store
