-- The paths that are asked for by some blocks, by a fetch, and by a program of fetches.
use Rattle.std.proofs.Common.{◌≡◌, ℕ, zero, suc, ◌+◌, ◌-◌, ◌*◌, ◌/◌, ◌%◌, ◌<◌, ◌≤◌, true, eqb, List, [], ◌∷◌, ◌++◌, map, take, drop, Option, Some, Result, Ok, Err, refl, sym, ap, ap₂, ◌∙◌, subst, inl, inr, mul-le-mul_right, arith}
use Rattle.std.specs.List.{AllByRecursion}
use Rattle.std.proofs.lemmas.Bool.{cond-true, cond-false, cases_eq, eq-eqb, ne_eqb}
use Rattle.std.proofs.lemmas.List.{append-nil}
use Rattle.std.proofs.lemmas.Nat.{mod_below, div-add-mod'}
use Rattle.std.proofs.Math.Nat.{div-mul-le_self}
use Rattle.device.specs.Answer.{Answer}
use Rattle.device.specs.Program.{Program, done, bind, Exchange}
use Rattle.layers.specs.declared.fault.StorageFault.{StorageFault}
use Rattle.layers.specs.Anchor.{Anchor}
use Rattle.layers.specs.Verity.{is_block}
use Rattle.layers.specs.Laws.{NamesLast}
use Rattle.layers.specs.Store.{IsServed}
use Rattle.layers.proofs.Blocks.{within}
use Rattle.volume.specs.Fetches.{Fetches, give, refuse, fetch, blocks, touched, fetch_blocks, by_blocks}
use Rattle.volume.proofs.Clean.{Clean}
use Rattle.calls.specs.Mount.{image_length}
use Rattle.calls.specs.Paths.{Path, Fetch, of_paths, of_fetches, Rising, Touches, IsWhole, Ends, IsAsked, Makes}
use Rattle.calls.proofs.Fetching.{touched_room}
use Rattle.calls.proofs.Replays.{Served, below, below-append, Replays, replays-bind, replays-put}
use Rattle.calls.proofs.Lasts.{last_behind, last_put, HoldsLast, holds_none, holds_some, holds_behind}

-- of two lists in one
all-first : {X : Type 0} (P : X → Type 0) (xs ys : List X) → AllByRecursion P (xs ++ ys) → AllByRecursion P xs
all-first P [] ys all = tt
all-first P (x ∷ xs) ys all = (all.0, all-first P xs ys all.1)

all-second : {X : Type 0} (P : X → Type 0) (xs ys : List X) → AllByRecursion P (xs ++ ys) → AllByRecursion P ys
all-second P [] ys all = all
all-second P (x ∷ xs) ys all = all-second P xs ys all.1

-- what each has, put into something else
each : {X : Type 0} (P Q : X → Type 0) (xs : List X) → ((x : X) → P x → Q x) → AllByRecursion P xs → AllByRecursion Q xs
each P Q [] on all = tt
each P Q (x ∷ xs) on all = (on x all.0, each P Q xs on all.1)

each-mapped : {X Y : Type 0} (f : X → Y) (P : X → Type 0) (Q : Y → Type 0) (xs : List X) → ((x : X) → P x → Q (f x)) → AllByRecursion P xs → AllByRecursion Q (map f xs)
each-mapped f P Q [] on all = tt
each-mapped f P Q (x ∷ xs) on all = (on x all.0, each-mapped f P Q xs on all.1)

-- a block from b on, below `to`
pub record Between {R : Type 0} (b to : ℕ) (path : Path R) : Type 0 where
  pub low : b ≤ path.block
  pub high : path.block < to

-- each question for a data block is answered by a path, or by nothing that is asked
abbrev pub Serves : {R : Type 0} → Anchor → Served R → Type 0
Serves a g = is_block a.shape g.question ≡ true → IsServed a g.question.block g.answer g.exchanges

module _ (a : Anchor) where
  abbrev d : ℕ
  d = a.shape.data_block

  -- a block from the first that is touched on, below the last
  touches : 0 < d → (from n k : ℕ) → from / d ≤ k → k < from / d + touched d from n → Touches d from n k
  touches some from n k low high = elim (cases_eq n 0) [
    | inl none ↦ let t : touched d from n ≡ 0 = cond-true (eqb n 0) 0 (suc ((from + n - 1) / d) - from / d) (eq-eqb n 0 none) in absurd (omega arith)
    | inr more ↦
        let e = from + n - 1 in
        let t : touched d from n ≡ suc (e / d) - from / d = cond-false (eqb n 0) 0 (suc (e / d) - from / d) (ne_eqb n 0 more) in
        let up : k ≤ e / d = omega arith in
        let first : from < (from / d + 1) * d = omega (arith, div-add-mod' from d, mod_below from d some) in
        let lower : (from / d + 1) * d ≤ (k + 1) * d = mul-le-mul_right d (omega arith) in
        record { some = omega arith; before = omega (arith, mul-le-mul_right d up, div-mul-le_self e d); behind = omega arith }
  ]

  module _ {R : Type 0} where
    -- what is asked for the blocks from b on, below `to`
    pub record Asked (b to : ℕ) (answer : Answer (StorageFault R)) (xs : List (Exchange R)) : Type 0 where
      pub paths : List (Path R)
      pub between : AllByRecursion (Between b to) paths
      pub rising : Rising (map (λ path. path.block) paths)
      pub ends : Ends a answer paths
      pub exchanged : xs ≡ of_paths paths
      pub names : NamesLast a.shape answer xs

    -- bytes that are put into others
    ends-put : (f : List ℕ → List ℕ) (first answer : Answer (StorageFault R)) (paths : List (Path R)) → answer ≡ elim first [ Ok b ↦ Ok (f b) | Err fault ↦ Err fault ] → Ends a first paths → Ends a answer paths
    ends-put f (Ok b) answer paths is ends = subst (λ x. Ends a x paths) (sym is) ends
    ends-put f (Err fault) answer paths is ends = subst (λ x. Ends a x paths) (sym is) ends

    -- a whole path in front
    ends-cons : (answer : Answer (StorageFault R)) (path : Path R) (paths : List (Path R)) → IsWhole a path → Ends a answer paths → Ends a answer (path ∷ paths)
    ends-cons (Ok b) path paths whole ends = (whole, ends)
    ends-cons (Err fault) path paths whole ends = record { before = path ∷ ends.before; last = ends.last; all = ap (λ ps. path ∷ ps) ends.all; whole = (whole, ends.whole); cut = ends.cut }

    -- the first block was answered, and then the others
    later : (b n : ℕ) (first answer : Answer (StorageFault R)) (xs ys : List (Exchange R)) (block : List ℕ) → answer ≡ elim first [ Ok more ↦ Ok (block ++ more) | Err fault ↦ Err fault ]
        → IsServed a b (Ok block) xs → Asked (suc b) (suc b + n) first ys → Asked b (b + suc n) answer (xs ++ ys)
    later b n first answer xs ys block is (inl none) asked = record {
      paths = asked.paths;
      between = each (Between (suc b) (suc b + n)) (Between b (b + suc n)) asked.paths (λ path h. record { low = omega (arith, h.low); high = omega (arith, h.high) }) asked.between;
      rising = asked.rising;
      ends = ends-put (λ more. block ++ more) first answer asked.paths is asked.ends;
      exchanged = ap (λ zs. zs ++ ys) none ∙ asked.exchanged;
      names = last_behind a.shape answer xs ys (last_put a.shape (λ more. block ++ more) first answer ys is asked.names);
    }
    later b n first answer xs ys block is (inr whole) asked =
        let path : Path R = record { block = b; exchanges = xs } in
        record {
          paths = path ∷ asked.paths;
          between = (
            record { low = omega arith; high = omega arith },
            each (Between (suc b) (suc b + n)) (Between b (b + suc n)) asked.paths (λ path h. record { low = omega (arith, h.low); high = omega (arith, h.high) }) asked.between,
          );
          rising = (each-mapped (λ path. path.block) (Between (suc b) (suc b + n)) (λ k. b < k) asked.paths (λ path h. omega (arith, h.low)) asked.between, asked.rising);
          ends = ends-cons answer path asked.paths (block, whole) (ends-put (λ more. block ++ more) first answer asked.paths is asked.ends);
          exchanged = ap (λ zs. xs ++ zs) asked.exchanged;
          names = last_behind a.shape answer xs ys (last_put a.shape (λ more. block ++ more) first answer ys is asked.names);
        }

    -- what follows the first block
    abbrev rest_of : ℕ → ℕ → Answer (StorageFault R) → Program (StorageFault R) (Answer (StorageFault R))
    rest_of n b answer = elim answer [ Ok block ↦ bind (blocks d n (suc b)) (λ more. done (elim more [ Ok bytes ↦ Ok (block ++ bytes) | Err fault ↦ Err fault ])) | Err fault ↦ done (Err fault) ]

    -- the first block was refused
    refused : (b n : ℕ) (answer : Answer (StorageFault R)) (fault : StorageFault R) (xs : List (Exchange R)) (gs : List (Served R)) → Replays (rest_of n b (Err fault)) gs answer → IsServed a b (Err fault) xs
        → Asked b (b + suc n) answer (xs ++ below gs)
    refused b n answer fault xs (g ∷ gs) replays cut = absurd replays
    refused b n answer fault xs [] replays cut =
        let path : Path R = record { block = b; exchanges = xs } in
        record {
          paths = path ∷ [];
          between = (record { low = omega arith; high = omega arith }, tt);
          rising = (tt, tt);
          ends = subst (λ x. Ends a x (path ∷ [])) (sym replays) (record { before = []; last = path; all = refl; whole = tt; cut = cut.0 });
          exchanged = refl;
          names = subst (λ x. NamesLast a.shape x (xs ++ [])) (sym replays) (subst (NamesLast a.shape (Err fault)) (sym (append-nil xs)) cut.1);
        }

    by_first : (n b : ℕ) → ((first : Answer (StorageFault R)) (gs : List (Served R)) → AllByRecursion (Serves a) gs → Replays (blocks d n (suc b)) gs first → Asked (suc b) (suc b + n) first (below gs))
        → (first answer : Answer (StorageFault R)) (xs : List (Exchange R)) (gs : List (Served R)) → AllByRecursion (Serves a) gs → IsServed a b first xs → Replays (rest_of n b first) gs answer → Asked b (b + suc n) answer (xs ++ below gs)
    by_first n b others (Err fault) answer xs gs all served replays = refused b n answer fault xs gs replays served
    by_first n b others (Ok block) answer xs gs all served replays =
        let put = replays-put (λ (more : Answer (StorageFault R)). elim more [ Ok bytes ↦ Ok (block ++ bytes) | Err fault ↦ Err fault ]) (blocks d n (suc b)) gs answer replays in
        later b n put.0 answer xs (below gs) block put.2 served (others put.0 gs all put.1)

    pub blocks-asked : (n b : ℕ) → b + n ≤ a.shape.blocks → (answer : Answer (StorageFault R)) (gs : List (Served R)) → AllByRecursion (Serves a) gs → Replays (blocks d n b) gs answer → Asked b (b + n) answer (below gs)
    blocks-asked zero b room answer (g ∷ gs) all replays = absurd replays
    blocks-asked zero b room answer [] all replays = record { paths = []; between = tt; rising = tt; ends = subst (λ x. Ends {R = R} a x []) (sym replays) tt; exchanged = refl; names = subst (λ x. NamesLast {R = R} a.shape x []) (sym replays) tt }
    blocks-asked (suc n) b room answer [] all replays = absurd replays
    blocks-asked (suc n) b room answer (g ∷ gs) all (is, replays) =
        let served : IsServed a b g.answer g.exchanges =
        subst (λ q. IsServed a q.block g.answer g.exchanges) is (all.0 (subst (λ q. is_block a.shape q ≡ true) (sym is) (within d a.shape.blocks b (omega arith)))) in
        by_first n b (λ first hs each_served replayed. blocks-asked n (suc b) (omega arith) first hs each_served replayed) g.answer answer g.exchanges gs all.1 served replays

    -- what is asked for a fetch
    pub record FetchAsked (from n : ℕ) (answer : Answer (StorageFault R)) (xs : List (Exchange R)) : Type 0 where
      pub paths : List (Path R)
      pub is : IsAsked a (record { from = from; size = n; answer = answer; paths = paths })
      pub exchanged : xs ≡ of_paths paths
      pub names : NamesLast a.shape answer xs

    fetch-asked : 0 < d → (from n : ℕ) → from + n ≤ image_length a.shape → (answer : Answer (StorageFault R)) (gs : List (Served R)) → AllByRecursion (Serves a) gs → Replays (fetch_blocks d from n) gs answer
        → FetchAsked from n answer (below gs)
    fetch-asked some from n room answer gs all replays =
        let count = touched d from n in
        let put = replays-put (λ (x : Answer (StorageFault R)). elim x [ Ok bytes ↦ Ok (take n (drop (from % d) bytes)) | Err fault ↦ Err fault ]) (blocks d count (from / d)) gs answer replays in
        let asked = blocks-asked count (from / d) (touched_room d a.shape.blocks from n some room).0 put.0 gs all put.1 in
        record {
          paths = asked.paths;
          is = record {
            within = room;
            touched = each (Between (from / d) (from / d + count)) (λ path. Touches d from n path.block) asked.paths (λ path h. touches some from n path.block h.low h.high) asked.between;
            rising = asked.rising;
            ends = ends-put (λ bytes. take n (drop (from % d) bytes)) put.0 answer asked.paths put.2 asked.ends;
          };
          exchanged = asked.exchanged;
          names = last_put a.shape (λ bytes. take n (drop (from % d) bytes)) put.0 answer (below gs) put.2 asked.names;
        }

    -- what is asked for a program of fetches
    pub record Made {E X : Type 0} (holds : E → Option (StorageFault R)) (program : Fetches (StorageFault R) E X) (r : Result X E) (xs : List (Exchange R)) : Type 0 where
      pub fetches : List (Fetch R)
      pub makes : Makes program fetches r
      pub asked : AllByRecursion (IsAsked a) fetches
      pub exchanged : xs ≡ of_fetches fetches
      pub held : HoldsLast a.shape holds r xs

    module _ {E X : Type 0} (some : 0 < d) (holds : E → Option (StorageFault R)) where
      -- the first fetch, and then the rest by its answer
      fetched : (from n : ℕ) (fault : StorageFault R → E) → ((f : StorageFault R) → holds (fault f) ≡ Some f) → (rest : List ℕ → Fetches (StorageFault R) E X) → ((bytes : List ℕ) (gs : List (Served R)) (r : Result X E) → AllByRecursion (Serves a) gs → Replays (by_blocks d (rest bytes)) gs r → Made holds (rest bytes) r (below gs))
          → (answer : Answer (StorageFault R)) (xs : List (Exchange R)) → FetchAsked from n answer xs → (gs : List (Served R)) → AllByRecursion (Serves a) gs → (r : Result X E)
          → Replays (elim answer [ Ok bytes ↦ by_blocks d (rest bytes) | Err f ↦ done (Err (fault f)) ]) gs r → Made holds (fetch from n fault rest) r (xs ++ below gs)
      fetched from n fault holding rest on (Ok bytes) xs first gs all r replays =
          let made = on bytes gs r all replays in
          record {
            fetches = record { from = from; size = n; answer = Ok bytes; paths = first.paths } ∷ made.fetches;
            makes = (refl, refl, made.makes);
            asked = (first.is, made.asked);
            exchanged = ap₂ (λ ys zs. ys ++ zs) first.exchanged made.exchanged;
            held = holds_behind a.shape holds r xs (below gs) made.held;
          }
      fetched from n fault holding rest on (Err bad) xs first (g ∷ gs) all r replays = absurd replays
      fetched from n fault holding rest on (Err bad) xs first [] all r replays = record {
        fetches = record { from = from; size = n; answer = Err bad; paths = first.paths } ∷ [];
        makes = (refl, refl, (refl, replays));
        asked = (first.is, tt);
        exchanged = ap (λ ys. ys ++ []) first.exchanged;
        held = holds_some a.shape holds (fault bad) bad r xs replays (holding bad) first.names;
      }

      pub program-made : (program : Fetches (StorageFault R) E X) → Clean holds (image_length a.shape) program → (gs : List (Served R)) (r : Result X E) → AllByRecursion (Serves a) gs → Replays (by_blocks d program) gs r
          → Made holds program r (below gs)
      program-made (give x) clean [] r all replays = record { fetches = []; makes = replays; asked = tt; exchanged = refl; held = subst (λ (y : Result X E). HoldsLast a.shape holds y []) (sym replays) tt }
      program-made (give x) clean (g ∷ gs) r all replays = absurd replays
      program-made (refuse e) clean [] r all replays = record { fetches = []; makes = replays; asked = tt; exchanged = refl; held = holds_none a.shape holds e r [] replays clean }
      program-made (refuse e) clean (g ∷ gs) r all replays = absurd replays
      program-made (fetch from n fault rest) clean gs r all replays =
          let then : Answer (StorageFault R) → Program (StorageFault R) (Result X E) = λ answer. elim answer [ Ok bytes ↦ by_blocks d (rest bytes) | Err f ↦ done (Err (fault f)) ] in
          let split = replays-bind (fetch_blocks d from n) then gs r replays in
          let both : AllByRecursion (Serves a) (split.first ++ split.second) = subst (AllByRecursion (Serves a)) split.parts all in
          let first = fetch-asked some from n clean.0 split.value split.first (all-first (Serves a) split.first split.second both) split.one in
          subst (Made holds (fetch from n fault rest) r) (sym (ap below split.parts ∙ below-append split.first split.second))
          (fetched from n fault clean.1 rest (λ bytes hs x each_served replayed. program-made (rest bytes) (clean.2 bytes) hs x each_served replayed) split.value (below split.first) first split.second
          (all-second (Serves a) split.first split.second both) r split.other)
