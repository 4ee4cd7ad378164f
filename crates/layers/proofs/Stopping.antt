-- Where the way down to a data block stops, and with which fault.
use Rattle.std.proofs.Common.{◌≡◌, ◌≢◌, ℕ, zero, suc, ◌<◌, ◌≤◌, true, cond, List, [], ◌∷◌, length, map, take, Option, None, Some, IfSome, Ok, Err, refl, sym, ap, ap₂, ◌∙◌, subst, inl, inr, arith, bytes_eq}
use Rattle.std.proofs.lemmas.Bool.{cond-true}
use Rattle.std.proofs.lemmas.Slice.Eq.{bytes_eq-Decides}
use Rattle.device.specs.declared.question.Question.{Question}
use Rattle.device.specs.Answer.{Answer}
use Rattle.device.specs.Program.{Meaning, Exchange, after, result, exchanges}
use Rattle.tree.specs.Shape.{fanout, levels}
use Rattle.layers.specs.declared.fault.Place.{Place}
use Rattle.layers.specs.declared.fault.StorageFault.{StorageFault}
use Rattle.layers.specs.declared.fault.StorageFault.TheVariants.{Refused, Mismatch}
use Rattle.layers.specs.Anchor.{Anchor}
use Rattle.layers.specs.Fault.{data_place, place_of, Lies}
use Rattle.layers.specs.Verity.{tree_place, question_at, next_digest, checked, go_on, walk, verity, is_block}
use Rattle.layers.specs.Path.{data_question, tree_question, path_questions, GivenDown, Fails, IsCut}
use Rattle.layers.specs.Judged.{IsFor, Last}
use Rattle.layers.specs.Laws.{Stops, NamesLast, PathsStop}
use Rattle.layers.proofs.Tests.{tested, block-parts}
use Rattle.layers.proofs.Blocks.{tree-lies}
use Rattle.layers.proofs.Descent.{further, at}
use Rattle.layers.proofs.Paths.{UpperOf, accepted, accepts, along, back}

-- what holds where there is something, put into something else
pub if_each : {X : Type 0} (P Q : X → Type 0) (o : Option X) → ((x : X) → P x → Q x) → IfSome o P → IfSome o Q
if_each P Q None on h = tt
if_each P Q (Some x) on h = on x h

module _ {R : Type 0} (a : Anchor) where
  -- a block is refused exactly where it fails
  fails : (place : Place) (want : List ℕ) (answer : Answer R) (fault : StorageFault R) → checked a place want answer ≡ Err fault → Fails a place want answer fault
  fails place want (Err refusal) fault is =
      let one : UpperOf R = Err (Refused place refusal) in
      let other : UpperOf R = Err fault in
      let e : one ≡ other = is in cc
  fails place want (Ok block) fault is =
      let good : UpperOf R = Ok block in
      let bad : UpperOf R = Err (Mismatch place) in
      let wanted : UpperOf R = Err fault in
      let Both : Type 0 = (a.salted block ≢ want) × (fault ≡ Mismatch place) in
      tested (bytes_eq (a.salted block) want) (λ b. cond b good bad ≡ wanted → Both)
      (λ t same. let e : good ≡ wanted = same in absurd (cc))
      (λ t same. let e : bad ≡ wanted = same in (λ is'. let t' : bytes_eq (a.salted block) want ≡ true = (bytes_eq-Decides (a.salted block) want).1 is' in cc, cc)) is

  failed : (place : Place) (want : List ℕ) (answer : Answer R) (fault : StorageFault R) → Fails a place want answer fault → checked a place want answer ≡ Err fault
  failed place want (Err refusal) fault is = ap (λ f. Err f) (sym is)
  failed place want (Ok block) fault (other, is) =
      tested (bytes_eq (a.salted block) want) (λ b. cond {A = UpperOf R} b (Ok block) (Err (Mismatch place)) ≡ Err fault)
      (λ t. absurd (other ((bytes_eq-Decides (a.salted block) want).0 t)))
      (λ t. ap (λ f. Err f) (sym is))

  -- a fault that fails a block of a place names that place
  fails-place : (place : Place) (want : List ℕ) (answer : Answer R) (fault : StorageFault R) → Fails a place want answer fault → place_of fault ≡ Some place
  fails-place place want (Err refusal) fault is = ap place_of is
  fails-place place want (Ok block) fault (other, is) = ap place_of is

  names-for : (place : Place) (n : ℕ) (want : List ℕ) (x : Exchange R) (fault : StorageFault R) → Lies a.shape place → x.question ≡ question_at place n → Fails a place want x.answer fault → IfSome (place_of fault) (λ p. IsFor a.shape p x)
  names-for place n want x fault lies asked bad =
      subst (λ o. IfSome o (λ p. IsFor a.shape p x)) (sym (fails-place place want x.answer fault bad)) (ap (λ q. q.area) asked, ap (λ q. q.block) asked, lies)

  module _ (k : ℕ) where
    abbrev IsCutFrom : ℕ → List ℕ → StorageFault R → List (Exchange R) → Type 0
    IsCutFrom = IsCut a k

    -- the rest of the way down, by what became of the first block
    cut_on : (i : ℕ) (want : List ℕ) (m : Meaning R) (fault : StorageFault R) (answer : Answer R) (c : UpperOf R) → checked a (tree_place a.shape k i) want answer ≡ c
        → ((block : List ℕ) → result m (further a k i block) ≡ Err fault → IsCutFrom i (next_digest a k i block) fault (exchanges m (further a k i block)))
        → result m (go_on (further a k i) c) ≡ Err fault → IsCutFrom (suc i) want fault (at (tree_question a.shape k i) answer ∷ exchanges m (go_on (further a k i) c))
    cut_on i want m fault answer (Ok block) was below is =
        let good = accepted a (tree_place a.shape k i) want block answer was in
        (refl, inr (block, good.0, good.1, below block is))
    cut_on i want m fault answer (Err other) was below is =
        let one : UpperOf R = Err other in
        let two : UpperOf R = Err fault in
        let e : one ≡ two = is in
        (refl, inl (refl, fails (tree_place a.shape k i) want answer fault (was ∙ e)))

    cut : (i : ℕ) (want : List ℕ) (m : Meaning R) (fault : StorageFault R) → result m (walk a k i want) ≡ Err fault → IsCutFrom i want fault (exchanges m (walk a k i want))
    unfolding walk
    cut zero want m fault is = (refl, refl, fails (data_place k) want (m [] (data_question a.shape k)) fault is)
    cut (suc i) want m fault is =
        let q = tree_question a.shape k i in
        let rest = after m (q ∷ []) in
        cut_on i want rest fault (m [] q) (checked a (tree_place a.shape k i) want (m [] q)) refl (λ block. cut i (next_digest a k i block) rest fault) is

    ends : (i : ℕ) (want : List ℕ) (m : Meaning R) (fault : StorageFault R) → IsCutFrom i want fault (exchanges m (walk a k i want)) → result m (walk a k i want) ≡ Err fault
    unfolding walk
    ends zero want m fault (asked, none, bad) = failed (data_place k) want (m [] (data_question a.shape k)) fault bad
    ends (suc i) want m fault (asked, inl (none, bad)) =
        let q = tree_question a.shape k i in
        ap (λ c. result (after m (q ∷ [])) (go_on (further a k i) c)) (failed (tree_place a.shape k i) want (m [] q) fault bad)
    ends (suc i) want m fault (asked, inr (block, was, same, below)) =
        let q = tree_question a.shape k i in
        let rest = after m (q ∷ []) in
        let on : go_on (further a k i) (checked a (tree_place a.shape k i) want (m [] q)) ≡ further a k i block = ap (go_on (further a k i)) (accepts a (tree_place a.shape k i) want block (m [] q) was same) in
        ap (result rest) on ∙ ends i (next_digest a k i block) rest fault (subst (λ w. IsCutFrom i (next_digest a k i block) fault (exchanges rest w)) on below)

    -- the questions are the first of the path's
    abbrev Begins : ℕ → List (Exchange R) → Type 0
    Begins i xs = map (λ x. x.question) xs ≡ take (length xs) (path_questions a.shape k i)

    begins_on : (i : ℕ) (m : Meaning R) (q : Question) → q ≡ tree_question a.shape k i → (answer : Answer R) → ((block : List ℕ) → Begins i (exchanges m (further a k i block))) → (c : UpperOf R)
        → Begins (suc i) (at q answer ∷ exchanges m (go_on (further a k i) c))
    begins_on i m q is answer below (Ok block) = ap₂ (λ r rs. r ∷ rs) is (below block)
    begins_on i m q is answer below (Err fault) = ap (λ r. r ∷ []) is

    begins : (i : ℕ) (want : List ℕ) (m : Meaning R) → Begins i (exchanges m (walk a k i want))
    unfolding walk
    begins zero want m = refl
    begins (suc i) want m =
        let q = tree_question a.shape k i in
        let rest = after m (q ∷ []) in
        begins_on i rest q refl (m [] q) (λ block. begins i (next_digest a k i block) rest) (checked a (tree_place a.shape k i) want (m [] q))

    -- a whole path has one exchange more than levels
    whole-length : (i : ℕ) (blocks : List (List ℕ)) (bytes : List ℕ) (xs : List (Exchange R)) → GivenDown a.shape k i blocks bytes xs → length xs ≡ suc i
    whole-length zero [] bytes xs down = ap length down
    whole-length zero (b ∷ blocks) bytes xs down = absurd down
    whole-length (suc i) [] bytes xs down = absurd down
    whole-length (suc i) (b ∷ blocks) bytes xs (rest, is, down) = ap length is ∙ ap suc (whole-length i blocks bytes rest down)

    -- a fault names the block of the last exchange
    abbrev NamesLastOf : StorageFault R → List (Exchange R) → Type 0
    NamesLastOf fault xs = IfSome (place_of fault) (λ place. Last (IsFor a.shape place) xs)

    cut-last : 0 < fanout a.shape → k < a.shape.blocks → (i : ℕ) → i ≤ levels a.shape → (want : List ℕ) (fault : StorageFault R) (xs : List (Exchange R)) → IsCutFrom i want fault xs → NamesLastOf fault xs
    cut-last pos there i low want fault [] broken = absurd broken
    cut-last pos there zero low want fault (x ∷ xs) (asked, none, bad) =
        if_each (λ p. IsFor a.shape p x) (λ p. Last (IsFor a.shape p) (x ∷ xs)) (place_of fault) (λ p is_for. inl (none, is_for)) (names-for (data_place k) a.shape.data_block want x fault there asked bad)
    cut-last pos there (suc i) low want fault (x ∷ xs) (asked, inl (none, bad)) =
        if_each (λ p. IsFor a.shape p x) (λ p. Last (IsFor a.shape p) (x ∷ xs)) (place_of fault) (λ p is_for. inl (none, is_for))
        (names-for (tree_place a.shape k i) a.shape.hash_block want x fault (tree-lies a.shape pos k i there (omega arith)) asked bad)
    cut-last pos there (suc i) low want fault (x ∷ xs) (asked, inr (block, was, same, below)) =
        if_each (λ p. Last (IsFor a.shape p) xs) (λ p. Last (IsFor a.shape p) (x ∷ xs)) (place_of fault) (λ p later. inr later)
        (cut-last pos there i (omega arith) (next_digest a k i block) fault xs below)

    -- with fewer it was refused
    short_by : (want : List ℕ) (m : Meaning R) (answer : UpperOf R) → result m (walk a k (levels a.shape) want) ≡ answer → length (exchanges m (walk a k (levels a.shape) want)) < suc (levels a.shape)
        → (fault : StorageFault R) × IsCutFrom (levels a.shape) want fault (exchanges m (walk a k (levels a.shape) want))
    short_by want m (Err fault) is few = (fault, cut (levels a.shape) want m fault is)
    short_by want m (Ok bytes) is few =
        let path = along a k (levels a.shape) want bytes m is in
        let long = whole-length (levels a.shape) path.0 bytes (exchanges m (walk a k (levels a.shape) want)) path.1 in
        absurd (omega arith)

    last_by : 0 < fanout a.shape → k < a.shape.blocks → (m : Meaning R) (answer : UpperOf R) → result m (walk a k (levels a.shape) a.root) ≡ answer → NamesLast a.shape answer (exchanges m (walk a k (levels a.shape) a.root))
    last_by pos there m (Ok bytes) is = tt
    last_by pos there m (Err fault) is =
        let n = levels a.shape in
        cut-last pos there n (omega arith) a.root fault (exchanges m (walk a k n a.root)) (cut n a.root m fault is)

    stops : k < a.shape.blocks → (m : Meaning R) → Stops a k (result m (walk a k (levels a.shape) a.root)) (exchanges m (walk a k (levels a.shape) a.root))
    stops there m =
        let n = levels a.shape in
        record {
          asked = begins n a.root m;
          accepted = λ bytes. (along a k n a.root bytes m, back a k n a.root bytes m);
          refused = λ fault. (cut n a.root m fault, ends n a.root m fault);
          short = short_by a.root m (result m (walk a k n a.root)) refl;
        }

pub paths_stop_lem : {R : Type 0} → PathsStop R
unfolding verity
paths_stop_lem {R = R} a m q is =
    let way = walk {R = R} a q.block (levels a.shape) a.root in
    let same : verity (Some a) q ≡ way = cond-true (is_block a.shape q) way _ is in
    let there = (block-parts a.shape q is).0 in
    subst (λ w. Stops a q.block (result m w) (exchanges m w) × (0 < fanout a.shape → NamesLast a.shape (result m w) (exchanges m w))) (sym same)
    (stops a q.block there m, λ pos. last_by a q.block pos there m (result m way) refl)
