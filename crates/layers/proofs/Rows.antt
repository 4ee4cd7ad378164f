-- Rows: what is found, and what a row that is written changes.
use Rattle.std.proofs.Common.{◌≡◌, ℕ, zero, suc, Bool, true, false, cond, ◌&&◌, eqb, List, [], ◌∷◌, set, Option, Some, None, IfSome, refl, sym, ap, ap₂, ◌∙◌, subst}
use Rattle.std.specs.List.{AllByRecursion}
use Rattle.std.proofs.lemmas.Bool.{and_parts, eqb-true, eqb-false, eq-eqb, ne_eqb}
use Rattle.device.specs.declared.question.Area.{Area}
use Rattle.device.specs.declared.question.Area.TheVariants.{Data, Tree}
use Rattle.device.specs.declared.question.Question.{Question}
use Rattle.layers.specs.Cache.{Row, same_area, same_question, find}
use Rattle.layers.specs.CacheLaws.{Once}
use Rattle.layers.proofs.Tests.{tested}

area_same : (a b : Area) → same_area a b ≡ true → a ≡ b
area_same Data Data is = refl
area_same Data Tree is = cc
area_same Tree Data is = cc
area_same Tree Tree is = refl

area_turned : (a b : Area) → same_area a b ≡ same_area b a
area_turned Data Data = refl
area_turned Data Tree = refl
area_turned Tree Data = refl
area_turned Tree Tree = refl

eqb_turned : (a b : ℕ) → eqb a b ≡ eqb b a
eqb_turned a b = tested (eqb a b) (λ t. t ≡ eqb b a) (λ is. sym (eq-eqb b a (sym (eqb-true a b is)))) (λ is. sym (ne_eqb b a (λ e. eqb-false a b is (sym e))))

pub same_is : (q r : Question) → same_question q r ≡ true → q ≡ r
same_is q r is =
    let parts = and_parts (same_area q.area r.area && eqb q.block r.block) (eqb q.length r.length) is in
    let front = and_parts (same_area q.area r.area) (eqb q.block r.block) parts.0 in
    let area = area_same q.area r.area front.0 in
    let block = eqb-true q.block r.block front.1 in
    let long = eqb-true q.length r.length parts.1 in
    ap₂ (λ a b. record { area = a; block = b; length = q.length }) area block ∙ ap (λ n. record { area = r.area; block = r.block; length = n }) long

pub same_turned : (q r : Question) → same_question q r ≡ same_question r q
same_turned q r = ap₂ (λ x y. x && y) (ap₂ (λ x y. x && y) (area_turned q.area r.area) (eqb_turned q.block r.block)) (eqb_turned q.length r.length)

-- what a search comes to, by whether its first row has the question
abbrev first_or : Bool → List ℕ → Option (List ℕ) → Option (List ℕ)
first_or b bytes later = elim (cond b (Some bytes) None) [ Some bytes ↦ Some bytes | None ↦ later ]

-- what is found has the question, and whatever holds of each row
pub found : (P : Row → Type 0) (q : Question) (rows : List (Option Row)) (bytes : List ℕ) → AllByRecursion (λ row. IfSome row P) rows → find q rows ≡ Some bytes → P (record { question = q; bytes = bytes })
found P q [] bytes all is = cc
found P q (None ∷ rows) bytes all is = found P q rows bytes all.1 is
found P q (Some row ∷ rows) bytes all is =
    let Q : Bool → Type 0 = λ b. first_or b row.bytes (find q rows) ≡ Some bytes → P (record { question = q; bytes = bytes }) in
    tested (same_question row.question q) Q
    (λ same e. subst P (ap₂ (λ x y. record { question = x; bytes = y }) (same_is row.question q same) (let f : row.bytes ≡ bytes = cc in f)) all.0)
    (λ other e. found P q rows bytes all.1 e) is

-- where a question is not found, the first row has it not, nor a later one
other_row : (q : Question) (row : Row) (rows : List (Option Row)) → find q (Some row ∷ rows) ≡ None → (same_question row.question q ≡ false) × (find q rows ≡ None)
other_row q row rows none =
    let Q : Bool → Type 0 = λ b. first_or b row.bytes (find q rows) ≡ None → (b ≡ false) × (find q rows ≡ None) in
    tested (same_question row.question q) Q (λ same e. let f : Some row.bytes ≡ None = e in cc) (λ other e. (refl, e)) none

not_later : (q : Question) (row : Option Row) (rows : List (Option Row)) → find q (row ∷ rows) ≡ None → find q rows ≡ None
not_later q None rows none = none
not_later q (Some row) rows none = (other_row q row rows none).1

-- a row is written
pub all-set : (P : Row → Type 0) (rows : List (Option Row)) (i : ℕ) (row : Row) → AllByRecursion (λ r. IfSome r P) rows → P row → AllByRecursion (λ r. IfSome r P) (set rows i (Some row))
all-set P [] i row all here = tt
all-set P (r ∷ rows) zero row all here = (here, all.1)
all-set P (r ∷ rows) (suc i) row all here = (all.0, all-set P rows i row all.1 here)

-- one with another question is not found
none-set : (q : Question) (rows : List (Option Row)) (i : ℕ) (row : Row) → same_question row.question q ≡ false → find q rows ≡ None → find q (set rows i (Some row)) ≡ None
none-set q [] i row other none = refl
none-set q (r ∷ rows) zero row other none = ap (λ b. first_or b row.bytes (find q rows)) other ∙ not_later q r rows none
none-set q (None ∷ rows) (suc i) row other none = none-set q rows i row other none
none-set q (Some r ∷ rows) (suc i) row other none =
    let parts = other_row q r rows none in
    ap (λ b. first_or b r.bytes (find q (set rows i (Some row)))) parts.0 ∙ none-set q rows i row other parts.1

-- a row with a question that no row has
pub once-set : (rows : List (Option Row)) (i : ℕ) (row : Row) → Once rows → find row.question rows ≡ None → Once (set rows i (Some row))
once-set [] i row once none = tt
once-set (r ∷ rows) zero row once none = (not_later row.question r rows none, once.1)
once-set (None ∷ rows) (suc i) row once none = (tt, once-set rows i row once.1 none)
once-set (Some r ∷ rows) (suc i) row once none =
    let parts = other_row row.question r rows none in
    (none-set r.question rows i row (same_turned row.question r.question ∙ parts.0) once.0, once-set rows i row once.1 parts.1)
