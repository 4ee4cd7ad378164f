-- More steps along a list than the volume has bytes change nothing.
use Rattle.std.proofs.Common.{◌≡◌, ◌⊎◌, ℕ, zero, suc, ◌+◌, ◌-◌, ◌≤◌, ◌<◌, ◌/◌, ◌%◌, min, Bool, true, false, cond, ◌&&◌, ◌||◌, not, leb, ltb, eqb, List, take, drop, Option, None, Some, Result, Ok, Err, refl, sym, ap, subst, inl, inr, arith, ◌==◌}
use Rattle.std.proofs.lemmas.Bool.{or_parts, ltb-false, leb-false, eqb-true, eqb-false, eq-eqb, ne_eqb}
use Rattle.volume.specs.declared.types.Start.{Start}
use Rattle.volume.specs.declared.fault.VolumeRule.TheVariants.{Range, Name, HeaderSum, Next}
use Rattle.volume.specs.declared.fault.VolumeFault.{VolumeFault}
use Rattle.volume.specs.declared.fault.VolumeFault.TheVariants as volume
use Rattle.volume.specs.declared.fault.PathRule.TheVariants.{Missing}
use Rattle.volume.specs.declared.fault.PathFault.TheVariants.{Rule, Volume}
use Rattle.volume.specs.Fetches.{Fetches, give, refuse, fetch, after, put, settled}
use Rattle.volume.specs.Sizes.{header_size}
use Rattle.volume.specs.Words.{word, sums_to_zero, up_to_16, zero_at}
use Rattle.volume.specs.Header.{Header, kind_of, is_name, named, header_of, header}
use Rattle.volume.specs.Walk.{Sought, behind, is_it, is_dots, seek, find}
use Rattle.volume.proofs.Gives.{Gives, gives-put, gives-settled}
use Rattle.volume.proofs.Rules.{ok_behind}

-- the header that a list goes on with stands behind an offset, or there is none
abbrev pub GoesOn : ℕ → Header → Type 0
GoesOn at h = (h.next ≡ 0) ⊎ (at < h.next)

no_fault : {F : Type 0} (e : VolumeFault F) (x : Header) → ◌≡◌ {A = Result Header (VolumeFault F)} (Err e) (Ok x) → ⊥
no_fault e x is = cc

ok_is : {F : Type 0} (x y : Header) → ◌≡◌ {A = Result Header (VolumeFault F)} (Ok x) (Ok y) → x ≡ y
ok_is x y is = cc

-- by the test of a header's next
tested : (next at : ℕ) (none past : Bool) → eqb next 0 ≡ none → leb next at ≡ past → (not none && past) ≡ false → (next ≡ 0) ⊎ (at < next)
tested next at true past none is fine = inl (eqb-true next 0 none)
tested next at false true some is fine = absurd (let wrong : true ≡ false = fine in cc)
tested next at false false some is fine = inr (leb-false next at is)

module _ (F : Type 0) (at : ℕ) where
  named-on : (bytes : List ℕ) (o : Option ℕ) (h : Header) → ◌≡◌ {A = Result Header (VolumeFault F)} (named at bytes o) (Ok h) → GoesOn at h
  named-on bytes None h is = absurd (no_fault (volume.Rule at Name) h is)
  named-on bytes (Some n) h is =
      let name = take n (drop 16 bytes) in
      let len = 16 + up_to_16 (n + 1) in
      let first = word bytes 0 in
      let next = first - first % 16 in
      let made : Header = record {
        at = at;
        next = next;
        info = word bytes 4;
        entry = record { kind = kind_of (first % 8); executable = first / 8 % 2 == 1; size = word bytes 8 };
        name = name;
        length = len;
      } in
      let third : Result Header (VolumeFault F) = cond (not (eqb next 0) && leb next at) (Err (volume.Rule at Next)) (Ok made) in
      let second : Result Header (VolumeFault F) = cond (not (sums_to_zero (take len bytes))) (Err (volume.Rule at HeaderSum)) third in
      let a = ok_behind (not (is_name name)) (volume.Rule at Name) second h is in
      let b = ok_behind (not (sums_to_zero (take len bytes))) (volume.Rule at HeaderSum) third h a.1 in
      let c = ok_behind (not (eqb next 0) && leb next at) (volume.Rule at Next) (Ok made) h b.1 in
      let same : next ≡ h.next = ap (λ x. x.next) (ok_is {F = F} made h c.1) in
      subst (λ n. (n ≡ 0) ⊎ (at < n)) same (tested next at (eqb next 0) (leb next at) refl refl c.0)

  header_of-on : (bytes : List ℕ) (h : Header) → ◌≡◌ {A = Result Header (VolumeFault F)} (header_of at bytes) (Ok h) → GoesOn at h
  unfolding header_of
  header_of-on bytes h is = named-on bytes (zero_at (drop 16 bytes)) h is

-- a program that is refused where a test holds
gives_unless : {F E X : Type 0} (P : X → Type 0) (b : Bool) (e : E) (p : Fetches F E X) → (b ≡ false → Gives P p) → Gives P (cond b (refuse e) p)
gives_unless P true e p gives = tt
gives_unless P false e p gives = gives refl

-- a header that is given has room within the volume
abbrev pub Within : Start → ℕ → Header → Type 0
Within start at h = (at + 32 ≤ start.size) × GoesOn at h

header-on : (F : Type 0) (start : Start) (at : ℕ) → Gives {F = F} (Within start at) (header start at)
unfolding header
header-on F start at =
    gives_unless (Within start at) (ltb at start.root || ltb start.size (at + 32)) (volume.Rule at Range)
    (fetch at (min (at + header_size) start.size - at) (λ fault. volume.Storage at fault) (λ bytes. settled (header_of at bytes)))
    (λ fine bytes.
    gives-settled F (Within start at) (header_of at bytes)
    (λ h is. (ltb-false start.size (at + 32) (or_parts (ltb at start.root) (ltb start.size (at + 32)) fine).1, header_of-on F at bytes h is)))

-- functions that have the same values are the same
same-functions : {A B : Type 0} {f g : A → B} → ((x : A) → f x ≡ g x) → f ≡ g
same-functions same = λ i x. same x i

-- programs that go on alike with every value that may come are the same
after-alike : {F E X Y : Type 0} (P : X → Type 0) (p : Fetches F E X) (one other : X → Fetches F E Y) → Gives P p → ((x : X) → P x → one x ≡ other x) → after p one ≡ after p other
after-alike P (give x) one other gives alike = alike x gives
after-alike P (refuse e) one other gives alike = refl
after-alike P (fetch from n fault rest) one other gives alike = ap (fetch from n fault) (same-functions (λ bytes. after-alike P (rest bytes) one other (gives bytes) alike))

cond-alike : {X : Type 0} (b : Bool) {x y z w : X} → x ≡ y → z ≡ w → cond b x z ≡ cond b y w
cond-alike true one other = one
cond-alike false one other = other

cond-behind : {X : Type 0} (b : Bool) (x : X) {y z : X} → (b ≡ false → y ≡ z) → cond b x y ≡ cond b x z
cond-behind true x same = refl
cond-behind false x same = same refl

module _ (start : Start) where
  -- enough steps for what can still stand behind an offset
  abbrev pub Enough : ℕ → ℕ → Type 0
  Enough steps at = (at ≡ 0) ⊎ ((1 ≤ steps) × (start.size < at + steps))

  next_enough : (steps at : ℕ) (h : Header) → (at ≡ 0 → ⊥) → Enough (suc steps) at → Within start at h → Enough steps h.next
  next_enough steps at h some (inl none) within = absurd (some none)
  next_enough steps at h some (inr enough) (room, inl ends) = inl ends
  next_enough steps at h some (inr enough) (room, inr behind) = inr (omega arith, omega arith)

  none_without : (at : ℕ) → Enough 0 at → at ≡ 0
  none_without at (inl none) = none
  none_without at (inr enough) = absurd (omega (arith, enough.0))

module _ {F : Type 0} (start : Start) (place : ℕ) where
  -- no header is left
  none-left : (steps : ℕ) (sought : Sought) (at : ℕ) → at ≡ 0 → seek {F = F} start place steps sought at ≡ refuse (Rule place Missing)
  unfolding seek
  none-left zero sought at none = refl
  none-left (suc steps) sought at none = rw (eq-eqb at 0 none) refl

  pub steps : (f g : ℕ) (sought : Sought) (at : ℕ) → Enough start f at → Enough start g at → seek {F = F} start place f sought at ≡ seek start place g sought at
  unfolding seek
  steps zero g sought at one other = sym (none-left g sought at (none_without start at one))
  steps (suc f) zero sought at one other = none-left (suc f) sought at (none_without start at other)
  steps (suc f) (suc g) sought at one other =
      cond-behind (eqb at 0) (refuse (Rule place Missing))
      (λ there.
      let some = eqb-false at 0 there in
      after-alike (Within start at) (put (λ fault. Volume place fault) (header start at)) _ _ (gives-put (Within start at) (λ fault. Volume place fault) (header start at) (header-on F start at))
      (λ h within.
      let f_enough = next_enough start f at h some one within in
      let g_enough = next_enough start g at h some other within in
      cond-alike (is_dots h.name) (steps f g sought h.next f_enough g_enough) (cond-alike (is_it sought h.name) refl (steps f g (behind sought) h.next f_enough g_enough))))

  -- so a list that is not empty is the header there and the list behind it
  pub find-goes : (sought : Sought) (at : ℕ) → (at ≡ 0 → ⊥)
      → find {F = F} start place sought at ≡ after (put (λ fault. Volume place fault) (header start at)) (λ h. cond (is_dots h.name) (find start place sought h.next) (cond (is_it sought h.name) (give h) (find start place (behind sought) h.next)))
  unfolding seek
  find-goes sought at there =
      rw (ne_eqb at 0 there)
      (after-alike (Within start at) (put (λ fault. Volume place fault) (header start at)) _ _ (gives-put (Within start at) (λ fault. Volume place fault) (header start at) (header-on F start at))
      (λ h within.
      let less = next_enough start start.size at h there (inr (omega arith, omega arith)) within in
      let more = next_enough start (suc start.size) at h there (inr (omega arith, omega arith)) within in
      cond-alike (is_dots h.name) (steps start.size (suc start.size) sought h.next less more) (cond-alike (is_it sought h.name) refl (steps start.size (suc start.size) (behind sought) h.next less more))))

  -- and an empty one has nothing
  pub find-ends : (sought : Sought) (at : ℕ) → at ≡ 0 → find {F = F} start place sought at ≡ refuse (Rule place Missing)
  find-ends sought at none = none-left (suc start.size) sought at none
