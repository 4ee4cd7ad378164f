-- The volume's rules stay within the image.
use Rattle.std.proofs.Common.{◌≡◌, ℕ, zero, suc, ◌+◌, ◌-◌, ◌≤◌, min, Bool, true, false, cond, ◌&&◌, ◌||◌, not, leb, ltb, List, [], ◌∷◌, length, take, drop, Option, None, Some, Result, Ok, Err, refl, ap, sym, arith, ◌==◌}
use Rattle.std.specs.Str.{bytes_eq}
use Rattle.std.proofs.lemmas.Bool.{or_parts, ltb-false}
use Rattle.volume.specs.declared.types.Start.{Start}
use Rattle.volume.specs.declared.types.Kind.{Kind}
use Rattle.volume.specs.declared.types.Kind.TheVariants.{HardLink, Directory, File}
use Rattle.volume.specs.declared.fault.VolumeRule.{VolumeRule}
use Rattle.volume.specs.declared.fault.VolumeRule.TheVariants.{Text, Size, Sum, VolumeName, Range, Info, Links, LinkedDirectory}
use Rattle.volume.specs.declared.fault.VolumeFault.{VolumeFault}
use Rattle.volume.specs.declared.fault.VolumeFault.TheVariants as volume
use Rattle.volume.specs.declared.fault.PathRule.{PathRule}
use Rattle.volume.specs.declared.fault.PathRule.TheVariants.{Component, Missing, NotDirectory, NotFile}
use Rattle.volume.specs.declared.fault.PathFault.{PathFault}
use Rattle.volume.specs.declared.fault.PathFault.TheVariants.{Rule, Volume}
use Rattle.volume.specs.Fault.{volume_holds, path_holds}
use Rattle.volume.specs.Fetches.{Fetches, give, refuse, fetch, after, put, settled}
use Rattle.volume.specs.Sizes.{header_size, name_size}
use Rattle.volume.specs.Words.{word, sums_to_zero, up_to_16, is_16, zero_at}
use Rattle.volume.specs.Start.{magic, root_of, start_of, start}
use Rattle.volume.specs.Header.{Header, named, header_of, header}
use Rattle.volume.specs.Walk.{Sought, by_name, by_index, behind, is_it, is_dots, seek, find}
use Rattle.volume.specs.Use.{Extent, broken, enter, file, follow}
use Rattle.volume.specs.Paths.{Part, parts, first_bad, enter_all, file_at, open_path, list_path}
use Rattle.volume.proofs.Clean.{Clean, clean-after, clean-put, clean-cond}

-- a result that holds no fault of the device
unfoldable Quiet : (F : Type 0) {X : Type 0} → Result X (VolumeFault F) → Type 0
Quiet F r = (limit : ℕ) → Clean {F = F} volume_holds limit (settled r)

quiet_ok : (F : Type 0) {X : Type 0} (x : X) → Quiet F (Ok x)
unfolding Quiet
quiet_ok F x limit = tt

quiet_rule : (F X : Type 0) (at : ℕ) (rule : VolumeRule) → Quiet F {X = X} (Err (volume.Rule at rule))
unfolding Quiet
quiet_rule F X at rule limit = refl

quiet_cond : (F : Type 0) {X : Type 0} (b : Bool) (x y : Result X (VolumeFault F)) → Quiet F x → Quiet F y → Quiet F (cond b x y)
quiet_cond F true x y one other = one
quiet_cond F false x y one other = other

quiet_root : (F : Type 0) (size : ℕ) (o : Option ℕ) → Quiet F (root_of size o)
quiet_root F size None = search quiet_rule
quiet_root F size (Some v) = search (quiet_cond, quiet_rule, quiet_ok)

quiet_start : (F : Type 0) (limit : ℕ) (bytes : List ℕ) → Quiet F (start_of limit bytes)
unfolding start_of
quiet_start F limit bytes = search (quiet_cond, quiet_rule, quiet_root)

quiet_named : (F : Type 0) (at : ℕ) (bytes : List ℕ) (o : Option ℕ) → Quiet F (named at bytes o)
quiet_named F at bytes None = search quiet_rule
quiet_named F at bytes (Some n) = search (quiet_cond, quiet_rule, quiet_ok)

module _ (F : Type 0) (limit : ℕ) where
  pub start-clean : 512 ≤ limit → Clean {F = F} volume_holds limit (start limit)
  unfolding start Quiet
  start-clean room = (omega arith, (λ f. refl), λ bytes. quiet_start F limit bytes limit)

  module _ (s : Start) (fits : s.size ≤ limit) where
    pub header-clean : (at : ℕ) → Clean {F = F} volume_holds limit (header s at)
    unfolding header header_of Quiet
    header-clean at =
        clean-cond volume_holds limit (ltb at s.root || ltb s.size (at + 32)) (refuse (volume.Rule at Range))
        (fetch at (min (at + header_size) s.size - at) (λ fault. volume.Storage at fault) (λ bytes. settled (header_of at bytes))) (λ is. refl)
        (λ is.
        let low = ltb-false s.size (at + 32) (or_parts (ltb at s.root) (ltb s.size (at + 32)) is).1 in
        (omega arith, (λ f. refl), λ bytes. quiet_named F at bytes (zero_at (drop 16 bytes)) limit))

-- an accepted choice
pub ok_behind : {X E : Type 0} (b : Bool) (e : E) (y : Result X E) (x : X) → cond b (Err e) y ≡ Ok x → (b ≡ false) × (y ≡ Ok x)
ok_behind {X = X} {E = E} true e y x is = let bad : Result X E = Err e in let good : Result X E = Ok x in let same : bad ≡ good = is in cc
ok_behind false e y x is = (refl, is)

ok_first : {X E : Type 0} (b : Bool) (e : E) (x y : X) → cond b (Ok x) (Err e) ≡ Ok y → x ≡ y
ok_first {X = X} {E = E} true e x y is = let one : Result X E = Ok x in let other : Result X E = Ok y in let same : one ≡ other = is in cc
ok_first {X = X} {E = E} false e x y is = let bad : Result X E = Err e in let good : Result X E = Ok y in let same : bad ≡ good = is in cc

-- a start that is accepted lies within the image
module _ (F : Type 0) (limit : ℕ) where
  root_size : (size : ℕ) (o : Option ℕ) (s : Start) → ◌≡◌ {A = Result Start (VolumeFault F)} (root_of size o) (Ok s) → s.size ≡ size
  root_size size None s is = let bad : Result Start (VolumeFault F) = Err (volume.Rule 16 VolumeName) in let good : Result Start (VolumeFault F) = Ok s in let e : bad ≡ good = is in cc
  root_size size (Some v) s is =
      let root = 16 + up_to_16 (v + 1) in
      let fault : VolumeFault F = volume.Rule 16 VolumeName in
      let made : Start = record { size = size; root = root } in
      ap (λ x. x.size) (sym (ok_first (leb (root + 32) size) fault made s is))

  pub start-within : (bytes : List ℕ) (s : Start) → ◌≡◌ {A = Result Start (VolumeFault F)} (start_of limit bytes) (Ok s) → s.size ≤ limit
  unfolding start_of
  start-within bytes s is =
      let size = word bytes 8 in
      let third : Result Start (VolumeFault F) = root_of size (zero_at (take name_size (drop 16 bytes))) in
      let second : Result Start (VolumeFault F) = cond (not (sums_to_zero (take (min 512 size) bytes))) (Err (volume.Rule 12 Sum)) third in
      let first : Result Start (VolumeFault F) = cond (not (is_16 size) || ltb limit size) (Err (volume.Rule 8 Size)) second in
      let a = ok_behind (not (bytes_eq (take 8 bytes) magic)) (volume.Rule 0 Text) first s is in
      let b = ok_behind (not (is_16 size) || ltb limit size) (volume.Rule 8 Size) second s a.1 in
      let c = ok_behind (not (sums_to_zero (take (min 512 size) bytes))) (volume.Rule 12 Sum) third s b.1 in
      let same = root_size size (zero_at (take name_size (drop 16 bytes))) s c.1 in
      omega (arith, ltb-false limit size (or_parts (not (is_16 size)) (ltb limit size) b.0).1)

-- a program for a path: it stays within the image, and holds a fault of the device exactly where a fetch is refused
unfoldable Tidy : (F : Type 0) {X : Type 0} → ℕ → Fetches F (PathFault F) X → Type 0
Tidy F limit program = Clean {F = F} path_holds limit program

tidy_give : (F X : Type 0) (limit : ℕ) (x : X) → Tidy F limit (give x)
unfolding Tidy
tidy_give F X limit x = tt

tidy_rule : (F X : Type 0) (limit place : ℕ) (rule : PathRule) → Tidy F {X = X} limit (refuse (Rule place rule))
unfolding Tidy
tidy_rule F X limit place rule = refl

tidy_broken : (F X : Type 0) (limit place : ℕ) (h : Header) (rule : VolumeRule) → Tidy F {X = X} limit (refuse (broken place h rule))
unfolding Tidy
tidy_broken F X limit place h rule = refl

tidy_cond : (F : Type 0) {X : Type 0} (limit : ℕ) (b : Bool) (x y : Fetches F (PathFault F) X) → Tidy F limit x → Tidy F limit y → Tidy F limit (cond b x y)
tidy_cond F limit true x y one other = one
tidy_cond F limit false x y one other = other

tidy_after : (F : Type 0) {X Y : Type 0} (limit : ℕ) (x : Fetches F (PathFault F) X) (next : X → Fetches F (PathFault F) Y) → Tidy F limit x → ((a : X) → Tidy F limit (next a)) → Tidy F limit (after x next)
unfolding Tidy
tidy_after F limit x next first then = clean-after path_holds limit x next first then

-- by the kind of a header
tidy_directory : (F : Type 0) {X : Type 0} (limit : ℕ) (kind : Kind) (x y : Fetches F (PathFault F) X) → Tidy F limit x → Tidy F limit y → Tidy F limit (elim kind [ Directory ↦ x | _ ↦ y ])
tidy_directory F limit Directory x y one other = one
tidy_directory F limit _ x y one other = other

tidy_kind : (F : Type 0) {X : Type 0} (limit : ℕ) (kind : Kind) (a b c d : Fetches F (PathFault F) X) → Tidy F limit a → Tidy F limit b → Tidy F limit c → Tidy F limit d
    → Tidy F limit (elim kind [ File ↦ a | HardLink ↦ b | Directory ↦ c | _ ↦ d ])
tidy_kind F limit File a b c d one two three four = one
tidy_kind F limit HardLink a b c d one two three four = two
tidy_kind F limit Directory a b c d one two three four = three
tidy_kind F limit _ a b c d one two three four = four

module _ (F : Type 0) (limit : ℕ) (s : Start) (fits : s.size ≤ limit) where
  tidy_header : (place at : ℕ) → Tidy F limit (put (λ fault. Volume place fault) (header s at))
  unfolding Tidy
  tidy_header place at = clean-put volume_holds limit (λ fault. Volume place fault) path_holds (λ e. refl) (header s at) (header-clean F limit s fits at)

  tidy_seek : (fuel place : ℕ) (sought : Sought) (at : ℕ) → Tidy F limit (seek s place fuel sought at)
  unfolding seek
  tidy_seek zero place sought at = tidy_rule F Header limit place Missing
  tidy_seek (suc fuel) place sought at =
      let then : (h : Header) → Tidy F limit (cond (is_dots h.name) (seek s place fuel sought h.next) (cond (is_it sought h.name) (give h) (seek s place fuel (behind sought) h.next))) =
      λ h. tidy_cond F limit (is_dots h.name) (seek s place fuel sought h.next) (cond (is_it sought h.name) (give h) (seek s place fuel (behind sought) h.next)) (tidy_seek fuel place sought h.next)
      (tidy_cond F limit (is_it sought h.name) (give h) (seek s place fuel (behind sought) h.next) (tidy_give F Header limit h) (tidy_seek fuel place (behind sought) h.next)) in
      search (tidy_cond, tidy_rule, tidy_after, tidy_header, then)

  tidy_enter : (place : ℕ) (h : Header) → Tidy F limit (enter place h)
  unfolding enter
  tidy_enter place h =
      let here = tidy_cond F limit (h.info == 0 || is_16 h.info && ltb h.at h.info) (give h.info) (refuse (broken place h Info)) (tidy_give F ℕ limit h.info) (tidy_broken F ℕ limit place h Info) in
      let other = tidy_rule F ℕ limit place NotDirectory in
      tidy_directory F limit h.entry.kind (cond (h.info == 0 || is_16 h.info && ltb h.at h.info) (give h.info) (refuse (broken place h Info))) (refuse (Rule place NotDirectory)) here other

  tidy_file : (place : ℕ) (h : Header) → Tidy F limit (file s place h)
  tidy_file place h = search (tidy_cond, tidy_broken, tidy_give)

  tidy_follow : (left place : ℕ) (linked : Bool) (h : Header) → Tidy F limit (follow s place left linked h)
  unfolding follow
  tidy_follow zero place linked h =
      tidy_kind F limit h.entry.kind (file s place h) (cond (is_16 h.info) (refuse (broken place h Links)) (refuse (broken place h Info)))
      (cond linked (refuse (broken place h LinkedDirectory)) (refuse (Rule place NotFile))) (refuse (Rule place NotFile)) (tidy_file place h) (search (tidy_cond, tidy_broken)) (search (tidy_cond, tidy_broken, tidy_rule)) (search tidy_rule)
  tidy_follow (suc left) place linked h =
      let link = after (put (λ fault. Volume place fault) (header s h.info)) (follow s place left true) in
      let on : Tidy F limit link = tidy_after F limit (put (λ fault. Volume place fault) (header s h.info)) (follow s place left true) (tidy_header place h.info) (λ t. tidy_follow left place true t) in
      tidy_kind F limit h.entry.kind (file s place h) (cond (is_16 h.info) link (refuse (broken place h Info)))
      (cond linked (refuse (broken place h LinkedDirectory)) (refuse (Rule place NotFile))) (refuse (Rule place NotFile)) (tidy_file place h)
      (tidy_cond F limit (is_16 h.info) link (refuse (broken place h Info)) on (tidy_broken F Extent limit place h Info)) (search (tidy_cond, tidy_broken, tidy_rule)) (search tidy_rule)

  tidy_enter_all : (parts : List Part) (at : ℕ) → Tidy F limit (enter_all s parts at)
  unfolding enter_all
  tidy_enter_all [] at = tidy_give F ℕ limit at
  tidy_enter_all (part ∷ rest) at =
      tidy_after F limit (find s part.at (by_name part.name) at) (λ h. after (enter part.at h) (λ list. enter_all s rest list)) (tidy_seek (suc s.size) part.at (by_name part.name) at)
      (λ h. tidy_after F limit (enter part.at h) (λ list. enter_all s rest list) (tidy_enter part.at h) (λ list. tidy_enter_all rest list))

  tidy_file_at : (parts : List Part) (at : ℕ) → Tidy F limit (file_at s parts at)
  unfolding file_at
  tidy_file_at [] at = tidy_rule F Extent limit 0 Component
  tidy_file_at (part ∷ []) at =
      tidy_after F limit (find s part.at (by_name part.name) at) (follow s part.at 8 false) (tidy_seek (suc s.size) part.at (by_name part.name) at) (λ h. tidy_follow 8 part.at false h)
  tidy_file_at (part ∷ next ∷ rest) at =
      tidy_after F limit (find s part.at (by_name part.name) at) (λ h. after (enter part.at h) (λ list. file_at s (next ∷ rest) list)) (tidy_seek (suc s.size) part.at (by_name part.name) at)
      (λ h. tidy_after F limit (enter part.at h) (λ list. file_at s (next ∷ rest) list) (tidy_enter part.at h) (λ list. tidy_file_at (next ∷ rest) list))

  tidy_parts : {X : Type 0} (o : Option ℕ) (path : List Part) (on : List Part → Fetches F (PathFault F) X) → ((ps : List Part) → Tidy F limit (on ps))
      → Tidy F limit (elim (elim o as (λ x. Result (List Part) (PathFault F)) [ Some at ↦ Err (Rule at Component) | None ↦ Ok path ]) as (λ x. Fetches F (PathFault F) X) [ Err fault ↦ refuse fault | Ok ps ↦ on ps ])
  tidy_parts {X = X} None path on then = then path
  tidy_parts {X = X} (Some at) path on then = tidy_rule F X limit at Component

  pub open_path-clean : (path : List ℕ) → Clean {F = F} path_holds limit (open_path s path)
  unfolding open_path Tidy
  open_path-clean path = tidy_parts (first_bad (parts path)) (parts path) (λ ps. file_at s ps s.root) (λ ps. tidy_file_at ps s.root)

  pub list_path-clean : (path : List ℕ) (index : ℕ) → Clean {F = F} path_holds limit (list_path s path index)
  unfolding list_path Tidy
  list_path-clean path index =
      tidy_parts (first_bad (parts path)) (parts path) (λ ps. after (enter_all s ps s.root) (λ list. find s (length path) (by_index index) list))
      (λ ps. tidy_after F limit (enter_all s ps s.root) (λ list. find s (length path) (by_index index) list) (tidy_enter_all ps s.root) (λ list. tidy_seek (suc s.size) (length path) (by_index index) list))
