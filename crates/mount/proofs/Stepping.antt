-- The steps of a mount, from the calls over its store.
use Rattle.std.proofs.Common.{◌≡◌, ℕ, List, [], replicate, Result, Ok, Err, OnErr, Option, None, Some, option_map, refl, sym, ap, ap₂, ◌∙◌, subst}
use Rattle.device.specs.declared.question.Question.{Question}
use Rattle.device.specs.declared.device.Device as device
use Rattle.device.specs.Program.{exchanges}
use Rattle.device.specs.Run.{Ran}
use Rattle.device.specs.Layer.{through}
use Rattle.device.proofs.Runs.{ran-then}
use Rattle.device.proofs.Layers.{ran-below}
use Rattle.geometry.specs.declared.geometry.Geometry.{Geometry}
use Rattle.geometry.specs.Of.{shape_of}
use Rattle.layers.specs.declared.fault.StorageFault.{StorageFault}
use Rattle.layers.specs.declared.store.Store as store
use Rattle.layers.specs.Anchor.{Anchor}
use Rattle.layers.specs.Store.{StoreRule}
use Rattle.volume.specs.Fetches.{by_blocks}
use Rattle.calls.specs.declared.refusal.MountRule.TheVariants.{Label}
use Rattle.calls.specs.declared.refusal.Refusal.{Refusal}
use Rattle.calls.specs.declared.refusal.Refusal.TheVariants.{Mount}
use Rattle.calls.specs.Calls.{Call, Given, Accepted, Reply, call_rules, reply_of, room}
use Rattle.calls.specs.Calls as calls
use Rattle.calls.specs.Mount.{Mounted, by_label, image_length, made, mount}
use Rattle.calls.specs.Law.{Step}
use Rattle.reader.specs.declared.handle.Handle.{Handle}
use Rattle.reader.specs.declared.state.State.{State}
use Rattle.reader.specs.Calls.{CallRan, outcome, refused, state_of}
use Rattle.mount.specs.Mount.{replied}

-- a call's rules by blocks are those by a label of this shape
by_shape : {S F : Type 0} (d : device.Ghosts S F) (geometry : Geometry) (label : Option Anchor) (s : State) (call : Call) (first : S) (r : Result Accepted (Refusal F)) (last : S)
    → Some (shape_of geometry) ≡ option_map (λ anchor. anchor.shape) label → CallRan d.meaning d.moves geometry first s call r last
    → Ran d.meaning d.moves first (by_label label (state_of s) call) r last
by_shape d geometry None s call first r last is ran = let no : Some (shape_of geometry) ≡ None = is in cc
by_shape d geometry (Some anchor) s call first r last is ran =
    let same : shape_of geometry ≡ anchor.shape = cc in
    subst (λ x. Ran d.meaning d.moves first (by_blocks x.data_block (call_rules (image_length x) (state_of s) call)) r last) same ran

no_label : (label : Option Anchor) → None ≡ option_map (λ anchor. anchor.shape) label → label ≡ None
no_label None is = refl
no_label (Some anchor) is = cc

some_label : (X : Type 0) (geometry : Geometry) (label : Option Anchor) → Some (shape_of geometry) ≡ option_map (λ anchor. anchor.shape) label → label ≡ None → X
some_label X geometry None is none = let no : Some (shape_of geometry) ≡ None = is in cc
some_label X geometry (Some anchor) is none = cc

-- what the rules' outcome replies, and the state after it
reply_is : {F X : Type 0} (call : Call) (given : X → Given) (buffer : List ℕ) (state : State) (r : Result X (Refusal F)) → OnErr r (buffer ≡ replicate (room call) 0) → reply_of call (outcome given buffer state r) ≡ replied given buffer r
reply_is call given buffer state (Ok x) zeros = refl
reply_is call given buffer state (Err refusal) zeros = ap (λ b. record { answer = Err refusal; buffer = b }) (sym zeros)

state_is : {F X : Type 0} (given : X → Given) (buffer : List ℕ) (before after : State) (r : Result X (Refusal F)) → OnErr r (after ≡ before) → calls.state_of (state_of before) (outcome given buffer after r) ≡ state_of after
state_is given buffer before after (Ok x) kept = refl
state_is given buffer before after (Err refusal) kept = ap state_of (sym kept)

-- over a store U, with a device B at the bottom
module _ {U B R : Type 0} (s : store.Ghosts U B R) (d : device.Ghosts U (StorageFault R)) (e : device.Ghosts B R)
    (each : (u v : U) (q : Question) → d.moves u q v → Ran e.meaning e.moves (s.bottom u) (s.rule.step (s.label u) (s.memory u) q) (d.meaning u [] q, s.memory v) (s.bottom v) × (s.label v ≡ s.label u))
    (u : U) (before : State) (call : Call) where
  abbrev mounted : U → State → Mounted s.Memory
  mounted u state = record { label = s.label u; memory = s.memory u; state = state_of state }

  abbrev Stepped : Reply (StorageFault R) → U → State → Type 0
  Stepped reply v after =
      Step s.rule e.meaning e.moves (mounted u before) (s.bottom u) (record { call = call; reply = reply; exchanges = exchanges (e.meaning (s.bottom u)) (mount s.rule (mounted u before) call) }) (mounted v after) (s.bottom v)

  -- a run over the store is a step of the mount
  stepped : (r : Result Accepted (Refusal (StorageFault R))) (v : U) (after : State) (reply : Reply (StorageFault R)) → reply_of call r ≡ reply → calls.state_of (state_of before) r ≡ state_of after
      → Ran d.meaning d.moves u (by_label (s.label u) (state_of before) call) r v → Stepped reply v after
  unfolding mount
  stepped r v after reply same_reply same_state ran =
      let all = ran-below e.meaning e.moves s.rule.step s.label s.memory s.bottom d.meaning d.moves each (by_label (s.label u) (state_of before) call) u r v ran in
      let put : Result Accepted (Refusal (StorageFault R)) × s.Memory → Reply (StorageFault R) × Mounted s.Memory = λ end. (reply_of call end.0, record { label = s.label u; memory = end.1; state = calls.state_of (state_of before) end.0 }) in
      let end = ran-then e.meaning e.moves put (through (s.rule.step (s.label u)) (by_label (s.label u) (state_of before) call) (s.memory u)) (s.bottom u) (r, s.memory v) (s.bottom v) all.0 in
      let To : Reply (StorageFault R) → Option Anchor → calls.State → Type 0 = λ x l t. Ran e.meaning e.moves (s.bottom u) (mount s.rule (mounted u before) call) (x, record { label = l; memory = s.memory v; state = t }) (s.bottom v) in
      record {
        ran = subst (λ x. To x (s.label v) (state_of after)) same_reply (subst (To (reply_of call r) (s.label v)) same_state (subst (λ l. To (reply_of call r) l (calls.state_of (state_of before) r)) (sym all.1) end));
        exchanged = refl;
      }

  -- with a label that was refused each call is, and nothing is asked
  pub label_refused : (buffer : List ℕ) → None ≡ option_map (λ anchor. anchor.shape) (s.label u) → buffer ≡ replicate (room call) 0 → Stepped (record { answer = Err (Mount Label); buffer = buffer }) u before
  label_refused buffer none zeros =
      stepped (Err (Mount Label)) u before (record { answer = Err (Mount Label); buffer = buffer }) (ap (λ b. record { answer = Err (Mount Label); buffer = b }) (sym zeros)) refl
      (subst (λ l. Ran d.meaning d.moves u (by_label l (state_of before) call) (Err (Mount Label)) u) (sym (no_label (s.label u) none)) (refl, refl))

  -- what a call over the store came to, with this geometry
  pub record Came {X : Type 0} (geometry : Geometry) (given : X → Given) (buffer : List ℕ) (result : Result X (Refusal (StorageFault R))) (v : U) (after : State) : Type 0 where
    pub told : Some (shape_of geometry) ≡ option_map (λ anchor. anchor.shape) (s.label u)
    pub zeros : OnErr result (buffer ≡ replicate (room call) 0)
    pub kept : OnErr result (after ≡ before)
    pub ran : CallRan d.meaning d.moves geometry u before call (outcome given buffer after result) v

  module _ {X : Type 0} (geometry : Geometry) (given : X → Given) (buffer : List ℕ) (result : Result X (Refusal (StorageFault R))) (v : U) (after : State) (came : Came geometry given buffer result v after) where
    run : Ran d.meaning d.moves u (by_label (s.label u) (state_of before) call) (outcome given buffer after result) v
    run = by_shape d geometry (s.label u) before call u (outcome given buffer after result) v came.told came.ran

    pub called : Stepped (replied given buffer result) v after
    called = stepped (outcome given buffer after result) v after (replied given buffer result) (reply_is call given buffer after result came.zeros) (state_is given buffer before after result came.kept) run

    -- and the label was not refused then
    pub told_still : (X : Type 0) → s.label v ≡ None → X
    told_still X none =
        let same = ran-below e.meaning e.moves s.rule.step s.label s.memory s.bottom d.meaning d.moves each (by_label (s.label u) (state_of before) call) u (outcome given buffer after result) v run in
        some_label X geometry (s.label u) came.told (sym same.1 ∙ none)

-- a mount that was just made
pub made_is : {R M : Type 0} (store : StoreRule R M) (label told : Option Anchor) (memory : M) (state : calls.State) → label ≡ told → memory ≡ store.fresh → state ≡ calls.fresh
    → (record { label = label; memory = memory; state = state }) ≡ made store told
made_is store label told memory state is none new = ap₂ (λ l m. record { label = l; memory = m; state = state }) is none ∙ ap (λ s. record { label = told; memory = store.fresh; state = s }) new

-- what holds whether a call is refused or not
pub always : {X E : Type 0} (r : Result X E) (P : Type 0) → P → OnErr r P
always (Ok x) P p = tt
always (Err e) P p = p

-- a refusal that comes with a handle, without it
pub without : {F X : Type 0} (r : Result X (Handle × Refusal F)) (P : Type 0) → OnErr r P → OnErr (refused r) P
without (Ok x) P p = tt
without (Err e) P p = p
