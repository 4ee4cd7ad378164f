-- Closing files one after another is a use of a mount.
use Rattle.std.proofs.Common.{List, [], ◌∷◌, ◌++◌, refl, ap, subst}
use Rattle.std.proofs.lemmas.List.{map-append}
use Rattle.device.specs.declared.device.Device as device
use Rattle.device.specs.declared.question.Question.{Question}
use Rattle.device.specs.Program.{Meaning}
use Rattle.layers.specs.declared.fault.StorageFault.{StorageFault}
use Rattle.layers.specs.declared.store.Store as store
use Rattle.layers.specs.Store.{StoreRule}
use Rattle.calls.specs.Calls.{closed, close}
use Rattle.calls.specs.Law.{Event, Step, Used}
use Rattle.calls.specs.Mount as rules
use Rattle.mount.specs.declared.mount.MountOver.{MountOver}
use Rattle.mount.specs.Mount.{Called, mounted_of, device_of, event_of}
use Rattle.open_files.specs.declared.files.OpenFile.{OpenFile}
use Rattle.open_files.specs.Files.{data_of}
use Rattle.open_files.specs.Steps.{Closed, accepted}

-- a use goes on with one more call
used_more : {D R M : Type 0} (store : StoreRule R M) (meaning : D → Meaning R) (moves : D → Question → D → Type 0) (xs : List (Event R)) (x : Event R) (m : rules.Mounted M) (d : D) (k : rules.Mounted M) (f : D) (n : rules.Mounted M) (e : D)
    → Used store meaning moves m d xs k f → Step store meaning moves k f x n e → Used store meaning moves m d (xs ++ x ∷ []) n e
used_more {D = D} {M = M} store meaning moves [] x m d k f n e (is_m, is_d) step =
    (n, e, (let At : rules.Mounted M → Type 0 = λ v. Step store meaning moves v d x n e in subst At is_m (let On : D → Type 0 = λ v. Step store meaning moves k v x n e in subst On is_d step)), (refl, refl))
used_more store meaning moves (y ∷ ys) x m d k f n e (l, g, first, rest) step = (l, g, first, used_more store meaning moves ys x l g k f n e rest step)

module _ {S B R : Type 0} {s : store.Ghosts S B R} {d : device.Ghosts S (StorageFault R)} {e : device.Ghosts B R} (m : MountOver S B R s d e) where
  -- no file is closed yet
  pub none_closed : Closed m [] m
  none_closed = record { events = []; used = (refl, refl); calls = refl; replies = refl }

  -- one more file is closed
  pub one_more_closed : (files : List OpenFile) (file : OpenFile) (k n : MountOver S B R s d e) → Closed m files k → Called k (close (data_of file)) (accepted closed) n → Closed m (files ++ file ∷ []) n
  one_more_closed files file k n before step =
      let x = event_of k (close (data_of file)) (accepted closed) in
      record {
        events = before.events ++ x ∷ [];
        used = used_more s.rule e.meaning e.moves before.events x (mounted_of m) (device_of m) (mounted_of k) (device_of k) (mounted_of n) (device_of n) before.used step;
        calls = simp map-append (ap (λ calls. calls ++ close (data_of file) ∷ []) before.calls);
        replies = simp map-append (ap (λ replies. replies ++ accepted closed ∷ []) before.replies);
      }
