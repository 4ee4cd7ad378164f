-- Headers in use: what their info may be, and links.
use Rattle.std.specs.Prelude.{ℕ, zero, suc, ◌+◌, Bool, true, cond, ◌&&◌, ◌||◌, not, ◌==◌, nat_lt}
use Rattle.volume.specs.declared.types.Start.{Start}
use Rattle.volume.specs.declared.types.Kind.TheVariants.{HardLink, Directory, File}
use Rattle.volume.specs.declared.fault.VolumeRule.{VolumeRule}
use Rattle.volume.specs.declared.fault.VolumeRule.TheVariants.{Info, Data, Links, LinkedDirectory}
use Rattle.volume.specs.declared.fault.VolumeFault.TheVariants as volume
use Rattle.volume.specs.declared.fault.PathRule.TheVariants.{NotDirectory, NotFile}
use Rattle.volume.specs.declared.fault.PathFault.{PathFault}
use Rattle.volume.specs.declared.fault.PathFault.TheVariants.{Rule, Volume}
use Rattle.volume.specs.Words.{is_16}
use Rattle.volume.specs.Header.{Header, header}
use Rattle.volume.specs.Fetches.{Fetches, give, refuse, after, put}

-- a rule that a header breaks, while the component at this place is sought or used
abbrev pub broken : {F : Type 0} → ℕ → Header → VolumeRule → PathFault F
broken place h rule = Volume place (volume.Rule h.at rule)

-- where a directory's list begins, 0 where it is empty: its info is 0, or a multiple of 16 behind the header
unfoldable pub enter : {F : Type 0} → ℕ → Header → Fetches F (PathFault F) ℕ
enter place h =
    elim h.entry.kind [
      | Directory ↦ cond (h.info == 0 || is_16 h.info && nat_lt h.at h.info) (give h.info) (refuse (broken place h Info))
      | _ ↦ refuse (Rule place NotDirectory)
    ]

-- the data of a file
pub record Extent : Type 0 where
  pub start : ℕ
  pub size : ℕ

-- a file's info is 0, and its data end within the volume
abbrev pub file : {F : Type 0} → Start → ℕ → Header → Fetches F (PathFault F) Extent
file start place h =
    cond (not (h.info == 0)) (refuse (broken place h Info))
    (cond (nat_lt start.size (h.at + h.length + h.entry.size)) (refuse (broken place h Data)) (give (record { start = h.at + h.length; size = h.entry.size })))

-- the file that the last component of a path leads to: a hard link's info is a multiple of 16 and names the next header,
-- up to eight links are followed, and none leads to a directory
unfoldable pub follow : {F : Type 0} → Start → ℕ → ℕ → Bool → Header → Fetches F (PathFault F) Extent
follow start place zero linked h =
    elim h.entry.kind [
      | File ↦ file start place h
      | HardLink ↦ cond (is_16 h.info) (refuse (broken place h Links)) (refuse (broken place h Info))
      | Directory ↦ cond linked (refuse (broken place h LinkedDirectory)) (refuse (Rule place NotFile))
      | _ ↦ refuse (Rule place NotFile)
    ]
follow start place (suc left) linked h =
    elim h.entry.kind [
      | File ↦ file start place h
      | HardLink ↦ cond (is_16 h.info) (after (put (λ fault. Volume place fault) (header start h.info)) (follow start place left true)) (refuse (broken place h Info))
      | Directory ↦ cond linked (refuse (broken place h LinkedDirectory)) (refuse (Rule place NotFile))
      | _ ↦ refuse (Rule place NotFile)
    ]
