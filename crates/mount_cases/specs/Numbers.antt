-- The numbers of the rules, and the places of refusals that hold others.
use Rattle.std.specs.Prelude.{◌≡◌, ℕ, Some, None}
use Rattle.layers.specs.declared.fault.Level.TheVariants as level
use Rattle.layers.specs.declared.fault.Place.{Place}
use Rattle.layers.specs.declared.fault.StorageFault.TheVariants as storage
use Rattle.layers.specs.Fault.{level_number, number_of, place_of}
use Rattle.volume.specs.declared.fault.VolumeRule.TheVariants as volume_rule
use Rattle.volume.specs.declared.fault.VolumeFault.TheVariants as volume
use Rattle.volume.specs.declared.fault.PathRule.TheVariants as path_rule
use Rattle.volume.specs.declared.fault.PathFault.TheVariants as path
use Rattle.volume.specs.Fault.{volume_number, path_number}
use Rattle.calls.specs.declared.refusal.MountRule.TheVariants as mount_rule
use Rattle.calls.specs.declared.refusal.Refusal.TheVariants.{Mount, Volume, Path}
use Rattle.calls.specs.Refusal.{mount_number, holds, refusal_number, places_of}

-- block 5 of level 1
abbrev pub place : Place
place = record { level = level.Tree 1; block = 5 }

pub record NumberCases : Type 0 where
  -- the path check
  pub label : number_of {R = ℕ} storage.Label ≡ 2
  pub no_block : number_of {R = ℕ} (storage.NoBlock 5) ≡ 12
  pub refused : number_of {R = ℕ} (storage.Refused place 7) ≡ 10
  pub mismatch : number_of {R = ℕ} (storage.Mismatch place) ≡ 11
  pub data_level : level_number level.Data ≡ 255
  pub tree_level : level_number (level.Tree 1) ≡ 1
  -- the start
  pub text : volume_number volume_rule.Text ≡ 20
  pub size : volume_number volume_rule.Size ≡ 21
  pub sum : volume_number volume_rule.Sum ≡ 22
  pub volume_name : volume_number volume_rule.VolumeName ≡ 23
  -- headers
  pub range : volume_number volume_rule.Range ≡ 30
  pub name : volume_number volume_rule.Name ≡ 31
  pub header_sum : volume_number volume_rule.HeaderSum ≡ 32
  pub next : volume_number volume_rule.Next ≡ 33
  pub info : volume_number volume_rule.Info ≡ 34
  pub file_data : volume_number volume_rule.Data ≡ 35
  pub links : volume_number volume_rule.Links ≡ 36
  pub linked_directory : volume_number volume_rule.LinkedDirectory ≡ 37
  -- paths
  pub component : path_number path_rule.Component ≡ 40
  pub missing : path_number path_rule.Missing ≡ 41
  pub not_directory : path_number path_rule.NotDirectory ≡ 42
  pub not_file : path_number path_rule.NotFile ≡ 43
  -- the mount
  pub mount_label : mount_number mount_rule.Label ≡ 2
  pub handle : mount_number mount_rule.Handle ≡ 50
  pub offset : mount_number mount_rule.Offset ≡ 51
  pub buffer_length : mount_number mount_rule.Length ≡ 52
  pub held : mount_number mount_rule.Held ≡ 53
  pub not_begun : mount_number mount_rule.NotBegun ≡ 54
  -- the place of a storage fault: 12 names the block that was asked for, as one of the data
  pub no_place : place_of {R = ℕ} storage.Label ≡ None
  pub place_of_12 : place_of {R = ℕ} (storage.NoBlock 5) ≡ Some (record { level = level.Data; block = 5 })
  pub place_of_10 : place_of {R = ℕ} (storage.Refused place 7) ≡ Some place
  pub place_of_11 : place_of {R = ℕ} (storage.Mismatch place) ≡ Some place
  -- a refusal has the number at its bottom
  pub of_mount : refusal_number {R = ℕ} (Mount mount_rule.Offset) ≡ 51
  pub of_volume : refusal_number {R = ℕ} (Volume (volume.Rule 12 volume_rule.Sum)) ≡ 22
  pub of_volume_storage : refusal_number {R = ℕ} (Volume (volume.Storage 64 (storage.Refused place 7))) ≡ 10
  pub of_path : refusal_number {R = ℕ} (Path (path.Rule 2 path_rule.Component)) ≡ 40
  pub of_path_volume : refusal_number {R = ℕ} (Path (path.Volume 2 (volume.Rule 32 volume_rule.Name))) ≡ 31
  pub of_path_storage : refusal_number {R = ℕ} (Path (path.Volume 2 (volume.Storage 32 (storage.Mismatch place)))) ≡ 11
  -- and all the places on the way there
  pub at_mount : places_of {R = ℕ} (Mount mount_rule.Offset) ≡ record { path = None; volume = None; storage = None }
  pub at_volume : places_of {R = ℕ} (Volume (volume.Rule 12 volume_rule.Sum)) ≡ record { path = None; volume = Some 12; storage = None }
  pub at_volume_storage : places_of {R = ℕ} (Volume (volume.Storage 64 (storage.Refused place 7))) ≡ record { path = None; volume = Some 64; storage = Some place }
  pub at_path : places_of {R = ℕ} (Path (path.Rule 2 path_rule.Component)) ≡ record { path = Some 2; volume = None; storage = None }
  pub at_path_volume : places_of {R = ℕ} (Path (path.Volume 2 (volume.Rule 32 volume_rule.Name))) ≡ record { path = Some 2; volume = Some 32; storage = None }
  pub at_path_storage : places_of {R = ℕ} (Path (path.Volume 2 (volume.Storage 32 (storage.Mismatch place)))) ≡ record { path = Some 2; volume = Some 32; storage = Some place }
  -- the fault of the path check that one holds
  pub holds_none : holds {F = ℕ} (Path (path.Volume 2 (volume.Rule 32 volume_rule.Name))) ≡ None
  pub holds_volume : holds {F = ℕ} (Volume (volume.Storage 64 7)) ≡ Some 7
  pub holds_path : holds {F = ℕ} (Path (path.Volume 2 (volume.Storage 64 7))) ≡ Some 7
