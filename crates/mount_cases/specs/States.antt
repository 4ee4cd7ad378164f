-- The state after a call: whether it has begun, and how many handles are held.
use Rattle.std.specs.Prelude.{◌≡◌, [], codes}
use Rattle.calls.specs.Calls.{begin, open_file, read, whole, list, close, fresh}
use Rattle.images.specs.Reading.{then}
use Rattle.images.specs.Volumes.{v, volume_with, file_a}
use Rattle.mount_cases.specs.Calls.{holding, only_held}

pub record StateCases : Type 0 where
  -- begin sets what it answers, once; the handles stay
  pub begins : then v fresh begin ≡ holding 0
  pub begins_again : then v (holding 2) begin ≡ holding 2
  pub begin_keeps_held : then v (only_held 2) begin ≡ holding 2
  -- open adds one; whole and close take one
  pub opens : then v (holding 2) (open_file (codes "a")) ≡ holding 3
  pub last_handle : then v (holding 65534) (open_file (codes "a")) ≡ holding 65535
  pub whole_closes : then v (holding 2) (whole file_a 3) ≡ holding 1
  pub closes : then v (holding 2) (close file_a) ≡ holding 1
  -- read and list leave it
  pub reads : then v (holding 2) (read file_a 0 3) ≡ holding 2
  pub lists : then v (holding 2) (list [] 0 128) ≡ holding 2
  -- so does each refusal
  pub begin_refused : then (volume_with 0) (only_held 2) begin ≡ only_held 2
  pub open_refused : then v (holding 2) (open_file (codes "b")) ≡ holding 2
  pub all_held : then v (holding 65535) (open_file (codes "a")) ≡ holding 65535
  pub read_refused : then v (holding 2) (read file_a 4 1) ≡ holding 2
  pub whole_refused : then v (holding 2) (whole file_a 2) ≡ holding 2
  pub whole_unheld : then v (holding 0) (whole file_a 3) ≡ holding 0
  pub list_refused : then v (holding 2) (list [] 1 128) ≡ holding 2
  pub close_refused : then v (holding 0) (close file_a) ≡ holding 0
  pub not_begun : then v (only_held 2) (close file_a) ≡ only_held 2
