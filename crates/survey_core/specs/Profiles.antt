-- Profiles: the four numbers that say when a pattern counts as settled.
use Rattle.std.specs.Prelude.{◌≡◌, ◌*◌, ◌≤◌, ◌&&◌, ℕ, Bool, not, Result, Ok, Err, nat_le, if◌then◌else◌}
use Rattle.survey_core.specs.declared.profile.ProfileError.{ProfileError}
use Rattle.survey_core.specs.declared.profile.ProfileError.TheVariants as error

-- the numbers of a profile, in generations
pub record Settling : Type 0 where
  -- the longest period that a cluster of a settled pattern may have
  pub period : ℕ
  -- for how many generations the clusters of a settled pattern must keep apart
  pub horizon : ℕ
  -- the distance between checkpoints
  pub stride : ℕ
  -- the last generation that may be a checkpoint
  pub limit : ℕ

-- the ranges of the four numbers: this project's choice
pub record IsProfile (profile : Settling) : Type 0 where
  pub some : 1 ≤ profile.period
  pub period : profile.period ≤ 64
  pub ahead : profile.period ≤ profile.horizon
  pub horizon : profile.horizon ≤ 4096
  pub onward : 1 ≤ profile.stride
  pub stride : profile.stride ≤ 10000
  pub limit : profile.limit ≤ 100000

-- n is at least `least` and at most `most`
abbrev pub is_from_to : ℕ → ℕ → ℕ → Bool
is_from_to least most n = nat_le least n && nat_le n most

-- the profile with these four numbers, or an error that names the first number that is outside its range
abbrev pub profile_of : Settling → Result Settling ProfileError
profile_of p =
    if not (is_from_to 1 64 p.period) then Err error.Period
    else if not (is_from_to p.period 4096 p.horizon) then Err error.Horizon
    else if not (is_from_to 1 10000 p.stride) then Err error.Stride
    else if not (nat_le p.limit 100000) then Err error.Limit
    else Ok p

-- the default profile
abbrev pub standard : Settling
standard = record { period = 64; horizon = 512; stride = 101; limit = 30300 }

-- the checkpoints: the generations 0, the stride, twice the stride and so on, up to the limit
pub record IsCheckpoint (profile : Settling) (t : ℕ) : Type 0 where
  pub place : ℕ
  pub is : t ≡ place * profile.stride
  pub within : t ≤ profile.limit
