use Rattle.std.proofs.Common.{◌≡◌, ◌++◌, ◌-◌, drop, position, replicate, take}
use Rattle.std.specs.List.{position_from}
use Rattle.survey_core.specs.Seeds.{is_invisible}
use Rattle.survey_core.proofs.seed.Seed.new.Given as goal

abbrev pub invariant-loop-place : goal.invariant-loop-place
invariant-loop-place l = record {
  padded : l.padded ≡ take l.place l.bytes ++ replicate (64 - l.place) 0;
  seen : position_from is_invisible l.place (drop l.place l.bytes) ≡ position is_invisible l.bytes;
}
