use Rattle.std.proofs.Common.{◌≡◌, ◌≤◌, length, take}
use Rattle.survey_core.specs.Soups.{live_in_square}
use Rattle.survey_core.proofs.soup.soup_of_digest.Given as goal

abbrev pub invariant-loop-place : goal.invariant-loop-place
invariant-loop-place l = (length l.cells ≡ 256) × (l.count ≤ l.place) × (take l.count l.cells ≡ live_in_square l.digest l.place)
