use Rattle.std.proofs.Common.{◌≡◌, List, ℕ, take}
use Rattle.std.specs.Map.{lookup}
use Rattle.survey_core.specs.shapes.Objects.{is_code}
use Rattle.haul_core.specs.RowSteps.{with_objects}
use Rattle.haul_core.specs.Scores.{found_score}
use Rattle.haul_core.proofs.book.census_rows.with_objects.Given as goal

abbrev pub invariant-loop-index : goal.invariant-loop-index
invariant-loop-index l = (code : List ℕ) → lookup (is_code code) l.kept.entries ≡ with_objects (found_score (take l.index l.scores.entries) code)
