-- How the rows of a census are made from the scores of its codes.
use Rattle.std.specs.Prelude.{◌≡◌, ℕ, All, IsSome, List, Option, None, Some, nat_lt, true, if◌then◌else◌}
use Rattle.std.specs.List.{list_any}
use Rattle.survey_core.specs.shapes.Objects.{is_code}
use Rattle.haul_core.specs.Rows.{AreInOrder, codes_of}
use Rattle.haul_core.specs.Scores.{found_score}
use Rattle.haul_core.specs.declared.book.census_rows.Row.{Row}
use Rattle.haul_core.specs.declared.book.scores.Score.{Score}

-- the score, if its total isn't 0
abbrev pub with_objects : Option Score → Option Score
with_objects None = None
with_objects (Some score) = if nat_lt 0 score.total then Some score else None

-- a score as the row of its code
abbrev pub row_from : List ℕ → Score → Row
row_from code score = record { code = code; total = score.total; samples = score.samples }

-- rows for the codes whose totals aren't 0, in ASCII order
pub record AreRowsFrom (scores : List (List ℕ × Score)) (rows : List Row) : Type 0 where
  pub in_order : AreInOrder rows
  pub each : All (λ row. with_objects (found_score scores row.code) ≡ Some (record { total = row.total; samples = row.samples })) rows
  pub whole : (code : List ℕ) → IsSome (with_objects (found_score scores code)) → list_any (is_code code) (codes_of rows) ≡ true
