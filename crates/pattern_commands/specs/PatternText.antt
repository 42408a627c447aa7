-- The text of a pattern, in each form in which commands print patterns.
use Rattle.std.specs.Prelude.{ℕ, List}
use Rattle.plane_core.specs.declared.plane.cell.Cell.{Cell}
use Rattle.plane_core.specs.Plaintext.{plain}
use Rattle.requests.specs.declared.form.PatternForm.{PatternForm}
use Rattle.requests.specs.declared.form.PatternForm.TheVariants.{Coordinates, Plaintext}
use Rattle.pattern_commands.specs.Coordinates.{coordinates_text}

-- the text of the pattern in this form
abbrev pub pattern_text : PatternForm → List Cell → List ℕ
pattern_text Plaintext cells = plain cells
pattern_text Coordinates cells = coordinates_text cells
