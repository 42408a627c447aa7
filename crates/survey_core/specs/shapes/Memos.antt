-- What a memo knows about a shape, and to which clusters this applies.
use Rattle.std.specs.Prelude.{◌≡◌, ℕ, ℤ, List}
use Rattle.plane_core.specs.declared.plane.cell.Cell.{Cell}
use Rattle.plane_core.specs.plane.Bounds.{shifted}
use Rattle.plane_core.specs.plane.Rules.{Numbers}
use Rattle.code_core.specs.Names.{IsCode}
use Rattle.survey_core.specs.declared.shapes.envelope_bounds.EnvelopeBounds.{EnvelopeBounds}
use Rattle.survey_core.specs.shapes.Envelopes.{IsEnvelope}

-- a fact about a shape: the shape, its envelope, and its apgcode, for a rule and a limit on the shape's period
pub record Fact : Type 0 where
  pub rule : Numbers
  pub limit : ℕ
  pub shape : List Cell
  pub envelope : EnvelopeBounds
  pub code : List ℕ

-- the fact is true: the envelope and the code are those of the shape
pub record IsKnown (fact : Fact) : Type 0 where
  pub enveloped : IsEnvelope fact.rule fact.limit fact.shape fact.envelope
  pub named : IsCode fact.rule fact.shape fact.limit fact.code

-- the fact is about this pattern: rule and limit are the same, and the shape, moved by `shift`, is the pattern
pub record IsAbout (rule : Numbers) (limit : ℕ) (cells : List Cell) (shift : ℤ × ℤ) (fact : Fact) : Type 0 where
  pub rule_is : fact.rule ≡ rule
  pub limit_is : fact.limit ≡ limit
  pub shape_is : shifted shift.0 shift.1 fact.shape ≡ cells
