-- Laws of apgcodes: all forms of an object have the same code, and a code with a Wechsler text stands for one object.
use Rattle.std.specs.Prelude.{◌≡◌, ℕ, List, Some}
use Rattle.plane_core.specs.declared.plane.cell.Cell.{Cell}
use Rattle.plane_core.specs.declared.plane.orientation.Orientation.{Orientation}
use Rattle.plane_core.specs.plane.Bounds.{at_corner}
use Rattle.plane_core.specs.plane.Cells.{InOrder}
use Rattle.plane_core.specs.plane.Generations.{after}
use Rattle.plane_core.specs.plane.Orientations.{turned}
use Rattle.plane_core.specs.plane.Rules.{Numbers}
use Rattle.code_core.specs.Names.{IsCode}

-- a pattern that is turned or mirrored keeps its apgcode
abbrev pub CodesTurned : Type 0
CodesTurned = (o : Orientation) (rule : Numbers) (cells : List Cell) (limit : ℕ) (code : List ℕ)
    → InOrder cells → IsCode rule cells limit code → IsCode rule (turned o cells) limit code

-- each later generation of a pattern has the apgcode of the pattern
abbrev pub CodesLater : Type 0
CodesLater = (g : ℕ) (rule : Numbers) (cells : List Cell) (limit : ℕ) (code : List ℕ)
    → InOrder cells → IsCode rule cells limit code → IsCode rule (after rule cells g) limit code

-- two patterns are one object: the second pattern is equal to some generation of the first one, after that generation
-- is moved and possibly turned or mirrored
pub record IsOneObject (rule : Numbers) (cells others : List Cell) : Type 0 where
  pub generation : ℕ
  pub orientation : Orientation
  pub is : turned orientation (after rule cells generation) ≡ at_corner others

-- two patterns with the same apgcode are one object, if the apgcode contains a Wechsler text
abbrev pub CodesAreFaithful : Type 0
CodesAreFaithful = (rule : Numbers) (cells others : List Cell) (limit more : ℕ) (code t : List ℕ) → InOrder cells → InOrder others
    → (named : IsCode rule cells limit code) → named.least ≡ Some t → IsCode rule others more code → IsOneObject rule cells others
