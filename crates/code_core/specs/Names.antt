-- The apgcodes of patterns that recur (LifeWiki, "Apgcode").
use Rattle.std.specs.Prelude.{◌≡◌, ◌≢◌, ◌==◌, ◌<◌, ◌^◌, ◌&&◌, ℕ, ℤ, pos, List, [], Option, None, Some, length, if◌then◌else◌}
use Rattle.std.specs.declared.cmp.Ordering.{Ordering}
use Rattle.std.specs.declared.cmp.Ordering.TheVariants.{Equal, Greater}
use Rattle.std.specs.Ordering.{ordering_then, nat_cmp, int_eq}
use Rattle.std.specs.Cmp.Lexicographic.{slice_cmp}
use Rattle.plane_core.specs.declared.plane.cell.Cell.{Cell}
use Rattle.plane_core.specs.declared.plane.orientation.Orientation.{Orientation}
use Rattle.plane_core.specs.plane.Bounds.{shifted}
use Rattle.plane_core.specs.plane.Cells.{InOrder}
use Rattle.plane_core.specs.plane.Generations.{after}
use Rattle.plane_core.specs.plane.Orientations.{turned}
use Rattle.plane_core.specs.plane.Rules.{Numbers}
use Rattle.code_core.specs.declared.recurrence.Recurrence.{Recurrence}
use Rattle.code_core.specs.declared.apgcode.Kind.{Kind}
use Rattle.code_core.specs.declared.apgcode.Kind.TheVariants.{Still, Oscillator, Ship}
use Rattle.code_core.specs.Apgcodes.{HasCodeShape, code_text}
use Rattle.code_core.specs.Recurrences.{Recurs}
use Rattle.code_core.specs.Texts.{text}

-- the order of texts: shorter texts come first, and texts of the same length are in ASCII order
abbrev pub text_cmp : List ℕ → List ℕ → Ordering
text_cmp a b = ordering_then (nat_cmp (length a) (length b)) (slice_cmp nat_cmp a b)

-- two texts are equal if neither comes before the other
abbrev pub OnlyEqualTextsTie : Type 0
OnlyEqualTextsTie = (a b : List ℕ) → text_cmp a b ≡ Equal → a ≡ b

-- t is the text, in some orientation, of one of the generations 0 to period - 1 of the pattern
pub record IsImageText (rule : Numbers) (cells : List Cell) (period : ℕ) (t : List ℕ) : Type 0 where
  pub phase : ℕ
  pub orientation : Orientation
  pub within : phase < period
  pub is : text (turned orientation (after rule cells phase)) ≡ Some t

-- the least of some texts: none of the others comes before it; `None` if there are no texts
abbrev pub IsLeastOf : (List ℕ → Type 0) → Option (List ℕ) → Type 0
IsLeastOf IsOne None = (t : List ℕ) → ¬ IsOne t
IsLeastOf IsOne (Some least) = IsOne least × ((t : List ℕ) → IsOne t → text_cmp least t ≢ Greater)

-- the kind of an object: a still life doesn't change, an oscillator recurs in place, and a spaceship recurs elsewhere
abbrev pub kind_of : Recurrence → Kind
kind_of r =
    if int_eq r.dx (pos 0) && int_eq r.dy (pos 0)
    then (if r.period == 1 then Still else Oscillator)
    else Ship

-- the number in an apgcode: the population of a still life, or the period of any other object
abbrev pub number_of : Kind → List Cell → Recurrence → ℕ
number_of Still cells r = length cells
number_of Oscillator cells r = r.period
number_of Ship cells r = r.period

-- the apgcode of a pattern that recurs within the limit: its kind, its number and the least text of its phases in all
-- orientations
pub record IsCode (rule : Numbers) (cells : List Cell) (limit : ℕ) (code : List ℕ) : Type 0 where
  pub recurrence : Recurrence
  pub recurs : Recurs rule cells limit recurrence
  pub least : Option (List ℕ)
  pub is_least : IsLeastOf (IsImageText rule cells recurrence.period) least
  pub spelled : code ≡ code_text (kind_of recurrence) (number_of (kind_of recurrence) cells recurrence) least

-- a pattern that isn't empty has at most one apgcode under a rule and a limit
abbrev pub CodesAreDetermined : Type 0
CodesAreDetermined = (rule : Numbers) (cells : List Cell) (limit : ℕ) (one other : List ℕ)
    → cells ≢ [] → IsCode rule cells limit one → IsCode rule cells limit other → one ≡ other

-- a pattern that is moved keeps its apgcode
abbrev pub CodesMoved : Type 0
CodesMoved = (dx dy : ℤ) (rule : Numbers) (cells : List Cell) (limit : ℕ) (code : List ℕ)
    → InOrder cells → IsCode rule cells limit code → IsCode rule (shifted dx dy cells) limit code

-- an apgcode has 1 to 400 bytes of `a` to `z`, `0` to `9` and `_`, if the population and the limit fit in 64 bits
abbrev pub CodesHaveTheirShape : Type 0
CodesHaveTheirShape = (rule : Numbers) (cells : List Cell) (limit : ℕ) (code : List ℕ)
    → length cells < 2 ^ 64 → limit < 2 ^ 64 → IsCode rule cells limit code → HasCodeShape code
