-- Active boxes: each cell that isn't within 2 of a box is the same two generations later. Windows cover the boxes.
use Rattle.std.specs.Prelude.{◌≡◌, ◌≢◌, ◌<◌, ◌≤◌, ℕ, true, List, Option, Any, IsSomeAnd, unsigned_abs}
use Rattle.std.specs.Int.{bit_at}
use Rattle.plane_core.specs.declared.plane.bounds.Bounds.{Bounds}
use Rattle.plane_core.specs.declared.plane.cell.Cell.{Cell}
use Rattle.plane_core.specs.declared.engine.difference_box.BitSpan.{BitSpan}
use Rattle.plane_core.specs.declared.engine.leap_window.LeapWindow.{LeapWindow}
use Rattle.plane_core.specs.plane.Bounds.{IsWithin, enlarged}
use Rattle.plane_core.specs.plane.Cells.{has}
use Rattle.plane_core.specs.plane.Generations.{after}
use Rattle.plane_core.specs.engine.LeapWindows.{IsCovered, IsInnerCell}
use Rattle.plane_core.specs.plane.Rules.{Numbers}

-- how far from the origin a side of a box may be; every board lies within this bound
abbrev pub box_bound : ℕ
box_bound = 8388608

-- how far from the origin a side of a rectangle around united boxes may be: `box_bound` and a margin of four
abbrev pub rectangle_bound : ℕ
rectangle_bound = 8388612

-- the window begins so near to the origin that each box inside the window has its sides within `box_bound`
pub record IsInReach (p : LeapWindow) : Type 0 where
  pub left : unsigned_abs p.left ≤ 6291456
  pub top : unsigned_abs p.top ≤ 6291456

-- the cell is in one of the boxes
abbrev pub IsInOne : List Bounds → Cell → Type 0
IsInOne boxes c = Any (λ b. IsWithin b c) boxes

-- the cell is within n columns and rows of one of the boxes
abbrev pub IsNearOne : ℕ → List Bounds → Cell → Type 0
IsNearOne n boxes c = Any (λ b. IsWithin (enlarged n b) c) boxes

-- the boxes `later` are wider: for each n, a cell within n of one of `boxes` is also within n of one of `later`
abbrev pub AreWider : List Bounds → List Bounds → Type 0
AreWider boxes later = (n : ℕ) (c : Cell) → IsNearOne n boxes c → IsNearOne n later c

-- each cell that isn't within 2 of a box is the same two generations later
abbrev pub IsQuiet : Numbers → List Cell → List Bounds → Type 0
IsQuiet rule cells boxes = (c : Cell) → ¬ IsNearOne 2 boxes c → has (after rule cells 2) c ≡ has cells c

-- each live cell is in a box
abbrev pub HoldAll : List Bounds → List Cell → Type 0
HoldAll boxes cells = (c : Cell) → has cells c ≡ true → IsInOne boxes c

-- each cell within 4 of a box is in the inner part of a window
abbrev pub AreCovered : List LeapWindow → List Bounds → Type 0
AreCovered places boxes = (c : Cell) → IsNearOne 4 boxes c → IsCovered places c

-- each bit of the word that is 1 is between the first and the last bit of the span, which are below 64
pub record HasBits (word : ℕ) (span : BitSpan) : Type 0 where
  pub first : (i : ℕ) → bit_at word i ≡ 1 → span.first ≤ i
  pub last : (i : ℕ) → bit_at word i ≡ 1 → i ≤ span.last
  pub order : span.first ≤ span.last
  pub high : span.last < 64

-- if the two patterns differ in an inner cell of the window, a box was found, and the cell is in the box
abbrev pub HoldsDifference : LeapWindow → List Cell → List Cell → Option Bounds → Type 0
HoldsDifference p one other found = (c : Cell) → IsInnerCell p c → has one c ≢ has other c → IsSomeAnd found (λ b. IsWithin b c)

-- if the two patterns differ in a cell of a window's inner part, the cell is in one of the boxes
abbrev pub HoldDifferences : List LeapWindow → List Cell → List Cell → List Bounds → Type 0
HoldDifferences places one other boxes = (c : Cell) → IsCovered places c → has one c ≢ has other c → IsInOne boxes c
