-- The envelope of a pattern that recurs: a box in which all its phases lie, and which moves along with it.
use Rattle.std.specs.Prelude.{◌≡◌, ◌+◌, ◌*◌, ◌+ℤ◌, ◌<◌, ◌≤◌, ◌⊎◌, ◌||◌, ◌&&◌, Bool, true, int_le, int_lt, ℕ, ℤ, zero, suc, pos, List, All, get_or, length}
use lib.IntN.{◌-ℤ◌}
use Rattle.plane_core.specs.declared.plane.cell.Cell.{Cell}
use Rattle.plane_core.specs.declared.plane.bounds.Bounds.{Bounds}
use Rattle.survey_core.specs.declared.shapes.envelope_bounds.Gaps.{Gaps}
use Rattle.plane_core.specs.plane.Bounds.{IsWithin, shifted}
use Rattle.plane_core.specs.plane.Cells.{InOrder}
use Rattle.plane_core.specs.clusters.Clusters.{LieApart}
use Rattle.plane_core.specs.plane.Generations.{after}
use Rattle.plane_core.specs.plane.Rules.{Numbers}
use Rattle.code_core.specs.Recurrences.{Recurs}
use Rattle.survey_core.specs.declared.shapes.envelope_bounds.EnvelopeBounds.{EnvelopeBounds}

-- n times d
abbrev pub times : ℕ → ℤ → ℤ
times zero d = pos 0
times (suc n) d = times n d +ℤ d

-- the envelope of a pattern: how the pattern recurs, and a box in which it lies in each generation of its first period
pub record IsEnvelope (rule : Numbers) (limit : ℕ) (cells : List Cell) (envelope : EnvelopeBounds) : Type 0 where
  pub in_order : InOrder cells
  pub recurs : Recurs rule cells limit envelope.recurrence
  pub within : (g : ℕ) → g < envelope.recurrence.period → All (IsWithin envelope.bounds) (after rule cells g)

-- the envelopes of some patterns, one for each
pub record AreEnvelopes (rule : Numbers) (limit : ℕ) (parts : List (List Cell)) (envelopes : List EnvelopeBounds) : Type 0 where
  pub count : length envelopes ≡ length parts
  pub each : (i : ℕ) (d : List Cell) (e : EnvelopeBounds) → i < length parts → IsEnvelope rule limit (get_or parts i d) (get_or envelopes i e)

-- a cycle of `period` generations suits an envelope: the envelope's recurrence has this period, or its displacement is
-- (0, 0)
abbrev pub Serves : ℕ → EnvelopeBounds → Type 0
Serves period envelope = (period ≡ envelope.recurrence.period) ⊎ ((envelope.recurrence.dx ≡ pos 0) × (envelope.recurrence.dy ≡ pos 0))

-- `begin`, moved by s, lies more than two past `end`, moved by t
abbrev pub is_past : ℤ → ℤ → ℤ → ℤ → Bool
is_past end t begin s = int_lt ((end +ℤ t) +ℤ pos 2) (begin +ℤ s)

-- for each side of box `one`: whether box `other`, moved by (x, y), lies beyond this side, with at least two columns or
-- rows between the boxes
abbrev pub gaps_of : Bounds → Bounds → ℤ → ℤ → Gaps
gaps_of one other x y = record {
  right = is_past one.right (pos 0) other.left x;
  left = is_past other.right x one.left (pos 0);
  below = is_past one.bottom (pos 0) other.top y;
  above = is_past other.bottom y one.top (pos 0);
}

-- there is a gap
abbrev pub is_gap : Gaps → Bool
is_gap gaps = gaps.right || gaps.left || gaps.below || gaps.above

-- there is a gap that no step by (dx, dy) narrows
abbrev pub gap_stays : Gaps → ℤ → ℤ → Bool
gap_stays gaps dx dy = gaps.right && int_le (pos 0) dx || gaps.left && int_le dx (pos 0) || gaps.below && int_le (pos 0) dy || gaps.above && int_le dy (pos 0)

-- box `one` and box `other`, which is moved by (x, y), are clear of each other: there is a gap
abbrev pub is_clear : Bounds → Bounds → ℤ → ℤ → Bool
is_clear one other x y = is_gap (gaps_of one other x y)

-- the boxes, moving with their patterns, are clear of each other at the beginning of each of the first `cycles` cycles
abbrev pub StayClear : ℕ → EnvelopeBounds → EnvelopeBounds → Type 0
StayClear cycles one other = (n : ℕ) → n < cycles → is_clear one.bounds other.bounds (times n (other.recurrence.dx -ℤ one.recurrence.dx))
    (times n (other.recurrence.dy -ℤ one.recurrence.dy)) ≡ true

-- If patterns with these envelopes are at king distance 3 or more, they stay so up to the horizon, each run alone.
abbrev pub StayApart : ℕ → EnvelopeBounds → EnvelopeBounds → Type 0
StayApart horizon one other = (rule : Numbers) (limit : ℕ) (cells others : List Cell) → IsEnvelope rule limit cells one → IsEnvelope rule limit others other
    → LieApart cells others → (g : ℕ) → g ≤ horizon → LieApart (after rule cells g) (after rule others g)

-- a pattern with this envelope is a still life
abbrev pub IsStillLife : EnvelopeBounds → Type 0
IsStillLife envelope = (envelope.recurrence.period ≡ 1) × (envelope.recurrence.dx ≡ pos 0) × (envelope.recurrence.dy ≡ pos 0)

-- if generation p is the pattern moved by (dx, dy), generation n * p + r is generation r moved n times by (dx, dy)
abbrev pub SpaceshipsMoveByCycles : Type 0
SpaceshipsMoveByCycles = (rule : Numbers) (cells : List Cell) (p : ℕ) (dx dy : ℤ) → InOrder cells → after rule cells p ≡ shifted dx dy cells → (n r : ℕ)
    → after rule cells (n * p + r) ≡ shifted (times n dx) (times n dy) (after rule cells r)
