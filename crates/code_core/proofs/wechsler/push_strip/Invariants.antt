use Rattle.std.proofs.Common.{◌≡◌, ◌+◌, ◌≤◌, ◌++◌, List}
use Rattle.std.specs.String.{string_bytes}
use Rattle.plane_core.specs.declared.plane.cell.Cell.{Cell}
use Rattle.plane_core.specs.plane.Bounds.{at_corner}
use Rattle.plane_core.specs.plane.Cells.{distance}
use Rattle.code_core.specs.Columns.{IsBoxed}
use Rattle.code_core.proofs.StripLemmas.{remainder_text}
use Rattle.code_core.proofs.wechsler.push_strip.Given as goal

-- the text so far, followed by the strip's text that is still to be written, is the text at the start, followed by the
-- strip's whole text
abbrev pub invariant-loop-x : goal.invariant-loop-x
invariant-loop-x l =
    (l.gap ≤ l.x) × ((cells : List Cell) → IsBoxed l.bounds l.rows cells
    → string_bytes l.text ++ remainder_text (at_corner cells) (distance l.bounds.left l.bounds.right + 1) l.k l.gap l.x
    ≡ string_bytes l.initial.text ++ remainder_text (at_corner cells) (distance l.bounds.left l.bounds.right + 1) l.k 0 0)
