use Rattle.std.proofs.Common.{◌≡◌, ◌+◌, List}
use Rattle.std.specs.String.{string_bytes}
use Rattle.plane_core.specs.declared.plane.cell.Cell.{Cell}
use Rattle.plane_core.specs.plane.Bounds.{at_corner}
use Rattle.plane_core.specs.plane.Cells.{distance}
use Rattle.code_core.specs.Columns.{IsBoxed}
use Rattle.code_core.proofs.JoinedStrips.{strips_text}
use Rattle.code_core.proofs.wechsler.text_in.Given as goal

-- the strips above strip k have been written
abbrev pub invariant-loop-k : goal.invariant-loop-k
invariant-loop-k l =
    (cells : List Cell) → IsBoxed l.bounds l.rows cells → string_bytes l.text ≡ strips_text (at_corner cells) (distance l.bounds.left l.bounds.right + 1) l.k
