use Rattle.std.proofs.Common.{◌++◌, List, take}
use Rattle.plane_core.specs.declared.plane.cell.Cell.{Cell}
use Rattle.survey_core.specs.shapes.Envelopes.{AreEnvelopes}
use Rattle.survey_core.proofs.shapes.memo.Memo.other_envelopes.Given as goal

abbrev pub invariant-loop-pattern : goal.invariant-loop-pattern
invariant-loop-pattern l = (first : List (List Cell)) → AreEnvelopes l.rule l.limit first l.fn.known.items
    → AreEnvelopes l.rule l.limit (first ++ take l.pattern-index l.others) l.envelopes.items
