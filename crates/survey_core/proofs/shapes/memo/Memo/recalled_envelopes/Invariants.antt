use Rattle.std.proofs.Common.{take}
use Rattle.survey_core.specs.shapes.Envelopes.{AreEnvelopes}
use Rattle.survey_core.proofs.shapes.memo.Memo.recalled_envelopes.Given as goal

abbrev pub invariant-loop-pattern : goal.invariant-loop-pattern
invariant-loop-pattern l = AreEnvelopes l.rule l.limit (take l.pattern-index l.patterns) l.envelopes.items
