use Rattle.std.proofs.Common.{◌<◌, ℕ}
use Rattle.survey_core.specs.rest.Grouping.{AreNumbers, Coarser, PairIsRight}
use Rattle.survey_core.proofs.rest.groups.join.Given as goal

abbrev pub invariant-loop-other : goal.invariant-loop-other
invariant-loop-other l = record {
  numbers : AreNumbers l.envelopes l.groups;
  coarser : Coarser l.fn.groups l.groups;
  apart : (j : ℕ) → j < l.other → PairIsRight l.horizon l.envelopes l.groups l.place j;
}
