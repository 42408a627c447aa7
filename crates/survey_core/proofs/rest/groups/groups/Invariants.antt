use Rattle.std.proofs.Common.{◌<◌, ℕ}
use Rattle.survey_core.specs.rest.Grouping.{AreNumbers, PairIsRight}
use Rattle.survey_core.proofs.rest.groups.groups.Given as goal

abbrev pub invariant-loop-place : goal.invariant-loop-place
invariant-loop-place l = record {
  numbers : AreNumbers l.envelopes l.groups.items;
  apart : (i j : ℕ) → j < i → i < l.place → PairIsRight l.horizon l.envelopes l.groups.items i j;
}
