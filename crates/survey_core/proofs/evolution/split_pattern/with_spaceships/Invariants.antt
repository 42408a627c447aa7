use Rattle.std.proofs.Common.{◌≡◌, take}
use Rattle.survey_core.specs.evolution.SplitPatterns.{whole_at}
use Rattle.survey_core.proofs.evolution.split_pattern.with_spaceships.Given as goal

abbrev pub invariant-loop-spaceship : goal.invariant-loop-spaceship
invariant-loop-spaceship l = l.whole ≡ whole_at l.rule l.time l.fn.board (take l.spaceship-index l.spaceships)
