use Rattle.std.proofs.Common.{take}
use Rattle.std.specs.List.{All}
use Rattle.haul_core.specs.Scores.{Extends, HasScore}
use Rattle.haul_core.proofs.book.scores.make_each_score.Given as goal

abbrev pub invariant-loop-object : goal.invariant-loop-object
invariant-loop-object l = record {
  extends : Extends l.fn.scores.entries l.scores.entries;
  scores : All (λ object. HasScore l.scores.entries object.0) (take l.object-index l.objects);
}
