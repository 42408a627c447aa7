use Rattle.std.proofs.Common.{◌≡◌, ◌≤◌, ℕ, map}
use Rattle.survey_core.specs.rest.Alone.{alone_at, clusters_of}
use Rattle.survey_core.specs.rest.Groups.{union_of}
use Rattle.survey_core.specs.rest.Rest.{KeepApart}
use Rattle.survey_core.proofs.rest.keep_apart.Given as goal

abbrev pub invariant-loop : goal.invariant-loop
invariant-loop l = record {
  alone : l.clusters ≡ map (alone_at l.rule l.counter) (clusters_of l.fn.clusters);
  apart : (k : ℕ) → k ≤ l.counter → KeepApart l.rule (union_of (clusters_of l.fn.clusters)) (clusters_of l.fn.clusters) k;
}
