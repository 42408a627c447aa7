use Rattle.std.proofs.Common.{◌≡◌, ℕ, List, length, sum, take}
use Rattle.std.specs.List.{AllZip, count_by}
use Rattle.std.specs.Map.{values_of}
use Rattle.code_core.specs.Names.{IsCode}
use Rattle.survey_core.specs.shapes.Objects.{CountsAreSome, count_of, is_code}
use Rattle.survey_core.proofs.shapes.objects.Objects.of_clusters.Given as goal

abbrev pub invariant-loop-cluster : goal.invariant-loop-cluster
invariant-loop-cluster l = (codes : List (List ℕ)) × (AllZip (λ cluster code. IsCode l.rule cluster l.limit code) (take l.cluster-index l.clusters) codes)
    × (length codes ≡ l.cluster-index)
    × ((code : List ℕ) → count_of l.counts.entries code ≡ count_by (is_code code) codes)
    × CountsAreSome l.counts.entries
    × (sum (values_of l.counts.entries) ≡ l.cluster-index)
