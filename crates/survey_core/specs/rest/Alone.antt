-- Clusters that are run alone.
use Rattle.std.specs.Prelude.{◌<◌, ℕ, List, get_or, map}
use Rattle.plane_core.specs.declared.plane.cell.Cell.{Cell}
use Rattle.plane_core.specs.clusters.Clusters.{LieApart}
use Rattle.plane_core.specs.plane.Generations.{after, next}
use Rattle.plane_core.specs.plane.Rules.{Numbers}
use Rattle.survey_core.specs.declared.rest.alone.Alone.{Alone}

-- a cluster, its next generation, and the cluster g generations later
abbrev pub alone_at : Numbers → ℕ → List Cell → Alone
alone_at rule g cluster = record { cluster = cluster; first = next rule cluster; latest = after rule cluster g }

-- a cluster that is run alone, one generation further
abbrev pub stepped : Numbers → Alone → Alone
stepped rule alone = record { cluster = alone.cluster; first = alone.first; latest = next rule alone.latest }

-- the clusters as they were at first
abbrev pub clusters_of : List Alone → List (List Cell)
clusters_of list = map (λ alone. alone.cluster) list

-- the clusters as they are now
abbrev pub latest_of : List Alone → List (List Cell)
latest_of list = map (λ alone. alone.latest) list

-- the cluster at place n is now more than two cells away from each of the first m clusters
abbrev pub LiesApartFrom : ℕ → ℕ → List Alone → Type 0
LiesApartFrom n m list = (i : ℕ) (d : Alone) → i < m → LieApart (get_or list i d).latest (get_or list n d).latest
