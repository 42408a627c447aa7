-- A cluster: all cells that can be reached from one cell of a pattern over its cells, in steps of king distance 1 or 2.
use Rattle.std.specs.Prelude.{◌≡◌, ◌≤◌, true, false, ◌↔◌, List, [], ◌∷◌, All, Any, AllPairs, ℤ, map}
use Rattle.plane_core.specs.declared.plane.cell.Cell.{Cell}
use Rattle.std.specs.declared.cmp.Ordering.TheVariants.{Less}
use Rattle.std.specs.List.{list_any}
use Rattle.plane_core.specs.plane.Bounds.{shifted}
use Rattle.plane_core.specs.plane.Cells.{InOrder, cell_cmp, king_distance, has}

-- a path from c, which isn't listed, to d: each cell is in the pattern, at king distance at most 2 from the cell before
abbrev pub Leads : List Cell → Cell → List Cell → Cell → Type 0
Leads cells c [] d = c ≡ d
Leads cells c (e ∷ es) d = (has cells e ≡ true) × (king_distance c e ≤ 2) × Leads cells e es d

-- c and d are linked: both are cells of the pattern, and some path leads from c to d
pub record Linked (cells : List Cell) (c d : Cell) : Type 0 where
  pub start : has cells c ≡ true
  pub path : List Cell
  pub leads : Leads cells c path d

-- a cluster: all cells that are linked to a start cell, in order
pub record IsCluster (cells cluster : List Cell) : Type 0 where
  pub in_order : InOrder cluster
  pub start : Cell
  pub has_start : has cells start ≡ true
  pub members : (d : Cell) → (has cluster d ≡ true) ↔ Linked cells start d

-- both lists are nonempty, and the first cell of the left list comes before the first cell of the right list
abbrev pub FirstBefore : List Cell → List Cell → Type 0
FirstBefore [] ds = ⊥
FirstBefore (c ∷ cs) [] = ⊥
FirstBefore (c ∷ cs) (d ∷ ds) = cell_cmp c d ≡ Less

-- all clusters of the pattern, each once, ordered by their first cells
pub record AreClusters (cells : List Cell) (clusters : List (List Cell)) : Type 0 where
  pub each : All (IsCluster cells) clusters
  pub every : (c : Cell) → has cells c ≡ true → Any (λ cluster. has cluster c ≡ true) clusters
  pub in_order : AllPairs FirstBefore clusters

-- R is an equivalence relation on the cells of the pattern
pub record IsEquivalenceOn (cells : List Cell) (R : Cell → Cell → Type 0) : Type 0 where
  pub itself : (c : Cell) → has cells c ≡ true → R c c
  pub back : (c d : Cell) → R c d → R d c
  pub onward : (c d e : Cell) → R c d → R d e → R c e

-- being linked is an equivalence relation
abbrev pub LinkedIsAnEquivalence : Type 0
LinkedIsAnEquivalence = (cells : List Cell) → IsEquivalenceOn cells (Linked cells)

-- each cell of one cluster is at king distance 3 or more from each cell of the other
abbrev pub LieApart : List Cell → List Cell → Type 0
LieApart a b = (c d : Cell) → has a c ≡ true → has b d ≡ true → 3 ≤ king_distance c d

-- the clusters are a partition: no two of them share a cell, and together they are the pattern
pub record Partition (cells : List Cell) (clusters : List (List Cell)) : Type 0 where
  pub disjoint : AllPairs (λ a b. (c : Cell) → has a c ≡ true → has b c ≡ false) clusters
  pub union : (c : Cell) → list_any (λ cluster. has cluster c) clusters ≡ has cells c

-- the clusters of a pattern are a partition of it
abbrev pub ClustersPartition : Type 0
ClustersPartition = (cells : List Cell) (clusters : List (List Cell)) → AreClusters cells clusters → Partition cells clusters

-- cells of different clusters are at king distance 3 or more
abbrev pub ClustersLieApart : Type 0
ClustersLieApart = (cells : List Cell) (clusters : List (List Cell)) → AreClusters cells clusters → AllPairs LieApart clusters

-- a pattern has only one list of clusters
abbrev pub ClustersAreDetermined : Type 0
ClustersAreDetermined = (cells : List Cell) (one other : List (List Cell)) → AreClusters cells one → AreClusters cells other → one ≡ other

-- moving a pattern moves each of its clusters by the same amount
abbrev pub ClustersMoveAlong : Type 0
ClustersMoveAlong = (dx dy : ℤ) (cells : List Cell) (clusters : List (List Cell)) → AreClusters cells clusters
    → AreClusters (shifted dx dy cells) (map (shifted dx dy) clusters)
