-- Patterns under a map of cells that keeps distances, such as a move or a turn: generations, clusters and partitions.
use Rattle.std.proofs.Common.{◌≡◌, ◌∙◌, ap, sym, refl, subst, ℕ, zero, suc, ◌<◌, true, ◌||◌, List, [], ◌∷◌, All, map, length, get_or, arith}
use Rattle.std.specs.Cmp.{both_ways as both_true}
use Rattle.std.specs.List.{list_any}
use Rattle.std.specs.List.Sorted.{IsPermutation}
use Rattle.std.proofs.lemmas.List.{get_or-map, length-map}
use Rattle.std.proofs.lemmas.List.Concat.{length-flat_map}
use Rattle.std.proofs.lemmas.List.Elements.{All-map}
use Rattle.std.proofs.lemmas.List.Folds.{Any-from_list_any}
use Rattle.std.proofs.lemmas.List.Sorted.{All-permutation, list_any-IsPermutation, sum_by-IsPermutation}
use Rattle.plane_core.specs.declared.plane.cell.Cell.{Cell}
use Rattle.plane_core.specs.plane.Cells.{InOrder, has, king_distance, set_of}
use Rattle.plane_core.specs.clusters.Clusters.{AreClusters, IsCluster, Leads, Linked, Partition}
use Rattle.plane_core.specs.plane.Generations.{after, next}
use Rattle.plane_core.specs.plane.Rules.{Numbers}
use Rattle.plane_core.proofs.lemmas.clusters.ClusterLaws.{partition_law}
use Rattle.plane_core.proofs.lemmas.plane.CommuteLemmas.{IsRigid, next-rigid}
use Rattle.plane_core.proofs.lemmas.plane.GenerationLemmas.{after-none}
use Rattle.plane_core.proofs.lemmas.plane.OrientationLemmas.{has-map, has-map_from}
use Rattle.plane_core.proofs.lemmas.plane.SetLemmas.{has-set_of, in_order-set_of, is_set_of, same_lists}
use Rattle.code_core.proofs.MovedCodes.{after-suc, in_order-after}
use Rattle.survey_core.proofs.lemmas.PartitionLemmas.{has-joined, joined, length-partition, partition_from}
use Rattle.survey_core.proofs.lemmas.rest.RestLemmas.{cluster_some}
use Rattle.laws.proofs.SortedClusters.{first, sorted, sorted-permutes, sorted_in_order}

-- the parts of a partition form a partition in any order
pub partition-permuted : (whole : List Cell) (parts others : List (List Cell)) → InOrder whole → All InOrder parts → IsPermutation parts others
    → Partition whole parts → Partition whole others
partition-permuted whole parts others order orders same is =
    partition_from whole others
    (length-flat_map (λ (part : List Cell). part) others ∙ sum_by-IsPermutation (λ (part : List Cell). length part) parts others same
    ∙ sym (length-flat_map (λ (part : List Cell). part) parts) ∙ length-partition whole parts order orders is)
    (sym (is_set_of whole (joined others) order
    (λ c. sym (has-joined others c ∙ sym (list_any-IsPermutation (λ (part : List Cell). has part c) parts others same) ∙ is.union c))))

-- the image of a pattern under a map of cells
abbrev pub image_by : (Cell → Cell) → List Cell → List Cell
image_by f cells = set_of (map f cells)

pub inverse : (f g : Cell → Cell) → IsRigid f g → IsRigid g f
inverse f g rigid = record {
  there = rigid.back;
  back = rigid.there;
  keeps = λ a b. sym (rigid.keeps (g a) (g b)) ∙ (λ i. king_distance (rigid.there a i) (rigid.there b i));
}

module _ (f g : Cell → Cell) (rigid : IsRigid f g) where
  pub has-image : (cells : List Cell) (c : Cell) → has (image_by f cells) c ≡ has cells (g c)
  has-image cells c = has-set_of (map f cells) c ∙ both_true (has (map f cells) c) (has cells (g c))
      (λ h. let d = has-map_from f cells c h in subst (λ (x : Cell). has cells x ≡ true) (sym (ap g d.2 ∙ rigid.back d.0)) d.1)
      (λ h. subst (λ (x : Cell). has (map f cells) x ≡ true) (rigid.there c) (has-map f cells (g c) h))

  has-image_there : (cells : List Cell) (c : Cell) → has (image_by f cells) (f c) ≡ has cells c
  has-image_there cells c = has-image cells (f c) ∙ ap (has cells) (rigid.back c)

  -- the generations of an image are the images of the generations
  pub after-image : (rule : Numbers) (cells : List Cell) (n : ℕ) → InOrder cells → after rule (image_by f cells) n ≡ image_by f (after rule cells n)
  after-image rule cells zero order = after-none rule (image_by f cells) ∙ ap (image_by f) (sym (after-none rule cells))
  after-image rule cells (suc n) order =
      after-suc rule (image_by f cells) n ∙ ap (next rule) (after-image rule cells n order)
      ∙ next-rigid f g rigid rule (after rule cells n) (in_order-after rule cells n order)
      ∙ ap (image_by f) (sym (after-suc rule cells n))

  leads-image : (cells : List Cell) (c d : Cell) (path : List Cell) → Leads cells c path d → Leads (image_by f cells) (f c) (map f path) (f d)
  leads-image cells c d [] a = ap f a
  leads-image cells c d (e ∷ es) a = (has-image_there cells e ∙ a.0, omega (arith, a.1, rigid.keeps c e), leads-image cells e d es a.2)

  pub linked-image : (cells : List Cell) (c d : Cell) → Linked cells c d → Linked (image_by f cells) (f c) (f d)
  linked-image cells c d a = record {
    start = has-image_there cells c ∙ a.start;
    path = map f a.path;
    leads = leads-image cells c d a.path a.leads;
  }

  -- the image of a partition is a partition
  pub partition-image : (whole : List Cell) (parts : List (List Cell)) → Partition whole parts → Partition (image_by f whole) (map (image_by f) parts)
  partition-image whole parts is = record {
    disjoint = λ i j d lt low c h.
        ap (λ (part : List Cell). has part c) (at j d low) ∙ has-image (get_or parts j []) c
        ∙ is.disjoint i j [] lt (few j low) (g c)
        (sym (ap (λ (part : List Cell). has part c) (at i d (omega arith)) ∙ has-image (get_or parts i []) c) ∙ h);
    union = λ c. some c parts ∙ is.union (g c) ∙ sym (has-image whole c);
  }
    where
      few : (k : ℕ) → k < length (map (image_by f) parts) → k < length parts
      few k low = omega (arith, length-map parts (image_by f))

      at : (k : ℕ) (d : List Cell) → k < length (map (image_by f) parts) → get_or (map (image_by f) parts) k d ≡ image_by f (get_or parts k [])
      at k d low = get_or-map (image_by f) parts k [] d (few k low)

      some : (c : Cell) (parts : List (List Cell)) → list_any (λ part. has part c) (map (image_by f) parts) ≡ list_any (λ part. has part (g c)) parts
      some c [] = refl
      some c (part ∷ parts) = λ i. has-image part c i || some c parts i

-- the inverse map takes the image of a pattern back to the pattern
pub image-back : (f g : Cell → Cell) → IsRigid f g → (cells : List Cell) → InOrder cells → image_by g (image_by f cells) ≡ cells
image-back f g rigid cells order =
    same_lists (image_by g (image_by f cells)) cells (in_order-set_of (map g (image_by f cells))) order
    (λ c. has-image g f (inverse f g rigid) (image_by f cells) c ∙ has-image f g rigid cells (f c) ∙ ap (has cells) (rigid.back c))

module _ (f g : Cell → Cell) (rigid : IsRigid f g) (cells : List Cell) (order : InOrder cells) where
  -- if two cells are linked in the image, their preimages are linked in the pattern
  linked-home : (c d : Cell) → Linked (image_by f cells) (f c) d → Linked cells c (g d)
  linked-home c d a =
      subst (λ (x : Cell). Linked cells x (g d)) (rigid.back c)
      (subst (λ (home : List Cell). Linked home (g (f c)) (g d)) (image-back f g rigid cells order)
      (linked-image g f (inverse f g rigid) (image_by f cells) (f c) d a))

  pub cluster-image : (cluster : List Cell) → IsCluster cells cluster → IsCluster (image_by f cells) (image_by f cluster)
  cluster-image cluster is = record {
    in_order = in_order-set_of (map f cluster);
    start = f is.start;
    has_start = has-image f g rigid cells (f is.start) ∙ ap (has cells) (rigid.back is.start) ∙ is.has_start;
    members = λ d. (
      λ h. subst (λ (x : Cell). Linked (image_by f cells) (f is.start) x) (rigid.there d)
          (linked-image f g rigid cells is.start (g d) ((is.members (g d)).0 (sym (has-image f g rigid cluster d) ∙ h))),
      λ a. has-image f g rigid cluster d ∙ (is.members (g d)).1 (linked-home is.start d a),
    );
  }

  module _ (clusters : List (List Cell)) (are : AreClusters cells clusters) where
    -- the images of the clusters, sorted by the first cells of the images
    abbrev pub images : List (List Cell)
    images = sorted first (map (image_by f) clusters)

    pub images-permute : IsPermutation (map (image_by f) clusters) images
    images-permute = sorted-permutes first (map (image_by f) clusters)

    each-image : All (IsCluster (image_by f cells)) (map (image_by f) clusters)
    each-image = All-map (IsCluster (image_by f cells)) (image_by f) clusters (λ k d low. cluster-image (get_or clusters k d) (are.each k d low))

    pub clusters-image : AreClusters (image_by f cells) images
    clusters-image = record {
      each = each;
      every = λ c h. Any-from_list_any (λ (cluster : List Cell). has cluster c) images
          (sym (list_any-IsPermutation (λ (cluster : List Cell). has cluster c) (map (image_by f) clusters) images images-permute) ∙ parts.union c ∙ h);
      in_order = sorted_in_order (map (image_by f) clusters)
          (λ k d low. cluster_some (image_by f cells) (get_or (map (image_by f) clusters) k d) (each-image k d low))
          (λ k d low. cluster_some (image_by f cells) (get_or images k d) (each k d low)) parts.disjoint;
    }
      where
        each : All (IsCluster (image_by f cells)) images
        each = All-permutation (IsCluster (image_by f cells)) (map (image_by f) clusters) images images-permute each-image

        parts : Partition (image_by f cells) (map (image_by f) clusters)
        parts = partition-image f g rigid cells clusters (partition_law cells clusters are)
