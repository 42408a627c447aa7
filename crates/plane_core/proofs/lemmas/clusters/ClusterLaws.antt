-- Laws of clusters: they partition the pattern, are far apart, are unique, and move with the pattern.
use Rattle.std.proofs.Common.{◌≡◌, ℕ, ℤ, ◌+ℤ◌, neg_ℤ, ◌<◌, true, List, [], ◌∷◌, arith, refl, ap}
use Rattle.std.proofs.Common.{◌∙◌, sym, subst, inl, inr, ◌⊎◌, length, get_or, map, Any, zero, suc}
use Rattle.std.specs.List.{AllPairs, list_any}
use Rattle.std.specs.Cmp.{both_ways as both_true, tied_itself}
use Rattle.std.specs.Ordering.{is_eq}
use Rattle.std.specs.declared.cmp.Ordering.TheVariants.{Less}
use Rattle.std.proofs.lemmas.Int.{ints}
use Rattle.std.proofs.lemmas.Bool.{false≢true, false_from_ne_true, cases_lt}
use Rattle.std.proofs.lemmas.List.{get_or-map, length-map}
use Rattle.std.proofs.lemmas.List.Folds.{Any-from_list_any, list_any-from_Any}
use Rattle.plane_core.specs.declared.plane.cell.Cell.{Cell}
use Rattle.plane_core.specs.plane.Bounds.{shifted}
use Rattle.plane_core.specs.plane.Cells.{cell_at, cell_cmp, king_distance, moved_by, has, InOrder}
use Rattle.plane_core.specs.clusters.Clusters.{Leads, Linked, IsCluster, AreClusters, FirstBefore, LinkedIsAnEquivalence, LieApart}
use Rattle.plane_core.specs.clusters.Clusters.{ClustersPartition, ClustersLieApart, ClustersAreDetermined, ClustersMoveAlong}
use Rattle.plane_core.proofs.lemmas.plane.CellLemmas.{cell_cmp_total, cell_cmp-moved, king_distance-moved}
use Rattle.plane_core.proofs.lemmas.plane.SetLemmas.{IsBefore, in_order-head, in_order-tail, in_order-cons, in_order-nil, same_lists}
use Rattle.plane_core.proofs.lemmas.clusters.ClusterLemmas.{king_distance-itself, linked-itself, linked-near, linked-trans, linked-sym, linked-has}

pub linked_law : LinkedIsAnEquivalence
linked_law cells = record { itself = linked-itself cells; back = linked-sym cells; onward = linked-trans cells }

-- ---- two clusters of a pattern

-- each cell of a cluster is a cell of the pattern
cluster-has : (cells cluster : List Cell) (c : Cell) → IsCluster cells cluster → has cluster c ≡ true → has cells c ≡ true
cluster-has cells cluster c is h = linked-has cells is.start c ((is.members c).0 h)

-- two clusters are equal if a cell of one is linked to a cell of the other
same_cluster : (cells a b : List Cell) (c d : Cell) → IsCluster cells a → IsCluster cells b → has a c ≡ true → has b d ≡ true → Linked cells c d → a ≡ b
same_cluster cells a b c d p q h k l =
    same_lists a b p.in_order q.in_order
    (λ x. both_true (has a x) (has b x) (λ e. (q.members x).1 (linked-trans cells q.start p.start x back ((p.members x).0 e)))
    (λ e. (p.members x).1 (linked-trans cells p.start q.start x onward ((q.members x).0 e))))
  where
    onward : Linked cells p.start q.start
    onward = linked-trans cells p.start c q.start ((p.members c).0 h) (linked-trans cells c d q.start l (linked-sym cells q.start d ((q.members d).0 k)))

    back : Linked cells q.start p.start
    back = linked-sym cells p.start q.start onward

not_before_itself : (c : Cell) → cell_cmp c c ≡ Less → ⊥
not_before_itself c e = false≢true (ap is_eq (sym e ∙ tied_itself cell_cmp_total c))

first-itself : (a : List Cell) → FirstBefore a a → ⊥
first-itself [] h = h
first-itself (c ∷ cs) h = not_before_itself c h

first-both : (a b : List Cell) → FirstBefore a b → FirstBefore b a → ⊥
first-both [] b h k = h
first-both (c ∷ cs) [] h k = h
first-both (c ∷ cs) (d ∷ ds) h k = not_before_itself c (cell_cmp_total.trans c d c h k)

two_apart : (cells a b : List Cell) → IsCluster cells a → IsCluster cells b → FirstBefore a b → LieApart a b
two_apart cells a b p q first c d h k = elim (cases_lt (king_distance c d) 3) [
  | inl near ↦ absurd (first-itself a
      (subst (FirstBefore a) (sym (same_cluster cells a b c d p q h k
      (linked-near cells c d (cluster-has cells a c p h) (cluster-has cells b d q k) (omega arith)))) first))
  | inr far ↦ far
]

pub apart_law : ClustersLieApart
apart_law cells clusters are i j d low high =
    two_apart cells (get_or clusters i d) (get_or clusters j d) (are.each i d (omega arith)) (are.each j d high) (are.in_order i j d low high)

pub partition_law : ClustersPartition
partition_law cells clusters are = record {
  disjoint = λ i j d low high c h. false_from_ne_true (has (get_or clusters j d) c) (λ k. let far =
      apart_law cells clusters are i j d low high c c h k in absurd (omega (arith, king_distance-itself c)));
  union = λ c. both_true (list_any (λ cluster. has cluster c) clusters) (has cells c)
      (λ e. found c (Any-from_list_any (λ cluster. has cluster c) clusters e))
      (λ e. list_any-from_Any (λ cluster. has cluster c) clusters (are.every c e));
}
  where
    found : (c : Cell) → Any (λ cluster. has cluster c ≡ true) clusters → has cells c ≡ true
    found c (k, cluster, low, at, h) = cluster-has cells cluster c (subst (IsCluster cells) at (are.each k cluster low)) h

-- ---- a pattern has only one list of clusters

-- a list of cells is an element of a list of lists
abbrev Member : List Cell → List (List Cell) → Type 0
Member a [] = ⊥
Member a (b ∷ bs) = (a ≡ b) ⊎ Member a bs

-- the lists are ordered by their first cells
abbrev Ordered : List (List Cell) → Type 0
Ordered [] = Unit {0}
Ordered (b ∷ bs) = ((a : List Cell) → Member a bs → FirstBefore b a) × Ordered bs

-- two ordered lists of lists with the same members are equal
ordered_same : (cs bs : List (List Cell)) → Ordered cs → Ordered bs → ((a : List Cell) → Member a cs → Member a bs)
    → ((b : List Cell) → Member b bs → Member b cs) → cs ≡ bs
ordered_same [] [] o p f g = refl
ordered_same [] (b ∷ bs) o p f g = absurd (g b (inl refl))
ordered_same (a ∷ cs) [] o p f g = absurd (f a (inl refl))
ordered_same (a ∷ cs) (b ∷ bs) o p f g = go (f a (inl refl)) (g b (inl refl)) (ordered_same cs bs o.1 p.1)
  where
    tails : a ≡ b → (((x : List Cell) → Member x cs → Member x bs) → ((x : List Cell) → Member x bs → Member x cs) → cs ≡ bs) → a ∷ cs ≡ b ∷ bs
    tails e ih = rw (e, ih (λ x m. left x m (f x (inr m))) (λ x m. right x m (g x (inr m)))) refl
      where
        left : (x : List Cell) → Member x cs → (x ≡ b) ⊎ Member x bs → Member x bs
        left x m (inl s) = absurd (first-itself a (subst (FirstBefore a) (s ∙ sym e) (o.0 x m)))
        left x m (inr k) = k

        right : (x : List Cell) → Member x bs → (x ≡ a) ⊎ Member x cs → Member x cs
        right x m (inl s) = absurd (first-itself b (subst (FirstBefore b) (s ∙ e) (p.0 x m)))
        right x m (inr k) = k

    go : (a ≡ b) ⊎ Member a bs → (b ≡ a) ⊎ Member b cs
        → (((x : List Cell) → Member x cs → Member x bs) → ((x : List Cell) → Member x bs → Member x cs) → cs ≡ bs) → a ∷ cs ≡ b ∷ bs
    go (inl e) k ih = tails e ih
    go (inr m) (inl e) ih = tails (sym e) ih
    go (inr m) (inr n) ih = absurd (first-both a b (o.0 b n) (p.0 a m))

member-at : (bs : List (List Cell)) (k : ℕ) (a : List Cell) → k < length bs → get_or bs k a ≡ a → Member a bs
member-at [] k a low at = absurd (omega arith)
member-at (b ∷ bs) zero a low at = inl (sym at)
member-at (b ∷ bs) (suc k) a low at = inr (member-at bs k a (omega arith) at)

at-member : (bs : List (List Cell)) (a : List Cell) → Member a bs → (k : ℕ) × (k < length bs) × (get_or bs k a ≡ a)
at-member [] a m = absurd m
at-member (b ∷ bs) a (inl e) = (0, omega arith, sym e)
at-member (b ∷ bs) a (inr m) = let found = at-member bs a m in (suc found.0, omega (arith, found.1), found.2)

ordered-from : (bs : List (List Cell)) → AllPairs FirstBefore bs → Ordered bs
ordered-from [] h = tt
ordered-from (b ∷ bs) h = (
  (λ a m. let found = at-member bs a m in subst (FirstBefore b) found.2 (h 0 (suc found.0) a (omega arith) (omega (arith, found.1)))),
  ordered-from bs (λ i j d low high. h (suc i) (suc j) d (omega arith) (omega arith)),
)

-- if two lists have the clusters of the same pattern, each cluster in one of them is in the other
in_other : (cells : List Cell) (one other : List (List Cell)) → AreClusters cells one → AreClusters cells other → (a : List Cell) → Member a one
    → Member a other
in_other cells one other p q a m = go (q.every is.start is.has_start)
  where
    is : IsCluster cells a
    is = let found = at-member one a m in subst (IsCluster cells) found.2 (p.each found.0 a found.1)

    go : Any (λ cluster. has cluster is.start ≡ true) other → Member a other
    go (k, b, low, at, h) =
        let there = subst (IsCluster cells) at (q.each k b low) in
        let same = same_cluster cells b a is.start is.start there is h ((is.members is.start).1 (linked-itself cells is.start is.has_start))
        (linked-itself cells is.start is.has_start) in
        subst (λ (x : List Cell). Member x other) same (member-at other k b low at)

pub determined_law : ClustersAreDetermined
determined_law cells one other p q =
    ordered_same one other (ordered-from one p.in_order) (ordered-from other q.in_order) (in_other cells one other p q) (in_other cells other one q p)

-- ---- moving a pattern

there_and_back : (a v : ℤ) → ((a +ℤ v) +ℤ neg_ℤ v) ≡ a
there_and_back a v = omega (arith, ints)

back_and_there : (a v : ℤ) → ((a +ℤ neg_ℤ v) +ℤ v) ≡ a
back_and_there a v = omega (arith, ints)

moved-back : (dx dy : ℤ) (c : Cell) → moved_by (neg_ℤ dx) (neg_ℤ dy) (moved_by dx dy c) ≡ c
moved-back dx dy c i = cell_at (there_and_back c.x dx i) (there_and_back c.y dy i)

moved-there : (dx dy : ℤ) (c : Cell) → moved_by dx dy (moved_by (neg_ℤ dx) (neg_ℤ dy) c) ≡ c
moved-there dx dy c i = cell_at (back_and_there c.x dx i) (back_and_there c.y dy i)

shifted-back : (dx dy : ℤ) (cells : List Cell) → shifted (neg_ℤ dx) (neg_ℤ dy) (shifted dx dy cells) ≡ cells
shifted-back dx dy [] = refl
shifted-back dx dy (c ∷ cs) = rw (shifted-back dx dy cs, moved-back dx dy c) refl

has-moved : (dx dy : ℤ) (cells : List Cell) (c : Cell) → has (shifted dx dy cells) (moved_by dx dy c) ≡ has cells c
has-moved dx dy [] c = refl
has-moved dx dy (d ∷ ds) c = rw (ap is_eq (cell_cmp-moved dx dy c d), has-moved dx dy ds c) refl

has-shifted : (dx dy : ℤ) (cells : List Cell) (c : Cell) → has (shifted dx dy cells) c ≡ has cells (moved_by (neg_ℤ dx) (neg_ℤ dy) c)
has-shifted dx dy cells c = ap (λ (d : Cell). has (shifted dx dy cells) d) (sym (moved-there dx dy c))
    ∙ has-moved dx dy cells (moved_by (neg_ℤ dx) (neg_ℤ dy) c)

before-shifted : (dx dy : ℤ) (c : Cell) (ds : List Cell) → IsBefore c ds → IsBefore (moved_by dx dy c) (shifted dx dy ds)
before-shifted dx dy c [] h = tt
before-shifted dx dy c (d ∷ ds) h = (cell_cmp-moved dx dy c d ∙ h.0, before-shifted dx dy c ds h.1)

in_order-shifted : (dx dy : ℤ) (cells : List Cell) → InOrder cells → InOrder (shifted dx dy cells)
in_order-shifted dx dy [] o = in_order-nil
in_order-shifted dx dy (c ∷ cs) o =
    in_order-cons (moved_by dx dy c) (shifted dx dy cs) (before-shifted dx dy c cs (in_order-head c cs o)) (in_order-shifted dx dy cs (in_order-tail c cs o))

leads-moved : (dx dy : ℤ) (cells : List Cell) (c d : Cell) (path : List Cell) → Leads cells c path d
    → Leads (shifted dx dy cells) (moved_by dx dy c) (shifted dx dy path) (moved_by dx dy d)
leads-moved dx dy cells c d [] a = ap (moved_by dx dy) a
leads-moved dx dy cells c d (e ∷ es) a = (has-moved dx dy cells e ∙ a.0, omega (arith, a.1, king_distance-moved dx dy c e), leads-moved dx dy cells e d es a.2)

linked-moved : (dx dy : ℤ) (cells : List Cell) (c d : Cell) → Linked cells c d → Linked (shifted dx dy cells) (moved_by dx dy c) (moved_by dx dy d)
linked-moved dx dy cells c d a = record {
  start = has-moved dx dy cells c ∙ a.start;
  path = shifted dx dy a.path;
  leads = leads-moved dx dy cells c d a.path a.leads;
}

cluster-shifted : (dx dy : ℤ) (cells cluster : List Cell) → IsCluster cells cluster → IsCluster (shifted dx dy cells) (shifted dx dy cluster)
cluster-shifted dx dy cells cluster is = record {
  in_order = in_order-shifted dx dy cluster is.in_order;
  start = moved_by dx dy is.start;
  has_start = has-moved dx dy cells is.start ∙ is.has_start;
  members = λ d. (there d, back d);
}
  where
    there : (d : Cell) → has (shifted dx dy cluster) d ≡ true → Linked (shifted dx dy cells) (moved_by dx dy is.start) d
    there d h = subst (λ (e : Cell). Linked (shifted dx dy cells) (moved_by dx dy is.start) e) (moved-there dx dy d)
        (linked-moved dx dy cells is.start (moved_by (neg_ℤ dx) (neg_ℤ dy) d)
        ((is.members (moved_by (neg_ℤ dx) (neg_ℤ dy) d)).0 (sym (has-shifted dx dy cluster d) ∙ h)))

    back : (d : Cell) → Linked (shifted dx dy cells) (moved_by dx dy is.start) d → has (shifted dx dy cluster) d ≡ true
    back d a =
        let from = linked-moved (neg_ℤ dx) (neg_ℤ dy) (shifted dx dy cells) (moved_by dx dy is.start) d a in
        let home = subst (λ (S : List Cell). Linked S (moved_by (neg_ℤ dx) (neg_ℤ dy) (moved_by dx dy is.start)) (moved_by (neg_ℤ dx) (neg_ℤ dy) d))
        (shifted-back dx dy cells) from in
        let start = subst (λ (e : Cell). Linked cells e (moved_by (neg_ℤ dx) (neg_ℤ dy) d)) (moved-back dx dy is.start) home in
        has-shifted dx dy cluster d ∙ (is.members (moved_by (neg_ℤ dx) (neg_ℤ dy) d)).1 start

first-shifted : (dx dy : ℤ) (a b : List Cell) → FirstBefore a b → FirstBefore (shifted dx dy a) (shifted dx dy b)
first-shifted dx dy [] b h = h
first-shifted dx dy (c ∷ cs) [] h = h
first-shifted dx dy (c ∷ cs) (d ∷ ds) h = cell_cmp-moved dx dy c d ∙ h

pub moved_law : ClustersMoveAlong
moved_law dx dy cells clusters are = record {
  each = λ k d low. subst (IsCluster (shifted dx dy cells)) (sym (at k d low)) (cluster-shifted dx dy cells (get_or clusters k []) (are.each k [] (few k low)));
  every = λ c h. found c (are.every (moved_by (neg_ℤ dx) (neg_ℤ dy) c) (sym (has-shifted dx dy cells c) ∙ h));
  in_order = λ i j d low high. pair i j d low high;
}
  where
    few : (k : ℕ) → k < length (map (shifted dx dy) clusters) → k < length clusters
    few k low = omega (arith, length-map clusters (shifted dx dy))

    at : (k : ℕ) (d : List Cell) → k < length (map (shifted dx dy) clusters) → get_or (map (shifted dx dy) clusters) k d ≡ shifted dx dy (get_or clusters k [])
    at k d low = get_or-map (shifted dx dy) clusters k [] d (few k low)

    found : (c : Cell) → Any (λ cluster. has cluster (moved_by (neg_ℤ dx) (neg_ℤ dy) c) ≡ true) clusters
        → Any (λ cluster. has cluster c ≡ true) (map (shifted dx dy) clusters)
    found c (k, cluster, low, is, h) = (
      k,
      shifted dx dy cluster,
      omega (arith, length-map clusters (shifted dx dy)),
      get_or-map (shifted dx dy) clusters k cluster (shifted dx dy cluster) low ∙ ap (shifted dx dy) is,
      has-shifted dx dy cluster c ∙ h,
    )

    pair : (i j : ℕ) (d : List Cell) → i < j → j < length (map (shifted dx dy) clusters)
        → FirstBefore (get_or (map (shifted dx dy) clusters) i d) (get_or (map (shifted dx dy) clusters) j d)
    pair i j d low high = rw (at i d (omega arith), at j d high)
        (first-shifted dx dy (get_or clusters i []) (get_or clusters j []) (are.in_order i j [] low (few j high)))
