-- How the trees of a forest become clusters: each place gets a number, and cells with the same number are a cluster.
use Rattle.std.proofs.Common.{◌≡◌, ◌≢◌, ◌==◌, ℕ, ◌+◌, ◌<◌, ◌≤◌, zero, suc, Bool, true, false, cond, List, [], ◌∷◌, ◌++◌, arith, refl, ap, ◌∙◌, sym, subst, inl, inr, ◌⊎◌}
use Rattle.std.proofs.Common.{length, take, get_or, set, All, Any, Result}
use Rattle.std.specs.Prelude.{OnOk}
use Rattle.std.specs.declared.cmp.Ordering.TheVariants.{Less}
use Rattle.std.proofs.lemmas.Bool.{false≢true, cases_eq, cases_lt, eqb-true, eq-eqb, ne_eqb}
use Rattle.std.proofs.lemmas.List.{get_or_append_left, get_or_push, get_or_default, get_or-set_same, get_or-set_other, length-set, length_push, append-nil, drop-set-lt, get_or-drop, get_or-take, take_more_set}
use Rattle.std.proofs.lemmas.Grind.{drop_more_same}
use Rattle.std.proofs.lemmas.Result.{on_ok_weaker}
use Rattle.std.proofs.lemmas.List.Quantifiers.{all_pairs_push}
use Rattle.plane_core.specs.declared.plane.cell.Cell.{Cell}
use Rattle.plane_core.specs.plane.Cells.{cell_cmp, king_distance, has, on_plane, InOrder, IsPattern}
use Rattle.plane_core.specs.clusters.Clusters.{Leads, Linked, IsCluster, AreClusters, FirstBefore}
use Rattle.plane_core.specs.clusters.UnionFind.{cell_of, parent_of, numbered, IsForest, IsGatheringCells, ArePutInClusters, JoinsAll, Labels}
use Rattle.plane_core.proofs.lemmas.plane.SetLemmas.{IsBefore, has-cases, has-head, or_right, in_order-head, in_order-tail, in_order-cons, in_order-nil}
use Rattle.plane_core.proofs.lemmas.plane.SearchLemmas.{list_all-has, has-list_all}
use Rattle.plane_core.proofs.lemmas.clusters.ClusterLemmas.{king_distance-sym, linked-itself, linked-trans, linked-sym}
use Rattle.plane_core.proofs.lemmas.clusters.UnionFindLemmas.{has-cell_of, in_places}

-- ---- the cells that have a number

-- if n is appended to the numbers, the cell at the new place is added to the cells with the number n; if another number
-- is appended, no cell is added
numbered-push : (n m : ℕ) (ms : List ℕ) (cs : List Cell) → length ms < length cs
    → numbered n (ms ++ m ∷ []) cs ≡ numbered n ms cs ++ cond (m == n) (cell_of cs (length ms) ∷ []) []
numbered-push n m ms [] low = absurd (omega arith)
numbered-push n m [] (c ∷ cs) low = refl
numbered-push n m (k ∷ ks) (c ∷ cs) low = go (k == n) (numbered-push n m ks cs (omega arith))
  where
    go : (b : Bool) → numbered n (ks ++ m ∷ []) cs ≡ numbered n ks cs ++ cond (m == n) (cell_of cs (length ks) ∷ []) []
        → cond b (c ∷ numbered n (ks ++ m ∷ []) cs) (numbered n (ks ++ m ∷ []) cs)
        ≡ cond b (c ∷ numbered n ks cs) (numbered n ks cs) ++ cond (m == n) (cell_of cs (length ks) ∷ []) []
    go true ih = ap (λ (xs : List Cell). c ∷ xs) ih
    go false ih = ih

pub numbered-this : (n : ℕ) (ms : List ℕ) (cs : List Cell) (place : ℕ) → length ms ≡ place → place < length cs
    → numbered n (ms ++ n ∷ []) cs ≡ numbered n ms cs ++ cell_of cs place ∷ []
numbered-this n ms cs place size low =
    numbered-push n n ms cs (omega (arith, size, low))
    ∙ ap (λ (b : Bool). numbered n ms cs ++ cond b (cell_of cs (length ms) ∷ []) []) (eq-eqb n n refl)
    ∙ ap (λ (k : ℕ). numbered n ms cs ++ cell_of cs k ∷ []) size

numbered-other : (n m : ℕ) (ms : List ℕ) (cs : List Cell) → m ≢ n → length ms < length cs → numbered n (ms ++ m ∷ []) cs ≡ numbered n ms cs
numbered-other n m ms cs different low =
    numbered-push n m ms cs low ∙ ap (λ (b : Bool). numbered n ms cs ++ cond b (cell_of cs (length ms) ∷ []) []) (ne_eqb m n different)
    ∙ append-nil (numbered n ms cs)

numbered-none : (n : ℕ) (ms : List ℕ) (cs : List Cell) → ((k : ℕ) → k < length ms → get_or ms k 0 < n) → numbered n ms cs ≡ []
numbered-none n [] cs below = refl
numbered-none n (m ∷ ms) [] below = refl
numbered-none n (m ∷ ms) (c ∷ cs) below =
    let first : m < n = below 0 (omega arith) in
    ap (λ (b : Bool). cond b (c ∷ numbered n ms cs) (numbered n ms cs)) (ne_eqb m n (λ e. absurd (omega (arith, e, first))))
    ∙ numbered-none n ms cs (λ k low. below (suc k) (omega (arith, low)))

-- the place of the cell d, which has the number n
record StandsAt (n : ℕ) (ms : List ℕ) (cs : List Cell) (d : Cell) : Type 0 where
  place : ℕ
  few : place < length ms
  low : place < length cs
  number : get_or ms place 0 ≡ n
  cell : cell_of cs place ≡ d

has-numbered : (n : ℕ) (ms : List ℕ) (cs : List Cell) (d : Cell) → has (numbered n ms cs) d ≡ true → StandsAt n ms cs d
has-numbered n [] cs d h = absurd (false≢true h)
has-numbered n (m ∷ ms) [] d h = absurd (false≢true h)
has-numbered n (m ∷ ms) (c ∷ cs) d h = go (m == n) refl h (has-numbered n ms cs d)
  where
    later : StandsAt n ms cs d → StandsAt n (m ∷ ms) (c ∷ cs) d
    later s = record {
      place = suc s.place;
      few = let few : s.place < length ms = s.few in omega (arith, few);
      low = let low : s.place < length cs = s.low in omega (arith, low);
      number = s.number;
      cell = s.cell;
    }

    go : (b : Bool) → (m == n) ≡ b → has (cond b (c ∷ numbered n ms cs) (numbered n ms cs)) d ≡ true
        → (has (numbered n ms cs) d ≡ true → StandsAt n ms cs d) → StandsAt n (m ∷ ms) (c ∷ cs) d
    go true is h ih = elim (has-cases c (numbered n ms cs) d h) [
      | inl same ↦ record { place = 0; few = omega arith; low = omega arith; number = eqb-true m n is; cell = sym same }
      | inr more ↦ later (ih more)
    ]
    go false is h ih = later (ih h)

numbered-has : (n : ℕ) (ms : List ℕ) (cs : List Cell) (k : ℕ) → k < length ms → k < length cs → get_or ms k 0 ≡ n
    → has (numbered n ms cs) (cell_of cs k) ≡ true
numbered-has n [] cs k few low is = absurd (omega (arith, few))
numbered-has n (m ∷ ms) [] k few low is = absurd (omega (arith, low))
numbered-has n (m ∷ ms) (c ∷ cs) zero few low is =
    ap (λ (b : Bool). has (cond b (c ∷ numbered n ms cs) (numbered n ms cs)) c) (eq-eqb m n is) ∙ has-head c (numbered n ms cs)
numbered-has n (m ∷ ms) (c ∷ cs) (suc k) few low is = go (m == n) (numbered-has n ms cs k (omega (arith, few)) (omega (arith, low)) is)
  where
    go : (b : Bool) → has (numbered n ms cs) (cell_of cs k) ≡ true → has (cond b (c ∷ numbered n ms cs) (numbered n ms cs)) (cell_of cs k) ≡ true
    go true h = or_right _ (has (numbered n ms cs) (cell_of cs k)) h
    go false h = h

before-numbered : (c : Cell) (n : ℕ) (ms : List ℕ) (cs : List Cell) → IsBefore c cs → IsBefore c (numbered n ms cs)
before-numbered c n [] cs h = tt
before-numbered c n (m ∷ ms) [] h = tt
before-numbered c n (m ∷ ms) (d ∷ ds) h = go (m == n) (before-numbered c n ms ds h.1)
  where
    go : (b : Bool) → IsBefore c (numbered n ms ds) → IsBefore c (cond b (d ∷ numbered n ms ds) (numbered n ms ds))
    go true ih = (h.0, ih)
    go false ih = ih

in_order-numbered : (n : ℕ) (ms : List ℕ) (cs : List Cell) → InOrder cs → InOrder (numbered n ms cs)
in_order-numbered n [] cs o = in_order-nil
in_order-numbered n (m ∷ ms) [] o = in_order-nil
in_order-numbered n (m ∷ ms) (c ∷ cs) o = go (m == n) (in_order-numbered n ms cs (in_order-tail c cs o))
  where
    go : (b : Bool) → InOrder (numbered n ms cs) → InOrder (cond b (c ∷ numbered n ms cs) (numbered n ms cs))
    go true ih = in_order-cons c (numbered n ms cs) (before-numbered c n ms cs (in_order-head c cs o)) ih
    go false ih = ih

-- the cells of a pattern that have the number n are a pattern
pub is_pattern-numbered : (n : ℕ) (ms : List ℕ) (cs : List Cell) → IsPattern cs → IsPattern (numbered n ms cs)
is_pattern-numbered n ms cs is = record {
  in_order = in_order-numbered n ms cs is.in_order;
  on_plane = has-list_all on_plane (numbered n ms cs) (λ d h. list_all-has on_plane cs is.on_plane d (among d (has-numbered n ms cs d h)));
}
  where
    among : (d : Cell) → StandsAt n ms cs d → has cs d ≡ true
    among d s = subst (λ (x : Cell). has cs x ≡ true) s.cell (has-cell_of cs s.place s.low)

-- ---- one more place

-- the appended number is at the new place
at_end : (numbers : List ℕ) (n place : ℕ) → length numbers ≡ place → get_or (numbers ++ n ∷ []) place 0 ≡ n
at_end numbers n place size = get_or_push numbers n 0 place size

as_before : (numbers : List ℕ) (n place k : ℕ) → length numbers ≡ place → k < place → get_or (numbers ++ n ∷ []) k 0 ≡ get_or numbers k 0
as_before numbers n place k size low = get_or_append_left numbers (n ∷ []) 0 k (omega (arith, size, low))

-- cells with the same number are still linked if the new cell is linked to all cells with its number
linked-more : (cells : List Cell) (numbers : List ℕ) (n place : ℕ) → length numbers ≡ place → place < length cells
    → ((j k : ℕ) → j < place → k < place → get_or numbers j 0 ≡ get_or numbers k 0 → Linked cells (cell_of cells j) (cell_of cells k))
    → ((j : ℕ) → j < place → get_or numbers j 0 ≡ n → Linked cells (cell_of cells j) (cell_of cells place))
    → (j k : ℕ) → j < place + 1 → k < place + 1 → get_or (numbers ++ n ∷ []) j 0 ≡ get_or (numbers ++ n ∷ []) k 0
    → Linked cells (cell_of cells j) (cell_of cells k)
linked-more cells numbers n place size low old fit j k few less e = go (cases_eq j place) (cases_eq k place)
  where
    there : (i : ℕ) → i ≡ place → get_or (numbers ++ n ∷ []) i 0 ≡ n
    there i same = ap (λ (m : ℕ). get_or (numbers ++ n ∷ []) m 0) same ∙ at_end numbers n place size

    early : (i : ℕ) → i < place + 1 → i ≢ place → i < place
    early i less different = omega (arith, less, different)

    go : (j ≡ place) ⊎ (j ≢ place) → (k ≡ place) ⊎ (k ≢ place) → Linked cells (cell_of cells j) (cell_of cells k)
    go (inl a) (inl b) = subst (λ (i : ℕ). Linked cells (cell_of cells j) (cell_of cells i)) (a ∙ sym b)
        (linked-itself cells (cell_of cells j) (has-cell_of cells j (omega (arith, a, low))))
    go (inl a) (inr b) = subst (λ (i : ℕ). Linked cells (cell_of cells i) (cell_of cells k)) (sym a)
        (linked-sym cells (cell_of cells k) (cell_of cells place)
        (fit k (early k less b) (sym (as_before numbers n place k size (early k less b)) ∙ sym e ∙ there j a)))
    go (inr a) (inl b) = subst (λ (i : ℕ). Linked cells (cell_of cells j) (cell_of cells i)) (sym b)
        (fit j (early j few a) (sym (as_before numbers n place j size (early j few a)) ∙ e ∙ there k b))
    go (inr a) (inr b) = old j k (early j few a) (early k less b)
        (sym (as_before numbers n place j size (early j few a)) ∙ e ∙ as_before numbers n place k size (early k less b))

labels-more : (parents numbers : List ℕ) (n place : ℕ) → length numbers ≡ place → ((k : ℕ) → k ≤ place → parent_of parents k ≤ k)
    → get_or (numbers ++ n ∷ []) (parent_of parents place) 0 ≡ n
    → ((k : ℕ) → k < place → get_or numbers (parent_of parents k) 0 ≡ get_or numbers k 0)
    → (k : ℕ) → k < place + 1 → get_or (numbers ++ n ∷ []) (parent_of parents k) 0 ≡ get_or (numbers ++ n ∷ []) k 0
labels-more parents numbers n place size back here old k low = elim (cases_eq k place) [
  | inl same ↦
      ap (λ (i : ℕ). get_or (numbers ++ n ∷ []) (parent_of parents i) 0) same ∙ here ∙ sym (at_end numbers n place size)
      ∙ ap (λ (i : ℕ). get_or (numbers ++ n ∷ []) i 0) (sym same)
  | inr different ↦
      let early : k < place = omega (arith, low, different) in
      let most : parent_of parents k ≤ k = back k (omega (arith, early)) in
      as_before numbers n place (parent_of parents k) size (omega (arith, early, most)) ∙ old k early ∙ sym (as_before numbers n place k size early)
]

first_one : (ds : List Cell) (d e : Cell) → has ds d ≡ true → ((x : Cell) → has ds x ≡ true → cell_cmp x e ≡ Less) → FirstBefore ds (e ∷ [])
first_one [] d e h before = absurd (false≢true h)
first_one (x ∷ xs) d e h before = before x (has-head x xs)

-- a root gets the next number, and its cell begins a new cluster
gathering-root : (cells : List Cell) (parents numbers : List ℕ) (clusters : List (List Cell)) (place : ℕ) → InOrder cells → IsForest cells parents
    → place < length cells → parent_of parents place ≡ place → ArePutInClusters cells parents numbers clusters place
    → ArePutInClusters cells parents (numbers ++ length clusters ∷ []) (clusters ++ (cell_of cells place ∷ []) ∷ []) (place + 1)
gathering-root cells parents numbers clusters place o f low root g = record {
  size = length_push numbers (length clusters) ∙ ap (λ (k : ℕ). k + 1) g.size;
  few = omega (arith, low);
  labels = labels-more parents numbers (length clusters) place g.size (λ k less. f.back k (omega (arith, less, low, f.size)))
      (ap (λ (k : ℕ). get_or (numbers ++ length clusters ∷ []) k 0) root ∙ at_end numbers (length clusters) place g.size) g.labels;
  below = λ k less. below k less (cases_eq k place);
  lists = λ n less. lists n less (cases_eq n (length clusters));
  used = λ n less. used n less (cases_eq n (length clusters));
  linked = linked-more cells numbers (length clusters) place g.size low g.linked
      (λ j less e. let under : get_or numbers j 0 < length clusters = g.below j less in absurd (omega (arith, e, under)));
  in_order = all_pairs_push FirstBefore clusters (cell_of cells place ∷ []) g.in_order (λ n d less.
      subst (λ (ds : List Cell). FirstBefore ds (cell_of cells place ∷ [])) (sym (get_or_default clusters n d [] less ∙ g.lists n less)) (first n less));
}
  where
    more : length (clusters ++ (cell_of cells place ∷ []) ∷ []) ≡ length clusters + 1
    more = length_push clusters (cell_of cells place ∷ [])

    below : (k : ℕ) → k < place + 1 → (k ≡ place) ⊎ (k ≢ place)
        → get_or (numbers ++ length clusters ∷ []) k 0 < length (clusters ++ (cell_of cells place ∷ []) ∷ [])
    below k less (inl same) =
        let is : get_or (numbers ++ length clusters ∷ []) k 0 ≡ length clusters =
        ap (λ (i : ℕ). get_or (numbers ++ length clusters ∷ []) i 0) same ∙ at_end numbers (length clusters) place g.size in
        omega (arith, is, more)
    below k less (inr different) =
        let early : k < place = omega (arith, less, different) in
        let is : get_or (numbers ++ length clusters ∷ []) k 0 ≡ get_or numbers k 0 = as_before numbers (length clusters) place k g.size early in
        let under : get_or numbers k 0 < length clusters = g.below k early in
        omega (arith, is, under, more)

    lists : (n : ℕ) → n < length (clusters ++ (cell_of cells place ∷ []) ∷ []) → (n ≡ length clusters) ⊎ (n ≢ length clusters)
        → get_or (clusters ++ (cell_of cells place ∷ []) ∷ []) n [] ≡ numbered n (numbers ++ length clusters ∷ []) cells
    lists n less (inl same) =
        get_or_push clusters (cell_of cells place ∷ []) [] n (sym same)
        ∙ ap (λ (ds : List Cell). ds ++ cell_of cells place ∷ []) (sym (numbered-none (length clusters) numbers cells (λ k few. g.below k (omega (arith, few, g.size)))))
        ∙ sym (numbered-this (length clusters) numbers cells place g.size low)
        ∙ ap (λ (i : ℕ). numbered i (numbers ++ length clusters ∷ []) cells) (sym same)
    lists n less (inr different) =
        let fewer : n < length clusters = omega (arith, less, more, different) in
        get_or_append_left clusters ((cell_of cells place ∷ []) ∷ []) [] n fewer ∙ g.lists n fewer
        ∙ sym (numbered-other n (length clusters) numbers cells (λ e. different (sym e)) (omega (arith, low, g.size)))

    used : (n : ℕ) → n < length (clusters ++ (cell_of cells place ∷ []) ∷ []) → (n ≡ length clusters) ⊎ (n ≢ length clusters)
        → (k : ℕ) × (k < place + 1) × (get_or (numbers ++ length clusters ∷ []) k 0 ≡ n)
    used n less (inl same) = (place, omega arith, at_end numbers (length clusters) place g.size ∙ sym same)
    used n less (inr different) =
        let fewer : n < length clusters = omega (arith, less, more, different) in
        let u = g.used n fewer in
        let early : u.0 < place = u.1 in
        (u.0, omega (arith, early), as_before numbers (length clusters) place u.0 g.size early ∙ u.2)

    first : (n : ℕ) → n < length clusters → FirstBefore (numbered n numbers cells) (cell_of cells place ∷ [])
    first n less =
        let u = g.used n less in
        let early : u.0 < place = u.1 in
        first_one (numbered n numbers cells) (cell_of cells u.0) (cell_of cells place)
        (numbered-has n numbers cells u.0 (omega (arith, early, g.size)) (omega (arith, early, low)) u.2)
        (λ x h. before x (has-numbered n numbers cells x h))
      where
        before : (x : Cell) → StandsAt n numbers cells x → cell_cmp x (cell_of cells place) ≡ Less
        before x s =
            let short : s.place < length numbers = s.few in
            subst (λ (c : Cell). cell_cmp c (cell_of cells place) ≡ Less) s.cell
            (in_places cells s.place place o (omega (arith, short, g.size)) low)

-- appending cells to two clusters doesn't change which of them comes first
first-longer : (a b xs ys : List Cell) → FirstBefore a b → FirstBefore (a ++ xs) (b ++ ys)
first-longer [] b xs ys h = absurd h
first-longer (c ∷ cs) [] xs ys h = absurd h
first-longer (c ∷ cs) (d ∷ ds) xs ys h = h

-- a place that isn't a root gets the number of its parent, and its cell is appended to the cluster with this number
gathering-other : (cells : List Cell) (parents numbers : List ℕ) (clusters : List (List Cell)) (place n : ℕ) → InOrder cells → IsForest cells parents
    → place < length cells → parent_of parents place ≢ place → n ≡ get_or numbers (parent_of parents place) 0
    → ArePutInClusters cells parents numbers clusters place
    → ArePutInClusters cells parents (numbers ++ n ∷ []) (set clusters n (get_or clusters n [] ++ cell_of cells place ∷ [])) (place + 1)
gathering-other cells parents numbers clusters place n o f low branch is g = record {
  size = length_push numbers n ∙ ap (λ (k : ℕ). k + 1) g.size;
  few = omega (arith, low);
  labels = labels-more parents numbers n place g.size (λ k less. f.back k (omega (arith, less, low, f.size)))
      (as_before numbers n place (parent_of parents place) g.size early ∙ sym is) g.labels;
  below = λ k less. below k less (cases_eq k place);
  lists = λ m less. lists m less (cases_eq m n);
  used = λ m less. let u = g.used m (omega (arith, less, same_length)) in
      let sooner : u.0 < place = u.1 in (u.0, omega (arith, sooner), as_before numbers n place u.0 g.size sooner ∙ u.2);
  linked = linked-more cells numbers n place g.size low g.linked
      (λ j less e. linked-trans cells (cell_of cells j) (cell_of cells (parent_of parents place)) (cell_of cells place)
      (g.linked j (parent_of parents place) less early (e ∙ is))
      (linked-sym cells (cell_of cells place) (cell_of cells (parent_of parents place)) (f.linked place (omega (arith, low, f.size)))));
  in_order = λ i j d less high.
      let a = grown i d (cases_eq i n) in
      let b = grown j d (cases_eq j n) in
      let shorter : j < length clusters = omega (arith, high, same_length) in
      rw (a.1, b.1) (first-longer (get_or clusters i d) (get_or clusters j d) a.0 b.0 (g.in_order i j d less shorter));
}
  where
    early : parent_of parents place < place
    early = let most : parent_of parents place ≤ place = f.back place (omega (arith, low, f.size)) in omega (arith, most, branch)

    inside : n < length clusters
    inside = let under : get_or numbers (parent_of parents place) 0 < length clusters = g.below (parent_of parents place) early in omega (arith, under, is)

    same_length : length (set clusters n (get_or clusters n [] ++ cell_of cells place ∷ [])) ≡ length clusters
    same_length = length-set clusters n (get_or clusters n [] ++ cell_of cells place ∷ [])

    below : (k : ℕ) → k < place + 1 → (k ≡ place) ⊎ (k ≢ place)
        → get_or (numbers ++ n ∷ []) k 0 < length (set clusters n (get_or clusters n [] ++ cell_of cells place ∷ []))
    below k less (inl same) =
        let here : get_or (numbers ++ n ∷ []) k 0 ≡ n = ap (λ (i : ℕ). get_or (numbers ++ n ∷ []) i 0) same ∙ at_end numbers n place g.size in
        omega (arith, here, inside, same_length)
    below k less (inr different) =
        let sooner : k < place = omega (arith, less, different) in
        let there : get_or (numbers ++ n ∷ []) k 0 ≡ get_or numbers k 0 = as_before numbers n place k g.size sooner in
        let under : get_or numbers k 0 < length clusters = g.below k sooner in
        omega (arith, there, under, same_length)

    lists : (m : ℕ) → m < length (set clusters n (get_or clusters n [] ++ cell_of cells place ∷ [])) → (m ≡ n) ⊎ (m ≢ n)
        → get_or (set clusters n (get_or clusters n [] ++ cell_of cells place ∷ [])) m [] ≡ numbered m (numbers ++ n ∷ []) cells
    lists m less (inl same) =
        ap (λ (i : ℕ). get_or (set clusters n (get_or clusters n [] ++ cell_of cells place ∷ [])) i []) same
        ∙ get_or-set_same clusters n (get_or clusters n [] ++ cell_of cells place ∷ []) [] inside
        ∙ ap (λ (ds : List Cell). ds ++ cell_of cells place ∷ []) (g.lists n inside) ∙ sym (numbered-this n numbers cells place g.size low)
        ∙ ap (λ (i : ℕ). numbered i (numbers ++ n ∷ []) cells) (sym same)
    lists m less (inr different) =
        get_or-set_other clusters n m (get_or clusters n [] ++ cell_of cells place ∷ []) [] different ∙ g.lists m (omega (arith, less, same_length))
        ∙ sym (numbered-other m n numbers cells (λ e. different (sym e)) (omega (arith, low, g.size)))

    grown : (m : ℕ) (d : List Cell) → (m ≡ n) ⊎ (m ≢ n)
        → (more : List Cell) × (get_or (set clusters n (get_or clusters n [] ++ cell_of cells place ∷ [])) m d ≡ get_or clusters m d ++ more)
    grown m d (inl same) = (
      cell_of cells place ∷ [],
      ap (λ (i : ℕ). get_or (set clusters n (get_or clusters n [] ++ cell_of cells place ∷ [])) i d) same
          ∙ get_or-set_same clusters n (get_or clusters n [] ++ cell_of cells place ∷ []) d inside
          ∙ ap (λ (ds : List Cell). ds ++ cell_of cells place ∷ []) (get_or_default clusters n [] d inside)
          ∙ ap (λ (i : ℕ). get_or clusters i d ++ cell_of cells place ∷ []) (sym same),
    )
    grown m d (inr different) = (
      [],
      get_or-set_other clusters n m (get_or clusters n [] ++ cell_of cells place ∷ []) d different ∙ sym (append-nil (get_or clusters m d)),
    )

-- a cluster is still a pattern after the cell at `place` is appended
pattern-other : (cells : List Cell) (parents numbers : List ℕ) (clusters : List (List Cell)) (place n : ℕ) → IsPattern cells → place < length cells
    → n < length clusters → ArePutInClusters cells parents numbers clusters place → IsPattern (get_or clusters n [] ++ cell_of cells place ∷ [])
pattern-other cells parents numbers clusters place n is low inside g =
    subst IsPattern (numbered-this n numbers cells place g.size low
    ∙ ap (λ (ds : List Cell). ds ++ cell_of cells place ∷ []) (sym (g.lists n inside))) (is_pattern-numbered n (numbers ++ n ∷ []) cells is)

pub pattern-root : (cells : List Cell) (place : ℕ) → IsPattern cells → place < length cells → IsPattern (cell_of cells place ∷ [])
pattern-root cells place is low = record {
  in_order = in_order-cons (cell_of cells place) [] tt in_order-nil;
  on_plane = has-list_all on_plane (cell_of cells place ∷ []) (λ d h. list_all-has on_plane cells is.on_plane d (go d (has-cases (cell_of cells place) [] d h)));
}
  where
    go : (d : Cell) → (d ≡ cell_of cells place) ⊎ (has [] d ≡ true) → has cells d ≡ true
    go d (inl same) = subst (λ (x : Cell). has cells x ≡ true) (sym same) (has-cell_of cells place low)
    go d (inr none) = absurd (false≢true none)

-- ---- all places

-- the place of a cell of the pattern
place_of : (cells : List Cell) (c : Cell) → has cells c ≡ true → (k : ℕ) × (k < length cells) × (cell_of cells k ≡ c)
place_of [] c h = absurd (false≢true h)
place_of (d ∷ ds) c h = go (has-cases d ds c h) (place_of ds c)
  where
    go : (c ≡ d) ⊎ (has ds c ≡ true) → (has ds c ≡ true → (k : ℕ) × (k < length ds) × (cell_of ds k ≡ c))
        → (k : ℕ) × (k < length (d ∷ ds)) × (cell_of (d ∷ ds) k ≡ c)
    go (inl same) ih = (0, omega arith, sym same)
    go (inr more) ih = let p = ih more in let low : p.0 < length ds = p.1 in (suc p.0, omega (arith, low), p.2)

-- near cells have the same number
abbrev NearAlike : List Cell → List ℕ → Type 0
NearAlike cells numbers = (j k : ℕ) → j < length cells → k < length cells → king_distance (cell_of cells j) (cell_of cells k) ≤ 2
    → get_or numbers j 0 ≡ get_or numbers k 0

near_alike : (cells : List Cell) (parents numbers : List ℕ) → JoinsAll cells parents (length cells)
    → Labels parents (λ k. get_or numbers k 0) → NearAlike cells numbers
near_alike cells parents numbers joins labels j k low high near = elim (cases_lt j k) [
  | inl less ↦ joins j k less high near (λ i. get_or numbers i 0) labels
  | inr more ↦ elim (cases_eq j k) [
    | inl same ↦ ap (λ (i : ℕ). get_or numbers i 0) same
    | inr different ↦
        let back : k < j = omega (arith, more, different) in
        sym (joins k j back low (omega (arith, near, king_distance-sym (cell_of cells k) (cell_of cells j))) (λ i. get_or numbers i 0) labels)
  ]
]

-- if near cells have the same number, the end of a path has the same number as its start
walk : (cells : List Cell) (numbers : List ℕ) (n : ℕ) → length numbers ≡ length cells → NearAlike cells numbers → (path : List Cell) (k : ℕ) (d : Cell)
    → k < length cells → get_or numbers k 0 ≡ n → Leads cells (cell_of cells k) path d → has (numbered n numbers cells) d ≡ true
walk cells numbers n size alike [] k d low is leads =
    subst (λ (x : Cell). has (numbered n numbers cells) x ≡ true) leads (numbered-has n numbers cells k (omega (arith, low, size)) low is)
walk cells numbers n size alike (e ∷ es) k d low is leads =
    let p = place_of cells e leads.0 in
    let close : king_distance (cell_of cells k) (cell_of cells p.0) ≤ 2 =
    subst (λ (x : Cell). king_distance (cell_of cells k) x ≤ 2) (sym p.2) leads.1 in
    walk cells numbers n size alike es p.0 d p.1 (sym (alike k p.0 low p.1 close) ∙ is)
    (subst (λ (x : Cell). Leads cells x es d) (sym p.2) leads.2)

-- once all places are passed, `clusters` are the clusters of the pattern, if the forest joins any two places whose
-- cells are near each other
pub gathered_all : (cells : List Cell) (parents numbers : List ℕ) (clusters : List (List Cell)) (place : ℕ) → InOrder cells → IsForest cells parents
    → JoinsAll cells parents (length cells) → length cells ≤ place → ArePutInClusters cells parents numbers clusters place → AreClusters cells clusters
gathered_all cells parents numbers clusters place o f joins all g = record {
  each = λ n d low. subst (IsCluster cells) (sym (get_or_default clusters n d [] low ∙ g.lists n low)) (is_cluster n low (g.used n low));
  every = λ c h. every c (place_of cells c h);
  in_order = g.in_order;
}
  where
    whole : place ≡ length cells
    whole = let few : place ≤ length cells = g.few in omega (arith, few, all)

    size : length numbers ≡ length cells
    size = g.size ∙ whole

    alike : NearAlike cells numbers
    alike = near_alike cells parents numbers joins (λ k low. g.labels k (omega (arith, low, f.size, whole)))

    is_cluster : (n : ℕ) → n < length clusters → (k : ℕ) × (k < place) × (get_or numbers k 0 ≡ n) → IsCluster cells (numbered n numbers cells)
    is_cluster n low u = record {
      in_order = in_order-numbered n numbers cells o;
      start = cell_of cells u.0;
      has_start = has-cell_of cells u.0 early;
      members = λ d. (
        (λ h. there d (has-numbered n numbers cells d h)),
        (λ l. walk cells numbers n size alike l.path u.0 d early u.2 l.leads),
      );
    }
      where
        early : u.0 < length cells
        early = let low : u.0 < place = u.1 in omega (arith, low, whole)

        there : (d : Cell) → StandsAt n numbers cells d → Linked cells (cell_of cells u.0) d
        there d s =
            let short : s.place < length numbers = s.few in
            subst (λ (x : Cell). Linked cells (cell_of cells u.0) x) s.cell
            (g.linked u.0 s.place u.1 (omega (arith, short, g.size)) (u.2 ∙ sym s.number))

    every : (c : Cell) → (k : ℕ) × (k < length cells) × (cell_of cells k ≡ c) → Any (λ cluster. has cluster c ≡ true) clusters
    every c p =
        let low : p.0 < place = let few : p.0 < length cells = p.1 in omega (arith, few, whole) in
        let inside : get_or numbers p.0 0 < length clusters = g.below p.0 low in (
          get_or numbers p.0 0,
          numbered (get_or numbers p.0 0) numbers cells,
          inside,
          get_or_default clusters (get_or numbers p.0 0) (numbered (get_or numbers p.0 0) numbers cells) [] inside ∙ g.lists (get_or numbers p.0 0) inside,
          subst (λ (x : Cell). has (numbered (get_or numbers p.0 0) numbers cells) x ≡ true) p.2
              (numbered-has (get_or numbers p.0 0) numbers cells p.0 (omega (arith, low, g.size)) p.1 refl),
        )

pub gathered_patterns : (cells : List Cell) (parents numbers : List ℕ) (clusters : List (List Cell)) (place : ℕ) → IsPattern cells
    → ArePutInClusters cells parents numbers clusters place → All IsPattern clusters
gathered_patterns cells parents numbers clusters place is g n d low =
    subst IsPattern (sym (get_or_default clusters n d [] low ∙ g.lists n low)) (is_pattern-numbered n numbers cells is)

-- a place that isn't a root gets the number of an existing cluster
number_inside : (cells : List Cell) (parents numbers : List ℕ) (clusters : List (List Cell)) (place n : ℕ) → IsForest cells parents
    → place < length cells → parent_of parents place ≢ place → n ≡ get_or numbers (parent_of parents place) 0
    → ArePutInClusters cells parents numbers clusters place → n < length clusters
number_inside cells parents numbers clusters place n f low branch is g =
    let most : parent_of parents place ≤ place = f.back place (omega (arith, low, f.size)) in
    let early : parent_of parents place < place = omega (arith, most, branch) in
    let under : get_or numbers (parent_of parents place) 0 < length clusters = g.below (parent_of parents place) early in
    omega (arith, under, is)

-- ---- an iteration of the loop

-- the iteration that gives a number to `place`
module _ (cells : List Cell) (parents : List ℕ) (clusters : List (List Cell)) (place : ℕ) (low : place < length cells)
    (g : IsGatheringCells cells parents clusters place) where
  -- the parent of `place` in `parents` is still its parent in the forest
  leads : parent_of g.forest place ≡ parent_of parents place
  leads =
      let here : place ≡ place + 0 = omega arith in
      ap (parent_of g.forest) here ∙ sym (get_or-drop place g.forest 0 0) ∙ ap (λ ps. get_or ps 0 0) (sym g.others) ∙ get_or-drop place parents 0 0
      ∙ ap (parent_of parents) (sym here)

  pub parent_inside : parent_of parents place ≤ place
  parent_inside = let most = g.is_forest.back place (omega (arith, low, g.is_forest.size)) in omega (arith, most, leads)

  -- if `place` isn't a root, the entry of `parents` at its parent is the parent's number
  number_there : parent_of parents place ≢ place → parent_of parents (parent_of parents place) ≡ get_or (take place parents) (parent_of g.forest place) 0
  number_there branch =
      let most = parent_inside in
      let early : parent_of parents place < place = omega (arith, most, branch) in
      sym (get_or-take place parents (parent_of parents place) 0 early) ∙ ap (λ k. get_or (take place parents) k 0) (sym leads)

  one_more : (n : ℕ) (new : List (List Cell)) → ArePutInClusters cells g.forest (take place parents ++ n ∷ []) new (place + 1)
      → IsGatheringCells cells (set parents place n) new (place + 1)
  one_more n new more = record {
    forest = g.forest;
    is_forest = g.is_forest;
    joined = g.joined;
    size = length-set parents place n ∙ g.size;
    passed = subst (λ ns. ArePutInClusters cells g.forest ns new (place + 1)) (sym (take_more_set parents place n (omega (arith, low, g.size)))) more;
    others = drop-set-lt (place + 1) parents place n (omega arith) ∙ drop_more_same parents g.forest place g.others;
  }

  -- after a root has begun a cluster, the loop's invariant holds for the next place
  pub gathering-begun : {E : Type 0} (begun : Result (Unit {0}) E) (new : List (List Cell)) → IsPattern cells → parent_of parents place ≡ place
      → OnOk begun (new ≡ clusters ++ (cell_of cells place ∷ []) ∷ []) → OnOk begun (IsGatheringCells cells (set parents place (length clusters)) new (place + 1))
  gathering-begun begun new p root grown = on_ok_weaker begun (λ is. one_more (length clusters) new
      (subst (λ cs. ArePutInClusters cells g.forest (take place parents ++ length clusters ∷ []) cs (place + 1)) (sym is)
      (gathering-root cells g.forest (take place parents) clusters place p.in_order g.is_forest low (leads ∙ root) g.passed))) grown

  -- a place that isn't a root gets the number of an existing cluster
  pub number_is_inside : parent_of parents place ≢ place → parent_of parents (parent_of parents place) < length clusters
  number_is_inside branch = number_inside cells g.forest (take place parents) clusters place _ g.is_forest low
      (λ e. branch (sym leads ∙ e)) (number_there branch) g.passed

  pub pattern_grown : IsPattern cells → parent_of parents place ≢ place
      → IsPattern (get_or clusters (parent_of parents (parent_of parents place)) [] ++ cell_of cells place ∷ [])
  pattern_grown p branch = pattern-other cells g.forest (take place parents) clusters place _ p low (number_is_inside branch) g.passed

  pub gathering-grown : {E : Type 0} (grown : Result (Unit {0}) E) (new : List (List Cell)) → IsPattern cells → parent_of parents place ≢ place
      → OnOk grown (new ≡ set clusters (parent_of parents (parent_of parents place))
      (get_or clusters (parent_of parents (parent_of parents place)) [] ++ cell_of cells place ∷ []))
      → OnOk grown (IsGatheringCells cells (set parents place (parent_of parents (parent_of parents place))) new (place + 1))
  gathering-grown grown new p branch told = on_ok_weaker grown (λ is. one_more _ new
      (subst (λ cs. ArePutInClusters cells g.forest (take place parents ++ parent_of parents (parent_of parents place) ∷ []) cs (place + 1)) (sym is)
      (gathering-other cells g.forest (take place parents) clusters place _ p.in_order g.is_forest low (λ e. branch (sym leads ∙ e)) (number_there branch)
      g.passed))) told

-- at the first place, `ArePutInClusters` holds for an empty list of numbers and an empty list of clusters
gathering-none : (cells : List Cell) (parents numbers : List ℕ) (clusters : List (List Cell)) → numbers ≡ [] → clusters ≡ []
    → ArePutInClusters cells parents numbers clusters 0
gathering-none cells parents numbers clusters none empty =
    rw (none, empty) (record {
      size = refl;
      few = omega arith;
      labels = λ k less. absurd (omega (arith, less));
      below = λ k less. absurd (omega (arith, less));
      lists = λ n less. absurd (omega (arith, less));
      used = λ n less. absurd (omega (arith, less));
      linked = λ j k less more same. absurd (omega (arith, less));
      in_order = λ i j d less more. absurd (omega (arith, more));
    })

pub gathering-start : (cells : List Cell) (parents : List ℕ) (clusters : List (List Cell)) → IsForest cells parents → JoinsAll cells parents (length cells)
    → clusters ≡ [] → IsGatheringCells cells parents clusters 0
gathering-start cells parents clusters f joined empty = record {
  forest = parents;
  is_forest = f;
  joined = joined;
  size = f.size;
  passed = gathering-none cells parents [] clusters refl empty;
  others = refl;
}
