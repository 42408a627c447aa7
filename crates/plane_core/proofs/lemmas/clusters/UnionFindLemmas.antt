-- Forests over the places of a pattern's cells: roots, joined trees, and rows.
use Rattle.std.proofs.Common.{◌≡◌, ◌≢◌, ℕ, ℤ, ◌+◌, ◌-◌, ◌+ℤ◌, ◌<◌, ◌≤◌, ◌<ℤ◌, ◌≤ℤ◌, max, min, pos, negsuc, true, List, arith, refl, ap, ◌∙◌, sym, subst, inl, inr, ◌⊎◌, length, set}
use Rattle.std.specs.Cmp.{int_ranks}
use Rattle.std.specs.Ordering.{int_cmp, is_lt, ordering_then, MatchOrdering}
use Rattle.std.specs.declared.cmp.Ordering.{Ordering}
use Rattle.std.specs.declared.cmp.Ordering.TheVariants.{Less, Equal, Greater}
use Rattle.std.proofs.lemmas.Bool.{cases_eq, cases_lt, false≢true}
use Rattle.std.proofs.lemmas.Int.{ints}
use Rattle.std.proofs.lemmas.List.{get_or-set_same, get_or-set_other, length-set}
use Rattle.std.proofs.lemmas.List.Elements.{Contains-get_or}
use Rattle.std.proofs.lemmas.Map.Keys.{Less-from_sorted}
use borrow.Author.Count.{below_more}
use Rattle.plane_core.specs.declared.plane.cell.Cell.{Cell}
use Rattle.plane_core.specs.plane.Cells.{cell_cmp, distance, king_distance, moved_by, has, InOrder}
use Rattle.plane_core.specs.clusters.Clusters.{Linked}
use Rattle.plane_core.specs.clusters.UnionFind.{cell_of, parent_of, LeadsBack, IsForest, Labels, Joined, Keeps, JoinsAll, IsBridged, IsFresh, IsRow, AreRowsAbove, NeedsJoin}
use Rattle.plane_core.specs.declared.clusters.union_find.RowPlaces.{RowPlaces}
use Rattle.plane_core.specs.declared.clusters.union_find.RowsAbove.{RowsAbove}
use Rattle.plane_core.proofs.lemmas.plane.CellLemmas.{cell_cmp_total, cell_cmp-moved}
use Rattle.plane_core.proofs.lemmas.plane.SetLemmas.{Contains-has}
use Rattle.plane_core.proofs.lemmas.clusters.ClusterLemmas.{linked-itself, linked-near, linked-trans, linked-sym}
use Rattle.plane_core.proofs.lemmas.Between.{JoinsLinked}

pub has-cell_of : (cells : List Cell) (k : ℕ) → k < length cells → has cells (cell_of cells k) ≡ true
has-cell_of cells k low = Contains-has cells (cell_of cells k) (Contains-get_or cells k _ low)

-- ---- roots

-- `at` is on the way from `place` to its root: the places are joined, and their cells are linked
pub record Climbs (parents : List ℕ) (place at : ℕ) : Type 0 where
  pub low : at < length parents
  pub joined : Joined parents place at
  pub linked : (cells : List Cell) → IsForest cells parents → Linked cells (cell_of cells place) (cell_of cells at)

pub climbs-more : (parents : List ℕ) (place at : ℕ) → LeadsBack parents → Climbs parents place at → Climbs parents place (parent_of parents at)
climbs-more parents place at back c = record {
  low = let low : at < length parents = c.low in let less : parent_of parents at ≤ at = back at c.low in omega arith;
  joined = λ label labels. c.joined label labels ∙ sym (labels at c.low);
  linked = λ cells f. linked-trans cells (cell_of cells place) (cell_of cells at) (cell_of cells (parent_of parents at)) (c.linked cells f) (f.linked at c.low);
}

-- ---- joining two trees

-- the trees of the places `one` and `other` have been joined
pub record AreJoined (old new : List ℕ) (one other : ℕ) : Type 0 where
  pub forest : JoinsLinked old new one other
  pub keeps : Keeps old new
  pub joined : Joined new one other

-- Making the root `later` lead to the place `first` joins the trees of `one` and `other`, if one of these trees has
-- `later` and the other has `first`. The place `first` isn't after `later`.
hangs : (parents : List ℕ) (later first one other : ℕ) → first ≤ later → later < length parents → parent_of parents later ≡ later
    → ((label : ℕ → ℕ) → Labels parents label → label first ≡ label later → label one ≡ label other)
    → ((cells : List Cell) → IsForest cells parents → Linked cells (cell_of cells one) (cell_of cells other) → Linked cells (cell_of cells later) (cell_of cells first))
    → AreJoined parents (set parents later first) one other
hangs parents later first one other less low root equal link = record {
  forest = λ cells f l. record {
    size = length-set parents later first ∙ f.size;
    back = λ k few. elim (cases_eq k later) [
      | inl same ↦ rw (same, here) less
      | inr different ↦ rw (there k different) (f.back k (fewer k few))
    ];
    linked = λ k few. elim (cases_eq k later) [
      | inl same ↦ rw (same, here) (link cells f l)
      | inr different ↦ rw (there k different) (f.linked k (fewer k few))
    ];
  };
  keeps = keeps;
  joined = λ label labels. equal label (keeps label labels) (hung label labels);
}
  where
    here : parent_of (set parents later first) later ≡ first
    here = get_or-set_same parents later first 0 low

    there : (k : ℕ) → k ≢ later → parent_of (set parents later first) k ≡ parent_of parents k
    there k different = get_or-set_other parents later k first 0 different

    fewer : (k : ℕ) → k < length (set parents later first) → k < length parents
    fewer k few = omega (arith, few, length-set parents later first)

    more : (k : ℕ) → k < length parents → k < length (set parents later first)
    more k few = omega (arith, few, length-set parents later first)

    hung : (label : ℕ → ℕ) → Labels (set parents later first) label → label first ≡ label later
    hung label labels = ap label (sym here) ∙ labels later (more later low)

    keeps : Keeps parents (set parents later first)
    keeps label labels k few = elim (cases_eq k later) [
      | inl same ↦ ap (λ n. label (parent_of parents n)) same ∙ ap label root ∙ ap label (sym same)
      | inr different ↦ ap label (sym (there k different)) ∙ labels k (more k few)
    ]

-- two trees are joined by making the later root lead to the earlier root
pub joined_roots : (parents : List ℕ) (one other left right : ℕ) → Climbs parents one left → Climbs parents other right → parent_of parents left ≡ left
    → parent_of parents right ≡ right → AreJoined parents (set parents (max left right) (min left right)) one other
joined_roots parents one other left right a b is_left is_right = elim (cases_lt left right) [
  | inl less ↦
      let most : max left right ≡ right = omega arith in
      let least : min left right ≡ left = omega arith in
      let low : left ≤ right = omega arith in
      rw (most, least) (hangs parents right left one other low b.low is_right
      (λ label labels e. a.joined label labels ∙ e ∙ sym (b.joined label labels))
      (λ cells f l. linked-sym cells (cell_of cells left) (cell_of cells right) (along cells f l)))
  | inr more ↦
      let most : max left right ≡ left = omega arith in
      let least : min left right ≡ right = omega arith in
      rw (most, least) (hangs parents left right one other more a.low is_left
      (λ label labels e. a.joined label labels ∙ sym e ∙ sym (b.joined label labels))
      (λ cells f l. along cells f l))
]
  where
    along : (cells : List Cell) → IsForest cells parents → Linked cells (cell_of cells one) (cell_of cells other)
        → Linked cells (cell_of cells left) (cell_of cells right)
    along cells f l =
        linked-trans cells (cell_of cells left) (cell_of cells one) (cell_of cells right)
        (linked-sym cells (cell_of cells one) (cell_of cells left) (a.linked cells f))
        (linked-trans cells (cell_of cells one) (cell_of cells other) (cell_of cells right) l (b.linked cells f))

pub joined-kept : (old new : List ℕ) (j k : ℕ) → Keeps old new → Joined old j k → Joined new j k
joined-kept old new j k keeps joined label labels = joined label (keeps label labels)

pub keeps-then : (a b c : List ℕ) → Keeps a b → Keeps b c → Keeps a c
keeps-then a b c first second label labels = first label (second label labels)

pub near_linked : (cells : List Cell) (j k : ℕ) → j < length cells → k < length cells → king_distance (cell_of cells j) (cell_of cells k) ≤ 2
    → Linked cells (cell_of cells j) (cell_of cells k)
near_linked cells j k few less near = linked-near cells (cell_of cells j) (cell_of cells k) (has-cell_of cells j few) (has-cell_of cells k less) near

-- ---- the order of places

pub in_places : (cells : List Cell) (j k : ℕ) → InOrder cells → j < k → k < length cells → cell_cmp (cell_of cells j) (cell_of cells k) ≡ Less
in_places cells j k o less low = Less-from_sorted cell_cmp cells j k _ o less low

-- a cell that comes before another is in a row above it, or in the same row and further left
pub before_cases : (a b : Cell) → cell_cmp a b ≡ Less → (a.y <ℤ b.y) ⊎ ((a.y ≡ b.y) × (a.x <ℤ b.x))
before_cases a b e = rows (int_cmp a.y b.y) (int_ranks a.y b.y) e
  where
    columns : (r : Ordering) → MatchOrdering r (a.x <ℤ b.x) (a.x ≡ b.x) (b.x <ℤ a.x) → r ≡ Less → a.x <ℤ b.x
    columns Less is e = is
    columns Equal is e = cc
    columns Greater is e = cc

    rows : (r : Ordering) → MatchOrdering r (a.y <ℤ b.y) (a.y ≡ b.y) (b.y <ℤ a.y) → ordering_then r (int_cmp a.x b.x) ≡ Less
        → (a.y <ℤ b.y) ⊎ ((a.y ≡ b.y) × (a.x <ℤ b.x))
    rows Less is e = inl is
    rows Equal is e = inr (is, columns (int_cmp a.x b.x) (int_ranks a.x b.x) e)
    rows Greater is e = cc

-- if c is near d and is `dy` rows below d, c doesn't come before the cell of its row that is two columns left of d
not_left : (c d : Cell) (dy : ℤ) → c.y ≡ (d.y +ℤ dy) → king_distance c d ≤ 2 → cell_cmp c (moved_by (negsuc 1) dy d) ≢ Less
not_left c d dy row near e = elim (before_cases c (moved_by (negsuc 1) dy d) e) [
  | inl above ↦ let up : c.y <ℤ (d.y +ℤ dy) = above in absurd (omega (arith, ints, up, row))
  | inr left ↦
      let far : c.x <ℤ (d.x +ℤ negsuc 1) = left.1 in
      let most : distance c.x d.x ≤ 2 = omega (arith, near) in
      absurd (omega (arith, ints, far, most))
]

-- if c is near d and is `dy` rows below d, c doesn't come after the cell of its row that is two columns right of d
not_right : (c d : Cell) (dy : ℤ) → c.y ≡ (d.y +ℤ dy) → king_distance c d ≤ 2 → cell_cmp (moved_by (pos 2) dy d) c ≢ Less
not_right c d dy row near e = elim (before_cases (moved_by (pos 2) dy d) c e) [
  | inl above ↦ let up : (d.y +ℤ dy) <ℤ c.y = above in absurd (omega (arith, ints, up, row))
  | inr right ↦
      let far : (d.x +ℤ pos 2) <ℤ c.x = right.1 in
      let most : distance c.x d.x ≤ 2 = omega (arith, near) in
      absurd (omega (arith, ints, far, most))
]

-- an earlier cell near d is in the row of d or in one of the two rows above it
near_rows : (c d : Cell) → cell_cmp c d ≡ Less → king_distance c d ≤ 2 → (c.y ≡ (d.y +ℤ pos 0)) ⊎ ((c.y ≡ (d.y +ℤ negsuc 0)) ⊎ (c.y ≡ (d.y +ℤ negsuc 1)))
near_rows c d e near = go (before_cases c d e)
  where
    most : distance c.y d.y ≤ 2
    most = omega (arith, near)

    go : (c.y <ℤ d.y) ⊎ ((c.y ≡ d.y) × (c.x <ℤ d.x)) → (c.y ≡ (d.y +ℤ pos 0)) ⊎ ((c.y ≡ (d.y +ℤ negsuc 0)) ⊎ (c.y ≡ (d.y +ℤ negsuc 1)))
    go (inr same) = inl (omega (arith, ints, same.0))
    go (inl above) = inr (rows (int_cmp c.y (d.y +ℤ negsuc 0)) (int_ranks c.y (d.y +ℤ negsuc 0)))
      where
        rows : (r : Ordering) → MatchOrdering r (c.y <ℤ (d.y +ℤ negsuc 0)) (c.y ≡ (d.y +ℤ negsuc 0)) ((d.y +ℤ negsuc 0) <ℤ c.y)
            → (c.y ≡ (d.y +ℤ negsuc 0)) ⊎ (c.y ≡ (d.y +ℤ negsuc 1))
        rows Less is = inr (omega (arith, ints, is, most))
        rows Equal is = inl is
        rows Greater is = absurd (omega (arith, ints, is, above))

-- a cell comes before each cell of a lower row
before_up : (a b : Cell) → a.y <ℤ b.y → cell_cmp a b ≡ Less
before_up a b up = go (int_cmp a.y b.y) (int_ranks a.y b.y)
  where
    go : (r : Ordering) → MatchOrdering r (a.y <ℤ b.y) (a.y ≡ b.y) (b.y <ℤ a.y) → ordering_then r (int_cmp a.x b.x) ≡ Less
    go Less is = refl
    go Equal is = absurd (omega (arith, ints, is, up))
    go Greater is = absurd (omega (arith, ints, is, up))

-- a cell comes before each cell further right in the same row
pub before_left : (a b : Cell) → a.y ≡ b.y → a.x <ℤ b.x → cell_cmp a b ≡ Less
before_left a b row left = go (int_cmp a.y b.y) (int_ranks a.y b.y)
  where
    columns : (r : Ordering) → MatchOrdering r (a.x <ℤ b.x) (a.x ≡ b.x) (b.x <ℤ a.x) → r ≡ Less
    columns Less is = refl
    columns Equal is = absurd (omega (arith, ints, is, left))
    columns Greater is = absurd (omega (arith, ints, is, left))

    go : (r : Ordering) → MatchOrdering r (a.y <ℤ b.y) (a.y ≡ b.y) (b.y <ℤ a.y) → ordering_then r (int_cmp a.x b.x) ≡ Less
    go Less is = refl
    go Equal is = columns (int_cmp a.x b.x) (int_ranks a.x b.x)
    go Greater is = absurd (omega (arith, ints, is, row))

-- no cell at an earlier place is in a lower row
pub not_lower : (cells : List Cell) (j k : ℕ) → InOrder cells → j < k → k < length cells → (cell_of cells j).y ≤ℤ (cell_of cells k).y
not_lower cells j k o less low = elim (before_cases (cell_of cells j) (cell_of cells k) (in_places cells j k o less low)) [
  | inl above ↦ omega (arith, ints, above)
  | inr same ↦ omega (arith, ints, same.0)
]

-- ---- the rows above a place

-- the next place of the same row has the same rows above it
pub same_rows : (cells : List Cell) (rows : RowsAbove) (place : ℕ) → InOrder cells → 0 < place → place < length cells
    → (cell_of cells (place - 1)).y ≡ (cell_of cells place).y → AreRowsAbove cells rows (place - 1) → AreRowsAbove cells rows place
same_rows cells rows place o some low level r = record {
  few = omega (arith, r.few);
  begun = λ k less. let up = r.begun k less in omega (arith, ints, up, level);
  above = one rows.above 0 r.above;
  top = one rows.top 1 r.top;
}
  where
    old : Cell
    old = cell_of cells (place - 1)

    new : Cell
    new = cell_of cells place

    one : (row : RowPlaces) (n : ℕ) → IsRow cells row (place - 1) (moved_by (negsuc 1) (negsuc n) old) → IsRow cells row place (moved_by (negsuc 1) (negsuc n) new)
    one row n is = record {
      order = is.order;
      few = omega (arith, is.few);
      passed = λ k less.
          cell_cmp_total.trans (cell_of cells k) (moved_by (negsuc 1) (negsuc n) old) (moved_by (negsuc 1) (negsuc n) new) (is.passed k less)
          (cell_cmp-moved (negsuc 1) (negsuc n) old new ∙ in_places cells (place - 1) place o (omega (arith, some)) low);
      level = λ k least less. let at = is.level k least less in omega (arith, ints, at, level);
      later = λ k least less. elim (cases_lt k (place - 1)) [
        | inl few ↦ let under = is.later k least few in omega (arith, ints, under, level)
        | inr last ↦
            let same : k ≡ place - 1 = omega (arith, last, less) in
            let row_is : (cell_of cells k).y ≡ old.y = ap (λ (m : ℕ). (cell_of cells m).y) same in
            omega (arith, ints, row_is, level)
      ];
    }

-- If `place` is the first place of its row, the places from `end` to before `place` are the row just above, and the
-- places from `begin` to before `end` are the row above that. Here `begin` is the first place whose cell is at most two
-- rows above `place`, and `end` is the first place whose cell is at most one row above `place`.
pub new_rows : (cells : List Cell) (rows : RowsAbove) (place begin end : ℕ) → InOrder cells → 0 < place → place < length cells
    → (cell_of cells (place - 1)).y ≢ (cell_of cells place).y → AreRowsAbove cells rows (place - 1) → rows.begin ≤ begin → begin ≤ place
    → ((k : ℕ) → rows.begin ≤ k → k < begin → (cell_of cells k).y <ℤ ((cell_of cells place).y +ℤ negsuc 1))
    → (begin < place → ((cell_of cells place).y +ℤ negsuc 1) ≤ℤ (cell_of cells begin).y) → begin ≤ end → end ≤ place
    → ((k : ℕ) → begin ≤ k → k < end → (cell_of cells k).y <ℤ ((cell_of cells place).y +ℤ negsuc 0))
    → (end < place → ((cell_of cells place).y +ℤ negsuc 0) ≤ℤ (cell_of cells end).y)
    → AreRowsAbove cells (record { begin = begin; above = record { from = end; end = place }; top = record { from = begin; end = end } }) place
new_rows cells rows place begin end o some low apart r begin_least begin_most before_begin at_begin end_least end_most before_end at_end = record {
  few = begin_most;
  begun = further;
  above = record {
    order = end_most;
    few = omega arith;
    passed = λ k less. before_up (cell_of cells k) (moved_by (negsuc 1) (negsuc 0) new) (above_end k less);
    level = λ k least less.
        let up = higher k less in
        let down = from_end k least less in
        omega (arith, ints, up, down);
    later = λ k least less. absurd (omega (arith, least, less));
  };
  top = record {
    order = end_least;
    few = end_most;
    passed = λ k less. before_up (cell_of cells k) (moved_by (negsuc 1) (negsuc 1) new) (further k less);
    level = λ k least less.
        let up = before_end k least less in
        let down = from_begin k least (omega (arith, less, end_most)) in
        omega (arith, ints, up, down);
    later = λ k least less. let down = from_end k least less in omega (arith, ints, down);
  };
}
  where
    new : Cell
    new = cell_of cells place

    -- all earlier cells are in higher rows
    higher : (k : ℕ) → k < place → (cell_of cells k).y <ℤ new.y
    higher k less =
        let last : (cell_of cells (place - 1)).y ≤ℤ new.y = not_lower cells (place - 1) place o (omega (arith, some)) low in
        elim (cases_lt k (place - 1)) [
          | inl few ↦
              let up = not_lower cells k (place - 1) o few (omega (arith, some, low)) in
              strict (cell_of cells k).y (cell_of cells (place - 1)).y new.y up last apart
          | inr late ↦
              let same : k ≡ place - 1 = omega (arith, late, less) in
              let row_is : (cell_of cells k).y ≤ℤ (cell_of cells (place - 1)).y = subst (λ (m : ℕ). (cell_of cells m).y ≤ℤ (cell_of cells (place - 1)).y) (sym same) (omega (arith, ints)) in
              strict (cell_of cells k).y (cell_of cells (place - 1)).y new.y row_is last apart
        ]
      where
        strict : (a b c : ℤ) → a ≤ℤ b → b ≤ℤ c → b ≢ c → a <ℤ c
        strict a b c h i d = grind (arith, ints, h, i, d)

    further : (k : ℕ) → k < begin → (cell_of cells k).y <ℤ (new.y +ℤ negsuc 1)
    further k less = elim (cases_lt k rows.begin) [
      | inl first ↦
          let up = r.begun k first in
          let last = not_lower cells (place - 1) place o (omega (arith, some)) low in
          omega (arith, ints, up, last)
      | inr least ↦ before_begin k least less
    ]

    above_end : (k : ℕ) → k < end → (cell_of cells k).y <ℤ (new.y +ℤ negsuc 0)
    above_end k less = elim (cases_lt k begin) [
      | inl first ↦ let up = further k first in omega (arith, ints, up)
      | inr least ↦ before_end k least less
    ]

    on : (m k : ℕ) (y : ℤ) → m ≤ k → k < length cells → y ≤ℤ (cell_of cells m).y → y ≤ℤ (cell_of cells k).y
    on m k y least less at = elim (cases_lt m k) [
      | inl before ↦ let up = not_lower cells m k o before less in omega (arith, ints, up, at)
      | inr late ↦ subst (λ (n : ℕ). y ≤ℤ (cell_of cells n).y) (omega (arith, late, least)) at
    ]

    from_begin : (k : ℕ) → begin ≤ k → k < place → (new.y +ℤ negsuc 1) ≤ℤ (cell_of cells k).y
    from_begin k least less = on begin k (new.y +ℤ negsuc 1) least (omega (arith, less, low)) (at_begin (omega (arith, least, less)))

    from_end : (k : ℕ) → end ≤ k → k < place → (new.y +ℤ negsuc 0) ≤ℤ (cell_of cells k).y
    from_end k least less = on end k (new.y +ℤ negsuc 0) least (omega (arith, less, low)) (at_end (omega (arith, least, less)))

-- the first places of a row can be dropped if their cells are left of `from`
pub row_skipped : (cells : List Cell) (row : RowPlaces) (place first : ℕ) (from : Cell) → IsRow cells row place from → row.from ≤ first → first ≤ row.end
    → ((k : ℕ) → row.from ≤ k → k < first → (cell_of cells k).x <ℤ from.x) → IsRow cells (record row { from = first }) place from
row_skipped cells row place first from is least most left = record {
  order = most;
  few = is.few;
  passed = λ k less. elim (cases_lt k row.from) [
    | inl before ↦ is.passed k before
    | inr after ↦ before_left (cell_of cells k) from (is.level k after (omega (arith, less, most))) (left k after less)
  ];
  level = λ k low less. is.level k (omega (arith, low, least)) less;
  later = is.later;
}

-- if the two rows above a cell begin later, at `first` and at `second`, and `IsRow` still holds for each of them, then
-- `AreRowsAbove` still holds
pub later_rows : (cells : List Cell) (rows : RowsAbove) (place first second : ℕ) (above top : Cell) → AreRowsAbove cells rows place
    → above ≡ moved_by (negsuc 1) (negsuc 0) (cell_of cells place) → top ≡ moved_by (negsuc 1) (negsuc 1) (cell_of cells place)
    → IsRow cells (record { from = first; end = rows.above.end }) place above → IsRow cells (record { from = second; end = rows.top.end }) place top
    → AreRowsAbove cells (record {
      begin = rows.begin;
      above = record { from = first; end = rows.above.end };
      top = record { from = second; end = rows.top.end };
    }) place
later_rows cells rows place first second above top r above_is top_is row_above row_top = record {
  few = r.few;
  begun = r.begun;
  above = subst (IsRow cells (record { from = first; end = rows.above.end }) place) above_is row_above;
  top = subst (IsRow cells (record { from = second; end = rows.top.end }) place) top_is row_top;
}

-- the cell where the scan of a row ends comes after `to`
pub past_scan : (cells : List Cell) (row : RowPlaces) (place at : ℕ) (from to : Cell) → IsRow cells row place from → to.y ≡ from.y → row.from ≤ at
    → (at < row.end → to.x <ℤ (cell_of cells at).x) → at < place → cell_cmp to (cell_of cells at) ≡ Less
past_scan cells row place at from to is end least right less = elim (cases_lt at row.end) [
  | inl inside ↦ let level = is.level at least inside in before_left to (cell_of cells at) (end ∙ sym level) (right inside)
  | inr outside ↦ let under = is.later at outside less in before_up to (cell_of cells at) (omega (arith, ints, under, end))
]

-- Let the cell b just before `place` be near `place` and in the same row. Then b bridges `place` and each cell near
-- `place` that is in a higher row and less than three columns right of b.
pub bridged : (cells : List Cell) (place : ℕ) → 1 ≤ place → InOrder cells → place < length cells
    → (cell_of cells (place - 1)).y ≡ (cell_of cells place).y → king_distance (cell_of cells (place - 1)) (cell_of cells place) ≤ 2
    → IsFresh cells ((cell_of cells (place - 1)).x +ℤ pos 3) place
bridged cells place some o low row right k less above left near = record {
  earlier = elim (cases_lt (k + 1) place) [
    | inl fine ↦ fine
    | inr late ↦
        let same : k ≡ place - 1 = omega (arith, less, late) in
        let level : c.y ≡ b.y = ap (λ (n : ℕ). (cell_of cells n).y) same in
        absurd (omega (arith, ints, level, row, above))
  ];
  left = omega (arith, across, down);
  right = right;
}
  where
    b : Cell
    b = cell_of cells (place - 1)

    c : Cell
    c = cell_of cells k

    d : Cell
    d = cell_of cells place

    wide : distance c.x d.x ≤ 2
    wide = omega (arith, near)

    high : distance c.y d.y ≤ 2
    high = omega (arith, near)

    ahead : b.x <ℤ d.x
    ahead = elim (before_cases b d (in_places cells (place - 1) place o (omega (arith, some)) low)) [
      | inl higher ↦ absurd (omega (arith, ints, higher, row))
      | inr same ↦ same.1
    ]

    across : distance c.x b.x ≤ 2
    across = omega (arith, ints, wide, ahead, left)

    down : distance c.y b.y ≤ 2
    down = omega (arith, ints, high, row)

-- `IsFresh` holds for the column two to the left of `place`, because no cell near `place` is further to the left
pub fresh_first : (cells : List Cell) (place : ℕ) (column : ℤ) → column ≡ ((cell_of cells place).x +ℤ negsuc 1) → IsFresh cells column place
fresh_first cells place column first k less above left near =
    let wide : distance (cell_of cells k).x (cell_of cells place).x ≤ 2 = omega (arith, near) in absurd (omega (arith, ints, wide, first, left))

-- if `from` and `to` are two columns left and two columns right of d, in a row at most two rows above d, each cell from
-- `from` to `to` is near d
pub near_row : (c d from to : Cell) (dy : ℤ) → from ≡ moved_by (negsuc 1) dy d → to ≡ moved_by (pos 2) dy d → negsuc 1 ≤ℤ dy → dy ≤ℤ pos 0
    → c.y ≡ from.y → from.x ≤ℤ c.x → c.x ≤ℤ to.x → king_distance c d ≤ 2
near_row c d from to dy begin end low most row left right =
    let first : from.x ≡ (d.x +ℤ negsuc 1) = ap (λ (e : Cell). e.x) begin in
    let last : to.x ≡ (d.x +ℤ pos 2) = ap (λ (e : Cell). e.x) end in
    let level : c.y ≡ (d.y +ℤ dy) = row ∙ ap (λ (e : Cell). e.y) begin in
    let wide : distance c.x d.x ≤ 2 = omega (arith, ints, first, last, left, right) in
    let high : distance c.y d.y ≤ 2 = omega (arith, ints, level, low, most) in
    omega (arith, wide, high)

-- each place of a row between `from` and `to` that needs to be joined with `place` is joined with it
abbrev pub JoinsRow : List Cell → List ℕ → ℕ → Cell → Cell → Type 0
JoinsRow cells parents place from to = (k : ℕ) → k < place → cell_cmp (cell_of cells k) from ≢ Less → cell_cmp to (cell_of cells k) ≢ Less
    → NeedsJoin cells k place → Joined parents k place

-- a cell between two near cells of the same row is near both
between : (c b d : Cell) → cell_cmp c b ≡ Less → cell_cmp b d ≡ Less → c.y ≡ (d.y +ℤ pos 0) → king_distance c d ≤ 2
    → (king_distance c b ≤ 2) × (king_distance b d ≤ 2)
between c b d first second row near = go (before_cases c b first) (before_cases b d second)
  where
    most : distance c.x d.x ≤ 2
    most = omega (arith, near)

    go : (c.y <ℤ b.y) ⊎ ((c.y ≡ b.y) × (c.x <ℤ b.x)) → (b.y <ℤ d.y) ⊎ ((b.y ≡ d.y) × (b.x <ℤ d.x))
        → (king_distance c b ≤ 2) × (king_distance b d ≤ 2)
    go (inl above) (inl under) = absurd (omega (arith, ints, above, under, row))
    go (inl above) (inr right) = absurd (omega (arith, ints, above, right.0, row))
    go (inr left) (inl under) = absurd (omega (arith, ints, left.0, under, row))
    go (inr left) (inr right) =
        let west : distance c.x b.x ≤ 2 = omega (arith, ints, left.1, right.1, most) in
        let east : distance b.x d.x ≤ 2 = omega (arith, ints, left.1, right.1, most) in
        let level : distance c.y b.y ≤ 2 = omega (arith, ints, left.0) in
        let even : distance b.y d.y ≤ 2 = omega (arith, ints, right.0) in
        (omega (arith, west, level), omega (arith, east, even))

-- Restates what `join_before` ensures about the place just before `place`, for each k with k + 1 ≡ place: if k is in
-- the row of `place` and needs to be joined with `place`, the two are joined.
pub joins_before : (cells : List Cell) (parents : List ℕ) (place : ℕ)
    → ((cell_of cells (place - 1)).y ≡ (cell_of cells place).y → NeedsJoin cells (place - 1) place → Joined parents (place - 1) place)
    → (k : ℕ) → k + 1 ≡ place → (cell_of cells k).y ≡ (cell_of cells place).y → NeedsJoin cells k place → Joined parents k place
joins_before cells parents place joined k next =
    let before : place - 1 ≡ k = omega (arith, next) in
    subst (λ j. (cell_of cells j).y ≡ (cell_of cells place).y → NeedsJoin cells j place → Joined parents j place) before joined

-- each earlier place that needs to be joined with `place` is joined with it, if this holds for the place just before
-- and for the places of the two rows above
pub joins_rows : (cells : List Cell) (a b c : List ℕ) (place : ℕ) → InOrder cells → place < length cells → Keeps a b → Keeps b c
    → ((k : ℕ) → k + 1 ≡ place → (cell_of cells k).y ≡ (cell_of cells place).y → NeedsJoin cells k place → Joined a k place)
    → JoinsRow cells b place (moved_by (negsuc 1) (negsuc 0) (cell_of cells place)) (moved_by (pos 2) (negsuc 0) (cell_of cells place))
    → JoinsRow cells c place (moved_by (negsuc 1) (negsuc 1) (cell_of cells place)) (moved_by (pos 2) (negsuc 1) (cell_of cells place))
    → (k : ℕ) → k < place → NeedsJoin cells k place → Joined c k place
joins_rows cells a b c place o low first second here above top k less need =
    go (near_rows (cell_of cells k) (cell_of cells place) (in_places cells k place o less low) need.near)
  where
    left : (dy : ℤ) → (cell_of cells k).y ≡ ((cell_of cells place).y +ℤ dy) → cell_cmp (cell_of cells k) (moved_by (negsuc 1) dy (cell_of cells place)) ≢ Less
    left dy row = not_left (cell_of cells k) (cell_of cells place) dy row need.near

    right : (dy : ℤ) → (cell_of cells k).y ≡ ((cell_of cells place).y +ℤ dy) → cell_cmp (moved_by (pos 2) dy (cell_of cells place)) (cell_of cells k) ≢ Less
    right dy row = not_right (cell_of cells k) (cell_of cells place) dy row need.near

    bridged : k + 1 < place → (cell_of cells k).y ≡ ((cell_of cells place).y +ℤ pos 0) → IsBridged cells k place
    bridged early row =
        let both = between (cell_of cells k) (cell_of cells (place - 1)) (cell_of cells place) (in_places cells k (place - 1) o (omega (arith, early)) (omega (arith, early, low)))
        (in_places cells (place - 1) place o (omega (arith, early)) low) row need.near in
        record { earlier = early; left = both.0; right = both.1 }

    last : (cell_of cells k).y ≡ ((cell_of cells place).y +ℤ pos 0) → Joined a k place
    last row = elim (cases_lt (k + 1) place) [
      | inl early ↦ absurd (need.alone (bridged early row))
      | inr late ↦ here k (omega (arith, less, late)) (omega (arith, ints, row)) need
    ]

    go : ((cell_of cells k).y ≡ ((cell_of cells place).y +ℤ pos 0)) ⊎ (((cell_of cells k).y ≡ ((cell_of cells place).y +ℤ negsuc 0))
        ⊎ ((cell_of cells k).y ≡ ((cell_of cells place).y +ℤ negsuc 1))) → Joined c k place
    go (inl row) = joined-kept b c k place second (joined-kept a b k place first (last row))
    go (inr (inl row)) = joined-kept b c k place second (above k less (left (negsuc 0) row) (right (negsuc 0) row) need)
    go (inr (inr row)) = top k less (left (negsuc 1) row) (right (negsuc 1) row) need

-- if all earlier places that need to be joined with `place` are joined with it, so are all other earlier places near
-- `place`: the place just before `place` joins them with it
pub joins_near : (cells : List Cell) (old new : List ℕ) (place : ℕ) → Keeps old new → JoinsAll cells old place
    → ((k : ℕ) → k < place → NeedsJoin cells k place → Joined new k place)
    → (k : ℕ) → k < place → king_distance (cell_of cells k) (cell_of cells place) ≤ 2 → Joined new k place
joins_near cells old new place keeps all needed k less near = go (cases_lt (k + 1) place)
  where
    alone : ¬ IsBridged cells k place → Joined new k place
    alone free = needed k less (record { near = near; alone = free })

    last : k + 1 < place → king_distance (cell_of cells (place - 1)) (cell_of cells place) ≤ 2 → Joined new (place - 1) place
    last early right = needed (place - 1) (omega (arith, early)) (record { near = right; alone = λ b. absurd (omega (arith, b.earlier)) })

    through : k + 1 < place → king_distance (cell_of cells k) (cell_of cells (place - 1)) ≤ 2
        → king_distance (cell_of cells (place - 1)) (cell_of cells place) ≤ 2 → Joined new k place
    through early left right label labels =
        joined-kept old new k (place - 1) keeps (all k (place - 1) (omega (arith, early)) (omega (arith, early)) left) label labels
        ∙ last early right label labels

    go : (k + 1 < place) ⊎ (place ≤ k + 1) → Joined new k place
    go (inr late) = alone (λ b. absurd (omega (arith, late, b.earlier)))
    go (inl early) = elim (cases_lt 2 (king_distance (cell_of cells k) (cell_of cells (place - 1)))) [
      | inl far ↦ alone (λ b. absurd (omega (arith, far, b.left)))
      | inr left ↦ elim (cases_lt 2 (king_distance (cell_of cells (place - 1)) (cell_of cells place))) [
        | inl far ↦ alone (λ b. absurd (omega (arith, far, b.right)))
        | inr right ↦ through early left right
      ]
    ]

-- ---- the scan of a row

-- `new` is a forest in which places that `old` joins are still joined, and each place from `first` to before `at` that
-- needs to be joined with `place` is joined with it
pub record IsScanning (cells : List Cell) (old new : List ℕ) (place first at : ℕ) : Type 0 where
  pub forest : IsForest cells new
  pub keeps : Keeps old new
  pub joined : (k : ℕ) → first ≤ k → k < at → NeedsJoin cells k place → Joined new k place

pub scanning-more : (cells : List Cell) (old now new : List ℕ) (place first at : ℕ) → IsScanning cells old now place first at → IsForest cells new
    → Keeps now new → (NeedsJoin cells at place → Joined new at place) → IsScanning cells old new place first (at + 1)
scanning-more cells old now new place first at s f keeps here = record {
  forest = f;
  keeps = keeps-then old now new s.keeps keeps;
  joined = λ k low less near. elim (cases_eq k at) [
    | inl same ↦ subst (λ (n : ℕ). Joined new n place) (sym same) (here (subst (λ (n : ℕ). NeedsJoin cells n place) same near))
    | inr different ↦ let few : k < at = omega (arith, less, different) in joined-kept now new k place keeps (s.joined k low few near)
  ];
}

-- if the scan ended past `to`, each place from `first` to `to` that needs to be joined with `place` is joined with it
pub scanned : (cells : List Cell) (old new : List ℕ) (place first at : ℕ) (to : Cell) → InOrder cells → place < length cells
    → (at < place → cell_cmp to (cell_of cells at) ≡ Less) → IsScanning cells old new place first at → (k : ℕ) → first ≤ k → k < place
    → cell_cmp to (cell_of cells k) ≢ Less → NeedsJoin cells k place → Joined new k place
scanned cells old new place first at to o low end s k from less short near = elim (cases_lt k at) [
  | inl few ↦ s.joined k from few near
  | inr more ↦ absurd (short (after k more less))
]
  where
    after : (k : ℕ) → at ≤ k → k < place → cell_cmp to (cell_of cells k) ≡ Less
    after k more less =
        let early : at < place = omega (arith, more, less) in
        elim (cases_eq at k) [
          | inl same ↦ subst (λ (n : ℕ). cell_cmp to (cell_of cells n) ≡ Less) same (end early)
          | inr different ↦
              let before : at < k = omega (arith, more, different) in
              let few : k < length cells = omega (arith, less, low) in
              cell_cmp_total.trans to (cell_of cells at) (cell_of cells k) (end early) (in_places cells at k o before few)
        ]

-- after the scan of a row, each of its places that needs to be joined with `place` is joined with it
pub row_joined : (cells : List Cell) (old new : List ℕ) (place : ℕ) (row : RowPlaces) (from to : Cell) (fresh : ℤ) (first start at : ℕ) → InOrder cells
    → place < length cells → IsRow cells row place from → to.y ≡ from.y → from.y <ℤ (cell_of cells place).y → row.from ≤ first → first ≤ row.end
    → ((k : ℕ) → row.from ≤ k → k < first → (cell_of cells k).x <ℤ from.x) → first ≤ start → start ≤ row.end
    → ((k : ℕ) → first ≤ k → k < start → (cell_of cells k).x <ℤ fresh) → IsFresh cells fresh place → start ≤ at
    → (at < row.end → to.x <ℤ (cell_of cells at).x) → IsScanning cells old new place start at → JoinsRow cells new place from to
row_joined cells old new place row from to fresh first start at o low is to_row above first_least first_most left start_least start_most early is_fresh at_least end s k less not_before not_after need =
    elim (cases_lt k start) [
      | inr more ↦
          scanned cells old new place start at to o low
          (λ inside. past_scan cells row place at from to is to_row (omega (arith, first_least, start_least, at_least)) end inside) s k more less not_after need
      | inl few ↦ elim (cases_lt k first) [
        | inl passed ↦ absurd (not_before ((row_skipped cells row place first from is first_least first_most left).passed k passed))
        | inr ahead ↦
            let level : (cell_of cells k).y ≡ from.y = is.level k (omega (arith, first_least, ahead)) (omega (arith, few, start_most)) in
            absurd (need.alone (is_fresh k less (omega (arith, ints, level, above)) (early k ahead few) need.near))
      ]
    ]

-- if the cell at `first` isn't left of `from`, no later cell of the row is left of `from`
pub not_left_of : (cells : List Cell) (row : RowPlaces) (place first at : ℕ) (from : Cell) → InOrder cells → place < length cells → IsRow cells row place from
    → row.from ≤ first → first ≤ at → at < row.end → (first < row.end → from.x ≤ℤ (cell_of cells first).x) → from.x ≤ℤ (cell_of cells at).x
not_left_of cells row place first at from o low is least more inside right = elim (cases_lt first at) [
  | inl before ↦
      let few : first < row.end = omega (arith, before, inside) in
      let begin = right few in
      let one : (cell_of cells first).y ≡ from.y = is.level first least few in
      let other : (cell_of cells at).y ≡ from.y = is.level at (omega (arith, least, more)) inside in
      elim (before_cases (cell_of cells first) (cell_of cells at) (in_places cells first at o before (omega (arith, inside, is.few, low)))) [
        | inl higher ↦ absurd (omega (arith, ints, higher, one, other))
        | inr same ↦ let further = same.1 in omega (arith, ints, further, begin)
      ]
  | inr late ↦
      let same : first ≡ at = omega (arith, late, more) in
      subst (λ (n : ℕ). from.x ≤ℤ (cell_of cells n).x) same (right (omega (arith, same, inside)))
]

-- if any two near places before `place` are joined, and each earlier place near `place` is joined with it, then any two
-- near places up to `place` are joined
pub joins_more : (cells : List Cell) (old new : List ℕ) (place : ℕ) → Keeps old new → JoinsAll cells old place
    → ((k : ℕ) → k < place → king_distance (cell_of cells k) (cell_of cells place) ≤ 2 → Joined new k place) → JoinsAll cells new (place + 1)
joins_more cells old new place keeps before here j k less low near = elim (cases_eq k place) [
  | inl same ↦
      let few : j < place = omega (arith, less, same) in
      subst (λ (n : ℕ). Joined new j n) (sym same)
      (here j few (subst (λ (n : ℕ). king_distance (cell_of cells j) (cell_of cells n) ≤ 2) same near))
  | inr different ↦ let few : k < place = omega (arith, low, different) in joined-kept old new j k keeps (before j k less few near)
]

-- `is_lt` is true only for `Less`
pub less : (r : Ordering) → is_lt r ≡ true → r ≡ Less
less Less is = refl
less Equal is = absurd (false≢true is)
less Greater is = absurd (false≢true is)

-- if the first n places are roots and place n is made to lead to itself, the first n + 1 places are roots
pub roots-more : (parents : List ℕ) (n : ℕ) → n < length parents → ((k : ℕ) → k < n → parent_of parents k ≡ k)
    → (k : ℕ) → k < n + 1 → parent_of (set parents n n) k ≡ k
roots-more parents n low roots =
    below_more (λ k. parent_of (set parents n n) k ≡ k) n
    (λ k less. get_or-set_other parents n k n 0 (λ same. absurd (omega (arith, less, same))) ∙ roots k less) (get_or-set_same parents n n 0 low)

-- if each place is a root, the places are a forest
pub forest-roots : (cells : List Cell) (parents : List ℕ) → length parents ≡ length cells
    → ((k : ℕ) → k < length cells → parent_of parents k ≡ k) → IsForest cells parents
forest-roots cells parents long roots =
    let inside : (k : ℕ) → k < length parents → k < length cells = λ k low. subst (λ n. k < n) long low in
    record {
      size = long;
      back = λ k low. omega (arith, roots k (inside k low));
      linked = λ k low. subst (λ p. Linked cells (cell_of cells k) (cell_of cells p)) (sym (roots k (inside k low)))
          (linked-itself cells (cell_of cells k) (has-cell_of cells k (inside k low)));
    }
