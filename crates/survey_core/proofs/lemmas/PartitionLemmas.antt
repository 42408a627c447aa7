-- Partitions as lists: the joined parts have each cell of the whole exactly once.
use Rattle.std.proofs.Common.{◌≡◌, ◌∙◌, ap, sym, refl, subst, inl, inr, zero, suc, ◌+◌, ◌≤◌, Bool, true, false, ◌||◌, ◌&&◌, List, [], ◌∷◌, ◌++◌, All}
use Rattle.std.proofs.Common.{AllPairs, flat_map, arith, length}
use Rattle.std.specs.Bool.{Decides}
use Rattle.std.specs.List.{list_any}
use Rattle.std.specs.Ordering.{int_eq, is_eq, match_ordering}
use Rattle.std.specs.declared.cmp.Ordering.{Ordering}
use Rattle.std.specs.declared.cmp.Ordering.TheVariants.{Less, Equal, Greater}
use Rattle.std.proofs.lemmas.Bool.{and_from, and_parts, cases_Bool, false≢true}
use Rattle.std.proofs.lemmas.Bool.Decides.{Decides-int_eq}
use Rattle.std.proofs.lemmas.List.{length-append}
use Rattle.std.proofs.lemmas.List.Kept.{AllPairs-cons}
use Rattle.plane_core.specs.declared.plane.cell.Cell.{Cell}
use Rattle.plane_core.specs.plane.Cells.{InOrder, cell_cmp, has, put, same_cell, set_of}
use Rattle.plane_core.specs.clusters.Clusters.{Partition}
use Rattle.plane_core.proofs.lemmas.plane.SetLemmas.{before-trans, has-append, has-before, has-cases, has-head, has-set_of, in_order-head, in_order-set_of}
use Rattle.plane_core.proofs.lemmas.plane.SetLemmas.{in_order-tail, is_set_of}

-- two cells are equal if and only if their coordinates are
pub cell_decides : (a b : Cell) → Decides (int_eq a.y b.y && int_eq a.x b.x) (a ≡ b)
cell_decides a b = (
  λ e. let parts = and_parts (int_eq a.y b.y) (int_eq a.x b.x) e in
      let y : a.y ≡ b.y = (Decides-int_eq a.y b.y).0 parts.0 in
      let x : a.x ≡ b.x = (Decides-int_eq a.x b.x).0 parts.1 in
      λ i. record { y = y i; x = x i },
  λ e. and_from (int_eq a.y b.y) (int_eq a.x b.x) ((Decides-int_eq a.y b.y).1 (λ i. (e i).y)) ((Decides-int_eq a.x b.x).1 (λ i. (e i).x)),
)

-- the cells of the parts, one part after another
abbrev pub joined : List (List Cell) → List Cell
joined parts = flat_map (λ part. part) parts

-- the two patterns share no cell
abbrev pub Disjoint : List Cell → List Cell → Type 0
Disjoint a b = (c : Cell) → has a c ≡ true → has b c ≡ false

-- a cell is among the joined cells if and only if it is in some part
pub has-joined : (parts : List (List Cell)) (c : Cell) → has (joined parts) c ≡ list_any (λ part. has part c) parts
has-joined [] c = refl
has-joined (part ∷ parts) c = has-append part (joined parts) c ∙ ap (λ (b : Bool). has part c || b) (has-joined parts c)

neither : (a b : Bool) → (a || b) ≡ false → (a ≡ false) × (b ≡ false)
neither true b e = absurd (false≢true (sym e))
neither false b e = (refl, e)

-- ---- how many cells a set has

length-put : (c : Cell) (cells : List Cell) → has cells c ≡ false → length (put c cells) ≡ suc (length cells)
length-put c [] new = refl
length-put c (d ∷ ds) new = go (cell_cmp c d) refl (length-put c ds)
  where
    go : (o : Ordering) → cell_cmp c d ≡ o → (has ds c ≡ false → length (put c ds) ≡ suc (length ds))
        → length (match_ordering o (c ∷ d ∷ ds) (d ∷ ds) (d ∷ put c ds)) ≡ suc (suc (length ds))
    go Less is more = refl
    go Equal is more = absurd (false≢true (sym new ∙ ap (λ (o : Ordering). is_eq o || has ds c) is))
    go Greater is more = ap suc (more (neither (is_eq (cell_cmp c d)) (has ds c) new).1)

length-put_again : (c : Cell) (cells : List Cell) → InOrder cells → has cells c ≡ true → length (put c cells) ≡ length cells
length-put_again c [] order there = absurd (false≢true there)
length-put_again c (d ∷ ds) order there = go (cell_cmp c d) refl (length-put_again c ds (in_order-tail d ds order))
  where
    go : (o : Ordering) → cell_cmp c d ≡ o → (has ds c ≡ true → length (put c ds) ≡ length ds)
        → length (match_ordering o (c ∷ d ∷ ds) (d ∷ ds) (d ∷ put c ds)) ≡ suc (length ds)
    go Less is more = absurd (false≢true (sym (has-before c (d ∷ ds) (is, before-trans c d ds is (in_order-head d ds order))) ∙ there))
    go Equal is more = refl
    go Greater is more = ap suc (more (sym (ap (λ (o : Ordering). is_eq o || has ds c) is) ∙ there))

length-put_le : (c : Cell) (cells : List Cell) → InOrder cells → length (put c cells) ≤ suc (length cells)
length-put_le c cells order = elim (cases_Bool (has cells c)) [
  | inl there ↦ let e : length (put c cells) ≡ length cells = length-put_again c cells order there in omega arith
  | inr new ↦ let e : length (put c cells) ≡ suc (length cells) = length-put c cells new in omega arith
]

length-set_of_le : (cells : List Cell) → length (set_of cells) ≤ length cells
length-set_of_le [] = omega arith
length-set_of_le (c ∷ cells) =
    let more : length (put c (set_of cells)) ≤ suc (length (set_of cells)) = length-put_le c (set_of cells) (in_order-set_of cells) in
    let remainder : length (set_of cells) ≤ length cells = length-set_of_le cells in
    omega arith

-- ---- from disjoint parts to lengths

-- if an ordered prefix shares no cell with a remainder, their union has as many cells as the prefix and the set of the
-- remainder together
prefix_adds : (prefix remainder : List Cell) → InOrder prefix → Disjoint prefix remainder → length (set_of (prefix ++ remainder)) ≡ length prefix + length (set_of remainder)
prefix_adds [] remainder order apart = omega arith
prefix_adds (c ∷ cs) remainder order apart =
    let new : has (set_of (cs ++ remainder)) c ≡ false = has-set_of (cs ++ remainder) c ∙ has-append cs remainder c
    ∙ (λ i. has-before c cs (in_order-head c cs order) i || apart c (has-head c cs) i) in
    let more : length (put c (set_of (cs ++ remainder))) ≡ suc (length (set_of (cs ++ remainder))) = length-put c (set_of (cs ++ remainder)) new in
    let later : length (set_of (cs ++ remainder)) ≡ length cs + length (set_of remainder) =
    prefix_adds cs remainder (in_order-tail c cs order) (λ d h. apart d (or_right (same_cell d c) (has cs d) h)) in
    omega arith
  where
    or_right : (a b : Bool) → b ≡ true → (a || b) ≡ true
    or_right true b e = refl
    or_right false b e = e

-- if a part shares no cell with any of `parts`, it shares none with their joined cells
apart_from_all : (part : List Cell) (parts : List (List Cell)) → All (Disjoint part) parts → Disjoint part (joined parts)
apart_from_all part [] apart c h = refl
apart_from_all part (other ∷ others) apart c h =
    has-append other (joined others) c ∙ (λ i. apart 0 [] (omega arith) c h i || apart_from_all part others (λ k d low. apart (suc k) d (omega arith)) c h i)

-- the union of disjoint parts has as many cells as the parts together
length-joined : (parts : List (List Cell)) → All InOrder parts → AllPairs Disjoint parts → length (set_of (joined parts)) ≡ length (joined parts)
length-joined [] orders apart = refl
length-joined (part ∷ parts) orders apart =
    let head : Disjoint part (joined parts) = apart_from_all part parts (λ k d low. apart 0 (suc k) d (omega arith) (omega arith)) in
    let prefix : length (set_of (part ++ joined parts)) ≡ length part + length (set_of (joined parts)) =
    prefix_adds part (joined parts) (orders 0 [] (omega arith)) head in
    let remainder : length (set_of (joined parts)) ≡ length (joined parts) =
    length-joined parts (λ k d low. orders (suc k) d (omega arith)) (λ i j d lt low. apart (suc i) (suc j) d (omega arith) (omega arith)) in
    let all : length (part ++ joined parts) ≡ length part + length (joined parts) = length-append part (joined parts) in
    omega arith

-- ---- from lengths to disjoint parts

-- if a list has no duplicates, its prefix and its remainder are disjoint, and the remainder has no duplicates
prefix_apart : (prefix remainder : List Cell) → length (set_of (prefix ++ remainder)) ≡ length (prefix ++ remainder) → Disjoint prefix remainder × (length (set_of remainder) ≡ length remainder)
prefix_apart [] remainder same = (λ c h. absurd (false≢true h), same)
prefix_apart (c ∷ cs) remainder same = elim (cases_Bool (has (set_of (cs ++ remainder)) c)) [
  | inl there ↦
      let e : length (put c (set_of (cs ++ remainder))) ≡ length (set_of (cs ++ remainder)) =
      length-put_again c (set_of (cs ++ remainder)) (in_order-set_of (cs ++ remainder)) there in
      let low : length (set_of (cs ++ remainder)) ≤ length (cs ++ remainder) = length-set_of_le (cs ++ remainder) in
      absurd (omega arith)
  | inr new ↦
      let e : length (put c (set_of (cs ++ remainder))) ≡ suc (length (set_of (cs ++ remainder))) = length-put c (set_of (cs ++ remainder)) new in
      let later = prefix_apart cs remainder (omega arith) in (
        λ d h. elim (has-cases c cs d h) [
          | inl is ↦ subst (λ (x : Cell). has remainder x ≡ false) (sym is)
              (neither (has cs c) (has remainder c) (sym (has-append cs remainder c) ∙ sym (has-set_of (cs ++ remainder) c) ∙ new)).1
          | inr more ↦ later.0 d more
        ],
        later.1,
      )
]

apart_from_each : (part : List Cell) (parts : List (List Cell)) → Disjoint part (joined parts) → All (Disjoint part) parts
apart_from_each part (other ∷ others) apart zero d low =
    λ c h. (neither (has other c) (has (joined others) c) (sym (has-append other (joined others) c) ∙ apart c h)).0
apart_from_each part (other ∷ others) apart (suc k) d low =
    apart_from_each part others (λ c h. (neither (has other c) (has (joined others) c) (sym (has-append other (joined others) c) ∙ apart c h)).1) k d
    (omega arith)
apart_from_each part [] apart k d low = absurd (omega arith)

disjoint_parts : (parts : List (List Cell)) → length (set_of (joined parts)) ≡ length (joined parts) → AllPairs Disjoint parts
disjoint_parts [] same = λ i j d lt low. absurd (omega arith)
disjoint_parts (part ∷ parts) same =
    let split = prefix_apart part (joined parts) same in
    AllPairs-cons Disjoint part parts (apart_from_each part parts split.0) (disjoint_parts parts split.1)

-- ---- partitions and unions

-- the union of the parts of a partition is the whole
pub set_of-joined : (whole : List Cell) (parts : List (List Cell)) → InOrder whole → Partition whole parts → set_of (joined parts) ≡ whole
set_of-joined whole parts order is = sym (is_set_of whole (joined parts) order (λ c. sym (has-joined parts c ∙ is.union c)))

pub length-partition : (whole : List Cell) (parts : List (List Cell)) → InOrder whole → All InOrder parts → Partition whole parts
    → length (joined parts) ≡ length whole
length-partition whole parts order orders is = sym (length-joined parts orders is.disjoint) ∙ ap length (set_of-joined whole parts order is)

-- parts are a partition if their union is the whole and they have as many cells together as the whole
pub partition_from : (whole : List Cell) (parts : List (List Cell)) → length (joined parts) ≡ length whole → set_of (joined parts) ≡ whole
    → Partition whole parts
partition_from whole parts long same = record {
  disjoint = disjoint_parts parts (ap length same ∙ sym long);
  union = λ c. sym (has-joined parts c) ∙ sym (has-set_of (joined parts) c) ∙ ap (λ (cells : List Cell). has cells c) same;
}
