-- Merging two lists of cells, from the last cell to the first.
use Rattle.std.proofs.Common.{◌≡◌, ◌∙◌, ◌+◌, ◌<◌, ◌||◌, ℕ, Bool, true, false, List, [], ◌∷◌, ◌++◌, ap, arith, drop, get_or, length, refl, set, sym, take}
use Rattle.std.proofs.Math.Seq.{take-append_seam}
use Rattle.std.proofs.lemmas.List.{drop-set, drop_all, take-append-drop, take-set-le, take_all, take_more}
use Rattle.plane_core.specs.declared.plane.cell.Cell.{Cell}
use Rattle.plane_core.specs.plane.Cells.{has, same_cell, set_of}
use Rattle.plane_core.proofs.lemmas.plane.SetLemmas.{has-append, has-set_of, in_order-set_of, is_set_of}

-- While `others` is merged into the cells `before`, no cell is lost or added: the cells of both are the first i of
-- `cells`, those of `cells` from place i + j on, and the first j of `others`.
abbrev pub AreTogether : List Cell → List Cell → List Cell → ℕ → ℕ → Type 0
AreTogether before others cells i j =
    (c : Cell) → (has (take i cells) c || (has (drop (i + j) cells) c || has (take j others) c)) ≡ (has before c || has others c)

or_first : (a d e f : Bool) → (a || ((d || e) || f)) ≡ ((a || (d || false)) || (e || f))
or_first true d e f = refl
or_first false true e f = refl
or_first false false e f = refl

or_second : (a d e f : Bool) → (a || ((d || e) || f)) ≡ (a || (e || (f || (d || false))))
or_second true d e f = refl
or_second false true true f = refl
or_second false true false true = refl
or_second false true false false = refl
or_second false false true f = refl
or_second false false false true = refl
or_second false false false false = refl

or_none : (a : Bool) → (a || false) ≡ a
or_none true = refl
or_none false = refl

-- before the loop, nothing is merged
pub none_merged : (cells others : List Cell) (count : ℕ) → length cells ≡ count + length others
    → AreTogether (take count cells) others cells count (length others)
none_merged cells others count long c =
    let none : drop (count + length others) cells ≡ [] = drop_all (count + length others) cells (omega (arith, long)) in
    let all : take (length others) others ≡ others = take_all (length others) others (omega arith) in
    λ t. has (take count cells) c || (has (none t) c || has (all t) c)

-- after cell i is moved to place i + j, the first i cells and the first j others are left to merge
pub merged_first : (before others cells : List Cell) (i j : ℕ) (d : Cell) → i + j < length cells → d ≡ get_or cells i d
    → AreTogether before others cells (i + 1) j → AreTogether before others (set cells (i + j) d) i j
merged_first before others cells i j d low is all c =
    let kept : take i (set cells (i + j) d) ≡ take i cells = take-set-le i cells (i + j) d (omega arith) in
    let placed : drop (i + j) (set cells (i + j) d) ≡ d ∷ drop (i + j + 1) cells = drop-set cells (i + j) d low in
    let next : i + j + 1 ≡ i + 1 + j = omega arith in
    let taken : has (take (i + 1) cells) c ≡ (has (take i cells) c || (same_cell c d || false)) =
    ap (λ (xs : List Cell). has xs c) (take_more cells i d (omega arith)) ∙ has-append (take i cells) (get_or cells i d ∷ []) c
    ∙ ap (λ (e : Cell). has (take i cells) c || (same_cell c e || false)) (sym is) in
    (λ t. has (kept t) c || (has (placed t) c || has (take j others) c))
    ∙ or_first (has (take i cells) c) (same_cell c d) (has (drop (i + j + 1) cells) c) (has (take j others) c)
    ∙ (λ t. sym taken t || (has (drop (next t) cells) c || has (take j others) c))
    ∙ all c

-- after cell j of the others is put at place i + j, the first i cells and the first j others are left to merge
pub merged_second : (before others cells : List Cell) (i j : ℕ) (d : Cell) → i + j < length cells → j < length others → d ≡ get_or others j d
    → AreTogether before others cells i (j + 1) → AreTogether before others (set cells (i + j) d) i j
merged_second before others cells i j d low there is all c =
    let kept : take i (set cells (i + j) d) ≡ take i cells = take-set-le i cells (i + j) d (omega arith) in
    let placed : drop (i + j) (set cells (i + j) d) ≡ d ∷ drop (i + j + 1) cells = drop-set cells (i + j) d low in
    let next : i + j + 1 ≡ i + (j + 1) = omega arith in
    let taken : has (take (j + 1) others) c ≡ (has (take j others) c || (same_cell c d || false)) =
    ap (λ (xs : List Cell). has xs c) (take_more others j d there) ∙ has-append (take j others) (get_or others j d ∷ []) c
    ∙ ap (λ (e : Cell). has (take j others) c || (same_cell c e || false)) (sym is) in
    (λ t. has (kept t) c || (has (placed t) c || has (take j others) c))
    ∙ or_second (has (take i cells) c) (same_cell c d) (has (drop (i + j + 1) cells) c) (has (take j others) c)
    ∙ (λ t. has (take i cells) c || (has (drop (next t) cells) c || sym taken t))
    ∙ all c

-- when no cell of `others` is left to merge, the list has the cells of both lists
pub all_merged : (before others cells : List Cell) (i : ℕ) → AreTogether before others cells i 0 → (c : Cell) → has cells c ≡ has (before ++ others) c
all_merged before others cells i all c =
    let here : i ≡ i + 0 = omega arith in
    let whole : take i cells ++ drop i cells ≡ cells = take-append-drop i cells in
    sym (ap (λ (xs : List Cell). has xs c) whole) ∙ has-append (take i cells) (drop i cells) c
    ∙ ap (λ (b : Bool). has (take i cells) c || b) (sym (or_none (has (drop i cells) c)) ∙ ap (λ (n : ℕ). has (drop n cells) c || false) here)
    ∙ all c ∙ sym (has-append before others c)

-- lists with the same cells have the same set
same_set : (cells others : List Cell) → ((c : Cell) → has cells c ≡ has others c) → set_of cells ≡ set_of others
same_set cells others same = is_set_of (set_of cells) others (in_order-set_of cells) (λ c. has-set_of cells c ∙ same c)

-- the set of the merged cells is the set of both lists
pub merged_all : (one other others old new : List Cell) (count : ℕ) → count ≡ length one → old ≡ one ++ other → others ≡ other
    → ((c : Cell) → has new c ≡ has (take count old ++ others) c) → set_of new ≡ set_of (one ++ other)
merged_all one other others old new count is both same merged =
    let first : take count old ≡ one = (λ t. take (is t) (both t)) ∙ take-append_seam one other in
    same_set new (one ++ other) (λ c. merged c ∙ (λ t. has (first t ++ same t) c))
