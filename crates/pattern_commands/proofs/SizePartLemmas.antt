-- A pattern whose parts are more than 2n rows apart: for n generations, each part runs as if it were alone.
use Rattle.std.proofs.Common.{◌≡◌, ◌∙◌, ◌+◌, ◌-◌, ◌*◌, ◌<◌, ◌≤◌, ◌++◌, ◌+ℤ◌, ◌-ℤ◌, ◌≤ℤ◌, ◌<ℤ◌, ◌||◌, ℕ, ℤ, zero, suc, pos, Bool, true, false, List, [], ◌∷◌}
use Rattle.std.proofs.Common.{Option, None, Some, append-nil, append_assoc, ap, arith, drop, flat_map, get_or, inl, inr, length, map, position, refl, set, subst, sym, take, unsigned_abs}
use Rattle.std.specs.List.{list_all}
use Rattle.std.specs.declared.cmp.Ordering.TheVariants.{Less}
use Rattle.std.proofs.Math.Seq.{take-add}
use Rattle.std.proofs.lemmas.Bool.{cases_Bool, false≢true}
use Rattle.std.proofs.lemmas.Int.{ints}
use Rattle.std.proofs.lemmas.List.{drop_more, get_or_at, length-map, length-take-le, map_more, set_at, take-append-drop}
use Rattle.std.proofs.lemmas.List.Concat.{flat_map-append}
use Rattle.std.proofs.lemmas.List.Quantifiers.{position-Some}
use Rattle.std.proofs.lemmas.List.Sums.{AllPass-from_list_all}
use Rattle.plane_core.specs.declared.plane.cell.Cell.{Cell}
use Rattle.plane_core.specs.engine.Boards.{Running}
use Rattle.plane_core.specs.plane.Cells.{InOrder, IsPattern, cell_cmp, distance, has, king_distance, off_plane, on_plane}
use Rattle.plane_core.specs.plane.Generations.{after, next}
use Rattle.plane_core.specs.plane.Rules.{Numbers}
use Rattle.plane_core.proofs.lemmas.engine.FillLemmas.{has-at}
use Rattle.plane_core.proofs.lemmas.plaintext.PlaintextWalks.{above, in_order-drop, in_order-take, no_row_above}
use Rattle.plane_core.proofs.lemmas.plane.CommuteLemmas.{set_of-in_order}
use Rattle.plane_core.proofs.lemmas.plane.CutLemmas.{is_pattern-drop, is_pattern-take}
use Rattle.plane_core.proofs.lemmas.plane.GenerationLemmas.{after-none}
use Rattle.plane_core.proofs.lemmas.plane.PartLemmas.{far_patterns, near-after}
use Rattle.plane_core.proofs.lemmas.plane.RunLemmas.{after-plus, in_order-after}
use Rattle.plane_core.proofs.lemmas.plane.SetLemmas.{all-has, has-all, has-append, has-cases, has-head, in_order-cons, in_order-head, in_order-tail}
use Rattle.plane_core.proofs.lemmas.plane.SpeedLemmas.{after-suc}
use Rattle.pattern_commands.specs.SizeSteps.{IsGap, RunApart, advanced, parts_after}

abbrev pub origin : Cell
origin = record { y = pos 0; x = pos 0 }

-- ---- patterns and parts of them

-- if all cells are on the plane, no place has a cell off the plane
pub none_off : (cells : List Cell) → list_all on_plane cells ≡ true → position off_plane cells ≡ None
none_off cells on = go (position off_plane cells) refl
  where
    go : (found : Option ℕ) → position off_plane cells ≡ found → found ≡ None
    go None e = refl
    go (Some i) e =
        let there = position-Some off_plane cells i origin e in
        let here : on_plane (get_or cells i origin) ≡ true = AllPass-from_list_all on_plane cells on i origin there.0 in
        let off : off_plane (get_or cells i origin) ≡ true = there.1 in
        absurd (false≢true (rw here at off))

-- consecutive cells of a pattern are a pattern
pub is_pattern-part : (cells : List Cell) (i n : ℕ) → IsPattern cells → IsPattern (take n (drop i cells))
is_pattern-part cells i n is = is_pattern-take (drop i cells) n (is_pattern-drop cells i is)

-- ---- gaps

-- each cell up to place `i` is in the row of the cell at `i`, or in a row above
above_gap : (S : List Cell) (i : ℕ) (z c : Cell) → InOrder S → i < length S → has (take (suc i) S) c ≡ true → c.y ≤ℤ (get_or S i z).y
above_gap [] i z c o low h = absurd (omega arith)
above_gap (d ∷ ds) zero z c o low h = elim (has-cases d [] c h) [ inl same ↦ at_once c.y d.y (ap (λ (e : Cell). e.y) same) | inr none ↦ absurd (false≢true none) ]
  where
    at_once : (a b : ℤ) → a ≡ b → a ≤ℤ b
    at_once a b e = omega (arith, ints)
above_gap (d ∷ ds) (suc i) z c o low h = elim (has-cases d (take (suc i) ds) c h) [
  | inl same ↦ subst (λ (e : Cell). e.y ≤ℤ (get_or ds i z).y) (sym same)
      (no_row_above d (get_or ds i z) (has-all (λ e. cell_cmp d e ≡ Less) ds (get_or ds i z) (in_order-head d ds o) (has-at ds i z (omega arith))))
  | inr more ↦ above_gap ds i z c (in_order-tail d ds o) (omega arith) more
]

-- each cell from place `i` on is in the row of the cell at `i`, or in a row below
below_gap : (S : List Cell) (i : ℕ) (z d : Cell) → InOrder S → has (drop i S) d ≡ true → (get_or S i z).y ≤ℤ d.y
below_gap [] zero z d o h = absurd (false≢true h)
below_gap [] (suc i) z d o h = absurd (false≢true h)
below_gap (c ∷ cs) zero z d o h = elim (has-cases c cs d h) [
  | inl same ↦ subst (λ (e : Cell). c.y ≤ℤ e.y) (sym same) (itself c.y)
  | inr more ↦ no_row_above c d (has-all (λ e. cell_cmp c e ≡ Less) cs d (in_order-head c cs o) more)
]
  where
    itself : (a : ℤ) → a ≤ℤ a
    itself a = omega (arith, ints)
below_gap (c ∷ cs) (suc i) z d o h = below_gap cs i z d (in_order-tail c cs o) h

row_gap : (a b c d : ℤ) (far : ℕ) → a ≤ℤ b → b ≤ℤ c → far < unsigned_abs (c -ℤ b) → c ≤ℤ d → (a +ℤ pos far) <ℤ d
row_gap a b c d far p q h r = omega (arith, ints)

-- if a cell is more than `far` rows below the previous cell, there is a gap between them
pub gap_at : (S : List Cell) (i far : ℕ) (z : Cell) → InOrder S → 1 ≤ i → i < length S → far < unsigned_abs ((get_or S i z).y -ℤ (get_or S (i - 1) z).y)
    → IsGap far S i
gap_at S zero far z o some low h = absurd (omega arith)
gap_at S (suc i) far z o some low h = gap
  where
    one_less : suc i - 1 ≡ i
    one_less = omega arith

    step : far < unsigned_abs ((get_or S (suc i) z).y -ℤ (get_or S i z).y)
    step = subst (λ (n : ℕ). far < unsigned_abs ((get_or S (suc i) z).y -ℤ (get_or S n z).y)) one_less h

    next_row : (T : List Cell) (k : ℕ) → InOrder T → suc k < length T → (get_or T k z).y ≤ℤ (get_or T (suc k) z).y
    next_row [] k u l = absurd (omega arith)
    next_row (t ∷ ts) zero u l = no_row_above t (get_or ts 0 z) (has-all (λ e. cell_cmp t e ≡ Less) ts (get_or ts 0 z) (in_order-head t ts u) (has-at ts 0 z (omega arith)))
    next_row (t ∷ ts) (suc k) u l = next_row ts k (in_order-tail t ts u) (omega arith)

    gap : IsGap far S (suc i)
    gap c d p q =
        row_gap c.y (get_or S i z).y (get_or S (suc i) z).y d.y far (above_gap S i z c o (omega arith) p) (next_row S i o low) step
        (below_gap S (suc i) z d o q)

-- there is a gap before the first cell
pub gap_first : (S : List Cell) (far : ℕ) → IsGap far S 0
gap_first S far c d p q = absurd (false≢true p)

-- ---- two parts

either : (a b : Bool) → (a || b) ≡ true → b ≡ false → a ≡ true
either true b h none = refl
either false true h none = absurd (false≢true (sym none))
either false false h none = h

-- if two lists of cells are in order, and the second is entirely below the first, the appended list is in order
rows_append : (S T : List Cell) → InOrder S → InOrder T → ((c d : Cell) → has S c ≡ true → has T d ≡ true → c.y <ℤ d.y) → InOrder (S ++ T)
rows_append [] T o u below = u
rows_append (c ∷ cs) T o u below =
    in_order-cons c (cs ++ T) (all-has (λ d. cell_cmp c d ≡ Less) (cs ++ T) comes)
    (rows_append cs T (in_order-tail c cs o) u (λ e d p q. below e d (more e p) q))
  where
    more : (e : Cell) → has cs e ≡ true → has (c ∷ cs) e ≡ true
    more e p = grind (arith, p)

    comes : (d : Cell) → has (cs ++ T) d ≡ true → cell_cmp c d ≡ Less
    comes d h = elim (cases_Bool (has T d)) [
      | inl there ↦ above c d (below c d (has-head c cs) there)
      | inr none ↦ has-all (λ e. cell_cmp c e ≡ Less) cs d (in_order-head c cs o) (either (has cs d) (has T d) (sym (has-append cs T d) ∙ h) none)
    ]

still_below : (a b c d : ℤ) (n g : ℕ) → (a +ℤ pos (2 * n)) <ℤ b → distance c a ≤ g → distance d b ≤ g → g ≤ n → c <ℤ d
still_below a b c d n g gap p q low = omega (arith, ints)

far_rows : (a b : ℤ) (n g : ℕ) → (a +ℤ pos (2 * n)) <ℤ b → g ≤ n → 2 * g < distance a b
far_rows a b n g gap low = omega (arith, ints)

-- two patterns run apart for n generations if the second is more than 2n rows below the first
pub rows_apart : (rule : Numbers) (S T : List Cell) (n g : ℕ) → InOrder S → InOrder T
    → ((c d : Cell) → has S c ≡ true → has T d ≡ true → (c.y +ℤ pos (2 * n)) <ℤ d.y) → g ≤ n
    → after rule (S ++ T) g ≡ after rule S g ++ after rule T g
rows_apart rule S T n g o u gap low =
    ap (λ (V : List Cell). after rule V g) (sym (set_of-in_order (S ++ T) (rows_append S T o u (λ c d p q. now c.y d.y (gap c d p q)))))
    ∙ far_patterns rule S T g o u (λ c d p q. let rows = far_rows c.y d.y n g (gap c d p q) low in omega (arith, rows))
    ∙ set_of-in_order (after rule S g ++ after rule T g) (rows_append (after rule S g) (after rule T g) (in_order-after rule S g o) (in_order-after rule T g u) later)
  where
    now : (a b : ℤ) → (a +ℤ pos (2 * n)) <ℤ b → a <ℤ b
    now a b h = omega (arith, ints)

    later : (c d : Cell) → has (after rule S g) c ≡ true → has (after rule T g) d ≡ true → c.y <ℤ d.y
    later c d p q =
        let a = near-after rule S g c p in
        let b = near-after rule T g d q in
        let near_a : king_distance c a.0 ≤ g = a.2 in
        let near_b : king_distance d b.0 ≤ g = b.2 in
        still_below a.0.y b.0.y c.y d.y n g (gap a.0 b.0 a.1 b.1) (omega (arith, near_a)) (omega (arith, near_b)) low

has-take : (n : ℕ) (cs : List Cell) (c : Cell) → has (take n cs) c ≡ true → has cs c ≡ true
has-take n cs c h = ap (λ (ds : List Cell). has ds c) (sym (take-append-drop n cs)) ∙ has-append (take n cs) (drop n cs) c ∙ ap (λ (b : Bool). b || has (drop n cs) c) h

-- ---- all parts

-- a pattern without cells has no parts
pub no_parts : (rule : Numbers) (n : ℕ) → RunApart rule [] n []
unfolding next
no_parts rule n zero low = after-none rule []
no_parts rule n (suc g) low = after-suc rule [] g ∙ ap (next rule) (no_parts rule n g (omega arith)) ∙ none rule
  where
    none : (rule : Numbers) → next rule [] ≡ []
    none rule = refl

-- if the cells before place `i` run apart in parts, and there is a gap at `i`, then the cells before place `j` run
-- apart in the same parts and one more, which has the cells from `i` on
pub one_part_more : (rule : Numbers) (S : List Cell) (i j n : ℕ) (parts later : List Running) → InOrder S → i < j → IsGap (2 * n) S i
    → RunApart rule (take i S) n parts → later ≡ parts ++ record { rule = rule; cells = take (j - i) (drop i S) } ∷ []
    → RunApart rule (take j S) n later
one_part_more rule S i j n parts later o more gap apart is g low =
    let part : Running = record { rule = rule; cells = take (j - i) (drop i S) } in
    let place : j ≡ i + (j - i) = omega arith in
    ap (λ (k : ℕ). after rule (take k S) g) place
    ∙ ap (λ (T : List Cell). after rule T g) (take-add i (j - i) S)
    ∙ rows_apart rule (take i S) (take (j - i) (drop i S)) n g (in_order-take i S o) (in_order-take (j - i) (drop i S) (in_order-drop i S o))
    (λ c d p q. gap c d p (has-take (j - i) (drop i S) d q)) low
    ∙ (λ k. apart g low k ++ sym (append-nil (after rule (take (j - i) (drop i S)) g)) k)
    ∙ sym (flat_map-append (λ (p : Running). after p.rule p.cells g) parts (part ∷ []))
    ∙ ap (parts_after g) (sym is)

-- one generation later, the parts still run apart, for one generation less
pub parts_next : (rule : Numbers) (cells : List Cell) (n : ℕ) (parts : List Running) → RunApart rule cells (suc n) parts
    → RunApart rule (after rule cells 1) n (map advanced parts)
parts_next rule cells n parts apart g low = after-plus rule cells 1 g ∙ apart (1 + g) (omega arith) ∙ each parts
  where
    each : (parts : List Running) → parts_after (1 + g) parts ≡ parts_after g (map advanced parts)
    each [] = refl
    each (p ∷ ps) = λ i. sym (after-plus p.rule p.cells 1 g) i ++ each ps i

-- the cells of the parts are those of the pattern
pub parts_now : (rule : Numbers) (cells : List Cell) (n : ℕ) (parts : List Running) → RunApart rule cells n parts
    → cells ≡ flat_map (λ (p : Running). p.cells) parts
parts_now rule cells n parts apart = sym (after-none rule cells) ∙ apart 0 (omega arith) ∙ each parts
  where
    each : (parts : List Running) → parts_after 0 parts ≡ flat_map (λ (p : Running). p.cells) parts
    each [] = refl
    each (p ∷ ps) = λ i. after-none p.rule p.cells i ++ each ps i

-- ---- a loop over all parts

prefix : (list : List Running) (i : ℕ) → i < length list → length (map advanced (take i list)) ≡ i
prefix list i low = length-map _ _ ∙ length-take-le i list (omega arith)

pub as_it_was : (list now : List Running) (i : ℕ) (d : Running) → i < length list → now ≡ map advanced (take i list) ++ drop i list
    → get_or now i d ≡ get_or list i d
as_it_was list now i d low is =
    ap (λ (all : List Running). get_or all i d) (is ∙ ap (λ (more : List Running). map advanced (take i list) ++ more) (drop_more list i d low))
    ∙ get_or_at (map advanced (take i list)) (get_or list i d) (drop (i + 1) list) d i (prefix list i low)

pub part_advanced : (list now : List Running) (i : ℕ) (d later : Running) → i < length list → now ≡ map advanced (take i list) ++ drop i list
    → later ≡ advanced (get_or now i d) → set now i later ≡ map advanced (take (i + 1) list) ++ drop (i + 1) list
part_advanced list now i d later low is so =
    let one : later ≡ advanced (get_or list i d) = so ∙ ap advanced (as_it_was list now i d low is) in
    (λ j. set (is j) i (one j))
    ∙ ap (λ (more : List Running). set (map advanced (take i list) ++ more) i (advanced (get_or list i d))) (drop_more list i d low)
    ∙ set_at (map advanced (take i list)) (get_or list i d) (drop (i + 1) list) (advanced (get_or list i d)) i (prefix list i low)
    ∙ sym (append_assoc (map advanced (take i list)) (advanced (get_or list i d) ∷ []) (drop (i + 1) list))
    ∙ ap (λ (all : List Running). all ++ drop (i + 1) list) (sym (map_more advanced list i d low))
