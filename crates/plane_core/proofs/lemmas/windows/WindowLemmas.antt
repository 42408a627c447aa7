-- If a window shows a pattern, the next window shows the pattern's next generation, except near the window's border.
use Rattle.std.proofs.Common.{◌≡◌, ◌==◌, ◌+◌, ◌-◌, ◌*◌, ◌/◌, ◌%◌, ◌<◌, ◌≤◌, ℕ, ℤ, pos, negsuc, ◌+ℤ◌, zero, suc, Bool, true, false, cond, List, []}
use Rattle.std.proofs.Common.{arith, refl, ap, ◌∙◌, sym, subst, slice_index, length, length-set, get_or, set, inl, inr, ◌⊎◌}
use Rattle.std.specs.Int.{bit_at}
use Rattle.std.proofs.lemmas.Bool.{eqb-true, eq-eqb, ne_eqb}
use Rattle.std.proofs.lemmas.List.{get_or-set_same, get_or-set_other}
use Rattle.std.proofs.lemmas.Int.{ints}
use Rattle.std.proofs.lemmas.Nat.{div-mul-add, mod-mul-add, div-add-mod', div_below, mod_below}
use Rattle.std.proofs.lemmas.Nat.Bits.{bit_at-lt, bit_at-zero}
use Rattle.plane_core.specs.declared.plane.cell.Cell.{Cell}
use Rattle.plane_core.specs.declared.windows.lane_sums.RowSums.{RowSums}
use Rattle.plane_core.specs.declared.windows.lane_sums.Sum.{Sum}
use Rattle.plane_core.specs.plane.Cells.{InOrder, cell_at, has, moved_by}
use Rattle.plane_core.specs.plane.Generations.{around, lives_by, next, after}
use Rattle.plane_core.specs.windows.LaneSums.{sum_of, row_sum, AnswersRows, AreBeside}
use Rattle.plane_core.specs.plane.Rules.{Numbers}
use Rattle.plane_core.specs.windows.Windows.{lane_at, row_at, row_above, row_below, IsLaterWindow, IsNextRow, IsNextWindow, IsShownInside, IsVectorMade}
use Rattle.plane_core.specs.windows.Words.{one_if}
use Rattle.plane_core.proofs.lemmas.plane.NeighbourhoodLemmas.{row_total, neighbourhood_total-around}
use Rattle.plane_core.proofs.lemmas.plane.CaseLemmas.{less_or_not}
use Rattle.plane_core.proofs.lemmas.plane.GenerationLemmas.{after-more, after-none, has-next, lives_by-around, times_once}
use Rattle.plane_core.proofs.lemmas.plane.RunLemmas.{in_order-after}

-- ---- rows and lanes

-- row j * n + k is lane j of vector k
row_is_lane : (n : ℕ) (x : List (List ℕ)) (j k : ℕ) → k < n → row_at n x (j * n + k) ≡ lane_at x k j
row_is_lane n x j k low = λ t. lane_at x (mod-mul-add j n k low t) (div-mul-add j n k low t)

-- no lane reaches past the last row
lane_end : (n j : ℕ) → j < 4 → j * n + n ≤ 4 * n
lane_end n zero low = omega arith
lane_end n (suc zero) low = omega arith
lane_end n (suc (suc zero)) low = omega arith
lane_end n (suc (suc (suc zero))) low = omega arith
lane_end n (suc (suc (suc (suc j)))) low = absurd (omega arith)

-- The row above a given row is in the same lane of the previous vector, unless the given row is in the first vector.
-- The row below is in the same lane of the next vector, unless the given row is in the last vector.
above_more : (n : ℕ) (x : List (List ℕ)) (j k : ℕ) → row_above n x (j * n + (k + 1)) ≡ row_at n x (j * n + k)
above_more n x j k = let at : j * n + (k + 1) ≡ suc (j * n + k) = omega arith in ap (row_above n x) at

below_inner : (n : ℕ) (x : List (List ℕ)) (r : ℕ) → r + 1 < 4 * n → row_below n x r ≡ row_at n x (r + 1)
below_inner n x r low = ap (λ (b : Bool). cond b 0 (row_at n x (r + 1))) (ne_eqb (r + 1) (4 * n) (λ e. absurd (omega arith)))

below_more : (n : ℕ) (x : List (List ℕ)) (j k : ℕ) → j < 4 → k + 1 < n → row_below n x (j * n + k) ≡ lane_at x (k + 1) j
below_more n x j k low more =
    let at : j * n + k + 1 ≡ j * n + (k + 1) = omega arith in
    below_inner n x (j * n + k) (omega (arith, lane_end n j low)) ∙ ap (row_at n x) at ∙ row_is_lane n x j (k + 1) more

-- the row below a row of the last vector is in the next lane of the first vector
below_end : (n : ℕ) (x : List (List ℕ)) (j : ℕ) → 0 < n → j < 3 → row_below n x (j * n + (n - 1)) ≡ lane_at x 0 (j + 1)
below_end n x j some low =
    let at : j * n + (n - 1) + 1 ≡ (j + 1) * n + 0 = omega arith in
    let end : (j + 1) * n + n ≤ 4 * n = lane_end n (j + 1) (omega arith) in
    below_inner n x (j * n + (n - 1)) (omega arith) ∙ ap (row_at n x) at ∙ row_is_lane n x (j + 1) 0 some

below_last : (n : ℕ) (x : List (List ℕ)) → 0 < n → row_below n x (3 * n + (n - 1)) ≡ 0
below_last n x some =
    ap (λ (b : Bool). cond b 0 (row_at n x (3 * n + (n - 1) + 1))) (eq-eqb (3 * n + (n - 1) + 1) (4 * n) (omega arith))

-- ---- sums of rows, lane by lane

-- `s` has the row sums of the words of vector k
abbrev pub AreOfVector : List (List ℕ) → Sum → ℕ → Type 0
AreOfVector x s k = (j i : ℕ) → j < 4 → i < 64 → sum_of s j i ≡ row_sum (lane_at x k j) i

-- `AreAbove`: `s` has the row sums of the rows just above the rows of vector k; `AreHere`: of the rows of vector k;
-- `AreBelow`: of the rows just below the rows of vector k
abbrev pub AreAbove : ℕ → List (List ℕ) → Sum → ℕ → Type 0
AreAbove n x s k = (j i : ℕ) → j < 4 → i < 64 → sum_of s j i ≡ row_sum (row_above n x (j * n + k)) i

abbrev pub AreHere : ℕ → List (List ℕ) → Sum → ℕ → Type 0
AreHere n x s k = (j i : ℕ) → j < 4 → i < 64 → sum_of s j i ≡ row_sum (row_at n x (j * n + k)) i

abbrev pub AreBelow : ℕ → List (List ℕ) → Sum → ℕ → Type 0
AreBelow n x s k = (j i : ℕ) → j < 4 → i < 64 → sum_of s j i ≡ row_sum (row_below n x (j * n + k)) i

row_sum-empty : (i : ℕ) → row_sum 0 i ≡ 0
row_sum-empty zero = refl
row_sum-empty (suc i) = omega (arith, bit_at-zero i, bit_at-zero (suc i), east (suc i == 63))
  where
    east : (b : Bool) → cond b (bit_at 0 0) (bit_at 0 (suc i + 1)) ≡ 0
    east true = refl
    east false = bit_at-zero (suc i + 1)

-- the sums above the first vector: lane j + 1 has the sums of lane j of the last vector, and lane 0 has zeros
pub above_start : (n : ℕ) (x : List (List ℕ)) (last up : Sum) → 0 < n → ((i : ℕ) → sum_of up 0 i ≡ 0)
    → ((j i : ℕ) → j < 3 → sum_of up (j + 1) i ≡ sum_of last j i) → AreOfVector x last (n - 1) → AreAbove n x up 0
above_start n x last up some first others is zero i low inside =
    let at : 0 ≡ 0 * n + 0 = omega arith in
    first i ∙ sym (row_sum-empty i) ∙ ap (λ (r : ℕ). row_sum (row_above n x r) i) at
above_start n x last up some first others is (suc j) i low inside =
    let next : suc j ≡ j + 1 = omega arith in
    let at : suc (j * n + (n - 1)) ≡ suc j * n + 0 = omega arith in
    ap (λ (m : ℕ). sum_of up m i) next
    ∙ others j i (omega arith)
    ∙ is j i (omega arith) inside
    ∙ ap (λ (w : ℕ). row_sum w i) (sym (row_is_lane n x j (n - 1) (omega arith)))
    ∙ ap (λ (r : ℕ). row_sum (row_above n x r) i) at

pub here_at : (n : ℕ) (x : List (List ℕ)) (s : Sum) (k : ℕ) → k < n → AreOfVector x s k → AreHere n x s k
here_at n x s k low is j i lane inside = is j i lane inside ∙ ap (λ (w : ℕ). row_sum w i) (sym (row_is_lane n x j k low))

pub above_step : (n : ℕ) (x : List (List ℕ)) (s : Sum) (k : ℕ) → AreHere n x s k → AreAbove n x s (k + 1)
above_step n x s k is j i lane inside = is j i lane inside ∙ ap (λ (w : ℕ). row_sum w i) (sym (above_more n x j k))

pub below_step : (n : ℕ) (x : List (List ℕ)) (s : Sum) (k : ℕ) → k + 1 < n → AreOfVector x s (k + 1) → AreBelow n x s k
below_step n x s k low is j i lane inside = is j i lane inside ∙ ap (λ (w : ℕ). row_sum w i) (sym (below_more n x j k lane low))

-- the sums below the last vector: lane j has the sums of lane j + 1 of the first vector, and lane 3 has zeros
pub below_stop : (n : ℕ) (x : List (List ℕ)) (first down : Sum) → 0 < n → ((j i : ℕ) → j < 3 → sum_of down j i ≡ sum_of first (j + 1) i)
    → ((i : ℕ) → sum_of down 3 i ≡ 0) → AreOfVector x first 0 → AreBelow n x down (n - 1)
below_stop n x first down some others last is (suc (suc (suc zero))) i low inside =
    last i ∙ sym (row_sum-empty i) ∙ ap (λ (w : ℕ). row_sum w i) (sym (below_last n x some))
below_stop n x first down some others last is j i low inside =
    others j i (omega arith) ∙ is (j + 1) i (omega arith) inside ∙ ap (λ (w : ℕ). row_sum w i) (sym (below_end n x j some (omega arith)))

-- ---- the next generation, vector by vector

-- the first `count` vectors of y are computed: their lanes are the rows of the same vectors of x one generation later
abbrev pub AreMade : Numbers → ℕ → List (List ℕ) → List (List ℕ) → ℕ → Type 0
AreMade rule n x y count = (k : ℕ) → k < count → (j : ℕ) → j < 4
    → IsNextRow rule (row_above n x (j * n + k)) (row_at n x (j * n + k)) (row_below n x (j * n + k)) (lane_at y k j)

-- if `next` has the rule's answers for the sums above, at and below vector k, the lanes of `next` are the rows of
-- vector k one generation later
pub made_next : (rule : Numbers) (n : ℕ) (x : List (List ℕ)) (up here down : Sum) (now next : List ℕ) (k : ℕ) → k < n → AreAbove n x up k → AreHere n x here k
    → AreBelow n x down k → now ≡ get_or x k [] → AnswersRows rule up here down now next → (j : ℕ) → j < 4
    → IsNextRow rule (row_above n x (j * n + k)) (row_at n x (j * n + k)) (row_below n x (j * n + k)) (slice_index next j)
made_next rule n x up here down now next k low p q r same is j lane i inside =
    let word : slice_index now j ≡ row_at n x (j * n + k) = ap (λ (v : List ℕ). slice_index v j) same ∙ sym (row_is_lane n x j k low) in
    is j i lane inside
    ∙ (λ t. one_if (lives_by rule (p j i lane inside t + q j i lane inside t + r j i lane inside t) (bit_at (word t) i == 1)))

-- if P holds for each word of the vectors before vector k, and for each word of `next`, it holds for the first k + 1
-- vectors once vector k is set to `next`
pub vectors_more : (P : ℕ → ℕ → ℕ → Type 0) (y : List (List ℕ)) (next : List ℕ) (k : ℕ) → k < length y
    → ((m : ℕ) → m < k → (j : ℕ) → j < 4 → P m j (lane_at y m j)) → ((j : ℕ) → j < 4 → P k j (slice_index next j))
    → (m : ℕ) → m < k + 1 → (j : ℕ) → j < 4 → P m j (lane_at (set y k next) m j)
vectors_more P y next k within made more m low j lane = split (less_or_not m k)
  where
    split : (m < k) ⊎ (k ≤ m) → P m j (lane_at (set y k next) m j)
    split (inl less) =
        let kept : lane_at y m j ≡ lane_at (set y k next) m j =
        sym (ap (λ (v : List ℕ). slice_index v j) (get_or-set_other y k m next [] (λ e. absurd (omega arith)))) in
        subst (λ (w : ℕ). P m j w) kept (made m less j lane)
    split (inr not_less) =
        let is : k ≡ m = omega arith in
        let new : slice_index next j ≡ lane_at (set y k next) k j = sym (ap (λ (v : List ℕ). slice_index v j) (get_or-set_same y k next [] within)) in
        subst (λ (q : ℕ). P q j (lane_at (set y k next) q j)) is (subst (λ (w : ℕ). P k j w) new (more j lane))

pub made_more : (rule : Numbers) (n : ℕ) (x y : List (List ℕ)) (next : List ℕ) (k : ℕ) → k < length y → AreMade rule n x y k
    → ((j : ℕ) → j < 4 → IsNextRow rule (row_above n x (j * n + k)) (row_at n x (j * n + k)) (row_below n x (j * n + k)) (slice_index next j))
    → AreMade rule n x (set y k next) (k + 1)
made_more rule n x y next k =
    vectors_more (λ m j w. IsNextRow rule (row_above n x (j * n + m)) (row_at n x (j * n + m)) (row_below n x (j * n + m)) w) y next k

-- The vectors of y before vector k are computed, and the others are still those of x. The sums of the rows of vector k
-- and of the rows above them are known.
pub record AreMadeTo (rule : Numbers) (n : ℕ) (x y : List (List ℕ)) (up : Sum) (here : RowSums) (k : ℕ) : Type 0 where
  pub low : k < n
  pub long : length y ≡ n
  pub above : AreAbove n x up k
  pub own : AreHere n x here.all k
  pub beside : AreBeside here (get_or x k [])
  pub made : AreMade rule n x y k
  pub rest : (m : ℕ) → k ≤ m → get_or y m [] ≡ get_or x m []

-- if z is y with vector k computed too, then `AreMadeTo` holds for z and vector k + 1
pub made_to_next : (rule : Numbers) (n : ℕ) (x y z : List (List ℕ)) (up : Sum) (here below : RowSums) (k later : ℕ) → later ≡ k + 1
    → k + 1 < n → AreMadeTo rule n x y up here k → IsVectorMade rule k up here below y z → AreMadeTo rule n x z here.all below later
made_to_next rule n x y z up here below k later next low before one =
    subst (λ (m : ℕ). AreMadeTo rule n x z here.all below m) (sym next)
    (subst (λ (w : List (List ℕ)). AreMadeTo rule n x w here.all below (k + 1)) (sym one.is) (record {
      low = low;
      long = length-set y k one.next ∙ before.long;
      above = above_step n x here.all k before.own;
      own = here_at n x below.all (k + 1) low sums;
      beside = subst (AreBeside below) (before.rest (k + 1) (omega arith)) one.beside;
      made = made_more rule n x y one.next k (omega (arith, before.low, before.long)) before.made
          (made_next rule n x up here.all below.all (get_or y k []) one.next k before.low before.above before.own (below_step n x below.all k low sums)
          (before.rest k (omega arith)) one.answers);
      rest = λ m far. get_or-set_other y k m one.next [] (λ e. omega (arith, e, far)) ∙ before.rest m (omega (arith, far));
    }))
  where
    sums : AreOfVector x below.all (k + 1)
    sums j i lane inside = one.sums j i lane inside ∙ ap (λ (v : List ℕ). row_sum (slice_index v j) i) (before.rest (k + 1) (omega arith))

-- if all n vectors of y are computed, y is the window x one generation later
pub all_made : (rule : Numbers) (n : ℕ) (x y : List (List ℕ)) → 0 < n → AreMade rule n x y n → IsNextWindow rule n x y
all_made rule n x y some made r low =
    let k : r % n < n = mod_below r n some in
    let j : r / n < 4 = div_below r n 4 some low in
    let at : r / n * n + r % n ≡ r = div-add-mod' r n in
    λ i inside.
    made (r % n) k (r / n) j i inside
    ∙ (λ t. one_if (lives_by rule (row_sum (row_above n x (at t)) i + row_sum (row_at n x (at t)) i + row_sum (row_below n x (at t)) i)
    (bit_at (row_at n x (at t)) i == 1)))

-- ---- the cells that a window shows

pub one_if-is : (b : Bool) → (one_if b == 1) ≡ b
one_if-is true = refl
one_if-is false = refl

pub same_cell_at : (x y v w : ℤ) → x ≡ v → y ≡ w → cell_at x y ≡ cell_at v w
same_cell_at x y v w p q t = cell_at (p t) (q t)

-- the cell in column i and row r of a window
abbrev pub in_window : ℤ → ℤ → ℕ → ℕ → Cell
in_window left top i r = cell_at (left +ℤ pos i) (top +ℤ pos r)

bit_if : (S : List Cell) (word i : ℕ) (e c : Cell) → e ≡ c → has S c ≡ (bit_at word i == 1) → cond {A = ℕ} (has S e) 1 0 ≡ bit_at word i
bit_if S word i e c same shown =
    ap (λ (d : Cell). cond {A = ℕ} (has S d) 1 0) same ∙ ap (λ (b : Bool). cond {A = ℕ} b 1 0) shown ∙ one (bit_at word i) (bit_at-lt word i)
  where
    one : (n : ℕ) → n < 2 → cond {A = ℕ} (n == 1) 1 0 ≡ n
    one zero low = refl
    one (suc zero) low = refl
    one (suc (suc n)) low = absurd (omega arith)

-- the sum at column i of row r is the number of live cells among the cell there and its left and right neighbours, if
-- these three cells are at least `depth` cells inside
row_shown : (S : List Cell) (n : ℕ) (left top : ℤ) (depth : ℕ) (x : List (List ℕ)) → InOrder S → IsShownInside n left top depth x S → (e : Cell) (r i : ℕ)
    → depth ≤ r → r + depth < 4 * n → depth + 1 ≤ i → i + depth + 1 < 64 → e ≡ in_window left top i r
    → row_total S e ≡ row_sum (row_at n x r) i
row_shown S n left top depth x o shown e r zero h1 h2 h3 h4 is = absurd (omega arith)
row_shown S n left top depth x o shown e r (suc i) h1 h2 h3 h4 is =
    omega (
      arith,
      times_once S (moved_by (pos 1) (pos 0) e) o,
      times_once S e o,
      times_once S (moved_by (negsuc 0) (pos 0) e) o,
      here,
      west,
      east (suc i == 63) refl,
    )
  where
    word : ℕ
    word = row_at n x r

    here : cond {A = ℕ} (has S e) 1 0 ≡ bit_at word (suc i)
    here = bit_if S word (suc i) e (in_window left top (suc i) r) is (shown r (suc i) h1 h2 (omega arith) (omega arith))

    west : cond {A = ℕ} (has S (moved_by (negsuc 0) (pos 0) e)) 1 0 ≡ bit_at word i
    west =
        bit_if S word i (moved_by (negsuc 0) (pos 0) e) (in_window left top i r)
        (ap (moved_by (negsuc 0) (pos 0)) is ∙ same_cell_at _ _ _ _ (omega (arith, ints)) (omega (arith, ints)))
        (shown r i h1 h2 (omega arith) (omega arith))

    east : (b : Bool) → (suc i == 63) ≡ b → cond {A = ℕ} (has S (moved_by (pos 1) (pos 0) e)) 1 0 ≡ cond b (bit_at 0 0) (bit_at word (suc i + 1))
    east true t = let last : suc i ≡ 63 = eqb-true (suc i) 63 t in absurd (omega arith)
    east false t =
        bit_if S word (suc i + 1) (moved_by (pos 1) (pos 0) e) (in_window left top (suc i + 1) r)
        (ap (moved_by (pos 1) (pos 0)) is ∙ same_cell_at _ _ _ _ (omega (arith, ints)) (omega (arith, ints)))
        (shown r (suc i + 1) h1 h2 (omega arith) (omega arith))

-- if a cell is more than `depth` cells inside, the sums of the three rows at its column add up to the number of live
-- cells around it, plus 1 if it is alive
block_shown : (S : List Cell) (n : ℕ) (left top : ℤ) (depth : ℕ) (x : List (List ℕ)) → InOrder S → IsShownInside n left top depth x S → (r i : ℕ)
    → depth + 1 ≤ r → r + depth + 1 < 4 * n → depth + 1 ≤ i → i + depth + 1 < 64
    → row_sum (row_above n x r) i + row_sum (row_at n x r) i + row_sum (row_below n x r) i
    ≡ around S (in_window left top i r) + cond (has S (in_window left top i r)) 1 0
block_shown S n left top depth x o shown zero i h1 h2 h3 h4 = absurd (omega arith)
block_shown S n left top depth x o shown (suc r) i h1 h2 h3 h4 =
    let c = in_window left top i (suc r) in
    let above = row_shown S n left top depth x o shown (moved_by (pos 0) (negsuc 0) c) r i (omega arith) (omega arith) h3 h4
    (same_cell_at _ _ _ _ (omega (arith, ints)) (omega (arith, ints))) in
    let here = row_shown S n left top depth x o shown c (suc r) i (omega arith) (omega arith) h3 h4 refl in
    let below = row_shown S n left top depth x o shown (moved_by (pos 0) (pos 1) c) (suc r + 1) i (omega arith) (omega arith) h3 h4
    (same_cell_at _ _ _ _ (omega (arith, ints)) (omega (arith, ints))) in
    let under : row_sum (row_below n x (suc r)) i ≡ row_sum (row_at n x (suc r + 1)) i =
    ap (λ (w : ℕ). row_sum w i) (below_inner n x (suc r) (omega arith)) in
    omega (arith, neighbourhood_total-around S c, times_once S c o, above, here, below, under)

-- if a window shows a pattern in all cells that are at least `depth` inside its border, the next window shows the next
-- generation in all cells that are at least `depth` + 1 inside
pub shown_next : (rule : Numbers) (S : List Cell) (n : ℕ) (left top : ℤ) (depth : ℕ) (x y : List (List ℕ)) → InOrder S → IsShownInside n left top depth x S
    → IsNextWindow rule n x y → IsShownInside n left top (depth + 1) y (next rule S)
shown_next rule S n left top depth x y o shown step r i h1 h2 h3 h4 =
    let c = in_window left top i r in
    let count = block_shown S n left top depth x o shown r i h1 (omega arith) h3 (omega arith) in
    let alive = shown r i (omega arith) (omega arith) (omega arith) (omega arith) in
    let bit = step r (omega arith) i (omega arith) in
    has-next rule S c
    ∙ sym (lives_by-around rule S c (has S c))
    ∙ (λ t. lives_by rule (sym count t) (alive t))
    ∙ sym (one_if-is _)
    ∙ ap (λ (m : ℕ). m == 1) (sym bit)

-- ---- many generations

pub none_made : (rule : Numbers) (n : ℕ) (x : List (List ℕ)) → IsLaterWindow rule n x x 0
none_made rule n x cells left top depth o shown =
    subst (λ (S : List Cell). IsShownInside n left top (depth + 0) x S) (sym (after-none rule cells))
    (λ r i a b d e. shown r i (omega arith) (omega arith) (omega arith) (omega arith))

pub one_made : (rule : Numbers) (n : ℕ) (x y z : List (List ℕ)) (count : ℕ) → IsLaterWindow rule n x y count → IsNextWindow rule n y z
    → IsLaterWindow rule n x z (count + 1)
one_made rule n x y z count made step cells left top depth o shown =
    let more =
    shown_next rule (after rule cells count) n left top (depth + count) y z (in_order-after rule cells count o) (made cells left top depth o shown) step in
    subst (λ (S : List Cell). IsShownInside n left top (depth + (count + 1)) z S) (sym (after-more rule cells count))
    (λ r i a b d e. more r i (omega arith) (omega arith) (omega arith) (omega arith))
