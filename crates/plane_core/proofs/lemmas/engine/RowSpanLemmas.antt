-- Lemmas about row spans: a row span says which rows of a board's word column may have live cells.
use Rattle.std.proofs.Common.{◌≡◌, ◌≢◌, ◌==◌, ◌+◌, ◌/◌, ◌%◌, ◌<◌, ◌≤◌, ℕ, pos, ◌+ℤ◌, ◌-ℤ◌, true, List, [], ◌∷◌}
use Rattle.std.proofs.Common.{arith, ap, ◌∙◌, sym, subst, inl, inr, ◌⊎◌, length, take, get_or, get_or-set_other, get_or-set_same, set}
use Rattle.std.proofs.Common.{slice_index, slice_index_or}
use Rattle.std.specs.Int.{bit_at}
use Rattle.std.proofs.lemmas.Bool.{false≢true, or_cases}
use Rattle.std.proofs.lemmas.Int.{ints}
use Rattle.std.proofs.lemmas.List.{get_or_default, take_more}
use Rattle.std.proofs.lemmas.Nat.Bits.{bit_at-lt, bit_at-zero}
use Rattle.plane_core.specs.declared.plane.cell.Cell.{Cell}
use Rattle.plane_core.specs.declared.engine.frame.Frame.{Frame}
use Rattle.plane_core.specs.declared.engine.leap_window.LeapWindow.{LeapWindow}
use Rattle.plane_core.specs.declared.engine.row_spans.Hull.{Hull}
use Rattle.plane_core.specs.declared.engine.row_spans.RowSpan.{RowSpan}
use Rattle.plane_core.specs.plane.Cells.{has}
use Rattle.plane_core.specs.engine.Frames.{Shows, board_cell, word_of}
use Rattle.plane_core.specs.plane.Generations.{after}
use Rattle.plane_core.specs.engine.OnBoard.{cells_on}
use Rattle.plane_core.specs.engine.LeapWindows.{IsInnerCell}
use Rattle.plane_core.specs.plane.Rules.{Numbers}
use Rattle.plane_core.specs.engine.RowSpans.{AreSpans, AreWidened, HoldCovered, HoldsSpans, HasRow, IsInHull, IsInSpan, LieInSpans, span_of}
use Rattle.plane_core.proofs.lemmas.plane.CaseLemmas.{less_or_not, same_or_not}
use Rattle.plane_core.proofs.lemmas.engine.FrameLemmas.{one_spot, spot_of}
use Rattle.plane_core.proofs.lemmas.engine.OnBoardLemmas.{shows_cells}
use Rattle.plane_core.proofs.lemmas.plane.SetLemmas.{has-append, has-cases}
use Rattle.plane_core.proofs.lemmas.Between.{HoldInner, IsStillOutside}

-- ---- numbers in a span

pub in_or_not : (span : RowSpan) (n : ℕ) → HasRow span n ⊎ (HasRow span n → ⊥)
in_or_not span n = low (less_or_not n span.from)
  where
    high : span.from ≤ n → (n < span.end) ⊎ (span.end ≤ n) → HasRow span n ⊎ (HasRow span n → ⊥)
    high from (inl less) = inl (record { low = from; high = less })
    high from (inr past) = inr (λ is. let h = is.high in omega (arith, past))

    low : (n < span.from) ⊎ (span.from ≤ n) → HasRow span n ⊎ (HasRow span n → ⊥)
    low (inl before) = inr (λ is. let h = is.low in omega (arith, before))
    low (inr from) = high from (less_or_not n span.end)

-- ---- widening

-- a cell of the board is in the spans if its row is in the span of its word column
pub cell_held : (at : Frame) (spans : List RowSpan) (c : Cell) (a d : ℕ) → pos a ≡ c.x -ℤ at.left → pos d ≡ c.y -ℤ at.top
    → ((r : ℕ) → HasRow (record { from = d; end = d + 1 }) r → IsInSpan spans (a / 64) r) → LieInSpans at spans (c ∷ [])
cell_held at spans c a d p q held s r i hs hr hi e = elim (has-cases c [] (board_cell at s r i) e) [
  | inr none ↦ absurd (false≢true none)
  | inl same ↦
      let is = one_spot at s r i (a / 64) d (a % 64) hi (omega arith) (same ∙ spot_of at c a d p q) in
      subst (λ (t : ℕ). IsInSpan spans t r) (sym is.0) (held r (record { low = omega (arith, is.1); high = omega (arith, is.1) }))
]

-- if the old spans hold the first k cells, and the new spans contain the old spans and hold cell k, then the new spans
-- hold the first k + 1 cells
pub held_more : (at : Frame) (old new : List RowSpan) (cs : List Cell) (k : ℕ) (d : Cell) → k < length cs → AreWidened old new → LieInSpans at old (take k cs)
    → LieInSpans at new (get_or cs k d ∷ []) → LieInSpans at new (take (k + 1) cs)
held_more at old new cs k d low wide before here s r i hs hr hi e =
    elim (or_cases (has (take k cs) c) (has (get_or cs k d ∷ []) c)
    (sym (has-append (take k cs) (get_or cs k d ∷ []) c) ∙ ap (λ (S : List Cell). has S c) (sym (take_more cs k d low)) ∙ e)) [
      | inl earlier ↦ wide s r (before s r i hs hr hi earlier)
      | inr last ↦ here s r i hs hr hi last
    ]
  where
    c : Cell
    c = board_cell at s r i

-- the spans hold the inner part of a window, if they have its inner rows in both of its word columns
pub inner_held : (at : Frame) (p : LeapWindow) (x y end : ℕ) (mid new : List RowSpan) → p.left ≡ at.left +ℤ pos x → p.top ≡ at.top +ℤ pos y
    → end + 4 ≡ p.rows
    → ((r : ℕ) → HasRow (record { from = y + 4; end = y + end }) r → IsInSpan mid (x / 64) r) → AreWidened mid new
    → ((r : ℕ) → HasRow (record { from = y + 4; end = y + end }) r → IsInSpan new (x / 64 + 1) r) → HoldInner at new p
inner_held at p x y end mid new left top height first wide second s r i hs hr hi inner = go (same_or_not s (x / 64))
  where
    low : y + 4 ≤ r
    low = let h = inner.top in omega (arith, ints)

    high : r < y + end
    high = let h = inner.bottom in omega (arith, ints)

    here : HasRow (record { from = y + 4; end = y + end }) r
    here = record { low = low; high = high }

    go : (s ≡ x / 64) ⊎ (s ≢ x / 64) → IsInSpan new s r
    go (inl same) = wide s r (subst (λ (t : ℕ). IsInSpan mid t r) (sym same) (first r here))
    go (inr apart) =
        let h = inner.left in
        let k = inner.right in
        let is : x / 64 + 1 ≡ s = omega (arith, ints) in
        subst (λ (t : ℕ). IsInSpan new t r) is (second r here)

-- if the old spans hold the inner parts of the first `done` windows, and the new spans contain the old spans and hold
-- the inner part of the next window, then the new spans hold the inner parts of the first `done + 1` windows
pub places_more : (at : Frame) (old new : List RowSpan) (places : List LeapWindow) (done : ℕ) (d : LeapWindow) → done < length places → AreWidened old new
    → ((k : ℕ) (p : LeapWindow) → k < done → HoldInner at old (slice_index_or places k p)) → HoldInner at new (slice_index_or places done d)
    → (k : ℕ) (p : LeapWindow) → k < done + 1 → HoldInner at new (slice_index_or places k p)
places_more at old new places done d low wide before here k p near s r i hs hr hi inner = elim (same_or_not k done) [
  | inl same ↦
      here s r i hs hr hi (subst (λ (q : LeapWindow). IsInnerCell q (board_cell at s r i))
      (ap (λ (m : ℕ). slice_index_or places m p) same ∙ get_or_default places done p d low) inner)
  | inr apart ↦ wide s r (before k p (omega (arith, near, apart)) s r i hs hr hi inner)
]

-- ---- a leap

-- each cell that is alive after a leap is in the new spans: it is in the inner part of a window, or was alive before
pub spans_after : (rule : Numbers) (at : Frame) (places : List LeapWindow) (S : List Cell) (n : ℕ) (old new : List RowSpan) → LieInSpans at old S
    → AreWidened old new → HoldCovered at new places → IsStillOutside rule places S n → LieInSpans at new (after rule S n)
spans_after rule at places S n old new live wide covered still s r i hs hr hi e = elim (in_or_not (span_of new s) r) [
  | inl inside ↦ inside
  | inr outside ↦
      absurd (outside (wide s r (live s r i hs hr hi
      (sym (still (board_cell at s r i) (λ under. outside (covered s r i hs hr hi under))) ∙ e))))
]

-- ---- the hull

pub hull_more : (spans : List RowSpan) (n : ℕ) (old new : Hull) → HoldsSpans spans n old → ((s r : ℕ) → IsInHull old s r → IsInHull new s r)
    → ((r : ℕ) → HasRow (span_of spans n) r → IsInHull new n r) → HoldsSpans spans (n + 1) new
hull_more spans n old new before kept held s r low inside = elim (same_or_not s n) [
  | inl same ↦
      subst (λ (t : ℕ). IsInHull new t r) (sym same) (held r (subst (λ (t : ℕ). IsInSpan spans t r) same inside))
  | inr apart ↦ kept s r (before s r (omega (arith, apart, low)) inside)
]

-- ---- emptying

-- each word is unchanged or 0
abbrev pub AreZeroed : List ℕ → List ℕ → Type 0
AreZeroed old new = (m : ℕ) → (slice_index new m ≡ slice_index old m) ⊎ (slice_index new m ≡ 0)

pub zeroed_more : (old mid new : List ℕ) → AreZeroed old mid → AreZeroed mid new → AreZeroed old new
zeroed_more old mid new first second m = go (first m) (second m)
  where
    go : (slice_index mid m ≡ slice_index old m) ⊎ (slice_index mid m ≡ 0) → (slice_index new m ≡ slice_index mid m) ⊎ (slice_index new m ≡ 0)
        → (slice_index new m ≡ slice_index old m) ⊎ (slice_index new m ≡ 0)
    go p (inr none) = inr none
    go (inl same) (inl here) = inl (here ∙ same)
    go (inr none) (inl here) = inr (here ∙ none)

-- if a bit of a board is 1, its cell is alive
pub live_bit : (at : Frame) (words : List ℕ) (s r i : ℕ) → s < at.word_columns → r < at.rows → i < 64 → bit_at (slice_index words (word_of at s r)) i ≡ 1
    → has (cells_on at words) (board_cell at s r i) ≡ true
live_bit at words s r i hs hr hi one = shows_cells at words s r i hs hr hi ∙ ap (λ (n : ℕ). n == 1) one

-- all cells outside the spans are dead
pub dead_outside : (at : Frame) (words : List ℕ) (spans : List RowSpan) (s r i : ℕ) → LieInSpans at spans (cells_on at words) → s < at.word_columns → r < at.rows
    → i < 64 → (IsInSpan spans s r → ⊥) → bit_at (slice_index words (word_of at s r)) i ≡ 0
dead_outside at words spans s r i live hs hr hi outside =
    let low = bit_at-lt (slice_index words (word_of at s r)) i in
    elim (same_or_not (bit_at (slice_index words (word_of at s r)) i) 1) [
      | inl one ↦ absurd (outside (live s r i hs hr hi (live_bit at words s r i hs hr hi one)))
      | inr apart ↦ omega (arith, low, apart)
    ]

-- the first n word columns are dead
abbrev pub AreWordColumnsDead : Frame → List ℕ → ℕ → Type 0
AreWordColumnsDead at words n = (s r i : ℕ) → s < n → r < at.rows → i < 64 → bit_at (slice_index words (word_of at s r)) i ≡ 0

pub word_column_emptied : (at : Frame) (old mid new : List ℕ) (spans : List RowSpan) (word_column : ℕ) → word_column < at.word_columns → LieInSpans at spans (cells_on at old)
    → AreZeroed old mid → AreWordColumnsDead at mid word_column → AreZeroed mid new
    → ((r : ℕ) → r < at.rows → IsInSpan spans word_column r → slice_index new (word_of at word_column r) ≡ 0) → AreWordColumnsDead at new (word_column + 1)
word_column_emptied at old mid new spans word_column low live first before second here s r i near hr hi = elim (same_or_not s word_column) [
  | inl same ↦ subst (λ (t : ℕ). bit_at (slice_index new (word_of at t r)) i ≡ 0) (sym same) (last (in_or_not (span_of spans word_column) r))
  | inr apart ↦ earlier (second (word_of at s r)) (before s r i (omega (arith, near, apart)) hr hi)
]
  where
    none : (m : ℕ) → slice_index new m ≡ 0 → bit_at (slice_index new m) i ≡ 0
    none m is = ap (λ (w : ℕ). bit_at w i) is ∙ bit_at-zero i

    last : IsInSpan spans word_column r ⊎ (IsInSpan spans word_column r → ⊥) → bit_at (slice_index new (word_of at word_column r)) i ≡ 0
    last (inl inside) = none _ (here r hr inside)
    last (inr outside) = elim (zeroed_more old mid new first second (word_of at word_column r)) [
      | inl same ↦ ap (λ (w : ℕ). bit_at w i) same ∙ dead_outside at old spans word_column r i live low hr hi outside
      | inr is ↦ none _ is
    ]

    earlier : (slice_index new (word_of at s r) ≡ slice_index mid (word_of at s r)) ⊎ (slice_index new (word_of at s r) ≡ 0)
        → bit_at (slice_index mid (word_of at s r)) i ≡ 0 → bit_at (slice_index new (word_of at s r)) i ≡ 0
    earlier (inl same) dead = ap (λ (w : ℕ). bit_at w i) same ∙ dead
    earlier (inr is) dead = none _ is

pub shown_dead : (at : Frame) (words : List ℕ) → AreWordColumnsDead at words at.word_columns → Shows at words []
shown_dead at words dead s r i hs hr hi = ap (λ (n : ℕ). n == 1) (sym (dead s r i hs hr hi))

-- a board without a live cell may have any spans
pub empty_spans : (at : Frame) (words : List ℕ) (spans : List RowSpan) → cells_on at words ≡ [] → length spans ≡ at.word_columns
    → AreSpans at (cells_on at words) spans
empty_spans at words spans none long = record {
  word_columns = long;
  live = λ s r i hs hr hi e. absurd (false≢true (sym (ap (λ (S : List Cell). has S (board_cell at s r i)) none) ∙ e));
}

-- if the rows from `from` to before `row` are empty, all rows from `from` to `row` are empty once the word of `row` is
-- set to 0
pub row_emptied : (at : Frame) (words : List ℕ) (word_column row from i : ℕ) → i ≡ word_of at word_column row → i < length words
    → ((r : ℕ) → from ≤ r → r < row → slice_index words (word_of at word_column r) ≡ 0) → (r : ℕ) → from ≤ r → r < row + 1
    → slice_index (set words i 0) (word_of at word_column r) ≡ 0
row_emptied at words word_column row from i is low before r past near = elim (same_or_not r row) [
  | inl same ↦
      subst (λ (m : ℕ). slice_index (set words i 0) m ≡ 0) (is ∙ ap (λ (n : ℕ). word_of at word_column n) (sym same)) (get_or-set_same words i 0 0 low)
  | inr apart ↦
      get_or-set_other words i (word_of at word_column r) 0 0 (λ e. omega (arith, is, apart, e)) ∙ before r past (omega (arith, near, apart))
]

pub zeroed_at : (old words : List ℕ) (i : ℕ) → i < length words → AreZeroed old words → AreZeroed old (set words i 0)
zeroed_at old words i low before m = elim (same_or_not m i) [
  | inl same ↦ inr (subst (λ (k : ℕ). slice_index (set words i 0) k ≡ 0) (sym same) (get_or-set_same words i 0 0 low))
  | inr apart ↦ subst (λ (w : ℕ). (w ≡ slice_index old m) ⊎ (w ≡ 0)) (sym (get_or-set_other words i m 0 0 apart)) (before m)
]
