-- How the cells of a board are read into a list.
use Rattle.std.proofs.lemmas.Bool.Decides.{nat_tests}
use Rattle.std.proofs.Common.{nat_le, min, ◌≡◌, ◌≢◌, ◌==◌, ◌+◌, ◌*◌, ◌/◌, ◌%◌, ◌^◌, ◌-◌, ◌<◌, ◌≤◌, ℕ, ℤ, pos, ◌+ℤ◌, ◌-ℤ◌, ◌≤ℤ◌, Bool, true, false, ◌||◌, List, [], ◌∷◌, ◌++◌}
use Rattle.std.proofs.Common.{arith, refl, ap, ◌∙◌, sym, subst, inl, inr, ◌⊎◌, bit_or, slice_index, unsigned_abs, w64}
use Rattle.std.specs.Int.{bit_at, trailing_zeros}
use Rattle.std.specs.Cmp.{both_ways as both_true}
use Rattle.std.proofs.lemmas.Int.{ints}
use Rattle.std.proofs.lemmas.Nat.Bits.{bit_at-zero, bit_at_or, bit_at_above, bit_at_cat_high, bit_at-trailing_zeros}
use Rattle.std.proofs.lemmas.Nat.{div-add-mod', pow_pos}
use Rattle.std.proofs.Math.Nat.{div-le_self, mod-lt}
use Rattle.std.proofs.lemmas.Bool.{false≢true, or_cases, eqb-true}
use Rattle.plane_core.specs.declared.engine.frame.Frame.{Frame}
use Rattle.plane_core.specs.declared.plane.cell.Cell.{Cell}
use Rattle.plane_core.specs.plane.Cells.{InOrder, cell_at, has, set_of}
use Rattle.plane_core.specs.engine.Frames.{IsFrame, LieOn, Shows, board_cell, word_of}
use Rattle.plane_core.specs.engine.Listing.{AreAmong, HasRead, HasReadRows, IsBandEmpty, IsWordColumnEmpty}
use Rattle.plane_core.specs.engine.OnBoard.{cells_on}
use Rattle.plane_core.specs.engine.RowSpans.{HasRow, IsInSpan, LieInWordColumns, LieInSpans}
use Rattle.plane_core.specs.declared.engine.row_spans.RowSpan.{RowSpan}
use Rattle.plane_core.proofs.lemmas.plane.CaseLemmas.{less_or_not, same_or_not}
use Rattle.plane_core.proofs.lemmas.engine.RowSpanLemmas.{dead_outside, live_bit}
use Rattle.plane_core.proofs.lemmas.engine.FrameLemmas.{spot_inside, spot_of}
use Rattle.plane_core.proofs.lemmas.engine.OnBoardLemmas.{cells_in_order, cells_lie_on, shows_cells}
use Rattle.plane_core.proofs.lemmas.plane.CellLemmas.{same_cells}
use Rattle.plane_core.proofs.lemmas.plane.SetLemmas.{has-append, has-cases, has-head, is_set_of, or_right}
use Rattle.plane_core.proofs.lemmas.Between.{AreDead, HasReadRow, IsNextAlive, IsRowEmpty}

or_left : (a b : Bool) → a ≡ true → (a || b) ≡ true
or_left true b e = refl
or_left false b e = absurd (false≢true e)

among-push : (S cs : List Cell) (c : Cell) → AreAmong S cs → has S c ≡ true → AreAmong S (cs ++ c ∷ [])
among-push S cs c among here d e = elim (or_cases (has cs d) (has (c ∷ []) d) (sym (has-append cs (c ∷ []) d) ∙ e)) [
  | inl before ↦ among d before
  | inr last ↦ elim (has-cases c [] d last) [
    | inl same ↦ subst (λ (x : Cell). has S x ≡ true) (sym same) here
    | inr none ↦ absurd (false≢true none)
  ]
]

pub grows-push : (cs : List Cell) (c : Cell) → AreAmong (cs ++ c ∷ []) cs
grows-push cs c d e = has-append cs (c ∷ []) d ∙ or_left (has cs d) (has (c ∷ []) d) e

pub has-push : (cs : List Cell) (c : Cell) → has (cs ++ c ∷ []) c ≡ true
has-push cs c = has-append cs (c ∷ []) c ∙ or_right (has cs c) (has (c ∷ []) c) (has-head c [])

-- ---- a word

-- bit i of a word is bit i - k of the word shifted right by k
moved_down : (n k i : ℕ) → k ≤ i → bit_at n i ≡ bit_at (n / 2 ^ k) (i - k)
moved_down n k i low =
    ap (λ (m : ℕ). bit_at m i) (sym (div-add-mod' n (2 ^ k))) ∙ bit_at_cat_high (n / 2 ^ k) k (n % 2 ^ k) i (mod-lt n (pow_pos k)) low

pub next_alive_is : (word from : ℕ) → word < 2 ^ 64 → 0 < word / 2 ^ from
    → IsNextAlive word from (from + trailing_zeros w64 (word / 2 ^ from))
next_alive_is word from small some = record {
  low = omega arith;
  high = inside (less_or_not (from + place) 64);
  one = moved_down word from (from + place) (omega arith) ∙ ap (λ (n : ℕ). bit_at (word / 2 ^ from) n) at ∙ found.1;
  none = λ b l h. moved_down word from b l ∙ found.2 (b - from) (omega arith);
}
  where
    place : ℕ
    place = trailing_zeros w64 (word / 2 ^ from)

    found : (place < 64) × (bit_at (word / 2 ^ from) place ≡ 1) × ((i : ℕ) → i < place → bit_at (word / 2 ^ from) i ≡ 0)
    found = bit_at-trailing_zeros w64 (word / 2 ^ from) some (omega (arith, div-le_self word (2 ^ from)))

    at : from + place - from ≡ place
    at = omega arith

    inside : (from + place < 64) ⊎ (64 ≤ from + place) → from + place < 64
    inside (inl early) = early
    inside (inr past) =
        let none = bit_at_above word 64 (from + place) small past in
        let is = moved_down word from (from + place) (omega arith) in
        let same = ap (λ (n : ℕ). bit_at (word / 2 ^ from) n) at in
        absurd (omega (arith, none, is, same, found.1))

pub no_more_alive : (word from : ℕ) → word / 2 ^ from ≡ 0 → AreDead word from 64
no_more_alive word from none b low high = moved_down word from b low ∙ ap (λ (n : ℕ). bit_at n (b - from)) none ∙ bit_at-zero (b - from)

pub read_one : (word : ℕ) (first : Cell) (old new : List Cell) (i : ℕ) → i < 64 → bit_at word i ≡ 1 → HasRead word first old i new
    → HasRead word first old (i + 1) (new ++ cell_at (first.x +ℤ pos i) first.y ∷ [])
read_one word first old new i low one read = record {
  grows = λ d e. grows-push new c d (read.grows d e);
  sound = λ others h among. among-push others new c (read.sound others h among) (h i low one);
  complete = λ k near bit. at k near bit (same_or_not k i);
}
  where
    c : Cell
    c = cell_at (first.x +ℤ pos i) first.y

    at : (k : ℕ) → k < i + 1 → bit_at word k ≡ 1 → (k ≡ i) ⊎ (k ≢ i) → has (new ++ c ∷ []) (cell_at (first.x +ℤ pos k) first.y) ≡ true
    at k near bit (inl same) = subst (λ (n : ℕ). has (new ++ c ∷ []) (cell_at (first.x +ℤ pos n) first.y) ≡ true) (sym same) (has-push new c)
    at k near bit (inr apart) = grows-push new c _ (read.complete k (omega arith) bit)

-- a range of bits that are 0 adds nothing to the list
pub read_on : (word : ℕ) (first : Cell) (old new : List Cell) (i j : ℕ) → AreDead word i j → HasRead word first old i new → HasRead word first old j new
read_on word first old new i j none read = record {
  grows = read.grows;
  sound = read.sound;
  complete = λ k near bit. at k near bit (less_or_not k i);
}
  where
    at : (k : ℕ) → k < j → bit_at word k ≡ 1 → (k < i) ⊎ (i ≤ k) → has new (cell_at (first.x +ℤ pos k) first.y) ≡ true
    at k near bit (inl before) = read.complete k before bit
    at k near bit (inr past) = let zero = none k past near in absurd (omega (arith, zero, bit))

-- ---- a row

pub along_cell : (at : Frame) (s r i : ℕ) → cell_at ((board_cell at s r 0).x +ℤ pos i) (board_cell at s r 0).y ≡ board_cell at s r i
along_cell at s r i = same_cells _ _ _ _ (omega (arith, ints)) refl

pub row-none : (at : Frame) (words : List ℕ) (r : ℕ) (old : List Cell) → HasReadRow at words r old 0 old
row-none at words r old = record { grows = λ d e. e; sound = λ others shown among. among; complete = λ s i low. absurd (omega arith) }

-- word columns without a live cell add nothing to the list
pub row-on : (at : Frame) (words : List ℕ) (r n m : ℕ) (old new : List Cell) → IsRowEmpty at words r n m → HasReadRow at words r old n new
    → HasReadRow at words r old m new
row-on at words r n m old new empty before = record {
  grows = before.grows;
  sound = before.sound;
  complete = λ s i near low bit. found s i near low bit (less_or_not s n);
}
  where
    found : (s i : ℕ) → s < m → i < 64 → bit_at (slice_index words (word_of at s r)) i ≡ 1 → (s < n) ⊎ (n ≤ s) → has new (board_cell at s r i) ≡ true
    found s i near low bit (inl done) = before.complete s i done low bit
    found s i near low bit (inr past) = let none = empty s i past near low in absurd (omega (arith, none, bit))

-- a row of an empty band is empty
pub row-empty : (at : Frame) (words : List ℕ) (band r n m : ℕ) → 8 * band ≤ r → r < 8 * band + 8 → IsBandEmpty at words band n m
    → IsRowEmpty at words r n m
row-empty at words band r n m low high empty s b past near small =
    let row : 8 * band + (r - 8 * band) ≡ r = omega arith in
    ap (λ (q : ℕ). bit_at (slice_index words (word_of at s q)) b) (sym row) ∙ empty s past near (r - 8 * band) b (omega arith) small

pub row-more : (at : Frame) (words : List ℕ) (s r word : ℕ) (first : Cell) (old new more : List Cell) → s < at.word_columns → r < at.rows
    → ((i : ℕ) → i < 64 → bit_at word i ≡ bit_at (slice_index words (word_of at s r)) i) → first ≡ board_cell at s r 0
    → HasReadRow at words r old s new → HasRead word first new 64 more → HasReadRow at words r old (s + 1) more
row-more at words s r word first old new more hs hr word_is first_is before read = record {
  grows = λ d e. read.grows d (before.grows d e);
  sound = λ others shown among. read.sound others (alive others shown) (before.sound others shown among);
  complete = λ k i near low bit. found k i near low bit (same_or_not k s);
}
  where
    cell : (i : ℕ) → cell_at (first.x +ℤ pos i) first.y ≡ board_cell at s r i
    cell i = ap (λ (c : Cell). cell_at (c.x +ℤ pos i) c.y) first_is ∙ along_cell at s r i

    alive : (others : List Cell) → Shows at words others → (i : ℕ) → i < 64 → bit_at word i ≡ 1 → has others (cell_at (first.x +ℤ pos i) first.y) ≡ true
    alive others shown i low bit =
        ap (λ (c : Cell). has others c) (cell i) ∙ shown s r i hs hr low
        ∙ ap (λ (n : ℕ). n == 1) (sym (word_is i low) ∙ bit)

    found : (k i : ℕ) → k < s + 1 → i < 64 → bit_at (slice_index words (word_of at k r)) i ≡ 1 → (k ≡ s) ⊎ (k ≢ s) → has more (board_cell at k r i) ≡ true
    found k i near low bit (inl same) =
        let here : bit_at word i ≡ 1 = word_is i low ∙ ap (λ (n : ℕ). bit_at (slice_index words (word_of at n r)) i) (sym same) ∙ bit in
        ap (λ (n : ℕ). has more (board_cell at n r i)) same ∙ ap (λ (c : Cell). has more c) (sym (cell i)) ∙ read.complete i low here
    found k i near low bit (inr apart) = read.grows (board_cell at k r i) (before.complete k i (omega arith) low bit)

-- ---- the board

pub rows-more : (at : Frame) (words : List ℕ) (r : ℕ) (new more : List Cell) → HasReadRows at words r new
    → HasReadRow at words r new at.word_columns more → HasReadRows at words (r + 1) more
rows-more at words r new more before read = record {
  sound = λ others shown. read.sound others shown (before.sound others shown);
  complete = λ s k i hs near low bit. found s k i hs near low bit (same_or_not k r);
}
  where
    found : (s k i : ℕ) → s < at.word_columns → k < r + 1 → i < 64 → bit_at (slice_index words (word_of at s k)) i ≡ 1 → (k ≡ r) ⊎ (k ≢ r)
        → has more (board_cell at s k i) ≡ true
    found s k i hs near low bit (inl same) =
        ap (λ (n : ℕ). has more (board_cell at s n i)) same
        ∙ read.complete s i hs low (ap (λ (n : ℕ). bit_at (slice_index words (word_of at s n)) i) (sym same) ∙ bit)
    found s k i hs near low bit (inr apart) = read.grows (board_cell at s k i) (before.complete s k i hs (omega arith) low bit)

pub rows-none : (at : Frame) (words : List ℕ) (cells : List Cell) → cells ≡ [] → HasReadRows at words 0 cells
rows-none at words cells none = record {
  sound = λ others shown c e. absurd (false≢true (sym (ap (λ (cs : List Cell). has cs c) none) ∙ e));
  complete = λ s r i hs low. absurd (omega arith);
}

-- an empty band adds nothing to the list
pub rows-on : (at : Frame) (words : List ℕ) (band : ℕ) (new : List Cell) → IsBandEmpty at words band 0 at.word_columns → HasReadRows at words (8 * band) new
    → HasReadRows at words (8 * band + 8) new
rows-on at words band new empty before = record {
  sound = before.sound;
  complete = λ s r i hs near low bit. found s r i hs near low bit (less_or_not r (8 * band));
}
  where
    found : (s r i : ℕ) → s < at.word_columns → r < 8 * band + 8 → i < 64 → bit_at (slice_index words (word_of at s r)) i ≡ 1
        → (r < 8 * band) ⊎ (8 * band ≤ r) → has new (board_cell at s r i) ≡ true
    found s r i hs near low bit (inl done) = before.complete s r i hs done low bit
    found s r i hs near low bit (inr here) =
        let row : 8 * band + (r - 8 * band) ≡ r = omega arith in
        let none = empty s (omega arith) hs (r - 8 * band) i (omega arith) low in
        let same = ap (λ (n : ℕ). bit_at (slice_index words (word_of at s n)) i) row in
        absurd (omega (arith, none, same, bit))

-- if the union of the words of a word column in a band is 0, the word column is empty in that band
pub word_column-empty : (at : Frame) (words : List ℕ) (s band from columns : ℕ) → from ≡ word_of at s (8 * band) → columns ≡ 0
    → ((b k : ℕ) → bit_at columns b ≡ 0 → k < 8 → bit_at (slice_index words (from + k)) b ≡ 0) → IsWordColumnEmpty at words band s
word_column-empty at words s band from columns is zero here k b low small =
    let spot : word_of at s (8 * band + k) ≡ from + k = omega (arith, is) in
    ap (λ (n : ℕ). bit_at (slice_index words n) b) spot ∙ here b k (ap (λ (n : ℕ). bit_at n b) zero ∙ bit_at-zero b) low

-- if the first n word columns of a band and word column n are empty, the first n + 1 word columns are empty
pub band-more : (at : Frame) (words : List ℕ) (band n : ℕ) → IsBandEmpty at words band 0 n → IsWordColumnEmpty at words band n → IsBandEmpty at words band 0 (n + 1)
band-more at words band n before here s low near = elim (same_or_not s n) [
  | inl same ↦ subst (λ (t : ℕ). IsWordColumnEmpty at words band t) (sym same) here
  | inr apart ↦ before s low (omega (arith, near, apart))
]

-- if a range of word columns of a band and the word column before it are empty, so is the range of both
pub band-less : (at : Frame) (words : List ℕ) (band n m : ℕ) → 1 ≤ n → IsBandEmpty at words band n m → IsWordColumnEmpty at words band (n - 1)
    → IsBandEmpty at words band (n - 1) m
band-less at words band n m some before here s low near = elim (same_or_not s (n - 1)) [
  | inl same ↦ subst (λ (t : ℕ). IsWordColumnEmpty at words band t) (sym same) here
  | inr apart ↦ before s (omega (arith, low, apart, some)) near
]

-- a bit that is 0 in the union of the k + 1 words from place `from` on is 0 in each of these words
pub eight-more : (words : List ℕ) (from k columns : ℕ)
    → ((b m : ℕ) → bit_at columns b ≡ 0 → m < k → bit_at (slice_index words (from + m)) b ≡ 0)
    → (b m : ℕ) → bit_at (bit_or columns (slice_index words (from + k))) b ≡ 0 → m < k + 1 → bit_at (slice_index words (from + m)) b ≡ 0
eight-more words from k columns before b m none near = go (same_or_not m k)
  where
    go : (m ≡ k) ⊎ (m ≢ k) → bit_at (slice_index words (from + m)) b ≡ 0
    go (inl same) =
        let e = bit_at_or columns (slice_index words (from + k)) b in
        ap (λ (n : ℕ). bit_at (slice_index words (from + n)) b) same ∙ omega (arith, e, none)
    go (inr apart) =
        let e = bit_at_or columns (slice_index words (from + k)) b in
        before b m (omega (arith, e, none)) (omega arith)

-- a span that ends before the eight rows from row `first` on, or begins after them, has none of these rows
pub missed_eight : (span : RowSpan) (first : ℕ) → (nat_le span.end first || nat_le (first + 8) span.from) ≡ true → (k : ℕ) → k < 8 → HasRow span (first + k) → ⊥
missed_eight span first e k low inside = let a = inside.low in let b = inside.high in grind (arith, nat_tests)

-- a word column is empty in a band that its span doesn't reach
pub word_column_missed : (at : Frame) (words : List ℕ) (spans : List RowSpan) (s band : ℕ) → s < at.word_columns → band < at.rows / 8
    → LieInSpans at spans (cells_on at words) → ((k : ℕ) → k < 8 → IsInSpan spans s (8 * band + k) → ⊥) → IsWordColumnEmpty at words band s
word_column_missed at words spans s band hs hb live missed k b low small =
    dead_outside at words spans s (8 * band + k) b live hs (omega (arith, low, hb)) small (missed k low)

-- word columns that aren't in the range `word_columns` have no rows in their spans, so they are empty in each band
pub band_missed : (at : Frame) (words : List ℕ) (spans : List RowSpan) (word_columns : RowSpan) (band from to : ℕ) → band < at.rows / 8 → to ≤ at.word_columns
    → LieInSpans at spans (cells_on at words) → LieInWordColumns at spans word_columns → ((s : ℕ) → from ≤ s → s < to → HasRow word_columns s → ⊥)
    → IsBandEmpty at words band from to
band_missed at words spans word_columns band from to hb most live held out s past near =
    word_column_missed at words spans s band (omega (arith, near, most)) hb live
    (λ k low inside. out s past near (held s (8 * band + k) (omega (arith, near, most)) inside))

-- if two adjacent ranges of word columns of a band are empty, so is the range of both
pub band_joined : (at : Frame) (words : List ℕ) (band from mid to : ℕ) → IsBandEmpty at words band from mid → IsBandEmpty at words band mid to
    → IsBandEmpty at words band from to
band_joined at words band from mid to first second s past near = elim (less_or_not s mid) [
  | inl less ↦ first s past less
  | inr more ↦ second s more near
]

-- the first band that a span reaches doesn't begin past the end of the board
pub bands_begin : (first all from : ℕ) → from ≡ min first all → 8 * (from / 8) ≤ all
bands_begin first all from is = omega (arith, is)

pub bands_end : (at : Frame) (last end : ℕ) → IsFrame at → end ≡ min last at.rows → (end + 7) / 8 ≤ at.rows / 8
bands_end at last end frame is = let h = frame.bands in omega (arith, is)

pub bands_held : (rows : RowSpan) (all from end r : ℕ) → from ≡ min rows.from all → end ≡ min rows.end all → r < all → HasRow rows r
    → HasRow (record { from = from / 8; end = (end + 7) / 8 }) (r / 8)
bands_held rows all from end r from_is end_is low inside =
    let a = inside.low in
    let b = inside.high in
    record { low = omega (arith, from_is); high = omega (arith, end_is) }

-- the bands before the first band that a span reaches add nothing to the list
pub bands_before : (at : Frame) (words : List ℕ) (spans : List RowSpan) (bands : RowSpan) (cells : List Cell) → cells ≡ [] → 8 * bands.from ≤ at.rows
    → LieInSpans at spans (cells_on at words) → ((s r : ℕ) → s < at.word_columns → r < at.rows → IsInSpan spans s r → HasRow bands (r / 8))
    → HasReadRows at words (8 * bands.from) cells
bands_before at words spans bands cells none low live held = record {
  sound = (rows-none at words cells none).sound;
  complete = λ s r i hs near small bit.
      let hr : r < at.rows = omega (arith, near, low) in
      let h = (held s r hs hr (live s r i hs hr small (live_bit at words s r i hs hr small bit))).low in
      absurd (omega (arith, h, near));
}

pub bands_after : (at : Frame) (words : List ℕ) (spans : List RowSpan) (bands : RowSpan) (band : ℕ) (cells : List Cell) → bands.end ≤ band
    → LieInSpans at spans (cells_on at words) → ((s r : ℕ) → s < at.word_columns → r < at.rows → IsInSpan spans s r → HasRow bands (r / 8))
    → HasReadRows at words (8 * band) cells → HasReadRows at words at.rows cells
bands_after at words spans bands band cells low live held before = record {
  sound = before.sound;
  complete = λ s r i hs hr small bit.
      let h = (held s r hs hr (live s r i hs hr small (live_bit at words s r i hs hr small bit))).high in
      before.complete s r i hs (omega (arith, h, low)) small bit;
}

natural : (d : ℤ) (a : ℤ) → a ≤ℤ d → pos (unsigned_abs (d -ℤ a)) ≡ d -ℤ a
natural d a h = omega (arith, ints)

-- the cells that were read from the whole board, put in order, are the pattern that the board shows
pub read_all : (at : Frame) (words : List ℕ) (S new : List Cell) → InOrder S → LieOn at S → Shows at words S → HasReadRows at words (at.rows) new
    → set_of new ≡ S
read_all at words S new o fits shown read = sym (is_set_of S new o (λ c. both_true (has S c) (has new c) (there c) (read.sound S shown c)))
  where
    there : (c : Cell) → has S c ≡ true → has new c ≡ true
    there c e =
        let within = fits c e in
        let a = unsigned_abs (c.x -ℤ at.left) in
        let d = unsigned_abs (c.y -ℤ at.top) in
        let p : pos a ≡ c.x -ℤ at.left = natural c.x at.left within.left in
        let q : pos d ≡ c.y -ℤ at.top = natural c.y at.top within.top in
        let is = spot_of at c a d p q in
        let hs : a / 64 < at.word_columns = (spot_inside at c a d within p q).0 in
        let hr : d < at.rows = (spot_inside at c a d within p q).1 in
        let alive : has S (board_cell at (a / 64) d (a % 64)) ≡ true = ap (λ (x : Cell). has S x) (sym is) ∙ e in
        let bit : (bit_at (slice_index words (word_of at (a / 64) d)) (a % 64) == 1) ≡ true = sym (shown (a / 64) d (a % 64) hs hr (omega arith)) ∙ alive in
        ap (λ (x : Cell). has new x) is ∙ read.complete (a / 64) d (a % 64) hs hr (omega arith) (eqb-true _ 1 bit)

-- the cells that were read from all rows, put in order, are the pattern of the board
pub all_read : (at : Frame) (words : List ℕ) (new set : List Cell) → HasReadRows at words at.rows new → set ≡ set_of new → set ≡ cells_on at words
all_read at words new set read is =
    is ∙ read_all at words (cells_on at words) new (cells_in_order at words) (cells_lie_on at words) (shows_cells at words) read
