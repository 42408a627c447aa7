-- Cells that are removed from a board.
use Rattle.std.proofs.Common.{◌≡◌, ◌≢◌, ◌==◌, ◌+◌, ◌*◌, ◌/◌, ◌%◌, ◌^◌, ◌<◌, ◌≤◌, ℕ, pos, ◌-ℤ◌, Bool, true, false, not, ◌&&◌, ◌||◌}
use Rattle.std.proofs.Common.{List, [], ◌∷◌, ◌++◌, arith, refl, ap, ◌∙◌, sym, subst, inl, inr, ◌⊎◌, length, take, set, get_or, get_or-set_same}
use Rattle.std.proofs.Common.{get_or-set_other, slice_index, bit_and, w64, leb, unsigned_abs}
use Rattle.std.specs.Int.{bit_at, bit_not}
use Rattle.std.specs.List.{All}
use Rattle.std.proofs.lemmas.Bool.{and_from, and_parts, leb-true, le-leb}
use Rattle.std.proofs.lemmas.List.{take_more}
use Rattle.std.proofs.lemmas.Nat.Bits.{bit_at_clear_other, bit_at_clear_same}
use Rattle.plane_core.specs.declared.plane.bounds.Bounds.{Bounds}
use Rattle.plane_core.specs.declared.plane.cell.Cell.{Cell}
use Rattle.plane_core.specs.declared.engine.frame.Frame.{Frame}
use Rattle.plane_core.specs.declared.engine.row_spans.RowSpan.{RowSpan}
use Rattle.plane_core.specs.engine.Boards.{IsSpannedBoard}
use Rattle.plane_core.specs.plane.Bounds.{AreSidesWithin, IsWithin}
use Rattle.plane_core.specs.engine.ActiveBoxes.{AreWider, HoldAll, box_bound}
use Rattle.plane_core.specs.plane.Cells.{IsPattern, has, is_within, on_plane, plane_bound, same_cell}
use Rattle.plane_core.specs.engine.Frames.{Shows, bounds_of, board_cell, word_of}
use Rattle.plane_core.specs.plane.Generations.{lies_within}
use Rattle.plane_core.specs.engine.OnBoard.{cells_on}
use Rattle.plane_core.specs.plane.Rules.{Numbers}
use Rattle.plane_core.specs.plane.Without.{without}
use Rattle.plane_core.proofs.lemmas.engine.ActiveBoxLemmas.{wider_has}
use Rattle.plane_core.proofs.lemmas.plane.CaseLemmas.{same_or_not}
use Rattle.plane_core.proofs.lemmas.plane.CellLemmas.{same_cell-itself, same_cell-same}
use Rattle.plane_core.proofs.lemmas.engine.FrameLemmas.{one_spot, one_word, spot_inside, spot_of, word-inside}
use Rattle.plane_core.proofs.lemmas.engine.OnBoardLemmas.{cells_in_order, cells_lie_on, only_cells, shows_cells, spot_within}
use Rattle.plane_core.proofs.lemmas.engine.QuietLemmas.{quiet-changed}
use Rattle.plane_core.proofs.lemmas.plane.SearchLemmas.{has-list_all, list_all-has}
use Rattle.plane_core.proofs.lemmas.plane.SetLemmas.{has-append, has-filter, in_order-filter}

-- ---- a pattern without some of its cells

pub has-without : (S gone : List Cell) (c : Cell) → has (without S gone) c ≡ (has S c && not (has gone c))
has-without S gone c = has-filter (λ d. not (has gone d)) S c

pub without-has : (S gone : List Cell) (c : Cell) → has (without S gone) c ≡ true → has S c ≡ true
without-has S gone c e = (and_parts (has S c) (not (has gone c)) (sym (has-without S gone c) ∙ e)).0

-- a cell in which S and S without `gone` differ is in `gone`
pub gone-has : (S gone : List Cell) (c : Cell) → has (without S gone) c ≢ has S c → has gone c ≡ true
gone-has S gone c apart = go (has S c) (has gone c) refl (λ e. apart (has-without S gone c ∙ e))
  where
    go : (a b : Bool) → has gone c ≡ b → ((a && not b) ≢ a) → b ≡ true
    go a true e h = refl
    go true false e h = absurd (h refl)
    go false false e h = absurd (h refl)

-- S without `gone` and without c has cell d exactly if S has d, `gone` doesn't have d, and d isn't c
has-without_more : (S gone : List Cell) (c d : Cell) → has (without S (gone ++ c ∷ [])) d ≡ (has S d && not (has gone d || (same_cell d c || false)))
has-without_more S gone c d = has-without S (gone ++ c ∷ []) d ∙ ap (λ (b : Bool). has S d && not b) (has-append gone (c ∷ []) d)

without_more-same : (S gone : List Cell) (c d : Cell) → same_cell d c ≡ true → has (without S (gone ++ c ∷ [])) d ≡ false
without_more-same S gone c d same =
    has-without_more S gone c d ∙ ap (λ (b : Bool). has S d && not (has gone d || (b || false))) same ∙ none (has S d) (has gone d)
  where
    none : (a b : Bool) → (a && not (b || (true || false))) ≡ false
    none true true = refl
    none true false = refl
    none false b = refl

without_more-other : (S gone : List Cell) (c d : Cell) → same_cell d c ≡ false → has (without S (gone ++ c ∷ [])) d ≡ has (without S gone) d
without_more-other S gone c d other =
    has-without_more S gone c d ∙ ap (λ (b : Bool). has S d && not (has gone d || (b || false))) other ∙ kept (has S d) (has gone d)
    ∙ sym (has-without S gone d)
  where
    kept : (a b : Bool) → (a && not (b || (false || false))) ≡ (a && not b)
    kept a true = refl
    kept a false = refl

-- different cells fail the test for equality
apart_cells : (c d : Cell) → (d ≡ c → ⊥) → same_cell d c ≡ false
apart_cells c d apart = go (same_cell d c) refl
  where
    go : (b : Bool) → same_cell d c ≡ b → b ≡ false
    go true e = absurd (apart (same_cell-same d c e))
    go false e = refl

-- ---- on a board

pub shown_fewer : (at : Frame) (ws : List ℕ) (S gone : List Cell) (c : Cell) (s d i : ℕ) → s < at.word_columns → d < at.rows → i < 64
    → c ≡ board_cell at s d i → word_of at s d < length ws → Shows at ws (without S gone)
    → Shows at (set ws (word_of at s d) (bit_and (get_or ws (word_of at s d) 0) (bit_not w64 (1 * 2 ^ i % 2 ^ 64)))) (without S (gone ++ c ∷ []))
shown_fewer at ws S gone c s d i hs hd hi is low shown t y k ht hy hk = row (same_or_not (word_of at t y) m)
  where
    p : Cell
    p = board_cell at t y k

    m : ℕ
    m = word_of at s d

    new : ℕ
    new = bit_and (get_or ws m 0) (bit_not w64 (1 * 2 ^ i % 2 ^ 64))

    -- a cell other than the removed cell c: a bit that hasn't changed still says whether the cell is alive
    kept : (w : ℕ) → bit_at w k ≡ bit_at (slice_index ws (word_of at t y)) k → ((t ≡ s) × (y ≡ d) × (k ≡ i) → ⊥)
        → has (without S (gone ++ c ∷ [])) p ≡ (bit_at w k == 1)
    kept w same apart =
        without_more-other S gone c p (apart_cells c p (λ e. apart (one_spot at t y k s d i hk hi (e ∙ is)))) ∙ shown t y k ht hy hk
        ∙ ap (λ (n : ℕ). n == 1) (sym same)

    bit : word_of at t y ≡ m → (t ≡ s) × (y ≡ d) → (k ≡ i) ⊎ (k ≢ i) → has (without S (gone ++ c ∷ [])) p ≡ (bit_at new k == 1)
    bit here (a, b) (inl same) =
        let cell : p ≡ c = (λ j. board_cell at (a j) (b j) (same j)) ∙ sym is in
        let zero : bit_at new k ≡ 0 = ap (λ (n : ℕ). bit_at new n) same ∙ bit_at_clear_same w64 (get_or ws m 0) i hi in
        without_more-same S gone c p (ap (λ (e : Cell). same_cell p e) (sym cell) ∙ same_cell-itself p) ∙ ap (λ (n : ℕ). n == 1) (sym zero)
    bit here (a, b) (inr apart) =
        kept new (bit_at_clear_other w64 (get_or ws m 0) i hi k hk apart ∙ ap (λ (n : ℕ). bit_at (slice_index ws n) k) (sym here))
        (λ (u, v, w). apart w)

    row : (word_of at t y ≡ m) ⊎ (word_of at t y ≢ m)
        → has (without S (gone ++ c ∷ [])) p ≡ (bit_at (slice_index (set ws m new) (word_of at t y)) k == 1)
    row (inl here) =
        bit here (one_word at.rows t y s d here hy hd) (same_or_not k i)
        ∙ ap (λ (w : ℕ). bit_at w k == 1) (sym (ap (λ (n : ℕ). slice_index (set ws m new) n) here ∙ get_or-set_same ws m new 0 low))
    row (inr apart) =
        kept (slice_index (set ws m new) (word_of at t y)) (ap (λ (w : ℕ). bit_at w k) (get_or-set_other ws m (word_of at t y) new 0 apart))
        (λ (u, v, w). apart (λ j. word_of at (u j) (v j)))

pub taken_off : (at : Frame) (ws : List ℕ) (S gone : List Cell) (c : Cell) (a d m : ℕ) → length ws ≡ at.word_columns * at.rows → IsWithin (bounds_of at) c
    → pos a ≡ c.x -ℤ at.left → pos d ≡ c.y -ℤ at.top → m ≡ word_of at (a / 64) d → Shows at ws (without S gone)
    → Shows at (set ws m (bit_and (get_or ws m 0) (bit_not w64 (1 * 2 ^ (a % 64) % 2 ^ 64)))) (without S (gone ++ c ∷ []))
taken_off at ws S gone c a d m long within p q is shown =
    let hs : a / 64 < at.word_columns = (spot_inside at c a d within p q).0 in
    let hd : d < at.rows = (spot_inside at c a d within p q).1 in
    let low : word_of at (a / 64) d < length ws = omega (arith, word-inside at (a / 64) d hs hd) in
    subst (λ (n : ℕ). Shows at (set ws n (bit_and (get_or ws n 0) (bit_not w64 (1 * 2 ^ (a % 64) % 2 ^ 64)))) (without S (gone ++ c ∷ []))) (sym is)
    (shown_fewer at ws S gone c (a / 64) d (a % 64) hs hd (omega arith) (spot_of at c a d p q) low shown)

-- removing a cell that isn't on the board doesn't change what the board shows
pub shown_off : (at : Frame) (ws : List ℕ) (S gone : List Cell) (c : Cell) → ¬ IsWithin (bounds_of at) c → Shows at ws (without S gone)
    → Shows at ws (without S (gone ++ c ∷ []))
shown_off at ws S gone c off shown s r i hs hr hi =
    without_more-other S gone c (board_cell at s r i)
    (apart_cells c (board_cell at s r i) (λ e. off (subst (λ (d : Cell). IsWithin (bounds_of at) d) e (spot_within at s r i hs hr hi))))
    ∙ shown s r i hs hr hi

pub shown_all : (at : Frame) (ws : List ℕ) → Shows at ws (without (cells_on at ws) [])
shown_all at ws s r i hs hr hi =
    has-without (cells_on at ws) [] (board_cell at s r i) ∙ kept (has (cells_on at ws) (board_cell at s r i)) ∙ shows_cells at ws s r i hs hr hi
  where
    kept : (a : Bool) → (a && not false) ≡ a
    kept true = refl
    kept false = refl

-- if a board shows S without the first i cells of a list and without cell i, it shows S without the first i + 1 cells
pub fewer_taken : (at : Frame) (ws : List ℕ) (S cs : List Cell) (i : ℕ) (d : Cell) → i < length cs
    → Shows at ws (without S (take i cs ++ get_or cs i d ∷ [])) → Shows at ws (without S (take (i + 1) cs))
fewer_taken at ws S cs i d low shown = subst (λ (gone : List Cell). Shows at ws (without S gone)) (sym (take_more cs i d low)) shown

-- if each bit of the new board is 1 exactly when its cell is in the old board's pattern without `gone`, the new board's
-- pattern is the old board's pattern without `gone`
pub only_without : (at : Frame) (old new : List ℕ) (gone : List Cell) → Shows at new (without (cells_on at old) gone)
    → cells_on at new ≡ without (cells_on at old) gone
only_without at old new gone shown =
    only_cells at new (without (cells_on at old) gone) (in_order-filter (λ c. not (has gone c)) (cells_on at old) (cells_in_order at old))
    (λ c e. cells_lie_on at old c (without-has (cells_on at old) gone c e)) shown

-- ---- the boxes

lies_wider : (S : List Cell) (m n : ℕ) → m ≤ n → lies_within m S ≡ true → lies_within n S ≡ true
lies_wider S m n low e = has-list_all (is_within n) S (λ c h. wider c (list_all-has (is_within m) S e c h))
  where
    wider : (c : Cell) → is_within m c ≡ true → is_within n c ≡ true
    wider c h =
        let both = and_parts (leb (unsigned_abs c.x) m) (leb (unsigned_abs c.y) m) h in
        let x : unsigned_abs c.x ≤ m = leb-true (unsigned_abs c.x) m both.0 in
        let y : unsigned_abs c.y ≤ m = leb-true (unsigned_abs c.y) m both.1 in
        and_from (leb (unsigned_abs c.x) n) (leb (unsigned_abs c.y) n) (le-leb (unsigned_abs c.x) n (omega arith))
        (le-leb (unsigned_abs c.y) n (omega arith))

-- a pattern lies within `box_bound`
pub lies_in_bound : (S : List Cell) → IsPattern S → lies_within box_bound S ≡ true
unfolding on_plane
lies_in_bound S pattern = lies_wider S plane_bound box_bound (omega arith) pattern.on_plane

-- a board with spans is still one after its boxes are made wider
pub wider_board : (at : Frame) (rule : Numbers) (words : List ℕ) (boxes later : List Bounds) (holds_all : Bool) (spans : List RowSpan)
    → IsSpannedBoard at rule words boxes holds_all spans → All (AreSidesWithin box_bound) later → AreWider boxes later
    → IsSpannedBoard at rule words later holds_all spans
wider_board at rule words boxes later holds_all spans is sides wider = record {
  board = record {
    frame = is.board.frame;
    long = is.board.long;
    sides = sides;
    quiet = λ c far. is.board.quiet c (λ near. far (wider 2 c near));
    all = λ e c h. wider_has boxes later wider c (is.board.all e c h);
  };
  spanned = is.spanned;
  plane = is.plane;
}

-- a board with spans is still one after cells are removed and its boxes are made wider, if the wider boxes hold the
-- removed cells
pub fewer_board : (at : Frame) (rule : Numbers) (old new : List ℕ) (boxes later : List Bounds) (holds_all : Bool) (spans : List RowSpan)
    (gone : List Cell) → IsSpannedBoard at rule old boxes holds_all spans → length new ≡ length old
    → cells_on at new ≡ without (cells_on at old) gone → All (AreSidesWithin box_bound) later → AreWider boxes later → HoldAll later gone
    → IsSpannedBoard at rule new later holds_all spans
fewer_board at rule old new boxes later holds_all spans gone is long cells sides wider held =
    let before = wider_board at rule old boxes later holds_all spans is sides wider in record {
      board = record {
        frame = is.board.frame;
        long = long ∙ is.board.long;
        sides = sides;
        quiet = quiet-changed rule (cells_on at old) (cells_on at new) boxes later later (cells_in_order at old) (cells_in_order at new)
            is.board.quiet
            (λ c apart. held c (gone-has (cells_on at old) gone c (λ e. apart (ap (λ (S : List Cell). has S c) cells ∙ e))))
            (λ c near. wider 2 c near) (λ c near. near);
        all = λ e c h. before.board.all e c (stays c h);
      };
      spanned = record {
        word_columns = is.spanned.word_columns;
        live = λ s r i hs hr hi h. is.spanned.live s r i hs hr hi (stays (board_cell at s r i) h);
      };
      plane = is.plane;
    }
  where
    stays : (c : Cell) → has (cells_on at new) c ≡ true → has (cells_on at old) c ≡ true
    stays c h = without-has (cells_on at old) gone c (ap (λ (S : List Cell). has S c) (sym cells) ∙ h)
