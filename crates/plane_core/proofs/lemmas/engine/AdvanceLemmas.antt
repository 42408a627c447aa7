-- A board after a leap: what it shows, and what its boxes and spans hold.
use Rattle.std.proofs.Common.{◌≡◌, ◌≢◌, ◌==◌, ◌*◌, ◌/◌, ◌%◌, ◌≤◌, ℕ, ℤ, zero, suc, ◌≤ℤ◌, ◌<ℤ◌, Bool, true, List, [], ◌∷◌}
use Rattle.std.proofs.Common.{Fits, w32, arith, refl, ap, ◌∙◌, sym, subst, inl, inr, ◌⊎◌, length}
use Rattle.std.specs.List.{All}
use Rattle.std.proofs.lemmas.Bool.{eqb-true}
use Rattle.std.proofs.lemmas.Int.{ints, by_lt_z}
use Rattle.std.proofs.lemmas.List.Elements.{All-nil}
use Rattle.plane_core.specs.declared.plane.bounds.Bounds.{Bounds}
use Rattle.plane_core.specs.declared.plane.cell.Cell.{Cell}
use Rattle.plane_core.specs.declared.engine.frame.Frame.{Frame}
use Rattle.plane_core.specs.declared.engine.leap_window.LeapWindow.{LeapWindow}
use Rattle.plane_core.specs.declared.engine.row_spans.RowSpan.{RowSpan}
use Rattle.plane_core.specs.plane.Bounds.{IsWithin}
use Rattle.plane_core.specs.engine.ActiveBoxes.{AreCovered, HoldAll, HoldDifferences, IsNearOne, IsQuiet, box_bound}
use Rattle.plane_core.specs.plane.Cells.{InOrder, IsPattern, on_plane, plane_bound}
use Rattle.plane_core.specs.engine.Frames.{FillsFrame, IsFrame, LieOn, Shows, bounds_of}
use Rattle.plane_core.specs.plane.Generations.{after, lies_within}
use Rattle.plane_core.specs.engine.Boards.{IsBoard, IsSpannedBoard}
use Rattle.plane_core.specs.engine.OnBoard.{cells_on}
use Rattle.plane_core.specs.engine.LeapWindows.{IsCovered, IsInnerCell, IsOnBoard, compared_with}
use Rattle.plane_core.specs.plane.Bounds.{AreSidesWithin}
use Rattle.plane_core.specs.plane.Rules.{Numbers}
use Rattle.plane_core.specs.engine.RowSpans.{AreWidened, HoldCovered, LieInSpans}
use Rattle.plane_core.proofs.lemmas.plane.CaseLemmas.{same_or_not}
use Rattle.plane_core.proofs.lemmas.plane.GenerationLemmas.{after-none}
use Rattle.plane_core.proofs.lemmas.plane.BoxRoundLemmas.{fewer_sides}
use Rattle.plane_core.proofs.lemmas.engine.OnBoardLemmas.{cells_in_order, cells_lie_on, only_cells, shows_cells}
use Rattle.plane_core.proofs.lemmas.engine.QuietLemmas.{boxed-next, quiet-next, quiet-start, still_outside-held, still_outside-quiet}
use Rattle.plane_core.proofs.lemmas.plane.RunLemmas.{after-plus, in_order-after}
use Rattle.plane_core.proofs.lemmas.plane.SetLemmas.{same_lists}
use Rattle.plane_core.proofs.lemmas.engine.RowSpanLemmas.{spans_after}
use Rattle.plane_core.proofs.lemmas.Between.{AreRightFor, HasGoneOn, HasLeapt, IsReady, IsStillOutside}

-- ---- the cells stay on the board

-- a cell that isn't outside a box is in it
within_unless : (b : Bounds) (c : Cell) → ¬ (¬ IsWithin b c) → IsWithin b c
within_unless b c h = record {
  left = by_lt_z {P = b.left ≤ℤ c.x} c.x b.left (λ out. absurd (h (λ w. off b.left c.x out w.left))) (λ le. le);
  top = by_lt_z {P = b.top ≤ℤ c.y} c.y b.top (λ out. absurd (h (λ w. off b.top c.y out w.top))) (λ le. le);
  right = by_lt_z {P = c.x ≤ℤ b.right} b.right c.x (λ out. absurd (h (λ w. off c.x b.right out w.right))) (λ le. le);
  bottom = by_lt_z {P = c.y ≤ℤ b.bottom} b.bottom c.y (λ out. absurd (h (λ w. off c.y b.bottom out w.bottom))) (λ le. le);
}
  where
    off : (x y : ℤ) → y <ℤ x → x ≤ℤ y → ⊥
    off x y low high = omega (arith, ints)

-- the inner part of a window on the board is on the board
inner_on : (at : Frame) (p : LeapWindow) (c : Cell) → IsOnBoard at p → IsInnerCell p c → IsWithin (bounds_of at) c
inner_on at p c on inner =
    let l = on.left in
    let t = on.top in
    let word_columns = on.word_columns in
    let rows = on.rows in
    record {
      left = let h = inner.left in omega (arith, ints);
      top = let h = inner.top in omega (arith, ints);
      right = let h = inner.right in omega (arith, ints);
      bottom = let h = inner.bottom in omega (arith, ints);
    }

-- each cell that is alive after a leap is on the board: it is in an inner part, or was alive before
stays_on : (rule : Numbers) (at : Frame) (places : List LeapWindow) (S : List Cell) (n : ℕ) → ((c : Cell) → IsCovered places c → IsWithin (bounds_of at) c)
    → IsStillOutside rule places S n → LieOn at S → LieOn at (after rule S n)
stays_on rule at places S n inside still on c e =
    within_unless (bounds_of at) c (λ out. out (on c (sym (still c (λ covered. out (inside c covered))) ∙ e)))

-- each cell that is covered by windows on the board is on the board
pub covered_on : (at : Frame) (places : List LeapWindow) → All (IsOnBoard at) places → (c : Cell) → IsCovered places c → IsWithin (bounds_of at) c
covered_on at places on c (k, p, low, same, inner) = inner_on at p c (subst (λ (q : LeapWindow). IsOnBoard at q) same (on k p low)) inner

-- ---- a leap

odd_or_even : (n : ℕ) → (n % 2 ≡ 0) ⊎ (n % 2 ≡ 1)
odd_or_even n = go (same_or_not (n % 2) 0)
  where
    go : (n % 2 ≡ 0) ⊎ (n % 2 ≢ 0) → (n % 2 ≡ 0) ⊎ (n % 2 ≡ 1)
    go (inl even) = inl even
    go (inr odd) = inr (omega arith)

-- if the boxes are right for a leap and the windows cover them, the leap changes no cell outside the inner parts of the
-- windows
pub still_for_leap : (rule : Numbers) (S : List Cell) (boxes : List Bounds) (places : List LeapWindow) (n : ℕ) → InOrder S → AreRightFor rule S boxes n
    → AreCovered places boxes → 1 ≤ n → n ≤ 4 → IsStillOutside rule places S n
still_for_leap rule S boxes places n o right covered low high = elim (odd_or_even n) [
  | inl even ↦ still_outside-quiet rule S boxes places n o (right.even even) covered low high even
  | inr odd ↦ still_outside-held rule S boxes places n (right.odd odd) covered high
]

-- a board has advanced if its windows were put back, its new boxes hold the differences, and its new spans hold the
-- inner parts of the windows
pub has_gone_on : (rule : Numbers) (at : Frame) (n : ℕ) (old new : List ℕ) (boxes later : List Bounds) (before wide : List RowSpan) (places : List LeapWindow)
    → IsReady rule at n old boxes before → AreCovered places boxes → 1 ≤ n → n ≤ 4 → All (IsOnBoard at) places → AreWidened before wide
    → HoldCovered at wide places → HasLeapt at rule n places old new → All (AreSidesWithin box_bound) later
    → HoldDifferences places (after rule (cells_on at old) n) (compared_with rule (cells_on at old) n) later
    → HasGoneOn rule at n old new later wide
has_gone_on rule at n old new boxes later before wide places ready covered low high inside widened held leapt sides differ = record {
  cells = is;
  sides = sides;
  right = subst (λ (T : List Cell). AreRightFor rule T later n) (sym is) record {
    even = λ even. quiet-next rule S boxes later places n o (ready.right.even even) covered low high even differ;
    odd = λ odd. boxed-next rule S boxes later places n (ready.right.odd odd) covered high odd differ;
  };
  live = subst (λ (T : List Cell). LieInSpans at wide T) (sym is) (spans_after rule at places S n before wide ready.spanned.live widened held still);
}
  where
    S : List Cell
    S = cells_on at old

    o : InOrder S
    o = cells_in_order at old

    still : IsStillOutside rule places S n
    still = still_for_leap rule S boxes places n o ready.right covered low high

    is : cells_on at new ≡ after rule S n
    is =
        only_cells at new (after rule S n) (in_order-after rule S n o)
        (stays_on rule at places S n (covered_on at places inside) still (cells_lie_on at old)) (leapt S o (shows_cells at old) still)

-- ---- without boxes

-- if there are no boxes, two generations change nothing
quiet_everywhere : (rule : Numbers) (S : List Cell) → InOrder S → IsQuiet rule S [] → after rule S 2 ≡ S
quiet_everywhere rule S o quiet = same_lists (after rule S 2) S (in_order-after rule S 2 o) o (λ c. quiet c (none c))
  where
    none : (c : Cell) → ¬ IsNearOne 2 [] c
    none c some = absurd (omega (arith, some))

-- if there are no boxes, an even number of generations changes nothing
pub still_forever : (rule : Numbers) (S : List Cell) (n : ℕ) → InOrder S → IsQuiet rule S [] → n % 2 ≡ 0 → after rule S n ≡ S
still_forever rule S n o quiet even = ap (λ (m : ℕ). after rule S m) twice ∙ go (n / 2)
  where
    twice : n ≡ 2 * (n / 2)
    twice = omega arith

    go : (k : ℕ) → after rule S (2 * k) ≡ S
    go zero = after-none rule S
    go (suc k) =
        ap (λ (m : ℕ). after rule S m) (omega arith) ∙ sym (after-plus rule S (2 * k) 2) ∙ ap (λ (T : List Cell). after rule T 2) (go k)
        ∙ quiet_everywhere rule S o quiet

pub no_boxes : (boxes : List Bounds) → length boxes ≡ 0 → boxes ≡ []
no_boxes [] e = refl
no_boxes (b ∷ bs) e = absurd (omega (arith, e))

-- ---- the board's words and boxes

pub laid_board : (at : Frame) (rule : Numbers) (words : List ℕ) (boxes : List Bounds) → IsFrame at
    → FillsFrame at words → All (AreSidesWithin box_bound) boxes → HoldAll boxes (cells_on at words) → IsBoard at rule words boxes true
laid_board at rule words boxes frame long sides all = record {
  frame = frame;
  long = long;
  sides = sides;
  quiet = quiet-start rule (cells_on at words) boxes all;
  all = λ e. all;
}

-- a board is ready for a leap of n generations, if n is even or the boxes hold all live cells
pub is_ready : (rule : Numbers) (at : Frame) (n : ℕ) (words : List ℕ) (boxes : List Bounds) (holds_all : Bool) (spans : List RowSpan)
    → IsSpannedBoard at rule words boxes holds_all spans → (n % 2 ≡ 1 → holds_all ≡ true) → IsReady rule at n words boxes spans
is_ready rule at n words boxes holds_all spans spanned enough = record {
  frame = spanned.board.frame;
  long = spanned.board.long;
  sides = spanned.board.sides;
  right = record { even = λ even. spanned.board.quiet; odd = λ odd. spanned.board.all (enough odd) };
  spanned = spanned.spanned;
}

-- after a leap, a board with spans is again a board with spans
pub leapt_board : (rule : Numbers) (at : Frame) (n : ℕ) (old new : List ℕ) (boxes later : List Bounds) (holds_all : Bool)
    (before spans : List RowSpan) → IsSpannedBoard at rule old boxes holds_all before → length new ≡ length old
    → length spans ≡ length before → HasGoneOn rule at n old new later spans → IsSpannedBoard at rule new later (n % 2 == 1) spans
leapt_board rule at n old new boxes later holds_all before spans was long wide leapt = record {
  board = record {
    frame = was.board.frame;
    long = long ∙ was.board.long;
    sides = leapt.sides;
    quiet = elim (odd_or_even n) [
      | inl even ↦ leapt.right.even even
      | inr odd ↦ quiet-start rule (cells_on at new) later (leapt.right.odd odd)
    ];
    all = λ e. leapt.right.odd (eqb-true (n % 2) 1 e);
  };
  spanned = record { word_columns = wide ∙ was.spanned.word_columns; live = leapt.live };
  plane = was.plane;
}

-- the boxes around a pattern have their sides within `box_bound`
pub box_sides : (S cells : List Cell) (boxes : List Bounds) → cells ≡ S → IsPattern S
    → ((n : ℕ) → lies_within n cells ≡ true → All (AreSidesWithin n) boxes) → All (AreSidesWithin box_bound) boxes
unfolding on_plane
box_sides S cells boxes is pattern sides k b low =
    fewer_sides plane_bound box_bound _ (omega arith) (sides plane_bound (ap (λ (T : List Cell). lies_within plane_bound T) is ∙ pattern.on_plane) k b low)

-- an empty list of boxes has all sides within any bound
pub no_sides : (n : ℕ) (boxes : List Bounds) → boxes ≡ [] → All (AreSidesWithin n) boxes
no_sides n boxes is = subst (λ (bs : List Bounds). All (AreSidesWithin n) bs) (sym is) (All-nil (AreSidesWithin n))

-- a board on which a pattern was laid is a board with spans, and it shows that pattern
pub laid_spanned : (rule : Numbers) (at : Frame) (words : List ℕ) (boxes : List Bounds) (spans : List RowSpan) (S cells : List Cell)
    → cells ≡ S → IsPattern S → IsFrame at → AreSidesWithin plane_bound (bounds_of at) → FillsFrame at words
    → length spans ≡ at.word_columns → LieOn at S → Shows at words cells → LieInSpans at spans cells → HoldAll boxes cells
    → ((n : ℕ) → lies_within n cells ≡ true → All (AreSidesWithin n) boxes)
    → IsSpannedBoard at rule words boxes true spans × (cells_on at words ≡ S)
laid_spanned rule at words boxes spans S cells same pattern frame plane long wide on shown live held sides = (
  record {
    board = laid_board at rule words boxes frame long (box_sides S cells boxes same pattern sides)
        (subst (λ (T : List Cell). HoldAll boxes T) (same ∙ sym shows) held);
    spanned = record { word_columns = wide; live = subst (λ (T : List Cell). LieInSpans at spans T) (same ∙ sym shows) live };
    plane = plane;
  },
  shows,
)
  where
    shows : cells_on at words ≡ S
    shows = only_cells at words S pattern.in_order on (subst (λ (T : List Cell). Shows at words T) same shown)

-- ---- counts of generations

pub fits_below : (n most : ℕ) → n ≤ most → Fits w32 most → Fits w32 n
fits_below n most low fits = let h = fits.fits in record { fits = omega arith }
