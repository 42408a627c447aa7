-- The image of a pattern, computed from the pattern's box: the coordinates of a cell's image are the cell's distances
-- from two sides of the box.
use Rattle.std.proofs.Common.{◌≡◌, ◌∙◌, sym, ap, refl, subst, ℕ, ℤ, pos, neg_ℤ, ◌+ℤ◌, ◌≤ℤ◌, ◌+◌, ◌<◌, Bool, true, false, ◌&&◌, List, [], ◌∷◌, ◌++◌, length}
use Rattle.std.proofs.Common.{◌*◌, ◌^◌, ◌%◌, Option, None, Some, bit_or, map, arith, cond, flat_map, get_or, ltb-true, set, take}
use Rattle.std.proofs.lemmas.Bool.{and_parts}
use Rattle.std.proofs.lemmas.Int.{ints, clamps}
use Rattle.std.proofs.lemmas.List.{take_more}
use Rattle.std.specs.Int.{int_min, int_max}
use Rattle.std.specs.Prelude.{nat_lt}
use Rattle.std.specs.List.{AllByRecursion}
use Rattle.plane_core.specs.declared.plane.bounds.Bounds.{Bounds}
use Rattle.plane_core.specs.declared.plane.cell.Cell.{Cell}
use Rattle.plane_core.specs.declared.plane.orientation.Orientation.{Orientation}
use Rattle.plane_core.specs.declared.plane.orientation.Orientation.TheVariants.{Same, Quarter, Half, ThreeQuarter, Mirror, Flip, Diagonal, AntiDiagonal}
use Rattle.plane_core.specs.plane.Bounds.{IsWithin, at_corner, box_of, cornered, grown, shifted}
use Rattle.plane_core.specs.plane.Cells.{InOrder, cell_at, distance, has, moved_by}
use Rattle.plane_core.specs.plane.Orientations.{corner_transform, image, landed, turned, turned_cell}
use Rattle.plane_core.specs.windows.Rows.{ShowsInAllRows}
use Rattle.plane_core.proofs.lemmas.Between.{IsSpot, ShowsRows}
use Rattle.plane_core.proofs.lemmas.engine.WindowRoundLemmas.{default_cell, has-at, in_rows, put_shown, window_at}
use Rattle.plane_core.proofs.lemmas.plaintext.PlaintextBox.{within-box_of}
use Rattle.plane_core.proofs.lemmas.plane.SetLemmas.{has-all, has-set_of}
use Rattle.plane_core.proofs.lemmas.plane.TurnLemmas.{box_of-set_of, landed-turned}
use Rattle.code_core.specs.Columns.{IsBoxed}
use Rattle.code_core.specs.Images.{image_box, image_cell}
use Rattle.code_core.specs.Texts.{boxed_text, fits_forty_square, text, tokens_of}
use Rattle.code_core.specs.Tokens.{spelling}
use Rattle.code_core.proofs.ImageLemmas.{and_swap, at_corner-again, box_at_corner, image-same}

-- ---- the box of an image

-- the box of a pattern's turned cells, if the pattern has this box
abbrev turned_box : Orientation → Bounds → Bounds
turned_box Same b = b
turned_box Quarter b = record { left = neg_ℤ b.bottom; top = b.left; right = neg_ℤ b.top; bottom = b.right }
turned_box Half b = record { left = neg_ℤ b.right; top = neg_ℤ b.bottom; right = neg_ℤ b.left; bottom = neg_ℤ b.top }
turned_box ThreeQuarter b = record { left = b.top; top = neg_ℤ b.right; right = b.bottom; bottom = neg_ℤ b.left }
turned_box Mirror b = record { left = neg_ℤ b.right; top = b.top; right = neg_ℤ b.left; bottom = b.bottom }
turned_box Flip b = record { left = b.left; top = neg_ℤ b.bottom; right = b.right; bottom = neg_ℤ b.top }
turned_box Diagonal b = record { left = b.top; top = b.left; right = b.bottom; bottom = b.right }
turned_box AntiDiagonal b = record { left = neg_ℤ b.bottom; top = neg_ℤ b.right; right = neg_ℤ b.top; bottom = neg_ℤ b.left }

abbrev turned_box_of : Orientation → Option Bounds → Option Bounds
turned_box_of o None = None
turned_box_of o (Some b) = Some (turned_box o b)

least_negated : (a b : ℤ) → int_min (neg_ℤ a) (neg_ℤ b) ≡ neg_ℤ (int_max a b)
least_negated a b = omega (arith, ints, clamps)

most_negated : (a b : ℤ) → int_max (neg_ℤ a) (neg_ℤ b) ≡ neg_ℤ (int_min a b)
most_negated a b = omega (arith, ints, clamps)

alone-turned : (o : Orientation) (c : Cell) → grown (turned_cell o c) None ≡ turned_box o (grown c None)
alone-turned Same c = refl
alone-turned Quarter c = refl
alone-turned Half c = refl
alone-turned ThreeQuarter c = refl
alone-turned Mirror c = refl
alone-turned Flip c = refl
alone-turned Diagonal c = refl
alone-turned AntiDiagonal c = refl

widened-turned : (o : Orientation) (c : Cell) (b : Bounds) → grown (turned_cell o c) (Some (turned_box o b)) ≡ turned_box o (grown c (Some b))
widened-turned Same c b = refl
widened-turned Quarter c b = λ i. record {
  left = least_negated c.y b.bottom i;
  top = int_min c.x b.left;
  right = most_negated c.y b.top i;
  bottom = int_max c.x b.right;
}
widened-turned Half c b = λ i. record {
  left = least_negated c.x b.right i;
  top = least_negated c.y b.bottom i;
  right = most_negated c.x b.left i;
  bottom = most_negated c.y b.top i;
}
widened-turned ThreeQuarter c b = λ i. record {
  left = int_min c.y b.top;
  top = least_negated c.x b.right i;
  right = int_max c.y b.bottom;
  bottom = most_negated c.x b.left i;
}
widened-turned Mirror c b = λ i. record {
  left = least_negated c.x b.right i;
  top = int_min c.y b.top;
  right = most_negated c.x b.left i;
  bottom = int_max c.y b.bottom;
}
widened-turned Flip c b = λ i. record {
  left = int_min c.x b.left;
  top = least_negated c.y b.bottom i;
  right = int_max c.x b.right;
  bottom = most_negated c.y b.top i;
}
widened-turned Diagonal c b = refl
widened-turned AntiDiagonal c b = λ i. record {
  left = least_negated c.y b.bottom i;
  top = least_negated c.x b.right i;
  right = most_negated c.y b.top i;
  bottom = most_negated c.x b.left i;
}

box_of-turned : (o : Orientation) (cs : List Cell) → box_of (map (turned_cell o) cs) ≡ turned_box_of o (box_of cs)
box_of-turned o [] = refl
box_of-turned o (c ∷ cs) = ap (λ (b : Option Bounds). Some (grown (turned_cell o c) b)) (box_of-turned o cs) ∙ ap Some (grows (box_of cs))
  where
    grows : (b : Option Bounds) → grown (turned_cell o c) (turned_box_of o b) ≡ turned_box o (grown c b)
    grows None = alone-turned o c
    grows (Some b) = widened-turned o c b

box_of-turned_as : (o : Orientation) (cs : List Cell) (b : Bounds) → box_of cs ≡ Some b → box_of (map (turned_cell o) cs) ≡ Some (turned_box o b)
box_of-turned_as o cs b is = box_of-turned o cs ∙ ap (turned_box_of o) is

-- ---- the box of an image at the corner

abbrev moved_box : ℤ → ℤ → Bounds → Bounds
moved_box dx dy b = record { left = b.left +ℤ dx; top = b.top +ℤ dy; right = b.right +ℤ dx; bottom = b.bottom +ℤ dy }

abbrev moved_box_of : ℤ → ℤ → Option Bounds → Option Bounds
moved_box_of dx dy None = None
moved_box_of dx dy (Some b) = Some (moved_box dx dy b)

least_moved : (a b v : ℤ) → int_min (a +ℤ v) (b +ℤ v) ≡ int_min a b +ℤ v
least_moved a b v = omega (arith, ints, clamps)

most_moved : (a b v : ℤ) → int_max (a +ℤ v) (b +ℤ v) ≡ int_max a b +ℤ v
most_moved a b v = omega (arith, ints, clamps)

box_of-moved : (dx dy : ℤ) (cs : List Cell) → box_of (shifted dx dy cs) ≡ moved_box_of dx dy (box_of cs)
box_of-moved dx dy [] = refl
box_of-moved dx dy (c ∷ cs) =
    ap (λ (b : Option Bounds). Some (grown (moved_by dx dy c) b)) (box_of-moved dx dy cs) ∙ ap Some (grows (box_of cs))
  where
    grows : (b : Option Bounds) → grown (moved_by dx dy c) (moved_box_of dx dy b) ≡ moved_box dx dy (grown c b)
    grows None = refl
    grows (Some b) = λ i. record {
      left = least_moved c.x b.left dx i;
      top = least_moved c.y b.top dy i;
      right = most_moved c.x b.right dx i;
      bottom = most_moved c.y b.bottom dy i;
    }

-- a side minus itself is 0, and the difference of two sides is their distance, also after both were negated
to_itself : (a : ℤ) → a +ℤ neg_ℤ a ≡ pos 0
to_itself a = omega (arith, ints)

onward : (a b : ℤ) → a ≤ℤ b → b +ℤ neg_ℤ a ≡ pos (distance a b)
onward a b less = omega (arith, ints)

backward : (a b : ℤ) → a ≤ℤ b → neg_ℤ a +ℤ neg_ℤ (neg_ℤ b) ≡ pos (distance a b)
backward a b less = omega (arith, ints)

corner-turned : (o : Orientation) (b : Bounds) → b.left ≤ℤ b.right → b.top ≤ℤ b.bottom
    → moved_box (neg_ℤ (turned_box o b).left) (neg_ℤ (turned_box o b).top) (turned_box o b) ≡ image_box o b
corner-turned Same b wide high = λ i. record {
  left = to_itself b.left i;
  top = to_itself b.top i;
  right = onward b.left b.right wide i;
  bottom = onward b.top b.bottom high i;
}
corner-turned Quarter b wide high = λ i. record {
  left = to_itself (neg_ℤ b.bottom) i;
  top = to_itself b.left i;
  right = backward b.top b.bottom high i;
  bottom = onward b.left b.right wide i;
}
corner-turned Half b wide high = λ i. record {
  left = to_itself (neg_ℤ b.right) i;
  top = to_itself (neg_ℤ b.bottom) i;
  right = backward b.left b.right wide i;
  bottom = backward b.top b.bottom high i;
}
corner-turned ThreeQuarter b wide high = λ i. record {
  left = to_itself b.top i;
  top = to_itself (neg_ℤ b.right) i;
  right = onward b.top b.bottom high i;
  bottom = backward b.left b.right wide i;
}
corner-turned Mirror b wide high = λ i. record {
  left = to_itself (neg_ℤ b.right) i;
  top = to_itself b.top i;
  right = backward b.left b.right wide i;
  bottom = onward b.top b.bottom high i;
}
corner-turned Flip b wide high = λ i. record {
  left = to_itself b.left i;
  top = to_itself (neg_ℤ b.bottom) i;
  right = onward b.left b.right wide i;
  bottom = backward b.top b.bottom high i;
}
corner-turned Diagonal b wide high = λ i. record {
  left = to_itself b.top i;
  top = to_itself b.left i;
  right = onward b.top b.bottom high i;
  bottom = onward b.left b.right wide i;
}
corner-turned AntiDiagonal b wide high = λ i. record {
  left = to_itself (neg_ℤ b.bottom) i;
  top = to_itself (neg_ℤ b.right) i;
  right = backward b.top b.bottom high i;
  bottom = backward b.left b.right wide i;
}

-- the left side of a box is at most the right side, and the top is at most the bottom
sides : (cs : List Cell) (b : Bounds) → box_of cs ≡ Some b → (b.left ≤ℤ b.right) × (b.top ≤ℤ b.bottom)
sides [] b is = absurd cc
sides (c ∷ cs) b is = between (within-box_of (c ∷ cs) b is).0
  where
    between : IsWithin b c → (b.left ≤ℤ b.right) × (b.top ≤ℤ b.bottom)
    between w = (omega (arith, ints, w.left, w.right), omega (arith, ints, w.top, w.bottom))

-- the image at the corner has the box `image_box`
pub box_of-image : (o : Orientation) (cs : List Cell) (b : Bounds) → box_of cs ≡ Some b → box_of (turned o cs) ≡ Some (image_box o b)
unfolding turned image
box_of-image o cs b is =
    let tb = turned_box o b in
    let here : box_of (image o cs) ≡ Some tb = box_of-set_of (map (turned_cell o) cs) ∙ box_of-turned_as o cs b is in
    let s = sides cs b is in
    ap (λ (box : Option Bounds). box_of (cornered box (image o cs))) here
    ∙ box_of-moved (neg_ℤ tb.left) (neg_ℤ tb.top) (image o cs)
    ∙ ap (moved_box_of (neg_ℤ tb.left) (neg_ℤ tb.top)) here
    ∙ ap Some (corner-turned o b s.0 s.1)

-- ---- the cells of an image

lands : (o : Orientation) (b : Bounds) (c : Cell) → IsWithin b c → landed (corner_transform o (Some (turned_box o b))) c ≡ image_cell o b c
lands Same b c w = λ i. cell_at (onward b.left c.x w.left i) (onward b.top c.y w.top i)
lands Quarter b c w = λ i. cell_at (backward c.y b.bottom w.bottom i) (onward b.left c.x w.left i)
lands Half b c w = λ i. cell_at (backward c.x b.right w.right i) (backward c.y b.bottom w.bottom i)
lands ThreeQuarter b c w = λ i. cell_at (onward b.top c.y w.top i) (backward c.x b.right w.right i)
lands Mirror b c w = λ i. cell_at (backward c.x b.right w.right i) (onward b.top c.y w.top i)
lands Flip b c w = λ i. cell_at (onward b.left c.x w.left i) (backward c.y b.bottom w.bottom i)
lands Diagonal b c w = λ i. cell_at (onward b.top c.y w.top i) (onward b.left c.x w.left i)
lands AntiDiagonal b c w = λ i. cell_at (backward c.y b.bottom w.bottom i) (backward c.x b.right w.right i)

all_land : (o : Orientation) (b : Bounds) (cs : List Cell) → AllByRecursion (IsWithin b) cs
    → map (landed (corner_transform o (Some (turned_box o b)))) cs ≡ map (image_cell o b) cs
all_land o b [] within = refl
all_land o b (c ∷ cs) within = λ i. lands o b c within.0 i ∷ all_land o b cs within.1 i

-- the image has the cells that `image_cell` computes from the pattern's cells and box
pub has-image : (o : Orientation) (cs : List Cell) (b : Bounds) → box_of cs ≡ Some b → (c : Cell)
    → has (turned o cs) c ≡ has (map (image_cell o b) cs) c
has-image o cs b is c =
    ap (λ (ds : List Cell). has ds c) (sym (landed-turned o cs (turned_box o b) (box_of-turned_as o cs b is)))
    ∙ has-set_of (map (landed (corner_transform o (Some (turned_box o b)))) cs) c
    ∙ ap (λ (ds : List Cell). has ds c) (all_land o b cs (within-box_of cs b is))

-- a cell of a pattern lies in its box
pub within_at : (cs : List Cell) (b : Bounds) (k : ℕ) → box_of cs ≡ Some b → k < length cs → IsWithin b (get_or cs k default_cell)
within_at cs b k is low = has-all (IsWithin b) cs (get_or cs k default_cell) (within-box_of cs b is) (has-at cs k default_cell low)

-- ---- the rows of an image

near_left : (a b c : ℤ) → a ≤ℤ c → c ≤ℤ b → distance a b < 40 → distance a c < 40
near_left a b c low high small = omega (arith, ints)

near_right : (a b c : ℤ) → a ≤ℤ c → c ≤ℤ b → distance a b < 40 → distance c b < 40
near_right a b c low high small = omega (arith, ints)

same_number : (m n : ℕ) → pos m ≡ pos n → n < 40 → m < 64
same_number m n same low = omega (arith, ints)

-- if a pattern has at most 40 columns and 40 rows, the image of each cell is in the first 64 columns and 64 rows
pub place_low : (o : Orientation) (b : Bounds) (c : Cell) (column row : ℕ) → IsWithin b c → distance b.left b.right < 40 → distance b.top b.bottom < 40
    → cell_at (pos column) (pos row) ≡ image_cell o b c → (column < 64) × (row < 64)
place_low o b c column row w wide high is = go o is
  where
    left : distance b.left c.x < 40
    left = near_left b.left b.right c.x w.left w.right wide

    right : distance c.x b.right < 40
    right = near_right b.left b.right c.x w.left w.right wide

    top : distance b.top c.y < 40
    top = near_left b.top b.bottom c.y w.top w.bottom high

    bottom : distance c.y b.bottom < 40
    bottom = near_right b.top b.bottom c.y w.top w.bottom high

    both : (m n : ℕ) → cell_at (pos column) (pos row) ≡ cell_at (pos m) (pos n) → m < 40 → n < 40 → (column < 64) × (row < 64)
    both m n same p q =
        (same_number column m (ap (λ (d : Cell). d.x) same) p, same_number row n (ap (λ (d : Cell). d.y) same) q)

    go : (o : Orientation) → cell_at (pos column) (pos row) ≡ image_cell o b c → (column < 64) × (row < 64)
    go Same same = both _ _ same left top
    go Quarter same = both _ _ same bottom left
    go Half same = both _ _ same right bottom
    go ThreeQuarter same = both _ _ same top right
    go Mirror same = both _ _ same right top
    go Flip same = both _ _ same left bottom
    go Diagonal same = both _ _ same top left
    go AntiDiagonal same = both _ _ same bottom right

-- if the rows show the images of the first k cells, and the bit of the next cell's image is set, they show the images
-- of the first k + 1 cells
pub image_put : (o : Orientation) (b : Bounds) (rows : List ℕ) (cs : List Cell) (k column row : ℕ) → length rows ≡ 64 → k < length cs
    → (column < 64) × (row < 64) → cell_at (pos column) (pos row) ≡ image_cell o b (get_or cs k default_cell)
    → ShowsRows (window_at (pos 0) (pos 0)) rows (map (image_cell o b) (take k cs))
    → ShowsRows (window_at (pos 0) (pos 0)) (set rows row (bit_or (get_or rows row 0) (1 * 2 ^ column % 2 ^ 64))) (map (image_cell o b) (take (k + 1) cs))
image_put o b rows cs k column row long low small is shown = subst (ShowsRows (window_at (pos 0) (pos 0)) new) taken put
  where
    new : List ℕ
    new = set rows row (bit_or (get_or rows row 0) (1 * 2 ^ column % 2 ^ 64))

    spot : IsSpot (window_at (pos 0) (pos 0)) (cell_at (pos column) (pos row)) column row
    spot = record { across_is = omega (arith, ints); down_is = omega (arith, ints) }

    put : ShowsRows (window_at (pos 0) (pos 0)) new (map (image_cell o b) (take k cs) ++ image_cell o b (get_or cs k default_cell) ∷ [])
    put =
        subst (λ (c : Cell). ShowsRows (window_at (pos 0) (pos 0)) new (map (image_cell o b) (take k cs) ++ c ∷ [])) is
        (put_shown (window_at (pos 0) (pos 0)) rows (map (image_cell o b) (take k cs)) (cell_at (pos column) (pos row)) column row spot small.0 (in_rows row (length rows) long small.1) shown)

    map_append : (ds es : List Cell) → map (image_cell o b) (ds ++ es) ≡ map (image_cell o b) ds ++ map (image_cell o b) es
    map_append [] es = refl
    map_append (d ∷ ds) es = ap (λ (more : List Cell). image_cell o b d ∷ more) (map_append ds es)

    taken : map (image_cell o b) (take k cs) ++ image_cell o b (get_or cs k default_cell) ∷ [] ≡ map (image_cell o b) (take (k + 1) cs)
    taken =
        sym (map_append (take k cs) (get_or cs k default_cell ∷ [])) ∙ ap (map (image_cell o b)) (sym (take_more cs k default_cell low))

-- once the images of all cells are put into the rows, the rows show the image
pub image_shown : (o : Orientation) (b : Bounds) (rows : List ℕ) (cs : List Cell) (k : ℕ) → box_of cs ≡ Some b → take k cs ≡ cs
    → ShowsRows (window_at (pos 0) (pos 0)) rows (map (image_cell o b) (take k cs)) → ShowsInAllRows (pos 0) (pos 0) rows (turned o cs)
image_shown o b rows cs k is all shown r i low near =
    has-image o cs b is (cell_at (pos 0 +ℤ pos i) (pos 0 +ℤ pos r))
    ∙ subst (λ (ds : List Cell). ShowsRows (window_at (pos 0) (pos 0)) rows (map (image_cell o b) ds)) all shown r i low near

-- ---- the text of an image

from_zero : (n : ℕ) → distance (pos 0) (pos n) ≡ n
from_zero n = omega (arith, ints)

-- a box at the corner fits into 40 by 40 cells if and only if the box with columns and rows exchanged does
fits_to : (m n : ℕ) → fits_forty_square (record { left = pos 0; top = pos 0; right = pos m; bottom = pos n })
    ≡ fits_forty_square (record { left = pos 0; top = pos 0; right = pos n; bottom = pos m })
fits_to m n = and_swap (nat_lt (distance (pos 0) (pos m)) 40) (nat_lt (distance (pos 0) (pos n)) 40)

fits_same : (b : Bounds) → fits_forty_square (image_box Same b) ≡ fits_forty_square b
fits_same b = ap2 (from_zero (distance b.left b.right)) (from_zero (distance b.top b.bottom))
  where
    ap2 : {m n p q : ℕ} → m ≡ p → n ≡ q → (nat_lt m 40 && nat_lt n 40) ≡ (nat_lt p 40 && nat_lt q 40)
    ap2 s t = λ i. nat_lt (s i) 40 && nat_lt (t i) 40

-- an image fits into 40 by 40 cells if and only if the pattern does
pub fits-image : (o : Orientation) (b : Bounds) → fits_forty_square (image_box o b) ≡ fits_forty_square b
fits-image Same b = fits_same b
fits-image Quarter b = fits_to (distance b.top b.bottom) (distance b.left b.right) ∙ fits_same b
fits-image Half b = fits_same b
fits-image ThreeQuarter b = fits_to (distance b.top b.bottom) (distance b.left b.right) ∙ fits_same b
fits-image Mirror b = fits_same b
fits-image Flip b = fits_same b
fits-image Diagonal b = fits_to (distance b.top b.bottom) (distance b.left b.right) ∙ fits_same b
fits-image AntiDiagonal b = fits_to (distance b.top b.bottom) (distance b.left b.right) ∙ fits_same b

-- the text that the tokens of a pattern at the corner spell, if the pattern's box has the size of the given box
abbrev pub spelled_in : List Cell → Bounds → List ℕ
spelled_in cells b = flat_map spelling (tokens_of cells (distance b.left b.right) (distance b.top b.bottom))

text_by_box : (cells : List Cell) (b : Bounds) (fits : Bool) → box_of cells ≡ Some b → fits_forty_square b ≡ fits
    → text cells ≡ cond fits (Some (spelled_in (at_corner cells) b)) None
unfolding text
text_by_box cells b fits box small =
    ap (boxed_text cells) box ∙ ap (λ (yes : Bool). cond yes (Some (spelled_in (at_corner cells) b)) None) small

-- if a pattern fits into 40 by 40 cells, so does its image
pub image_is_small : (o : Orientation) (b ib : Bounds) → ib ≡ image_box o b → fits_forty_square b ≡ true
    → (distance ib.left ib.right < 40) × (distance ib.top ib.bottom < 40)
image_is_small o b ib is small =
    let both = and_parts _ _ (ap fits_forty_square is ∙ fits-image o b ∙ small) in
    (ltb-true _ _ both.0, ltb-true _ _ both.1)

-- the box of an image begins at the corner
image_at_corner : (o : Orientation) (cs : List Cell) (b : Bounds) → box_of (turned o cs) ≡ Some b → (b.left ≡ pos 0) × (b.top ≡ pos 0)
unfolding turned
image_at_corner o cs b is = box_at_corner (image o cs) b is

-- if a pattern fits into 40 by 40 cells, the text that was written for the rows of its image is the image's text
pub image_written : (o : Orientation) (cs : List Cell) (b ib : Bounds) (rows bytes : List ℕ) → ib ≡ image_box o b → box_of cs ≡ Some b
    → fits_forty_square b ≡ true → ShowsInAllRows (pos 0) (pos 0) rows (turned o cs)
    → ((cells : List Cell) → IsBoxed ib rows cells → bytes ≡ spelled_in (at_corner cells) ib) → Some bytes ≡ text (turned o cs)
image_written o cs b ib rows bytes is box small shown told =
    ap Some (told (turned o cs) (record { boxed = boxed; shown = from_corner })) ∙ ap (λ (a : Bounds). Some (spelled_in (at_corner (turned o cs)) a)) is
    ∙ sym (text_by_box (turned o cs) (image_box o b) true (box_of-image o cs b box) (fits-image o b ∙ small))
  where
    boxed : box_of (turned o cs) ≡ Some ib
    boxed = box_of-image o cs b box ∙ ap Some (sym is)

    corner : (ib.left ≡ pos 0) × (ib.top ≡ pos 0)
    corner = image_at_corner o cs ib boxed

    from_corner : ShowsInAllRows ib.left ib.top rows (turned o cs)
    from_corner = rw (corner.0, corner.1) shown

-- if a pattern doesn't fit into 40 by 40 cells, its image has no text
pub no_text_of_image : (o : Orientation) (cs : List Cell) (b : Bounds) → box_of cs ≡ Some b → fits_forty_square b ≡ false → text (turned o cs) ≡ None
no_text_of_image o cs b is large = text_by_box (turned o cs) (image_box o b) false (box_of-image o cs b is) (fits-image o b ∙ large)

-- the image of the empty pattern has no text
pub no_text_of_nothing : (o : Orientation) (cs : List Cell) → cs ≡ [] → text (turned o cs) ≡ None
unfolding text turned image
no_text_of_nothing o cs none = subst (λ (ds : List Cell). text (turned o ds) ≡ None) (sym none) refl

corner-same : (cs : List Cell) → InOrder cs → at_corner (turned Same cs) ≡ at_corner cs
unfolding turned
corner-same cs order = at_corner-again (image Same cs) ∙ ap at_corner (image-same cs order)

no_text : (cs : List Cell) → box_of cs ≡ None → text cs ≡ None
unfolding text
no_text cs is = ap (boxed_text cs) is

-- the image in the orientation `Same` has the pattern's text
pub text-same : (cs : List Cell) → InOrder cs → text (turned Same cs) ≡ text cs
text-same cs order = go (box_of cs) refl
  where
    spelled : (b : Bounds) → spelled_in (at_corner (turned Same cs)) (image_box Same b) ≡ spelled_in (at_corner cs) b
    spelled b = λ i. flat_map spelling
        (tokens_of (corner-same cs order i) (from_zero (distance b.left b.right) i) (from_zero (distance b.top b.bottom) i))

    empty : (ds : List Cell) → box_of ds ≡ None → ds ≡ []
    empty [] e = refl
    empty (c ∷ ds) e = absurd cc

    go : (b : Option Bounds) → box_of cs ≡ b → text (turned Same cs) ≡ text cs
    go None is = no_text_of_nothing Same cs (empty cs is) ∙ sym (no_text cs is)
    go (Some b) is =
        text_by_box (turned Same cs) (image_box Same b) (fits_forty_square b) (box_of-image Same cs b is) (fits-image Same b)
        ∙ ap (λ (t : List ℕ). cond (fits_forty_square b) (Some t) None) (spelled b)
        ∙ sym (text_by_box cs b (fits_forty_square b) is refl)
