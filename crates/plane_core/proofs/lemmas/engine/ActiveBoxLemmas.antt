-- Lists of boxes: which cells are in one of the boxes, or near one.
use Rattle.std.proofs.Common.{◌≡◌, ◌≢◌, ◌+◌, ◌-◌, ◌/◌, ◌^◌, ◌<◌, ◌≤◌, ℕ, ℤ, pos, ◌+ℤ◌, ◌-ℤ◌}
use Rattle.std.proofs.Common.{◌≤ℤ◌, All, List, [], ◌∷◌, ◌++◌, length, get_or, set, take, get_or-set_other, get_or-set_same}
use Rattle.std.proofs.Common.{Bool, true, false, leb, unsigned_abs, refl, arith, ap, ◌∙◌, sym, subst, inl, inr, ◌⊎◌, Option, IsSomeAnd}
use Rattle.std.specs.Int.{int_max, int_min}
use Rattle.std.specs.List.{Any, list_all, swap_remove}
use Rattle.std.proofs.Math.ListN.{length-set}
use Rattle.std.proofs.Math.Seq.{take-length}
use Rattle.std.proofs.lemmas.Bool.{and_parts, false≢true, leb-true}
use Rattle.std.proofs.lemmas.Int.{clamps, ints}
use Rattle.std.proofs.lemmas.List.{get_or-take, get_or_append_left, get_or_default, length-take-le, length_push}
use Rattle.std.proofs.lemmas.List.Folds.{list_all_at}
use Rattle.std.proofs.lemmas.List.Elements.{All-push}
use Rattle.std.proofs.lemmas.List.Quantifiers.{Any-push, any-set}
use Rattle.plane_core.specs.declared.plane.bounds.Bounds.{Bounds}
use Rattle.plane_core.specs.declared.plane.cell.Cell.{Cell}
use Rattle.plane_core.specs.declared.engine.frame.Frame.{Frame}
use Rattle.plane_core.specs.declared.engine.leap_window.LeapWindow.{LeapWindow}
use Rattle.plane_core.specs.plane.Bounds.{IsRoundBoth, IsWithin, box_at, enlarged, widened}
use Rattle.plane_core.specs.engine.ActiveBoxes.{AreWider, HoldDifferences, HoldsDifference, IsInOne, IsInReach, IsNearOne}
use Rattle.plane_core.specs.plane.Cells.{distance, has, is_within, king_distance}
use Rattle.plane_core.specs.plane.Bounds.{AreSidesWithin}
use Rattle.plane_core.specs.engine.Frames.{IsFrame}
use Rattle.plane_core.specs.engine.LeapWindows.{IsInnerCell, IsOnBoard}
use Rattle.plane_core.proofs.lemmas.plane.CaseLemmas.{less_or_not, same_or_not}

-- a window on a board begins so near to the origin that boxes inside it have their sides within `box_bound`
pub in_reach : (at : Frame) → IsFrame at → (p : LeapWindow) → IsOnBoard at p → IsInReach p
in_reach at frame p on = record {
  left = near at.left p.left on.x frame.left on.left (few_columns frame.word_columns on.word_columns);
  top = near at.top p.top on.y frame.top on.top (few_rows frame.rows on.rows);
}
  where
    near : (a l : ℤ) (x : ℕ) → unsigned_abs a ≤ 2 ^ 21 → l ≡ a +ℤ pos x → x ≤ 2 ^ 22 → unsigned_abs l ≤ 6291456
    near a l x low is few = omega (arith, ints)

    few_columns : at.word_columns ≤ 2 ^ 16 → on.x / 64 + 1 < at.word_columns → on.x ≤ 2 ^ 22
    few_columns few inside = omega (arith, few, inside)

    few_rows : at.rows ≤ 2 ^ 22 → on.y + p.rows ≤ at.rows → on.y ≤ 2 ^ 22
    few_rows few inside = omega (arith, few, inside)

-- a cell within n of a cell that is within m of the box is within m + n of the box
within_further : (b : Bounds) (m n : ℕ) (c d : Cell) → king_distance c d ≤ n → IsWithin (enlarged m b) d → IsWithin (enlarged (m + n) b) c
within_further b m n c d near h = record {
  left = low b.left d.x c.x (omega arith) h.left;
  top = low b.top d.y c.y (omega arith) h.top;
  right = high b.right d.x c.x (omega arith) h.right;
  bottom = high b.bottom d.y c.y (omega arith) h.bottom;
}
  where
    low : (l a e : ℤ) → distance e a ≤ n → (l -ℤ pos m) ≤ℤ a → (l -ℤ pos (m + n)) ≤ℤ e
    low l a e k h = omega (arith, ints)

    high : (r a e : ℤ) → distance e a ≤ n → a ≤ℤ (r +ℤ pos m) → e ≤ℤ (r +ℤ pos (m + n))
    high r a e k h = omega (arith, ints)

within_wider : (b : Bounds) (m n : ℕ) (c : Cell) → m ≤ n → IsWithin (enlarged m b) c → IsWithin (enlarged n b) c
within_wider b m n c le h = record {
  left = low b.left c.x h.left;
  top = low b.top c.y h.top;
  right = high b.right c.x h.right;
  bottom = high b.bottom c.y h.bottom;
}
  where
    low : (l a : ℤ) → (l -ℤ pos m) ≤ℤ a → (l -ℤ pos n) ≤ℤ a
    low l a h = omega (arith, ints)

    high : (r a : ℤ) → a ≤ℤ (r +ℤ pos m) → a ≤ℤ (r +ℤ pos n)
    high r a h = omega (arith, ints)

within_none : (b : Bounds) (c : Cell) → IsWithin b c → IsWithin (enlarged 0 b) c
within_none b c h = record {
  left = low b.left c.x h.left;
  top = low b.top c.y h.top;
  right = high b.right c.x h.right;
  bottom = high b.bottom c.y h.bottom;
}
  where
    low : (l a : ℤ) → l ≤ℤ a → (l -ℤ pos 0) ≤ℤ a
    low l a h = omega (arith, ints)

    high : (r a : ℤ) → a ≤ℤ r → a ≤ℤ (r +ℤ pos 0)
    high r a h = omega (arith, ints)

-- ---- an element of a list that has a property

pub any_weaker : {X : Type 0} (P Q : X → Type 0) (xs : List X) → ((x : X) → P x → Q x) → Any P xs → Any Q xs
any_weaker P Q xs h some = (some.0, some.1, some.2, some.3, h some.1 some.4)

pub near_further : (boxes : List Bounds) (m n : ℕ) (c d : Cell) → king_distance c d ≤ n → IsNearOne m boxes d → IsNearOne (m + n) boxes c
near_further boxes m n c d near some =
    any_weaker (λ (b : Bounds). IsWithin (enlarged m b) d) (λ (b : Bounds). IsWithin (enlarged (m + n) b) c) boxes
    (λ b h. within_further b m n c d near h) some

pub near_wider : (boxes : List Bounds) (m n : ℕ) (c : Cell) → m ≤ n → IsNearOne m boxes c → IsNearOne n boxes c
near_wider boxes m n c le some =
    any_weaker (λ (b : Bounds). IsWithin (enlarged m b) c) (λ (b : Bounds). IsWithin (enlarged n b) c) boxes
    (λ b h. within_wider b m n c le h) some

pub near_itself : (boxes : List Bounds) (c : Cell) → IsInOne boxes c → IsNearOne 0 boxes c
near_itself boxes c some =
    any_weaker (λ (b : Bounds). IsWithin b c) (λ (b : Bounds). IsWithin (enlarged 0 b) c) boxes (λ b h. within_none b c h) some

-- an element with the property is still in the list after another is appended
pub any_kept : {X : Type 0} (P : X → Type 0) (xs : List X) (y : X) → Any P xs → Any P (xs ++ y ∷ [])
any_kept P xs y some =
    (some.0, some.1, omega (arith, length_push xs y, some.2), get_or_append_left xs (y ∷ []) some.1 some.0 some.2 ∙ some.3, some.4)

pub swapped : {P Q : Type 0} → P ⊎ Q → Q ⊎ P
swapped (inl p) = inr p
swapped (inr q) = inl q

pub any_pushed : {X : Type 0} (P : X → Type 0) (xs new : List X) (y : X) → new ≡ xs ++ y ∷ [] → Any P xs ⊎ P y → Any P new
any_pushed {X} P xs new y is (inl some) = subst (λ (zs : List X). Any P zs) (sym is) (any_kept P xs y some)
any_pushed {X} P xs new y is (inr here) = subst (λ (zs : List X). Any P zs) (sym is) (Any-push P xs y here)

-- if all elements and the one that is pushed have the property, then all have it afterwards
pub all_pushed : {X : Type 0} (P : X → Type 0) (xs new : List X) (y : X) → new ≡ xs ++ y ∷ [] → All P xs → P y → All P new
all_pushed {X} P xs new y is all here = subst (λ (zs : List X). All P zs) (sym is) (All-push P xs y all here)

-- if one of the first n + 1 elements has the property, then one of the first n elements has it, or element n has it
pub any_take_more : {X : Type 0} (P : X → Type 0) (xs : List X) (n : ℕ) (d : X) → n < length xs → Any P (take (n + 1) xs)
    → Any P (take n xs) ⊎ P (get_or xs n d)
any_take_more {X} P xs n d less some = either (less_or_not some.0 n)
  where
    k : ℕ
    k = some.0

    x : X
    x = some.1

    below : k < n + 1
    below = omega (arith, some.2, length-take-le (n + 1) xs (omega arith))

    here : get_or xs k x ≡ x
    here = sym (get_or-take (n + 1) xs k x below) ∙ some.3

    either : (k < n) ⊎ (n ≤ k) → Any P (take n xs) ⊎ P (get_or xs n d)
    either (inl before) = inl (k, x, omega (arith, length-take-le n xs (omega arith), before, less), get_or-take n xs k x before ∙ here, some.4)
    either (inr after) =
        let at : k ≡ n = omega (arith, below) in
        inr (subst P (sym here ∙ ap (λ (m : ℕ). get_or xs m x) at ∙ get_or_default xs n x d less) some.4)

pub take_whole : {X : Type 0} (xs : List X) (n : ℕ) → n ≤ length xs → length xs ≤ n → take n xs ≡ xs
take_whole xs n low high =
    let all : n ≡ length xs = omega arith in
    ap (λ (m : ℕ). take m xs) all ∙ take-length xs

-- an element with the property is element i, or is still in the list after element i is removed
pub any_swap_remove : {X : Type 0} (P : X → Type 0) (xs : List X) (i : ℕ) (d : X) → i < length xs → Any P xs
    → P (get_or xs i d) ⊎ Any P (swap_remove xs i d)
any_swap_remove {X} P xs i d less some = either (same_or_not k i)
  where
    k : ℕ
    k = some.0

    x : X
    x = some.1

    below : k < length xs
    below = some.2

    last : X
    last = get_or xs (length xs - 1) d

    long : length (set xs i last) ≡ length xs
    long = length-set xs i last

    left : length (take (length xs - 1) (set xs i last)) ≡ length xs - 1
    left = length-take-le (length xs - 1) (set xs i last) (omega (arith, long))

    stays : k ≢ i → k < length xs - 1 → Any P (swap_remove xs i d)
    stays other less = (
      k,
      x,
      omega (arith, left),
      get_or-take (length xs - 1) (set xs i last) k x less ∙ get_or-set_other xs i k last x other ∙ some.3,
      some.4,
    )

    moves : k ≢ i → length xs - 1 ≤ k → Any P (swap_remove xs i d)
    moves other high =
        let at : length xs - 1 ≡ k = omega (arith, below) in
        let before : i < length xs - 1 = omega arith in (
          i,
          x,
          omega (arith, left),
          get_or-take (length xs - 1) (set xs i last) i x before ∙ get_or-set_same xs i last x less
              ∙ ap (λ (m : ℕ). get_or xs m d) at ∙ get_or_default xs k d x below ∙ some.3,
          some.4,
        )

    either : (k ≡ i) ⊎ (k ≢ i) → P (get_or xs i d) ⊎ Any P (swap_remove xs i d)
    either (inl at) = inl (subst P (sym some.3 ∙ ap (λ (m : ℕ). get_or xs m x) at ∙ get_or_default xs i x d less) some.4)
    either (inr other) = inr (elim (less_or_not k (length xs - 1)) [ inl low ↦ stays other low | inr high ↦ moves other high ])

-- if the new element has the property whenever the overwritten one does, some element still has the property
pub any_set_kept : {X : Type 0} (P : X → Type 0) (xs : List X) (i : ℕ) (y d : X) → i < length xs → (P (get_or xs i d) → P y) → Any P xs
    → Any P (set xs i y)
any_set_kept {X} P xs i y d less over some = either (same_or_not some.0 i)
  where
    k : ℕ
    k = some.0

    x : X
    x = some.1

    either : (some.0 ≡ i) ⊎ (some.0 ≢ i) → Any P (set xs i y)
    either (inl at) =
        any-set P xs i y less (over (subst P (sym some.3 ∙ ap (λ (m : ℕ). get_or xs m x) at ∙ get_or_default xs i x d less) some.4))
    either (inr other) = (k, x, omega (arith, length-set xs i y, some.2), get_or-set_other xs i k y x other ∙ some.3, some.4)

pub passes_at : {X : Type 0} (p : X → Bool) (xs : List X) (i : ℕ) (d : X) → i < length xs → list_all p xs ≡ true → p (get_or xs i d) ≡ true
passes_at p xs i d less all = go (p (get_or xs i d)) refl
  where
    go : (b : Bool) → p (get_or xs i d) ≡ b → p (get_or xs i d) ≡ true
    go true is = is
    go false is = absurd (false≢true (sym (list_all_at p xs i d less is) ∙ all))

-- ---- a box widened by one cell

pub widened_kept : (c : Cell) (b : Bounds) (d : Cell) → IsWithin b d → IsWithin (widened c b) d
widened_kept c b d h = record {
  left = low c.x b.left d.x h.left;
  top = low c.y b.top d.y h.top;
  right = high c.x b.right d.x h.right;
  bottom = high c.y b.bottom d.y h.bottom;
}
  where
    low : (a l x : ℤ) → l ≤ℤ x → int_min a l ≤ℤ x
    low a l x h = omega (arith, ints, clamps)

    high : (a l x : ℤ) → x ≤ℤ l → x ≤ℤ int_max a l
    high a l x h = omega (arith, ints, clamps)

pub widened_has : (c : Cell) (b : Bounds) → IsWithin (widened c b) c
widened_has c b = record { left = low c.x b.left; top = low c.y b.top; right = high c.x b.right; bottom = high c.y b.bottom }
  where
    low : (a l : ℤ) → int_min a l ≤ℤ a
    low a l = omega (arith, ints, clamps)

    high : (a l : ℤ) → a ≤ℤ int_max a l
    high a l = omega (arith, ints, clamps)

pub widened_sides : (n : ℕ) (c : Cell) (b : Bounds) → is_within n c ≡ true → AreSidesWithin n b → AreSidesWithin n (widened c b)
widened_sides n c b e h = record {
  left = least c.x b.left x h.left;
  top = least c.y b.top y h.top;
  right = greatest c.x b.right x h.right;
  bottom = greatest c.y b.bottom y h.bottom;
}
  where
    both : (leb (unsigned_abs c.x) n ≡ true) × (leb (unsigned_abs c.y) n ≡ true)
    both = and_parts (leb (unsigned_abs c.x) n) (leb (unsigned_abs c.y) n) e

    x : unsigned_abs c.x ≤ n
    x = leb-true (unsigned_abs c.x) n both.0

    y : unsigned_abs c.y ≤ n
    y = leb-true (unsigned_abs c.y) n both.1

    least : (a l : ℤ) → unsigned_abs a ≤ n → unsigned_abs l ≤ n → unsigned_abs (int_min a l) ≤ n
    least a l h k = omega (arith, ints, clamps)

    greatest : (a l : ℤ) → unsigned_abs a ≤ n → unsigned_abs l ≤ n → unsigned_abs (int_max a l) ≤ n
    greatest a l h k = omega (arith, ints, clamps)

-- ---- boxes around differences

-- if the two patterns differ in an inner cell of one of the first n windows, the cell is in one of the boxes
abbrev pub HoldFirst : ℕ → List LeapWindow → List Cell → List Cell → List Bounds → Type 0
HoldFirst n places one other boxes = (k : ℕ) (p : LeapWindow) (c : Cell) → k < n → IsInnerCell (get_or places k p) c → has one c ≢ has other c
    → IsInOne boxes c

pub hold_all : (places : List LeapWindow) (one other : List Cell) (boxes : List Bounds) → HoldFirst (length places) places one other boxes
    → HoldDifferences places one other boxes
hold_all places one other boxes first c covered ne =
    first covered.0 covered.1 c covered.2 (subst (λ (p : LeapWindow). IsInnerCell p c) (sym covered.3) covered.4) ne

pub hold_more : (n : ℕ) (places : List LeapWindow) (one other : List Cell) (boxes new : List Bounds) (found : Option Bounds) (d : LeapWindow)
    → n < length places → HoldsDifference (get_or places n d) one other found → ((c : Cell) → IsInOne boxes c → IsInOne new c)
    → ((c : Cell) → IsSomeAnd found (λ b. IsWithin b c) → IsInOne new c) → HoldFirst n places one other boxes
    → HoldFirst (n + 1) places one other new
hold_more n places one other boxes new found d less difference kept added first k q c low inner ne = either (less_or_not k n)
  where
    either : (k < n) ⊎ (n ≤ k) → IsInOne new c
    either (inl before) = kept c (first k q c before inner ne)
    either (inr after) =
        let at : k ≡ n = omega arith in
        added c (difference c (subst (λ (p : LeapWindow). IsInnerCell p c)
        (ap (λ (m : ℕ). get_or places m q) at ∙ get_or_default places n q d less) inner) ne)

-- ---- wider boxes

in_itself : (boxes : List Bounds) (c : Cell) → IsNearOne 0 boxes c → IsInOne boxes c
in_itself boxes c some =
    any_weaker (λ (b : Bounds). IsWithin (enlarged 0 b) c) (λ (b : Bounds). IsWithin b c) boxes (λ b h. within b h) some
  where
    within : (b : Bounds) → IsWithin (enlarged 0 b) c → IsWithin b c
    within b h = record {
      left = let p = h.left in omega (arith, ints);
      top = let p = h.top in omega (arith, ints);
      right = let p = h.right in omega (arith, ints);
      bottom = let p = h.bottom in omega (arith, ints);
    }

-- a cell in one of the boxes is in one of the wider boxes
pub wider_has : (boxes later : List Bounds) → AreWider boxes later → (c : Cell) → IsInOne boxes c → IsInOne later c
wider_has boxes later wider c some = in_itself later c (wider 0 c (near_itself boxes c some))

-- replacing a box by its union with another makes the boxes wider
pub joined_wider : (boxes : List Bounds) (i : ℕ) (one part wide : Bounds) → i < length boxes → one ≡ get_or boxes i one → IsRoundBoth one part wide
    → AreWider boxes (set boxes i wide)
joined_wider boxes i one part wide low same round n d some =
    any_set_kept (λ (b : Bounds). IsWithin (enlarged n b) d) boxes i wide one low
    (λ h. near (subst (λ (b : Bounds). IsWithin (enlarged n b) d) (sym same) h)) some
  where
    low_side : (a b x w : ℤ) → w ≡ int_min a b → (a -ℤ pos n) ≤ℤ x → (w -ℤ pos n) ≤ℤ x
    low_side a b x w is h = omega (arith, ints, clamps, is)

    high_side : (a b x w : ℤ) → w ≡ int_max a b → x ≤ℤ (a +ℤ pos n) → x ≤ℤ (w +ℤ pos n)
    high_side a b x w is h = omega (arith, ints, clamps, is)

    near : IsWithin (enlarged n one) d → IsWithin (enlarged n wide) d
    near h = record {
      left = low_side one.left part.left d.x wide.left round.left h.left;
      top = low_side one.top part.top d.y wide.top round.top h.top;
      right = high_side one.right part.right d.x wide.right round.right h.right;
      bottom = high_side one.bottom part.bottom d.y wide.bottom round.bottom h.bottom;
    }

-- adding a box makes the boxes wider
pub pushed_wider : (boxes later : List Bounds) (part : Bounds) → later ≡ boxes ++ part ∷ [] → AreWider boxes later
pushed_wider boxes later part is n d some = any_pushed (λ (b : Bounds). IsWithin (enlarged n b) d) boxes later part is (inl some)

-- ---- the box of one cell

pub cell_in_box : (c : Cell) → IsWithin (box_at c) c
cell_in_box c = record { left = le c.x; top = le c.y; right = le c.x; bottom = le c.y }
  where
    le : (x : ℤ) → x ≤ℤ x
    le x = omega (arith, ints)

pub cell_box_sides : (n : ℕ) (c : Cell) → is_within n c ≡ true → AreSidesWithin n (box_at c)
cell_box_sides n c e =
    let both = and_parts (leb (unsigned_abs c.x) n) (leb (unsigned_abs c.y) n) e in
    let x = leb-true (unsigned_abs c.x) n both.0 in
    let y = leb-true (unsigned_abs c.y) n both.1 in
    record { left = x; top = y; right = x; bottom = y }
