-- Patterns moved on the plane.
use Rattle.std.proofs.Common.{◌≡◌, ℕ, ℤ, zero, suc, ◌<◌, ◌+ℤ◌, Bool, true, false, ◌&&◌, List, [], ◌∷◌, arith, refl, ap}
use Rattle.std.proofs.Common.{◌∙◌, sym, subst, length, map, get_or, take, drop, set, append_assoc, leb, min, negsuc, unsigned_abs, ◌-ℤ◌, ◌+◌, ◌≤◌, ◌++◌, ◌↔◌, not, IsTrue, Some, pos}
use Rattle.std.specs.Bool.{then_some}
use Rattle.std.specs.Cmp.{both_ways as both_true}
use Rattle.std.specs.Int.{saturate_to_bits}
use Rattle.std.specs.List.{list_all}
use Rattle.std.specs.Ordering.{int_eq}
use Rattle.std.proofs.lemmas.Int.{ints}
use Rattle.std.proofs.lemmas.List.{append-nil, drop_all, drop_more, get_or-map, get_or_at, length-map, length-take-le, map_more, set_at, take_all, take_more, map-append}
use Rattle.std.proofs.lemmas.List.Folds.{list_all-append}
use Rattle.std.proofs.lemmas.Bool.{false≢true, and_parts, le-leb, leb-true, not-false}
use Rattle.plane_core.specs.declared.plane.cell.Cell.{Cell}
use Rattle.plane_core.specs.plane.Bounds.{shifted, FindsShift}
use Rattle.plane_core.specs.plane.Cells.{cell_at, moved_by, InOrder, on_plane, plane_bound, IsPattern}
use Rattle.plane_core.proofs.lemmas.plane.NeighbourhoodLemmas.{int_eq-same, int_eq-true}
use Rattle.plane_core.proofs.lemmas.plane.CellLemmas.{cell_cmp-moved}
use Rattle.plane_core.proofs.lemmas.plane.SetLemmas.{IsBefore, in_order-head, in_order-tail, in_order-cons, in_order-nil}

-- the cell at a place passes a test that all cells pass
pub all_at : (p : Cell → Bool) (cs : List Cell) (i : ℕ) (d : Cell) → i < length cs → list_all p cs ≡ true → p (get_or cs i d) ≡ true
all_at p [] i d low h = absurd (omega arith)
all_at p (c ∷ cs) zero d low h = (and_parts (p c) (list_all p cs) h).0
all_at p (c ∷ cs) (suc i) d low h = all_at p cs i d (omega arith) (and_parts (p c) (list_all p cs) h).1

-- the image of the cell at a place passes a test that all images pass
pub all_images_at : (p : Cell → Bool) (f : Cell → Cell) (cs : List Cell) (i : ℕ) (d : Cell) → i < length cs → list_all p (map f cs) ≡ true
    → p (f (get_or cs i d)) ≡ true
all_images_at p f [] i d low h = absurd (omega arith)
all_images_at p f (c ∷ cs) zero d low h = (and_parts (p (f c)) (list_all p (map f cs)) h).0
all_images_at p f (c ∷ cs) (suc i) d low h = all_images_at p f cs i d (omega arith) (and_parts (p (f c)) (list_all p (map f cs)) h).1

-- if one image fails a test, not all images pass
pub one_image_fails : (p : Cell → Bool) (f : Cell → Cell) (cs : List Cell) (i : ℕ) (d : Cell) → i < length cs → p (f (get_or cs i d)) ≡ false
    → false ≡ list_all p (map f cs)
one_image_fails p f cs i d low h = go (list_all p (map f cs)) refl
  where
    go : (b : Bool) → list_all p (map f cs) ≡ b → false ≡ b
    go true is = absurd (false≢true (sym h ∙ all_images_at p f cs i d low is))
    go false is = refl

before-shifted : (dx dy : ℤ) (c : Cell) (ds : List Cell) → IsBefore c ds → IsBefore (moved_by dx dy c) (shifted dx dy ds)
before-shifted dx dy c [] h = tt
before-shifted dx dy c (d ∷ ds) h = (cell_cmp-moved dx dy c d ∙ h.0, before-shifted dx dy c ds h.1)

-- moved cells stay in order
pub in_order-shifted : (dx dy : ℤ) (cs : List Cell) → InOrder cs → InOrder (shifted dx dy cs)
in_order-shifted dx dy [] o = in_order-nil
in_order-shifted dx dy (c ∷ cs) o =
    in_order-cons (moved_by dx dy c) (shifted dx dy cs) (before-shifted dx dy c cs (in_order-head c cs o)) (in_order-shifted dx dy cs (in_order-tail c cs o))

pub is_pattern-shifted : (dx dy : ℤ) (cs : List Cell) → InOrder cs → list_all on_plane (shifted dx dy cs) ≡ true → IsPattern (shifted dx dy cs)
is_pattern-shifted dx dy cs o on = record { in_order = in_order-shifted dx dy cs o; on_plane = on }

-- ---- the shift from one list to another

-- adding the difference of two coordinates to the first coordinate gives the second
step_on : (a b d : ℤ) → (b -ℤ a) ≡ d → a +ℤ d ≡ b
step_on a b d e = omega (arith, ints)

step_of : (a b d : ℤ) → a +ℤ d ≡ b → (b -ℤ a) ≡ d
step_of a b d e = omega (arith, ints)

-- if the first i cells of `ds` are those of `cs` shifted by (dx, dy), and the two cells at place i are (dx, dy) apart,
-- then the first i + 1 cells of `ds` are those of `cs` shifted
pub stepped_more : (dx dy : ℤ) (cs ds : List Cell) (i : ℕ) (z : Cell) (s : ℤ × ℤ) → i < length cs → length cs ≡ length ds
    → shifted dx dy (take i cs) ≡ take i ds
    → s ≡ ((get_or ds i z).x -ℤ (get_or cs i z).x, (get_or ds i z).y -ℤ (get_or cs i z).y) → not (int_eq s.0 dx && int_eq s.1 dy) ≡ false
    → shifted dx dy (take (i + 1) cs) ≡ take (i + 1) ds
stepped_more dx dy cs ds i z s low same so_far is ne =
    let both = and_parts (int_eq s.0 dx) (int_eq s.1 dy) (not-false (int_eq s.0 dx && int_eq s.1 dy) ne) in
    let x : (get_or ds i z).x -ℤ (get_or cs i z).x ≡ dx = sym (ap (λ (t : ℤ × ℤ). t.0) is) ∙ int_eq-true s.0 dx both.0 in
    let y : (get_or ds i z).y -ℤ (get_or cs i z).y ≡ dy = sym (ap (λ (t : ℤ × ℤ). t.1) is) ∙ int_eq-true s.1 dy both.1 in
    let there : moved_by dx dy (get_or cs i z) ≡ get_or ds i z =
    λ k. cell_at (step_on (get_or cs i z).x (get_or ds i z).x dx x k) (step_on (get_or cs i z).y (get_or ds i z).y dy y k) in
    let low_too : i < length ds = omega arith in
    ap (shifted dx dy) (take_more cs i z low) ∙ map-append (moved_by dx dy) (take i cs) (get_or cs i z ∷ [])
    ∙ (λ k. so_far k ++ there k ∷ []) ∙ sym (take_more ds i z low_too)

-- if the two cells at some place aren't (dx, dy) apart, `ds` isn't `cs` shifted by (dx, dy)
pub stepped_not : (dx dy : ℤ) (cs ds : List Cell) (i : ℕ) (z : Cell) (s : ℤ × ℤ) → i < length cs → shifted dx dy cs ≡ ds
    → s ≡ ((get_or ds i z).x -ℤ (get_or cs i z).x, (get_or ds i z).y -ℤ (get_or cs i z).y) → not (int_eq s.0 dx && int_eq s.1 dy) ≡ true → ⊥
stepped_not dx dy cs ds i z s low same is ne =
    let there : moved_by dx dy (get_or cs i z) ≡ get_or ds i z =
    sym (get_or-map (moved_by dx dy) cs i z z low) ∙ ap (λ (all : List Cell). get_or all i z) same in
    let x : s.0 ≡ dx = ap (λ (t : ℤ × ℤ). t.0) is ∙ step_of (get_or cs i z).x (get_or ds i z).x dx (ap (λ (c : Cell). c.x) there) in
    let y : s.1 ≡ dy = ap (λ (t : ℤ × ℤ). t.1) is ∙ step_of (get_or cs i z).y (get_or ds i z).y dy (ap (λ (c : Cell). c.y) there) in
    false≢true (sym (λ k. not (int_eq-same s.0 dx x k && int_eq-same s.1 dy y k)) ∙ ne)

-- if shifting a nonempty list gives another list, the shift is the step between their first cells
shift_is_step : (dx dy : ℤ) (c : Cell) (cs : List Cell) (d : Cell) (ds : List Cell) → shifted dx dy (c ∷ cs) ≡ d ∷ ds
    → ◌≡◌ {A = ℤ × ℤ} (d.x -ℤ c.x, d.y -ℤ c.y) (dx, dy)
shift_is_step dx dy c cs d ds e =
    let first : moved_by dx dy c ≡ d = cc in
    λ k. (step_of c.x d.x dx (ap (λ (a : Cell). a.x) first) k, step_of c.y d.y dy (ap (λ (a : Cell). a.y) first) k)

-- the answer is the step between the first cells if this step shifts the whole list S to T, and otherwise `None`
pub finds_shift : (S T : List Cell) (z : Cell) (s : ℤ × ℤ) (b : Bool) → 1 ≤ length S → length S ≡ length T
    → s ≡ ((get_or T 0 z).x -ℤ (get_or S 0 z).x, (get_or T 0 z).y -ℤ (get_or S 0 z).y)
    → (IsTrue b ↔ (shifted s.0 s.1 S ≡ T)) → FindsShift S T (then_some b s)
finds_shift [] T z s b some same is iff = absurd (omega arith)
finds_shift (c ∷ cs) [] z s b some same is iff = absurd (omega arith)
finds_shift (c ∷ cs) (d ∷ ds) z s true some same is iff = record {
  some = iff.0 refl;
  none = tt;
  only = λ dx dy ne e. ap Some (is ∙ shift_is_step dx dy c cs d ds e);
  empty = λ e f. absurd cc;
}
finds_shift (c ∷ cs) (d ∷ ds) z s false some same is iff = record {
  some = tt;
  none = λ dx dy e. no_shift dx dy e;
  only = λ dx dy ne e. absurd (no_shift dx dy e);
  empty = λ e f. absurd cc;
}
  where
    no_shift : (dx dy : ℤ) → shifted dx dy (c ∷ cs) ≡ d ∷ ds → ⊥
    no_shift dx dy e =
        let step : ◌≡◌ {A = ℤ × ℤ} s (dx, dy) = is ∙ shift_is_step dx dy c cs d ds e in
        let whole : shifted s.0 s.1 (c ∷ cs) ≡ d ∷ ds = subst (λ (t : ℤ × ℤ). shifted t.0 t.1 (c ∷ cs) ≡ d ∷ ds) (sym step) e in
        false≢true (iff.1 whole)

-- if the first i images and image i pass a test, the first i + 1 images pass it
pub one_image_passes : (p : Cell → Bool) (f : Cell → Cell) (cs : List Cell) (i : ℕ) (d : Cell) → i < length cs
    → list_all p (map f (take i cs)) ≡ true → p (f (get_or cs i d)) ≡ true → list_all p (map f (take (i + 1) cs)) ≡ true
one_image_passes p f cs i d low so_far passes =
    ap (list_all p) (map_more f cs i d low) ∙ list_all-append p (map f (take i cs)) (f (get_or cs i d) ∷ [])
    ∙ (λ k. so_far k && (passes k && true))

-- ---- sums that are clamped to 32 bits

clamped_size : (z : ℤ) → leb (unsigned_abs (saturate_to_bits 31 z)) plane_bound ≡ leb (unsigned_abs z) plane_bound
clamped_size (pos n) = both_true (leb (min n 2147483647) plane_bound) (leb n plane_bound)
    (λ h. let low = leb-true (min n 2147483647) plane_bound h in le-leb n plane_bound (omega arith))
    (λ h. let low = leb-true n plane_bound h in le-leb (min n 2147483647) plane_bound (omega arith))
clamped_size (negsuc n) = both_true (leb (suc (min n 2147483647)) plane_bound) (leb (suc n) plane_bound)
    (λ h. let low = leb-true (suc (min n 2147483647)) plane_bound h in le-leb (suc n) plane_bound (omega arith))
    (λ h. let low = leb-true (suc n) plane_bound h in le-leb (suc (min n 2147483647)) plane_bound (omega arith))

clamped_same : (z : ℤ) → leb (unsigned_abs (saturate_to_bits 31 z)) plane_bound ≡ true → saturate_to_bits 31 z ≡ z
clamped_same (pos n) h = let low = leb-true (min n 2147483647) plane_bound h in ap pos (omega arith)
clamped_same (negsuc n) h = let low = leb-true (suc (min n 2147483647)) plane_bound h in ap negsuc (omega arith)

-- if the coordinates of a moved cell are clamped to 32 bits, this doesn't change whether the cell is on the plane
pub lands_plane : (dx dy : ℤ) (c d : Cell) → d.x ≡ saturate_to_bits 31 (c.x +ℤ dx) → d.y ≡ saturate_to_bits 31 (c.y +ℤ dy)
    → on_plane d ≡ on_plane (moved_by dx dy c)
unfolding on_plane
lands_plane dx dy c d across down =
    λ k. (ap (λ (z : ℤ). leb (unsigned_abs z) plane_bound) across ∙ clamped_size (c.x +ℤ dx)) k
    && (ap (λ (z : ℤ). leb (unsigned_abs z) plane_bound) down ∙ clamped_size (c.y +ℤ dy)) k

pub lands_there : (dx dy : ℤ) (c d : Cell) → d.x ≡ saturate_to_bits 31 (c.x +ℤ dx) → d.y ≡ saturate_to_bits 31 (c.y +ℤ dy)
    → on_plane d ≡ true → d ≡ moved_by dx dy c
unfolding on_plane
lands_there dx dy c d across down on =
    let sides = and_parts (leb (unsigned_abs d.x) plane_bound) (leb (unsigned_abs d.y) plane_bound) on in
    λ k. cell_at
    ((across ∙ clamped_same (c.x +ℤ dx) (sym (ap (λ (z : ℤ). leb (unsigned_abs z) plane_bound) across) ∙ sides.0)) k)
    ((down ∙ clamped_same (c.y +ℤ dy) (sym (ap (λ (z : ℤ). leb (unsigned_abs z) plane_bound) down) ∙ sides.1)) k)

-- ---- a list whose cells are changed one after another

-- after the first i cells are changed, cell i is still unchanged
pub as_it_was : (f : Cell → Cell) (cs now : List Cell) (i : ℕ) (d : Cell) → i < length cs → now ≡ map f (take i cs) ++ drop i cs
    → get_or now i d ≡ get_or cs i d
as_it_was f cs now i d low is =
    ap (λ (all : List Cell). get_or all i d) (is ∙ ap (λ (more : List Cell). map f (take i cs) ++ more) (drop_more cs i d low))
    ∙ get_or_at (map f (take i cs)) (get_or cs i d) (drop (i + 1) cs) d i (length-map _ _ ∙ length-take-le i cs (omega arith))

-- once cell i is changed too, the first i + 1 cells are changed
pub change_more : (f : Cell → Cell) (cs now : List Cell) (i : ℕ) (d new : Cell) → i < length cs → now ≡ map f (take i cs) ++ drop i cs
    → new ≡ f (get_or cs i d) → set now i new ≡ map f (take (i + 1) cs) ++ drop (i + 1) cs
change_more f cs now i d new low is one =
    (λ j. set (is j) i (one j))
    ∙ ap (λ (more : List Cell). set (map f (take i cs) ++ more) i (f (get_or cs i d))) (drop_more cs i d low)
    ∙ set_at (map f (take i cs)) (get_or cs i d) (drop (i + 1) cs) (f (get_or cs i d)) i (length-map _ _ ∙ length-take-le i cs (omega arith))
    ∙ sym (append_assoc (map f (take i cs)) (f (get_or cs i d) ∷ []) (drop (i + 1) cs))
    ∙ ap (λ (all : List Cell). all ++ drop (i + 1) cs) (sym (map_more f cs i d low))

-- at the end, all cells are changed
pub all_changed : (f : Cell → Cell) (cs now : List Cell) (i : ℕ) → length cs ≤ i → now ≡ map f (take i cs) ++ drop i cs → now ≡ map f cs
all_changed f cs now i end is = is ∙ (λ j. map f (take_all i cs end j) ++ drop_all i cs end j) ∙ append-nil (map f cs)
