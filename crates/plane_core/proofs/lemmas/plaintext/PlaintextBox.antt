-- Lemmas about the smallest box of a pattern, for writing the pattern as plaintext.
use Rattle.std.proofs.Common.{◌≡◌, ◌≤ℤ◌, true, nat_le, List, [], ◌∷◌, Some, refl, sym, ap, subst, ◌∙◌, arith}
use Rattle.std.specs.List.{AllByRecursion, list_all}
use Rattle.std.specs.Prelude.{unsigned_abs}
use Rattle.std.proofs.lemmas.Int.{ints, clamps}
use Rattle.std.proofs.lemmas.Bool.{and_parts, leb-true}
use Rattle.plane_core.specs.declared.plane.cell.Cell.{Cell}
use Rattle.plane_core.specs.declared.plane.bounds.Bounds.{Bounds}
use Rattle.plane_core.specs.plane.Bounds.{box_of, box_at, grown, widened, IsWithin}
use Rattle.plane_core.specs.plane.Cells.{plane_bound, IsPattern, on_plane}
use Rattle.plane_core.specs.PlaintextWalk.{IsBox, IsAhead}
use Rattle.plane_core.proofs.lemmas.plaintext.PlaintextOrder.{AllByRecursion-weaker}

-- the smallest box of a nonempty list
abbrev pub least : Cell → List Cell → Bounds
least c [] = box_at c
least c (d ∷ ds) = widened c (least d ds)

pub box_of-cons : (c : Cell) (cs : List Cell) → box_of (c ∷ cs) ≡ Some (least c cs)
box_of-cons c [] = refl
box_of-cons c (d ∷ ds) = ap (λ o. Some (grown c o)) (box_of-cons d ds)

widened-first : (c : Cell) (b : Bounds) → IsWithin (widened c b) c
widened-first c b = record {
  left = omega (arith, ints, clamps);
  top = omega (arith, ints, clamps);
  right = omega (arith, ints, clamps);
  bottom = omega (arith, ints, clamps);
}

widened-within : (c d : Cell) (b : Bounds) → IsWithin b d → IsWithin (widened c b) d
widened-within c d b h = record {
  left = omega (arith, ints, clamps, h.left);
  top = omega (arith, ints, clamps, h.top);
  right = omega (arith, ints, clamps, h.right);
  bottom = omega (arith, ints, clamps, h.bottom);
}

-- each cell of the list is in the smallest box of the list
pub all_within : (c : Cell) (cs : List Cell) → AllByRecursion (IsWithin (least c cs)) (c ∷ cs)
all_within c [] = (record { left = omega (arith, ints); top = omega (arith, ints); right = omega (arith, ints); bottom = omega (arith, ints) }, tt)
all_within c (d ∷ ds) = (
  widened-first c (least d ds),
  AllByRecursion-weaker (IsWithin (least d ds)) (IsWithin (least c (d ∷ ds))) (d ∷ ds) (λ e h. widened-within c e (least d ds) h) (all_within d ds),
)

cell_box : (c : Cell) → on_plane c ≡ true → IsBox (box_at c)
unfolding on_plane
cell_box c h =
    let parts = and_parts (nat_le (unsigned_abs c.x) plane_bound) (nat_le (unsigned_abs c.y) plane_bound) h in
    let x = leb-true (unsigned_abs c.x) plane_bound parts.0 in
    let y = leb-true (unsigned_abs c.y) plane_bound parts.1 in
    record {
      left = omega (arith, ints);
      top = omega (arith, ints);
      right = omega (arith, ints);
      bottom = omega (arith, ints);
      wide = omega (arith, ints);
      high = omega (arith, ints);
    }

wider_box : (c : Cell) (b : Bounds) → IsBox (box_at c) → IsBox b → IsBox (widened c b)
wider_box c b h k = record {
  left = omega (arith, ints, clamps, h.left, k.left);
  top = omega (arith, ints, clamps, h.top, k.top);
  right = omega (arith, ints, clamps, h.right, k.right);
  bottom = omega (arith, ints, clamps, h.bottom, k.bottom);
  wide = omega (arith, ints, clamps, h.wide, k.wide);
  high = omega (arith, ints, clamps, h.high, k.high);
}

least_box : (c : Cell) (cs : List Cell) → list_all on_plane (c ∷ cs) ≡ true → IsBox (least c cs)
least_box c [] h = cell_box c (and_parts (on_plane c) true h).0
least_box c (d ∷ ds) h =
    let parts = and_parts (on_plane c) (list_all on_plane (d ∷ ds)) h in
    wider_box c (least d ds) (cell_box c parts.0) (least_box d ds parts.1)

same_box : (a b : Bounds) → Some a ≡ Some b → a ≡ b
same_box a b e = cc

-- the smallest box of a pattern has at least one cell and lies on the plane
pub IsBox-box_of : (cells : List Cell) (b : Bounds) → IsPattern cells → box_of cells ≡ Some b → IsBox b
IsBox-box_of [] b p e = absurd (cc)
IsBox-box_of (c ∷ cs) b p e = subst IsBox (same_box (least c cs) b (sym (box_of-cons c cs) ∙ e)) (least_box c cs p.on_plane)

pub within-box_of : (cells : List Cell) (b : Bounds) → box_of cells ≡ Some b → AllByRecursion (IsWithin b) cells
within-box_of [] b e = tt
within-box_of (c ∷ cs) b e = subst (λ a. AllByRecursion (IsWithin a) (c ∷ cs)) (same_box (least c cs) b (sym (box_of-cons c cs) ∙ e)) (all_within c cs)

pub IsAhead-box_of : (cells : List Cell) (b : Bounds) → IsPattern cells → box_of cells ≡ Some b → IsAhead b.top b cells
IsAhead-box_of cells b p e =
    let within = within-box_of cells b e in
    record {
      in_order = p.in_order;
      rows = AllByRecursion-weaker (IsWithin b) (λ c. b.top ≤ℤ c.y) cells (λ c h. h.top) within;
      columns = AllByRecursion-weaker (IsWithin b) (λ c. (b.left ≤ℤ c.x) × (c.x ≤ℤ b.right)) cells (λ c h. (h.left, h.right)) within;
    }
