use Rattle.std.proofs.Common.{◌≡◌, ◌++◌, ◌+ℤ◌, ◌≤ℤ◌, ◌<ℤ◌, ℤ, pos, [], Some, drop, arith, refl, ap, sym, Ok, Err, ◌∙◌, w32, FitsSigned, to_z, of_z}
use Rattle.std.proofs.lemmas.Int.{ints, to_z-of_z}
use Rattle.plane_core.specs.declared.plane.bounds.Bounds.{Bounds}
use Rattle.plane_core.specs.PlaintextWalk.{IsBox}
use Rattle.plane_core.specs.Plaintext.{plain, box_text, row_text}
use Rattle.plane_core.proofs.lemmas.OutputLemmas.{Writes_nothing, Writes_then, Writes_stops}
use Rattle.plane_core.proofs.lemmas.plaintext.PlaintextBox.{IsBox-box_of, IsAhead-box_of}
use Rattle.plane_core.proofs.lemmas.plaintext.PlaintextWalks.{IsAhead-next, len_in_row, lt_z-true, lt_z-false}
use Rattle.plane_core.proofs.lemmas.plaintext.PlaintextWriting.{Writes_as, box_text_is, rows_remainder, rows_remainder-at, rows_remainder-end, SameFrom-next}
use Rattle.plane_core.proofs.plane.pattern.Pattern.write_plaintext.Goals as goal
use Rattle.plane_core.proofs.plane.pattern.Pattern.write_plaintext.Goals.{After-cells-remainder}

-- the row numbers of a box, and the number of the row just below it, fit in 32 bits
top_fits : (b : Bounds) → IsBox b → FitsSigned w32 b.top
top_fits b box = let top = box.top in let bottom = box.bottom in let high = box.high in omega (arith, ints)

begins_inside : (b : Bounds) → IsBox b → (b.top ≤ℤ b.top) × (b.top ≤ℤ (b.bottom +ℤ pos 1))
begins_inside b box = let high = box.high in (omega (arith, ints), omega (arith, ints))

past_bottom : (b : Bounds) → IsBox b → to_z w32 (of_z w32 (to_z w32 (of_z w32 b.bottom) +ℤ pos 1)) ≡ b.bottom +ℤ pos 1
past_bottom b box =
    let top = box.top in
    let bottom = box.bottom in
    let high = box.high in
    let fits : FitsSigned w32 b.bottom = omega (arith, ints) in
    let end_fits : FitsSigned w32 (b.bottom +ℤ pos 1) = omega (arith, ints) in
    ap (λ z. to_z w32 (of_z w32 (z +ℤ pos 1))) (to_z-of_z w32 b.bottom fits) ∙ to_z-of_z w32 (b.bottom +ℤ pos 1) end_fits

bottom_fits : (b : Bounds) → IsBox b → FitsSigned w32 (to_z w32 (of_z w32 b.bottom) +ℤ pos 1)
bottom_fits b box =
    let top = box.top in
    let bottom = box.bottom in
    let high = box.high in
    let fits : FitsSigned w32 b.bottom = omega (arith, ints) in
    let end_fits : FitsSigned w32 (b.bottom +ℤ pos 1) = omega (arith, ints) in
    rw (to_z-of_z w32 b.bottom fits) end_fits

module _ (b : Bounds) (y : ℤ) (box : IsBox b) (from : b.top ≤ℤ y) (inside : y <ℤ (b.bottom +ℤ pos 1)) where
  next_fits : FitsSigned w32 (y +ℤ pos 1)
  next_fits = let top = box.top in let bottom = box.bottom in omega (arith, ints)

  next_inside : (b.top ≤ℤ (y +ℤ pos 1)) × ((y +ℤ pos 1) ≤ℤ (b.bottom +ℤ pos 1))
  next_inside = (omega (arith, ints), omega (arith, ints))

-- the bounds of the pattern satisfy `IsBox`
is_box : (g : _) (c : After-cells-remainder g) → IsBox c.in-Some.bounds
is_box g c = IsBox-box_of c.args.self.now c.in-Some.bounds c.cells-remainder.ensures.pattern (sym c.in-Some.ensures.bounds)

pub overflow_add-y-end : goal.overflow_add-y-end
overflow_add-y-end g c = bottom_fits c.in-Some.bounds (is_box g (goal.at.overflow_add-y-end g c).After-cells-remainder)

pub loop-y-init : goal.loop-y-init
loop-y-init g c =
    let b = c.in-Some.bounds in
    let cells = c.args.self.now in
    let box = is_box g (goal.at.loop-y-init g c).After-cells-remainder in
    let high = box.high in
    let begins = begins_inside b box in
    rw (to_z-of_z w32 b.top (top_fits b box), c.cells-remainder.ensures.cells) (
      begins.0,
      begins.1,
      IsAhead-box_of cells b c.cells-remainder.ensures.pattern (sym c.in-Some.ensures.bounds),
      (λ x z l. refl),
      ([], box_text_is cells b high, Writes_nothing c.args.out.now c.requires),
    )

pub loop-y-preserved : goal.loop-y-preserved
loop-y-preserved g c =
    let b = c.in-Some.bounds in
    let cells = c.args.self.now in
    let box = is_box g (goal.at.loop-y-preserved g c).After-cells-remainder in
    let remainder = c.loop-y.remainder.now in
    let end = b.bottom +ℤ pos 1 in
    let y = to_z w32 c.loop-y.y-bits in
    let inv = c.loop-y.invariant in
    let at_end = past_bottom b box in
    let test = rw at_end at c.loop-y-test.true in
    let l : y <ℤ end = lt_z-true y end test in
    let next = next_inside b y box inv.0 l in
    let below : c.below-remainder.result.now ≡ drop (len_in_row y remainder) remainder = c.below-remainder.ensures in
    let prefix = inv.4 in
    rw (to_z-of_z w32 (y +ℤ pos 1) (next_fits b y box inv.0 l), below) (
      next.0,
      next.1,
      IsAhead-next y b remainder inv.2,
      SameFrom-next y cells remainder inv.3,
      (
        prefix.0 ++ row_text remainder b y,
        rows_remainder-at cells remainder b y prefix.0 (box_text (Some b) cells) l inv.3 prefix.1,
        Writes_then {r = Ok tt} prefix.2 c.in_ok-write_row.ensures,
      ),
    )

pub returns-in_err-write_row : goal.returns-in_err-write_row
unfolding plain
returns-in_err-write_row g c =
    let b = c.in-Some.bounds in
    let cells = c.args.self.now in
    let box = is_box g (goal.at.returns-in_err-write_row g c).After-cells-remainder in
    let remainder = c.loop-y.remainder.now in
    let end = b.bottom +ℤ pos 1 in
    let y = to_z w32 c.loop-y.y-bits in
    let inv = c.loop-y.invariant in
    let at_end = past_bottom b box in
    let test = rw at_end at c.loop-y-test.true in
    let l : y <ℤ end = lt_z-true y end test in
    let prefix = inv.4 in
    Writes_as {r = c.from_residual.result} (sym (rows_remainder-at cells remainder b y prefix.0 (box_text (Some b) cells) l inv.3 prefix.1)
    ∙ ap (λ o. box_text o cells) c.in-Some.ensures.bounds)
    (Writes_stops (rows_remainder cells b (y +ℤ pos 1)) c.from_residual.ensures.0 (Writes_then {r = Err c.in_err-write_row.field-0.0} prefix.2 c.in_err-write_row.ensures))

pub returns : goal.returns
unfolding plain
returns g c =
    let b = c.in-Some.bounds in
    let cells = c.args.self.now in
    let end = b.bottom +ℤ pos 1 in
    let y = to_z w32 c.loop-y.y-bits in
    let inv = c.loop-y.invariant in
    let at_end = past_bottom b (is_box g (goal.at.returns g c).After-cells-remainder) in
    let test = rw at_end at c.loop-y-test.false in
    let prefix = inv.4 in
    Writes_as {r = Ok tt} (sym (rows_remainder-end cells b y prefix.0 (box_text (Some b) cells) (lt_z-false y end test) inv.1 prefix.1)
    ∙ ap (λ o. box_text o cells) c.in-Some.ensures.bounds) prefix.2

pub write_row-requires-clause-bounds : goal.write_row-requires-clause-bounds
write_row-requires-clause-bounds g c = is_box g (goal.at.write_row-requires-clause-bounds g c).After-cells-remainder

pub returns-in_default : goal.returns-in_default
unfolding plain box_text
returns-in_default g c = Writes_as (ap (λ o. box_text o c.args.self.now) c.in_default.ensures.bounds) (Writes_nothing c.args.out.now c.requires)
