use Rattle.std.proofs.Common.{◌≡◌, ◌++◌, ◌+◌, ◌+ℤ◌, ◌≤ℤ◌, ◌<ℤ◌, ℤ, pos, [], ◌∷◌, take, drop, get_or, replicate, arith, ap, sym, Ok, Err, ◌∙◌, w32, FitsSigned, to_z, of_z}
use Rattle.std.proofs.lemmas.List.{length-take-le}
use Rattle.std.proofs.lemmas.Int.{ints, to_z-of_z}
use Rattle.plane_core.specs.declared.plane.bounds.Bounds.{Bounds}
use Rattle.plane_core.specs.plane.Cells.{distance}
use Rattle.plane_core.specs.Plaintext.{row_text}
use Rattle.plane_core.proofs.lemmas.OutputLemmas.{Writes_nothing, Writes_then, Writes_stops}
use Rattle.plane_core.proofs.lemmas.plaintext.PlaintextWalks.{IsRowAhead, IsRowAhead-taken, IsRowAhead-next, IsRowAhead-at, len_in_row}
use Rattle.plane_core.proofs.lemmas.plaintext.PlaintextWriting.{Writes_as, row_remainder, row_remainder-at, row_remainder-end, row_text_is, row_text-taken}
use Rattle.plane_core.specs.PlaintextWalk.{IsBox}
use Rattle.plane_core.specs.PlaintextPlaces.{dot, letter_o, line_feed}
use Rattle.plane_core.proofs.plaintext.write_row.Goals as goal

-- the columns of a box, the column just past a cell and the column just past the box fit in 32 bits
left_fits : (b : Bounds) → IsBox b → FitsSigned w32 b.left
left_fits b box = let left = box.left in let right = box.right in let wide = box.wide in omega (arith, ints)

right_fits : (b : Bounds) → IsBox b → FitsSigned w32 b.right
right_fits b box = let left = box.left in let right = box.right in let wide = box.wide in omega (arith, ints)

end_fits : (b : Bounds) → IsBox b → FitsSigned w32 (b.right +ℤ pos 1)
end_fits b box = let left = box.left in let right = box.right in let wide = box.wide in omega (arith, ints)

begins_inside : (b : Bounds) → IsBox b → (b.left ≤ℤ b.left) × (b.left ≤ℤ (b.right +ℤ pos 1))
begins_inside b box = let wide = box.wide in (omega (arith, ints), omega (arith, ints))

module _ (b : Bounds) (x z : ℤ) (box : IsBox b) (from : b.left ≤ℤ x) (ahead : x ≤ℤ z) (inside : z <ℤ (b.right +ℤ pos 1)) where
  cell_fits : FitsSigned w32 z
  cell_fits = let left = box.left in let right = box.right in omega (arith, ints)

  next_fits : FitsSigned w32 (z +ℤ pos 1)
  next_fits = let left = box.left in let right = box.right in omega (arith, ints)

  next_inside : (b.left ≤ℤ (z +ℤ pos 1)) × ((z +ℤ pos 1) ≤ℤ (b.right +ℤ pos 1))
  next_inside = (omega (arith, ints), omega (arith, ints))

pub loop-cell-init : goal.loop-cell-init
loop-cell-init g c =
    let b = c.args.bounds in
    let y = c.args.y in
    let cells = c.args.cells.now in
    let left : to_z w32 (of_z w32 b.left) ≡ b.left = to_z-of_z w32 b.left (left_fits b c.requires.bounds) in
    let begins = begins_inside b c.requires.bounds in
    let row : to_z w32 (of_z w32 y) ≡ y = to_z-of_z w32 y c.ranges.y in
    let call : c.row_len.result ≡ len_in_row (to_z w32 (of_z w32 y)) cells = c.row_len.ensures.value in
    let len : c.row_len.result ≡ len_in_row y cells = call ∙ ap (λ z. len_in_row z cells) row in
    let wide = c.requires.bounds.wide in
    rw (left, row, len) (
      begins.0,
      begins.1,
      IsRowAhead-taken y b cells c.requires.cells,
      (
        [],
        row_text-taken y b cells c.requires.cells ∙ row_text_is (take (len_in_row y cells) cells) b y wide,
        Writes_nothing c.args.out.now c.requires.fresh,
      ),
    )

pub overflow_add-x : goal.overflow_add-x
overflow_add-x g c =
    let cell = get_or (take c.row_len.result c.args.cells.now) c.loop-cell.cell-index (record { y = pos 0; x = pos 0 }) in
    let ahead = IsRowAhead-at _ _ _ _ c.loop-cell.cell-index (record { y = pos 0; x = pos 0 }) c.loop-cell-test.true c.loop-cell.invariant.2 in
    let here = ahead.here.0 in
    let fits = cell_fits c.args.bounds _ cell.x c.requires.bounds c.loop-cell.invariant.0 here.1 here.2 in
    rw (to_z-of_z w32 cell.x fits) (next_fits c.args.bounds _ cell.x c.requires.bounds c.loop-cell.invariant.0 here.1 here.2)

pub loop-cell-preserved : goal.loop-cell-preserved
loop-cell-preserved g c =
    let y = c.args.y in
    let end = c.args.bounds.right +ℤ pos 1 in
    let row = take c.row_len.result c.args.cells.now in
    let i = c.loop-cell.cell-index in
    let x = to_z w32 c.loop-cell.x-bits in
    let cell = get_or row i (record { y = pos 0; x = pos 0 }) in
    let later = drop (i + 1) row in
    let in_row : to_z w32 (of_z w32 y) ≡ y = to_z-of_z w32 y c.ranges.y in
    let inv = rw in_row at c.loop-cell.invariant in
    let ahead : IsRowAhead y x end (cell ∷ later) = IsRowAhead-at y x end row i (record { y = pos 0; x = pos 0 }) c.loop-cell-test.true inv.2 in
    let here = ahead.here.0 in
    let box = c.requires.bounds in
    let fits = cell_fits c.args.bounds x cell.x box inv.0 here.1 here.2 in
    let next = next_inside c.args.bounds x cell.x box inv.0 here.1 here.2 in
    let at_cell : to_z w32 (of_z w32 cell.x) ≡ cell.x = to_z-of_z w32 cell.x fits in
    let at_next : to_z w32 (of_z w32 (cell.x +ℤ pos 1)) ≡ cell.x +ℤ pos 1 =
    to_z-of_z w32 (cell.x +ℤ pos 1) (next_fits c.args.bounds x cell.x box inv.0 here.1 here.2) in
    let call : c.abs_diff.result ≡ distance x (to_z w32 (of_z w32 cell.x)) = c.abs_diff.ensures in
    let gap : c.abs_diff.result ≡ distance x cell.x = call ∙ ap (λ z. distance x z) at_cell in
    let prefix = inv.3 in
    rw (at_cell, at_next, in_row) (
      next.0,
      next.1,
      IsRowAhead-next y x end cell later ahead,
      (
        prefix.0 ++ (replicate (distance x cell.x) dot ++ letter_o ∷ []),
        row_remainder-at y x end row i (record { y = pos 0; x = pos 0 }) prefix.0 (row_text c.args.cells.now c.args.bounds y) c.loop-cell-test.true inv.2 prefix.1,
        Writes_then {r = Ok tt} prefix.2 (Writes_as {r = Ok tt} (ap (λ n. replicate n dot ++ letter_o ∷ []) gap) c.in_ok-put_after_gap.ensures),
      ),
    )

pub returns-in_err-put_after_gap : goal.returns-in_err-put_after_gap
returns-in_err-put_after_gap g c =
    let y = c.args.y in
    let end = c.args.bounds.right +ℤ pos 1 in
    let row = take c.row_len.result c.args.cells.now in
    let i = c.loop-cell.cell-index in
    let x = to_z w32 c.loop-cell.x-bits in
    let cell = get_or row i (record { y = pos 0; x = pos 0 }) in
    let later = drop (i + 1) row in
    let in_row : to_z w32 (of_z w32 y) ≡ y = to_z-of_z w32 y c.ranges.y in
    let inv = rw in_row at c.loop-cell.invariant in
    let ahead : IsRowAhead y x end (cell ∷ later) = IsRowAhead-at y x end row i (record { y = pos 0; x = pos 0 }) c.loop-cell-test.true inv.2 in
    let here = ahead.here.0 in
    let fits = cell_fits c.args.bounds x cell.x c.requires.bounds inv.0 here.1 here.2 in
    let at_cell : to_z w32 (of_z w32 cell.x) ≡ cell.x = to_z-of_z w32 cell.x fits in
    let call : c.abs_diff.result ≡ distance x (to_z w32 (of_z w32 cell.x)) = c.abs_diff.ensures in
    let gap : c.abs_diff.result ≡ distance x cell.x = call ∙ ap (λ z. distance x z) at_cell in
    let prefix = inv.3 in
    Writes_as {r = c.from_residual.result} (sym (row_remainder-at y x end row i (record { y = pos 0; x = pos 0 }) prefix.0 (row_text c.args.cells.now c.args.bounds y)
    c.loop-cell-test.true inv.2 prefix.1))
    (Writes_stops (row_remainder later y (cell.x +ℤ pos 1) end) c.from_residual.ensures.0
    (Writes_then {r = Err c.in_err-put_after_gap.field-0.0} prefix.2 (Writes_as {r = Err c.in_err-put_after_gap.field-0.0} (ap (λ n. replicate n dot ++ letter_o ∷ []) gap) c.in_err-put_after_gap.ensures)))

pub returns : goal.returns
returns g c =
    let y = c.args.y in
    let end = c.args.bounds.right +ℤ pos 1 in
    let row = take c.row_len.result c.args.cells.now in
    let x = to_z w32 c.loop-cell.x-bits in
    let in_row : to_z w32 (of_z w32 y) ≡ y = to_z-of_z w32 y c.ranges.y in
    let inv = rw in_row at c.loop-cell.invariant in
    let prefix = inv.3 in
    let right : to_z w32 (of_z w32 c.args.bounds.right) ≡ c.args.bounds.right =
    to_z-of_z w32 c.args.bounds.right (right_fits c.args.bounds c.requires.bounds) in
    let fits = end_fits c.args.bounds c.requires.bounds in
    let call : c.abs_diff-2.result ≡ distance x (to_z w32 (of_z w32 (to_z w32 (of_z w32 c.args.bounds.right) +ℤ pos 1))) = c.abs_diff-2.ensures in
    let gap : c.abs_diff-2.result ≡ distance x end = call ∙ ap (λ z. distance x (to_z w32 (of_z w32 (z +ℤ pos 1)))) right
    ∙ ap (λ z. distance x z) (to_z-of_z w32 end fits) in
    Writes_as {r = c.put_after_gap-2.result} (sym (row_remainder-end y x end row c.loop-cell.cell-index prefix.0 (row_text c.args.cells.now c.args.bounds y) c.loop-cell-test.false prefix.1))
    (Writes_then {r = c.put_after_gap-2.result} prefix.2 (Writes_as {r = c.put_after_gap-2.result} (ap (λ n. replicate n dot ++ line_feed ∷ []) gap) c.put_after_gap-2.ensures))

pub slice_bounds-cell-items-end : goal.slice_bounds-cell-items-end
slice_bounds-cell-items-end g c = sym (length-take-le c.row_len.result c.args.cells.now c.row_len.ensures.bound)

pub put_after_gap-requires : goal.put_after_gap-requires
put_after_gap-requires g c = c.loop-cell.invariant.3.2.remembers

pub put_after_gap-requires-2 : goal.put_after_gap-requires-2
put_after_gap-requires-2 g c = c.loop-cell.invariant.3.2.remembers

pub overflow_add-bounds : goal.overflow_add-bounds
overflow_add-bounds g c =
    let box = c.requires.bounds in
    rw (to_z-of_z w32 c.args.bounds.right (right_fits c.args.bounds box)) (end_fits c.args.bounds box)
