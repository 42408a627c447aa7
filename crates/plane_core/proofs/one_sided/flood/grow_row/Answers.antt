use Rattle.std.proofs.Common.{arith, inl, inr, bit_and, bit_or, refl, slice_index}
use Rattle.plane_core.proofs.lemmas.one_sided.FloodLemmas.{and_one, in_mask, near_twice, one_or, or_one, row_grown}
use Rattle.plane_core.proofs.one_sided.flood.grow_row.Goals as goal

pub returns : goal.returns
returns c =
    let here = slice_index c.args.flood.now c.args.r in
    let row = slice_index c.args.rows.now c.args.r in
    let near = bit_and c.beside-2.result row in
    let new = bit_and near 4611686018427387900 in
    row_grown c.args.rows.now c.args.flood.now c.args.r here c.near_rows-near.result (bit_or here new) (omega arith) c.requires.low c.requires.high refl
    c.near_rows-near.ensures.from (one_or here new)
    (λ i one. elim (or_one here new i one) [
      | inl old ↦ inl old
      | inr come ↦ inr (
          let masked = and_one near 4611686018427387900 i come in
          let both = and_one c.beside-2.result row i masked.0 in
          let column = in_mask 2 62 i masked.1 in
          let second = c.beside-2.ensures.from i both.0 in
          let first = c.beside.ensures.from second.1 second.3 in
          (both.1, column.0, column.1, first.1, near_twice i second.1 first.1 second.2 first.2, first.3))
    ])
