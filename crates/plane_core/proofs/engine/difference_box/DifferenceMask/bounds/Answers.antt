use Rattle.std.proofs.Common.{◌<◌, ℕ, arith, rules, w32, FitsSigned}
use Rattle.std.proofs.lemmas.Int.{to_z-of_z}
use Rattle.plane_core.specs.declared.engine.difference_box.BitSpan.{BitSpan}
use Rattle.plane_core.specs.engine.ActiveBoxes.{HasBits}
use Rattle.plane_core.proofs.lemmas.engine.DifferenceBoxLemmas.{marked, marked_none_across, marked_none_down, marked_within, sides_from}
use Rattle.plane_core.proofs.engine.difference_box.DifferenceMask.bounds.Goals as goal

pub returns-in_default-clause-difference : goal.returns-in_default-clause-difference
returns-in_default-clause-difference c = λ one other holds d inner ne.
    absurd (marked_none_across c.args.window c.args.self d c.in_default.ensures (marked c.args.window one other c.args.self d holds inner ne))

pub returns-in_default-span_of-clause-difference : goal.returns-in_default-span_of-clause-difference
returns-in_default-span_of-clause-difference c = λ one other holds d inner ne.
    absurd (marked_none_down c.args.window c.args.self d c.in_default-span_of.ensures (marked c.args.window one other c.args.self d holds inner ne))

pub returns-clause-difference : goal.returns-clause-difference
returns-clause-difference c =
    let left : FitsSigned w32 c.column.result = search rules in
    let top : FitsSigned w32 c.row.result = search rules in
    let right : FitsSigned w32 c.column-2.result = search rules in
    let bottom : FitsSigned w32 c.row-2.result = search rules in
    simp to_z-of_z (λ one other holds d inner ne.
    marked_within c.args.window c.args.self c.in-Some.across c.in-Some-span_of.down
    (record { left = c.column.result; top = c.row.result; right = c.column-2.result; bottom = c.row-2.result }) d
    c.in-Some.ensures c.in-Some-span_of.ensures
    (record { left = c.column.ensures; top = c.row.ensures; right = c.column-2.ensures; bottom = c.row-2.ensures })
    (marked c.args.window one other c.args.self d holds inner ne))

pub returns-clause-sides : goal.returns-clause-sides
returns-clause-sides c =
    let left : FitsSigned w32 c.column.result = search rules in
    let top : FitsSigned w32 c.row.result = search rules in
    let right : FitsSigned w32 c.column-2.result = search rules in
    let bottom : FitsSigned w32 c.row-2.result = search rules in
    simp to_z-of_z (sides_from c.args.window _ _ c.in-Some.across c.in-Some-span_of.down
    (record { left = c.column.result; top = c.row.result; right = c.column-2.result; bottom = c.row-2.result })
    c.requires c.in-Some.ensures c.in-Some-span_of.ensures
    (record { left = c.column.ensures; top = c.row.ensures; right = c.column-2.ensures; bottom = c.row-2.ensures }))

pub column-requires-clause-reach : goal.column-requires-clause-reach
column-requires-clause-reach c = c.requires

pub row-requires-clause-reach : goal.row-requires-clause-reach
row-requires-clause-reach c = c.requires

pub column-requires-2-clause-reach : goal.column-requires-2-clause-reach
column-requires-2-clause-reach c = c.requires

pub row-requires-2-clause-reach : goal.row-requires-2-clause-reach
row-requires-2-clause-reach c = c.requires

-- the first bit of a span is below 64
first_low : (word : ℕ) (span : BitSpan) → HasBits word span → span.first < 64
first_low word span bits = omega (arith, bits.order, bits.high)

pub column-requires-clause-i : goal.column-requires-clause-i
column-requires-clause-i c = first_low _ _ c.in-Some.ensures

pub row-requires-clause-r : goal.row-requires-clause-r
row-requires-clause-r c = first_low _ _ c.in-Some-span_of.ensures

pub column-requires-2-clause-i : goal.column-requires-2-clause-i
column-requires-2-clause-i c = c.in-Some.ensures.high

pub row-requires-2-clause-r : goal.row-requires-2-clause-r
row-requires-2-clause-r c = c.in-Some-span_of.ensures.high
