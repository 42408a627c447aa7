use Rattle.std.proofs.Common.{ℕ, List, ◌*◌, ◌%◌, ◌≡◌, ◌≢◌, ◌/◌, ◌^◌, ◌<◌, ◌∙◌, arith, bit_and, replicate, slice_set, sym}
use Rattle.std.specs.Int.{bit_at}
use Rattle.std.specs.List.{slice_index}
use Rattle.std.proofs.lemmas.Nat.Bits.{bit_at-lt, shr_and_one}
use Rattle.std.proofs.lemmas.Bool.{false≢true}
use Rattle.plane_core.specs.one_sided.Floods.{HasGrown}
use Rattle.plane_core.proofs.lemmas.one_sided.FloodLemmas.{all_flooded, begun_only, begun_start, none_lit, grown_more, grown_none}
use Rattle.plane_core.proofs.one_sided.flood.flood.Goals as goal

within_64 : (n : ℕ) → n < 60 → n < 64
within_64 n low = omega (arith, low)

-- if a word is shifted right by i and its lowest bit is then 1, bit i of the word is 1
lit : (w i : ℕ) → bit_and (w / 2 ^ i) 1 ≢ 0 → bit_at w i ≡ 1
lit w i some = omega (arith, bit_at-lt w i, shr_and_one w i, some)

-- a flood of one cell, at this row and column
abbrev begun : ℕ → ℕ → List ℕ
begun row column = slice_set (replicate 64 0) row (1 * 2 ^ column % 2 ^ 64)

-- after one more pass down and one more pass up, the flood has still grown from `start`
both : (rows start flood down up : List ℕ) → HasGrown rows start flood → HasGrown rows flood down → HasGrown rows down up → HasGrown rows start up
both rows start flood down up p q r = grown_more rows start down up (grown_more rows start flood down p q) r

pub loop-init : goal.loop-init
loop-init c = let a = c.if-row-lt-MARGIN.false in record { first = omega arith; grown = grown_none c.args.rows.now (begun c.args.row c.args.column) }

pub loop-preserved : goal.loop-preserved
loop-preserved c = record {
  first = c.grow_up-grown.ensures.low;
  grown = both c.args.rows.now (begun c.args.row c.args.column) c.loop.flood c.grow_down-end.new.flood c.grow_up-grown.new.flood c.loop.invariant.grown
      c.grow_down-end.ensures.grown c.grow_up-grown.ensures.grown;
}

pub returns-then-lies_inside : goal.returns-then-lies_inside
returns-then-lies_inside c = λ e.
    all_flooded c.args.rows.now (begun c.args.row c.args.column) c.grow_up-grown.new.flood c.args.row c.args.column (begun_start (replicate 64 0) c.args.row c.args.column (within_64 _ c.if-row-ge-INNER_END.false) (within_64 _ c.if-left-ge-INNER_END.false))
    (lit (slice_index c.args.rows.now c.args.row) c.args.column c.if-rows-row-eq0.false) (record { above = c.if-row-lt-MARGIN.false; below = c.if-row-ge-INNER_END.false; west = c.if-left-lt-MARGIN.false; east = c.if-left-ge-INNER_END.false })
    (begun_only (replicate 64 0) c.args.row c.args.column (within_64 _ c.if-row-ge-INNER_END.false) (within_64 _ c.if-left-ge-INNER_END.false) none_lit)
    (both c.args.rows.now (begun c.args.row c.args.column) c.loop.flood c.grow_down-end.new.flood c.grow_up-grown.new.flood c.loop.invariant.grown
    c.grow_down-end.ensures.grown c.grow_up-grown.ensures.grown) (c.lies_inside.ensures c.if-lies_inside.true) (c.is_closed.ensures e)

pub returns-else-lies_inside : goal.returns-else-lies_inside
returns-else-lies_inside c = λ e. absurd (false≢true (sym c.if-lies_inside.false ∙ e))

pub returns-then-row-lt-MARGIN : goal.returns-then-row-lt-MARGIN
returns-then-row-lt-MARGIN c = λ e. absurd (false≢true e)

pub returns : goal.returns
returns c = λ e. absurd (false≢true e)
