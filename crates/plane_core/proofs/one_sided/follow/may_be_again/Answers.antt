use Rattle.std.proofs.Common.{◌<◌, ◌^◌, ℕ, List, w64}
use Rattle.std.proofs.lemmas.Nat.Bits.{bit_at-trailing_zeros}
use Rattle.std.specs.Int.{trailing_zeros}
use Rattle.plane_core.specs.windows.LonePatterns.{IsFirstRow}
use Rattle.plane_core.proofs.lemmas.one_sided.AgainLemmas.{begins, columns_again, same_rows, some_again}
use Rattle.plane_core.proofs.lemmas.plane.OrderLemmas.{few_vectors, some_of}
use Rattle.plane_core.proofs.one_sided.follow.may_be_again.Goals as goal
use Rattle.plane_core.proofs.lemmas.Between.{IsCorner}

corner : (n : ℕ) (x : List (List ℕ)) (columns row : ℕ) → 0 < columns → columns < 2 ^ 64 → IsFirstRow n x row
    → IsCorner n x columns row (trailing_zeros w64 columns)
corner n x columns row alive fits first = let f = bit_at-trailing_zeros w64 columns alive fits in record {
  row_is = first;
  low = f.0;
  some = f.1;
  none = f.2;
}

pub first_row-requires : goal.first_row-requires
first_row-requires g c = (few_vectors g.row.N c.requires.few, (c.requires.some, c.requires.few))

pub first_row-requires-2 : goal.first_row-requires-2
first_row-requires-2 g c = (few_vectors g.row.N c.requires.few, (c.requires.some, c.requires.few))

pub returns-then-columns-eq0 : goal.returns-then-columns-eq0
returns-then-columns-eq0 g c cells left top dx dy hx hy = absurd (
    some_again g.row.N left top dx dy c.args.start.now c.args.now.now cells c.args.from c.args.columns c.requires.some c.requires.whole c.requires.from
    c.requires.columns hx hy c.requires.alive c.ranges.from.fits c.if-columns-eq0.true)

pub returns-then-from-first_column : goal.returns-then-from-first_column
returns-then-from-first_column g c cells left top dx dy hx hy = absurd (c.if-from-first_column.true (
    columns_again g.row.N left top dx dy c.args.start.now c.args.now.now cells c.args.from c.args.columns _ _ c.requires.some c.requires.whole
    c.requires.whole_now c.requires.from c.requires.columns hx hy
    (begins g.row.N left top c.args.start.now cells c.args.from c.requires.some hx c.requires.whole c.requires.from c.requires.alive c.ranges.from.fits)
    (begins g.row.N left top c.args.now.now _ c.args.columns c.requires.some hy c.requires.whole_now c.requires.columns (some_of c.args.columns c.if-columns-eq0.false) c.ranges.columns.fits)))

pub returns-then-row_or_none-first_column : goal.returns-then-row_or_none-first_column
returns-then-row_or_none-first_column g c cells left top dx dy hx hy = absurd (c.if-row_or_none-first_column.true (
    same_rows g.row.N left top dx dy c.args.start.now c.args.now.now cells c.args.from c.args.columns c.row_or_none.result
    c.row_or_none-in-loop-r.result c.loop-r.r
    c.in-Some.first c.in-Some-first_row.second _ _ c.requires.some c.requires.whole c.requires.whole_now c.requires.from c.requires.columns hx hy
    (corner g.row.N c.args.start.now c.args.from _ c.requires.alive c.ranges.from.fits c.in-Some.ensures)
    (corner g.row.N c.args.now.now c.args.columns _ (some_of c.args.columns c.if-columns-eq0.false) c.ranges.columns.fits c.in-Some-first_row.ensures) c.row_or_none.ensures.inside c.row_or_none.ensures.outside c.row_or_none-in-loop-r.ensures.inside
    c.row_or_none-in-loop-r.ensures.outside))
