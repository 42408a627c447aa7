use Rattle.std.proofs.Common.{◌-◌, ◌*◌, ◌/◌, ◌%◌, ◌^◌, ◌<◌, ℕ, ap, arith, sym, ◌∙◌}
use Rattle.std.specs.Int.{bit_at}
use Rattle.std.proofs.lemmas.Bool.{false≢true}
use Rattle.plane_core.proofs.lemmas.one_sided.DivergesLemmas.{inside_bit, diverging_bit}
use Rattle.plane_core.proofs.lemmas.plane.OrderLemmas.{columns_deep, few_vectors, inner_low, rows_deep, ten_are_some}
use Rattle.plane_core.proofs.one_sided.diverges.has_diverging_cell.Goals as goal

below : (n : ℕ) → n % 2 ^ 64 < 2 ^ 64
below n = omega arith

pub returns-then-diverging-ne0 : goal.returns-then-diverging-ne0
returns-then-diverging-ne0 g c = λ _.
    let inside = (2 ^ 64 - 1) / 2 ^ (2 * c.args.depth) * 2 ^ c.args.depth % 2 ^ 64 in
    let bit = diverging_bit c.row-here.result c.row.result inside c.args.depth c.if-diverging-ne0.true (below ((2 ^ 64 - 1) / 2 ^ (2 * c.args.depth) * 2 ^ c.args.depth))
    (λ i. inside_bit c.args.depth i (columns_deep c.args.depth c.requires.depth)) in
    record {
      r = c.loop-r.r;
      i = bit.i;
      above = c.loop-r.auto.r;
      below = omega arith;
      west = bit.west;
      east = bit.east;
      lit = ap (λ (w : ℕ). bit_at w bit.i) (sym c.row-here.ensures) ∙ bit.lit;
      dark = ap (λ (w : ℕ). bit_at w bit.i) (sym c.row.ensures) ∙ bit.dark;
    }

pub returns-then-diverging_columns-inside-eq0 : goal.returns-then-diverging_columns-inside-eq0
returns-then-diverging_columns-inside-eq0 g c = λ e. absurd (false≢true e)

pub returns : goal.returns
returns g c = λ e. absurd (false≢true e)

pub diverging_columns-requires : goal.diverging_columns-requires
diverging_columns-requires g c = few_vectors g.row.N c.requires.few

pub overflow_sub-r-end : goal.overflow_sub-r-end
overflow_sub-r-end g c = rows_deep g.row.N c.args.depth c.requires.some c.requires.depth

pub row-here-requires : goal.row-here-requires
row-here-requires g c = (few_vectors g.row.N c.requires.few, (ten_are_some g.row.N c.requires.some, inner_low c.loop-r.r g.row.N c.args.depth c.loop-r-test.true))

pub row-requires : goal.row-requires
row-requires g c = (few_vectors g.row.N c.requires.few, (ten_are_some g.row.N c.requires.some, inner_low c.loop-r.r g.row.N c.args.depth c.loop-r-test.true))
