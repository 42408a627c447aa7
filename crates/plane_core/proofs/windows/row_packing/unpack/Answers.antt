use Rattle.std.proofs.Common.{[], ◌∙◌, arith, get_or, length-set, refl}
use Rattle.plane_core.proofs.lemmas.windows.RowPackingLemmas.{other_rows, own_rows, unpacked_four, unpacked_more}
use Rattle.plane_core.proofs.windows.row_packing.unpack.Goals as goal

pub loop-k-preserved : goal.loop-k-preserved
loop-k-preserved g c =
    record {
      long = omega (arith, c.loop-k.invariant.long);
      most = omega (arith, c.loop-k.invariant.most, c.loop-k-test.true);
      unpacked = unpacked_four g.row.N c.loop-k.k c.args.window.now c.loop-k.rows c.unpack_four.new.rows c.loop-k.invariant.unpacked
          c.unpack_four.ensures.made c.unpack_four.ensures.others;
    }

pub loop-k-2-preserved : goal.loop-k-2-preserved
loop-k-2-preserved g c =
    let n = g.row.N in
    let k = c.loop-k-2.k in
    let rows = c.loop-k-2.rows in
    let vector = get_or c.args.window.now k [] in
    let low = c.loop-k-2-test.true in
    record {
      long = length-set _ _ _ ∙ length-set _ _ _ ∙ length-set _ _ _ ∙ length-set _ _ _ ∙ c.loop-k-2.invariant.long;
      most = omega (arith, low);
      unpacked = unpacked_more n c.args.window.now rows _ vector k low c.loop-k-2.invariant.unpacked refl
          (own_rows n k rows vector low (omega (arith, c.loop-k-2.invariant.long, c.requires.rows)))
          (λ j m lane less apart. other_rows n k j m rows _ _ _ _ low less apart);
    }
