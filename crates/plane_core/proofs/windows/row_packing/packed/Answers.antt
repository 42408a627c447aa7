use Rattle.std.proofs.Common.{◌∙◌, arith, length-set}
use Rattle.plane_core.proofs.lemmas.windows.RowPackingLemmas.{packed_four, packed_one}
use Rattle.plane_core.proofs.windows.row_packing.packed.Goals as goal

pub loop-k-preserved : goal.loop-k-preserved
loop-k-preserved g c =
    record {
      long = c.pack_four.auto.window ∙ c.loop-k.invariant.long;
      most = omega (arith, c.loop-k.invariant.most, c.loop-k-test.true);
      packed = packed_four g.row.N c.loop-k.k c.args.rows.now c.loop-k.window c.pack_four.new.window c.loop-k.invariant.packed c.pack_four.ensures.made
          c.pack_four.ensures.others;
    }

pub loop-k-2-init : goal.loop-k-2-init
loop-k-2-init g c = c.loop-k.invariant

pub loop-k-2-preserved : goal.loop-k-2-preserved
loop-k-2-preserved g c =
    let k = c.loop-k-2.k in
    let x = c.loop-k-2.window in
    record {
      long = length-set x k _ ∙ c.loop-k-2.invariant.long;
      most = omega (arith, c.loop-k-2-test.true);
      packed = packed_one g.row.N k c.args.rows.now x (omega (arith, c.loop-k-2.invariant.long, c.loop-k-2-test.true)) c.loop-k-2.invariant.packed;
    }
