use Rattle.std.proofs.Common.{◌+◌, arith}
use Rattle.pattern_commands.specs.SizeSteps.{later_sizes, sized_line}
use Rattle.pattern_commands.specs.Streams.{stream}
use Rattle.pattern_commands.proofs.AnswerLemmas.{err_of}
use Rattle.pattern_commands.proofs.SizeStepLemmas.{has_first, has_more, leaves_cut, leaves_memory, parts_first, parts_more}
use Rattle.pattern_commands.proofs.sizes.stretch.put_board_sizes.Goals as goal

pub loop-made-init : goal.loop-made-init
loop-made-init g c = record {
  most = omega arith;
  fine = c.requires.output;
  lines = λ rule cells apart. (
    has_first rule cells c.args.generation g.W.Write.contents c.args.output.now,
    parts_first rule cells c.args.generation c.args.most c.args.boards.now apart,
  );
}

pub returns-in_err-size-clause-lines : goal.returns-in_err-size-clause-lines
returns-in_err-size-clause-lines g c rule cells apart =
    rw (err_of _ _ c.from_residual.ensures.1)
    (leaves_memory rule cells c.args.generation (later_sizes rule cells c.args.generation) c.loop-made.made c.args.most _
    (stream g.W.Write.contents c.args.output.now c.loop-made.output) c.loop-made.invariant.most
    (c.loop-made.invariant.lines rule cells apart).0)

pub loop-made-preserved : goal.loop-made-preserved
loop-made-preserved g c =
    let k = c.loop-made.made in
    let low = c.loop-made-test.true in
    let next = rw c.in-Some.is at c.in_ok-size.ensures in
    record {
      most = omega (arith, low);
      fine = c.in_ok-put_line.ensures.remembers;
      lines = λ rule cells apart.
          let so_far = c.loop-made.invariant.lines rule cells apart in
          let more = parts_more rule cells c.args.generation k c.args.most c.loop-made.boards c.next_size.new.boards c.in-Some.size low so_far.1 next.0 next.1 in (
            has_more rule cells c.args.generation g.W.Write.contents k c.args.output.now c.loop-made.output c.put_line.new.output
                (sized_line (c.args.generation + (k + 1)) c.in-Some.size) so_far.0 more.1 c.in_ok-put_line.ensures,
            more.0,
          );
    }

pub returns-in_err-put_line-clause-lines : goal.returns-in_err-put_line-clause-lines
returns-in_err-put_line-clause-lines g c rule cells apart =
    let k = c.loop-made.made in
    let low = c.loop-made-test.true in
    let next = rw c.in-Some.is at c.in_ok-size.ensures in
    let so_far = c.loop-made.invariant.lines rule cells apart in
    let more = parts_more rule cells c.args.generation k c.args.most c.loop-made.boards c.next_size.new.boards c.in-Some.size low so_far.1 next.0 next.1 in
    rw (err_of _ _ c.from_residual-in_err-put_line.ensures.1)
    (leaves_cut rule cells c.args.generation g.W.Write.contents (later_sizes rule cells c.args.generation) k c.args.most _ c.args.output.now c.loop-made.output
    c.put_line.new.output (sized_line (c.args.generation + (k + 1)) c.in-Some.size) low so_far.0 more.1 c.in_err-put_line.ensures)
