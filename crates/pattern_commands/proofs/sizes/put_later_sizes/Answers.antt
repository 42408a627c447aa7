use Rattle.std.proofs.Common.{◌+◌, ◌-◌, ◌≤◌, ℕ, List, Err, arith}
use Rattle.plane_core.specs.declared.plane.cell.Cell.{Cell}
use Rattle.pattern_commands.specs.SizeSteps.{PutsLines, later_sizes}
use Rattle.pattern_commands.specs.Streams.{stream}
use Rattle.pattern_commands.proofs.AnswerLemmas.{err_of}
use Rattle.pattern_commands.proofs.SizeLoopLemmas.{lines_first, lines_later, moved, near_now, now_first, now_later}
use Rattle.pattern_commands.proofs.SizeStepLemmas.{leaves_after, leaves_memory}
use Rattle.pattern_commands.proofs.sizes.put_later_sizes.Goals as goal

pub loop-generation-init : goal.loop-generation-init
loop-generation-init g c = record {
  later = omega arith;
  last = c.requires.order;
  now = now_first c.args.rule.now c.args.pattern c.args.from;
  fine = c.requires.output;
  lines = lines_first c.args.rule.now c.args.pattern c.args.from g.W.Write.contents c.args.output.now;
}

pub put_next_sizes-requires-clause-near : goal.put_next_sizes-requires-clause-near
put_next_sizes-requires-clause-near g c =
    let so_far = c.loop-generation.invariant in
    near_now c.args.rule.now c.args.pattern c.args.from 999 c.loop-generation.generation c.loop-generation.pattern so_far.later c.requires.near so_far.now

pub returns-in_err-made : goal.returns-in_err-made
returns-in_err-made g c =
    let so_far = c.loop-generation.invariant in
    let from = c.args.from in
    let gen = c.loop-generation.generation in
    let most = c.min-most.result in
    let least = c.min-most.ensures in
    let low = so_far.later in
    let high = so_far.last in
    let fits : gen - from + most ≤ c.args.last - from = omega (arith, least, low, high) in
    rw (err_of _ _ c.from_residual.ensures.1)
    (leaves_after c.args.rule.now c.args.pattern from g.W.Write.contents (λ (_ : Unit {0}). later_sizes c.args.rule.now c.args.pattern from (c.args.last - from))
    (later_sizes c.args.rule.now c.loop-generation.pattern gen) (gen - from) most
    (c.args.last - from) c.in_err-made.field-0.0 c.args.output.now c.loop-generation.output c.put_next_sizes.new.output fits so_far.lines
    (moved c.args.rule.now c.args.pattern from gen 0 c.loop-generation.pattern low so_far.now
    (λ (S : List Cell) (n : ℕ). PutsLines (later_sizes c.args.rule.now c.loop-generation.pattern gen) (later_sizes c.args.rule.now S n most)
    (Err c.in_err-made.field-0.0) (stream g.W.Write.contents c.loop-generation.output c.put_next_sizes.new.output)) c.in_err-made.ensures.lines))

pub generation_after-requires : goal.generation_after-requires
generation_after-requires g c =
    let so_far = c.loop-generation.invariant in
    let gen = c.loop-generation.generation in
    let made = c.in_ok-made.ensures.made.1 in
    let least = c.min-most.ensures in
    let high = so_far.last in
    let end = c.requires.generations in
    record {
      far = (
        999 + gen,
        near_now c.args.rule.now c.args.pattern c.args.from 999 gen c.loop-generation.pattern so_far.later c.requires.near so_far.now,
        omega (arith, made, least, high, end),
      );
    }

pub returns-in_err-pattern : goal.returns-in_err-pattern
returns-in_err-pattern g c =
    let so_far = c.loop-generation.invariant in
    let from = c.args.from in
    let gen = c.loop-generation.generation in
    let made = c.in_ok-made.ensures.made.1 in
    let least = c.min-most.ensures in
    let low = so_far.later in
    let high = so_far.last in
    let fits : gen + c.in_ok-made.made - from ≤ c.args.last - from = omega (arith, made, least, low, high) in
    rw (err_of _ _ c.from_residual-in_err-pattern.ensures.1, c.in_err-pattern.ensures.err)
    (leaves_memory c.args.rule.now c.args.pattern from (λ (_ : Unit {0}). later_sizes c.args.rule.now c.args.pattern from (c.args.last - from))
    (gen + c.in_ok-made.made - from) (c.args.last - from) _
    (stream g.W.Write.contents c.args.output.now c.put_next_sizes.new.output) fits
    (lines_later c.args.rule.now c.args.pattern from gen c.in_ok-made.made c.loop-generation.pattern low so_far.now g.W.Write.contents c.args.output.now
    c.loop-generation.output c.put_next_sizes.new.output so_far.lines c.in_ok-made.ensures.lines.0))

pub loop-generation-preserved : goal.loop-generation-preserved
loop-generation-preserved g c =
    let so_far = c.loop-generation.invariant in
    let from = c.args.from in
    let gen = c.loop-generation.generation in
    let made = c.in_ok-made.ensures.made.1 in
    let least = c.min-most.ensures in
    let low = so_far.later in
    let high = so_far.last in
    record {
      later = omega (arith, low);
      last = omega (arith, made, least, high);
      now = now_later c.args.rule.now c.args.pattern from gen c.in_ok-made.made c.loop-generation.pattern low so_far.now c.in_ok-pattern.pattern
          c.in_ok-pattern.ensures.ok;
      fine = c.in_ok-made.ensures.lines.1;
      lines = lines_later c.args.rule.now c.args.pattern from gen c.in_ok-made.made c.loop-generation.pattern low so_far.now g.W.Write.contents
          c.args.output.now c.loop-generation.output c.put_next_sizes.new.output so_far.lines c.in_ok-made.ensures.lines.0;
    }
