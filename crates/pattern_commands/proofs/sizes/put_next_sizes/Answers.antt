use Rattle.std.proofs.Common.{◌≡◌, ◌∙◌, ◌+◌, ap, arith, subst}
use Rattle.pattern_commands.specs.SizeSteps.{later_sizes, pattern_size, sized_line}
use Rattle.pattern_commands.specs.Streams.{Has, stream}
use Rattle.pattern_commands.proofs.AnswerLemmas.{err_of}
use Rattle.pattern_commands.proofs.SizeStepLemmas.{has_more, leaves_cut, leaves_memory, line_more}
use Rattle.pattern_commands.proofs.sizes.put_next_sizes.Goals as goal

pub returns-in_err-next-clause-lines : goal.returns-in_err-next-clause-lines
returns-in_err-next-clause-lines g c =
    rw (err_of _ _ c.from_residual-in_err-next.ensures.1, c.in_err-next.ensures.err)
    (leaves_memory c.args.rule.now c.args.pattern.now c.args.generation (later_sizes c.args.rule.now c.args.pattern.now c.args.generation) c.in_ok-made.made
    c.args.most _ (stream g.W.Write.contents c.args.output.now c.put_stretch.new.output) c.in_ok-made.ensures.made c.in_ok-made.ensures.lines.0)

pub returns-in_err-put_line-clause-lines : goal.returns-in_err-put_line-clause-lines
returns-in_err-put_line-clause-lines g c =
    let rule = c.args.rule.now in
    let cells = c.args.pattern.now in
    let from = c.args.generation in
    let few = c.if-made-gt0.false in
    let none : c.in_ok-made.made ≡ 0 = omega (arith, few) in
    let some = c.requires.some in
    let nothing = subst (λ n. Has (stream g.W.Write.contents c.args.output.now c.put_stretch.new.output) (later_sizes rule cells from n)) none c.in_ok-made.ensures.lines.0 in
    rw (err_of _ _ c.from_residual-in_err-put_line.ensures.1)
    (leaves_cut rule cells from g.W.Write.contents (later_sizes rule cells from) 0 c.args.most _ c.args.output.now c.put_stretch.new.output
    c.put_line.new.output (sized_line (from + 1) c.of.result) (omega (arith, some)) nothing
    (line_more rule cells from 0 c.of.result (c.of.ensures ∙ ap pattern_size c.in_ok-next.ensures.ok)) c.in_err-put_line.ensures)

pub returns-clause-lines : goal.returns-clause-lines
returns-clause-lines g c =
    let rule = c.args.rule.now in
    let cells = c.args.pattern.now in
    let from = c.args.generation in
    let few = c.if-made-gt0.false in
    let none : c.in_ok-made.made ≡ 0 = omega (arith, few) in
    let nothing = subst (λ n. Has (stream g.W.Write.contents c.args.output.now c.put_stretch.new.output) (later_sizes rule cells from n)) none c.in_ok-made.ensures.lines.0 in (
      has_more rule cells from g.W.Write.contents 0 c.args.output.now c.put_stretch.new.output c.put_line.new.output (sized_line (from + 1) c.of.result) nothing
          (line_more rule cells from 0 c.of.result (c.of.ensures ∙ ap pattern_size c.in_ok-next.ensures.ok)) c.in_ok-put_line.ensures,
      c.in_ok-put_line.ensures.remembers,
    )
