use Rattle.std.proofs.Common.{◌≡◌, ◌∙◌, ◌-◌, ap}
use Rattle.plane_core.specs.plane.Generations.{after}
use Rattle.plane_core.proofs.lemmas.OutputLemmas.{Writes_same}
use Rattle.plane_core.proofs.lemmas.plane.SpeedLemmas.{within-after}
use Rattle.pattern_commands.specs.SizeSteps.{later_sizes, pattern_size, sized_line}
use Rattle.pattern_commands.specs.Sizes.{size_line}
use Rattle.pattern_commands.proofs.AnswerLemmas.{err_of}
use Rattle.pattern_commands.proofs.SizeStepLemmas.{leaves_first, leaves_then, whole_text}
use Rattle.pattern_commands.proofs.sizes.put_sizes.Goals as goal

pub returns-in_err-put_line : goal.returns-in_err-put_line
returns-in_err-put_line g c =
    let rule = c.args.rule.now in
    let from = c.args.from in
    let here = after rule c.args.pattern.now from in
    let line : sized_line from c.of.result ≡ size_line from here = ap (sized_line from) (c.of.ensures ∙ ap pattern_size c.in_ok-pattern.ensures.ok) in
    rw (err_of _ _ c.from_residual-in_err-put_line.ensures.1, whole_text rule c.args.pattern.now from c.args.last c.requires.order)
    (leaves_first g.W.Write.contents (size_line from here) (later_sizes rule here from (c.args.last - from)) _ c.args.output.now c.put_line.new.output
    (Writes_same line c.in_err-put_line.ensures))

pub put_later_sizes-requires-clause-near : goal.put_later_sizes-requires-clause-near
put_later_sizes-requires-clause-near g c =
    rw c.in_ok-pattern.ensures.ok (within-after c.args.rule.now c.args.pattern.now 999 c.args.from c.requires.small)

pub returns : goal.returns
returns g c =
    let rule = c.args.rule.now in
    let from = c.args.from in
    let here = after rule c.args.pattern.now from in
    let line : sized_line from c.of.result ≡ size_line from here = ap (sized_line from) (c.of.ensures ∙ ap pattern_size c.in_ok-pattern.ensures.ok) in
    rw (whole_text rule c.args.pattern.now from c.args.last c.requires.order)
    (leaves_then g.W.Write.contents (size_line from here) (later_sizes rule here from (c.args.last - from)) c.put_later_sizes.result c.args.output.now
    c.put_line.new.output c.put_later_sizes.new.output (Writes_same line c.in_ok-put_line.ensures).whole
    (rw c.in_ok-pattern.ensures.ok at c.put_later_sizes.ensures))
