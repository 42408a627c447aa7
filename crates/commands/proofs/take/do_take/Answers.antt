use Rattle.std.proofs.Common.{None, []}
use Rattle.pattern_commands.specs.Streams.{stream}
use Rattle.commands.proofs.TakeLemmas.{never_stopped, prints_census}
use Rattle.commands.proofs.take.do_take.Goals as goal

pub returns-clause-ends : goal.returns-clause-ends
returns-clause-ends g c reader bytes =
    never_stopped (λ worker n. ⊥) (λ worker n. Unit {0}) c.args.workers c.args.plan.now reader bytes c.do_take_with.result
    (stream g.W.Write.contents c.args.output.now c.do_take_with.new.output) (stream g.E.Write.contents c.args.machine.now.errors c.do_take_with.new.machine.errors)
    (λ worker n stops. stops) (c.do_take_with.ensures.ends reader bytes)

pub returns-clause-exact : goal.returns-clause-exact
returns-clause-exact g c done =
    prints_census c.args.plan.now None [] c.do_take_with.result _ _ (returns-clause-ends g c None []) done
