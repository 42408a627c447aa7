use Rattle.std.proofs.Common.{◌<◌, ℕ, arith, get_or, length, subst, sym}
use Rattle.survey_core.proofs.lemmas.rest.GroupingLemmas.{left_after, renamed_from, renamed_more, renamed_other}
use Rattle.survey_core.proofs.rest.groups.rename.Goals as goal

-- the case of an entry of a group other than `from`
pub loop-group-preserved-then-group-from : goal.loop-group-preserved-then-group-from
loop-group-preserved-then-group-from c =
    let now = c.loop-group.groups in
    let number = get_or now c.loop-group.group-index 0 in
    let there : c.loop-group.group-index < length now =
    subst (λ (n : ℕ). c.loop-group.group-index < n) (sym c.loop-group.auto.groups) c.loop-group-test.true in
    record {
      done = renamed_more c.args.from c.args.to c.loop-group.group-index c.args.groups.now now number there
          (renamed_other c.args.from c.args.to number c.if-group-from.true) c.loop-group.invariant.done c.loop-group.invariant.left;
      left = left_after c.loop-group.group-index c.args.groups.now now number c.loop-group.invariant.left;
    }

-- the case of an entry of the group `from`
pub loop-group-preserved : goal.loop-group-preserved
loop-group-preserved c =
    let now = c.loop-group.groups in
    let number = get_or now c.loop-group.group-index 0 in
    let there : c.loop-group.group-index < length now =
    subst (λ (n : ℕ). c.loop-group.group-index < n) (sym c.loop-group.auto.groups) c.loop-group-test.true in
    record {
      done = renamed_more c.args.from c.args.to c.loop-group.group-index c.args.groups.now now c.args.to there
          (sym (renamed_from c.args.from c.args.to number c.if-group-from.false)) c.loop-group.invariant.done c.loop-group.invariant.left;
      left = left_after c.loop-group.group-index c.args.groups.now now c.args.to c.loop-group.invariant.left;
    }

pub returns : goal.returns
returns c k low = c.loop-group.invariant.done k (omega (arith, low, c.loop-group-test.false))
