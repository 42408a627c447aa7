use Rattle.std.proofs.Common.{◌≡◌, ◌<◌, arith, length, rules, sym}
use Rattle.plane_core.proofs.lemmas.plane.RuleLemmas.{digits-begun, digits-prefix-end, digits-prefix-false, digits-put}
use Rattle.plane_core.proofs.plane.rule.put_numbers.Goals as goal
use Rattle.plane_core.proofs.plane.rule.put_numbers.Goals.{then-answer, else-answer}

pub loop-i-init : goal.loop-i-init
loop-i-init c =
    let long : length c.args.text.now ≡ 19 = search rules in
    record {
      end = omega arith;
      text = digits-begun c.args.least c.args.place c.args.letter c.args.answers.now c.args.text.now (omega (arith, long, c.requires.room));
    }

pub loop-i-preserved : goal.loop-i-preserved
loop-i-preserved c =
    let put = c.loop-i.invariant in
    let answers = c.args.answers.now in
    let long : length c.loop-i.text ≡ 19 = search rules in
    let low : c.loop-i.end < length c.loop-i.text = omega (arith, long, put.end, c.requires.room, c.loop-i-test.true) in
    elim c.if-answer.branch [
      | then-answer w ↦ rw (w.end-is, w.text-is) (record {
        end = omega (arith, put.end);
        text = digits-put c.args.least c.loop-i.i c.loop-i.end answers c.loop-i.text _ c.loop-i-test.true w.if-answer.true low put.text;
      })
      | else-answer w ↦ rw (w.end-is, w.text-is) (record {
        end = omega (arith, put.end);
        text = digits-prefix-false c.args.least c.loop-i.i answers _ _ c.loop-i-test.true w.if-answer.false put.text;
      })
    ]

pub returns-clause-text : goal.returns-clause-text
returns-clause-text c =
    sym (digits-prefix-end c.args.least c.loop-i.i c.args.answers.now _ _ c.loop-i-test.false c.loop-i.invariant.text)
