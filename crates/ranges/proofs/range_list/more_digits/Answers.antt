use Rattle.std.proofs.Common.{rules}
use Rattle.ranges.proofs.DecimalLemmas.{reading_large, reading_more}
use Rattle.ranges.proofs.range_list.more_digits.Goals as goal

pub returns-in_err-number-clause-none : goal.returns-in_err-number-clause-none
returns-in_err-number-clause-none c =
    let big = reading_large c.args.first c.args.text.now c.loop-digit.number c.loop-digit.remainder.now c.in-Some.digit c.in-Some.more.now c.loop-digit.invariant
    (search rules) (search rules) (search rules) in
    search rules

pub loop-digit-preserved : goal.loop-digit-preserved
loop-digit-preserved c =
    reading_more c.args.first c.args.text.now c.loop-digit.number c.loop-digit.remainder.now c.in-Some.digit c.in_ok-number.number c.in-Some.more.now
    c.loop-digit.invariant (search rules) (search rules) (search rules) (search rules)
