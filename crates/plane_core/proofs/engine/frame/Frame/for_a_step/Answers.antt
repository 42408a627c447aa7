use Rattle.std.proofs.Common.{◌≤◌, arith}
use Rattle.plane_core.proofs.engine.frame.Frame.for_a_step.Goals as goal

one : 1 ≤ 1000
one = omega arith

pub round-requires : goal.round-requires
round-requires c = one

pub returns-in_default-clause-frame : goal.returns-in_default-clause-frame
returns-in_default-clause-frame c = tt

pub returns-in_default-clause-plane : goal.returns-in_default-clause-plane
returns-in_default-clause-plane c = tt

pub returns-in_default-clause-on : goal.returns-in_default-clause-on
returns-in_default-clause-on c = tt

pub returns-in_default-clause-inside : goal.returns-in_default-clause-inside
returns-in_default-clause-inside c = tt

pub returns-in_default-clause-words : goal.returns-in_default-clause-words
returns-in_default-clause-words c = tt

pub count-requires : goal.count-requires
count-requires c = c.in-Some.ensures.frame

pub returns-then-count-population-clause-frame : goal.returns-then-count-population-clause-frame
returns-then-count-population-clause-frame c = tt

pub returns-then-count-population-clause-plane : goal.returns-then-count-population-clause-plane
returns-then-count-population-clause-plane c = tt

pub returns-then-count-population-clause-on : goal.returns-then-count-population-clause-on
returns-then-count-population-clause-on c = tt

pub returns-then-count-population-clause-inside : goal.returns-then-count-population-clause-inside
returns-then-count-population-clause-inside c = tt

pub returns-then-count-population-clause-words : goal.returns-then-count-population-clause-words
returns-then-count-population-clause-words c = tt

pub returns-clause-frame : goal.returns-clause-frame
returns-clause-frame c = c.in-Some.ensures.frame

pub returns-clause-plane : goal.returns-clause-plane
returns-clause-plane c = c.in-Some.ensures.plane

pub returns-clause-on : goal.returns-clause-on
returns-clause-on c = c.in-Some.ensures.on

pub returns-clause-inside : goal.returns-clause-inside
returns-clause-inside c = c.in-Some.ensures.inside

pub returns-clause-words : goal.returns-clause-words
returns-clause-words c = c.in-Some.ensures.words
