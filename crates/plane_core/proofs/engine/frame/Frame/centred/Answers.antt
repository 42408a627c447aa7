use Rattle.std.proofs.Common.{refl, Option, Some, None}
use Rattle.std.specs.Prelude.{IfSome}
use Rattle.plane_core.specs.declared.plane.cell.Cell.{Cell}
use Rattle.plane_core.specs.declared.engine.frame.Frame.{Frame}
use Rattle.plane_core.specs.plane.Bounds.{IsWithin}
use Rattle.plane_core.specs.engine.Frames.{LieOn, bounds_of}
use Rattle.plane_core.proofs.lemmas.engine.FrameLemmas.{box_in_order, lie_on}
use Rattle.plane_core.proofs.engine.frame.Frame.centred.Goals as goal

weaker : (o : Option Frame) (P Q : Frame → Type 0) → ((at : Frame) → P at → Q at) → IfSome o P → IfSome o Q
weaker (Some at) P Q h p = h at p
weaker None P Q h p = tt

pub round_middle-requires-clause-across : goal.round_middle-requires-clause-across
round_middle-requires-clause-across c = (box_in_order c.args.pattern.now c.in-Some.bounds c.in-Some.ensures.least).0

pub round_middle-requires-clause-down : goal.round_middle-requires-clause-down
round_middle-requires-clause-down c = (box_in_order c.args.pattern.now c.in-Some.bounds c.in-Some.ensures.least).1

pub returns-in_default-clause-frame : goal.returns-in_default-clause-frame
returns-in_default-clause-frame c = c.requires.frame

pub returns-in_default-clause-plane : goal.returns-in_default-clause-plane
returns-in_default-clause-plane c = c.requires.plane

pub returns-in_default-clause-word_columns : goal.returns-in_default-clause-word_columns
returns-in_default-clause-word_columns c = refl

pub returns-in_default-clause-rows : goal.returns-in_default-clause-rows
returns-in_default-clause-rows c = refl

pub round_middle-requires-clause-frame : goal.round_middle-requires-clause-frame
round_middle-requires-clause-frame c = c.requires.frame

pub returns-clause-frame : goal.returns-clause-frame
returns-clause-frame c = c.round_middle.ensures.frame

pub returns-clause-plane : goal.returns-clause-plane
returns-clause-plane c = c.round_middle.ensures.plane

pub returns-clause-word_columns : goal.returns-clause-word_columns
returns-clause-word_columns c = c.round_middle.ensures.word_columns

pub returns-clause-rows : goal.returns-clause-rows
returns-clause-rows c = c.round_middle.ensures.rows

pub returns-clause-on : goal.returns-clause-on
returns-clause-on c =
    weaker c.round_middle.result (λ at. (x : Cell) → IsWithin c.in-Some.bounds x → IsWithin (bounds_of at) x) (λ at. LieOn at c.args.pattern.now) (λ at on. lie_on c.args.pattern.now c.in-Some.bounds at c.in-Some.ensures.least on) c.round_middle.ensures.on
