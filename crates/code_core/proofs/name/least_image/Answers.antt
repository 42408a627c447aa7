use Rattle.std.proofs.Common.{◌≡◌, rules, length}
use Rattle.code_core.specs.Least.{IsImageAt}
use Rattle.code_core.proofs.LeastLemmas.{least_of_more, least_of_one}
use Rattle.code_core.proofs.name.least_image.Goals as goal

-- the least text after one more image is the earlier of two texts: the least text so far, and the text of that image
pub loop-orientation-preserved : goal.loop-orientation-preserved
loop-orientation-preserved c =
    rw (c.earlier-least.ensures, c.in_ok-found.ensures) (least_of_more (IsImageAt c.args.orientations.now c.args.pattern.now)
    c.loop-orientation.orientation-index _ _ c.loop-orientation.invariant (least_of_one _))

pub returns : goal.returns
returns c =
    let all : c.loop-orientation.orientation-index ≡ length c.args.orientations.now = search rules in
    rw (← all) c.loop-orientation.invariant
