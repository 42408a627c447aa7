use Rattle.std.proofs.Common.{◌≡◌, ◌∙◌, subst, List, ◌<◌, [], get_or, option_map, string_bytes, rules, length}
use Rattle.std.proofs.lemmas.List.{get_or_default}
use Rattle.plane_core.specs.declared.plane.cell.Cell.{Cell}
use Rattle.plane_core.specs.plane.Orientations.{orientations}
use Rattle.code_core.specs.Names.{IsLeastOf}
use Rattle.code_core.specs.Least.{Among, IsImage, IsImageAt, IsImageOf}
use Rattle.code_core.proofs.LeastLemmas.{least_of_all, least_of_more}
use Rattle.code_core.proofs.name.least_text.Goals as goal

-- the least text after one more phase is the earlier of two texts: the least text so far, and that phase's least text
pub loop-phase-preserved : goal.loop-phase-preserved
loop-phase-preserved c =
    let low : c.loop-phase.phase-index < length c.args.phases.now = search rules in
    let phase : c.phase-item.result ≡ get_or c.args.phases.now c.loop-phase.phase-index [] = c.phase-item.is
    ∙ get_or_default c.args.phases.now c.loop-phase.phase-index c.phase-item.result [] low in
    let found : IsLeastOf (Among (IsImageAt orientations c.phase-item.result) 8) (option_map string_bytes c.in_ok-found.found) =
    rw c.orientations.ensures at c.in_ok-found.ensures in
    let here : IsLeastOf (IsImageOf c.args.phases.now c.loop-phase.phase-index) (option_map string_bytes c.in_ok-found.found) =
    subst (λ (cells : List Cell). IsLeastOf (IsImage cells) (option_map string_bytes c.in_ok-found.found)) phase (least_of_all c.phase-item.result _ found) in
    rw (c.earlier-least.ensures) (least_of_more (IsImageOf c.args.phases.now) c.loop-phase.phase-index _ _ c.loop-phase.invariant here)

pub returns : goal.returns
returns c =
    let all : c.loop-phase.phase-index ≡ length c.args.phases.now = search rules in
    rw (← all) c.loop-phase.invariant
