use Rattle.std.proofs.Common.{◌≡◌, FitsSigned, pos, rules, w64}
use Rattle.std.proofs.lemmas.Int.{to_z-of_z}
use Rattle.survey_core.specs.shapes.Envelopes.{is_past}
use Rattle.survey_core.proofs.lemmas.shapes.EnvelopeLemmas.{past_by, past_from}
use Rattle.survey_core.proofs.shapes.envelope_bounds.Gaps.between.Goals as goal

pub is_past-requires-clause-begin : goal.is_past-requires-clause-begin
is_past-requires-clause-begin c =
    let fits : FitsSigned w64 c.args.offset.x = search rules in
    rw (to_z-of_z w64 c.args.offset.x fits) c.requires.across

pub is_past-requires-2-clause-end : goal.is_past-requires-2-clause-end
is_past-requires-2-clause-end c =
    let fits : FitsSigned w64 c.args.offset.x = search rules in
    rw (to_z-of_z w64 c.args.offset.x fits) c.requires.across

pub is_past-requires-3-clause-begin : goal.is_past-requires-3-clause-begin
is_past-requires-3-clause-begin c =
    let fits : FitsSigned w64 c.args.offset.y = search rules in
    rw (to_z-of_z w64 c.args.offset.y fits) c.requires.down

pub is_past-requires-4-clause-end : goal.is_past-requires-4-clause-end
is_past-requires-4-clause-end c =
    let fits : FitsSigned w64 c.args.offset.y = search rules in
    rw (to_z-of_z w64 c.args.offset.y fits) c.requires.down

pub returns : goal.returns
returns c =
    let one = c.args.one in
    let other = c.args.other in
    let by = c.args.offset in
    let right : c.is_past.result ≡ is_past one.right (pos 0) other.left by.x =
    past_by _ one.right other.left by.x (search rules) (search rules) (search rules) c.is_past.ensures in
    let left : c.is_past-2.result ≡ is_past other.right by.x one.left (pos 0) =
    past_from _ other.right by.x one.left (search rules) (search rules) (search rules) c.is_past-2.ensures in
    let below : c.is_past-3.result ≡ is_past one.bottom (pos 0) other.top by.y =
    past_by _ one.bottom other.top by.y (search rules) (search rules) (search rules) c.is_past-3.ensures in
    let above : c.is_past-4.result ≡ is_past other.bottom by.y one.top (pos 0) =
    past_from _ other.bottom by.y one.top (search rules) (search rules) (search rules) c.is_past-4.ensures in
    λ i. record { right = right i; left = left i; below = below i; above = above i }
