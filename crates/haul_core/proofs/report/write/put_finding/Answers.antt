use Rattle.std.proofs.Common.{◌≡◌, ◌∙◌, ◌++◌, ℕ, Bool, List, Some, ap, codes, decimal, flat_map, sym}
use Rattle.plane_core.proofs.lemmas.OutputLemmas.{Writes_same, Writes_then, Writes_stops}
use Rattle.survey_core.specs.declared.finding.Finding.{Finding}
use Rattle.survey_core.specs.declared.finding.Finding.TheVariants.{Settled}
use Rattle.haul_core.specs.HaulTexts.{spaced}
use Rattle.haul_core.specs.ReportLines.{found_fields, mark_fields, said_of}
use Rattle.haul_core.proofs.ReportLemmas.{counts_text, said_spelled, unsettled_spelled}
use Rattle.haul_core.proofs.report.write.put_finding.Goals as goal

settled : (finding : Finding) (checkpoint : ℕ) (objects : List (List ℕ × ℕ)) (for_good : Bool) → finding ≡ Settled checkpoint objects for_good
    → (codes " at=" ++ decimal checkpoint) ++ (flat_map spaced (mark_fields (Some for_good)) ++ counts_text objects)
    ≡ flat_map spaced (found_fields (said_of 2 finding))
settled finding checkpoint objects for_good is =
    said_spelled checkpoint for_good objects ∙ ap (λ f. flat_map spaced (found_fields (said_of 2 f))) (sym is)

pub returns-in_err-put_number-in-Settled : goal.returns-in_err-put_number-in-Settled
returns-in_err-put_number-in-Settled g c =
    let s = c.in-Settled in
    Writes_same (settled c.args.finding.now s.checkpoint s.objects s.for_good s.is)
    (Writes_stops (flat_map spaced (mark_fields (Some s.for_good)) ++ counts_text s.objects) c.from_residual.ensures.0
    c.in_err-put_number-in-Settled.ensures)

pub returns-in_err-put_mark-in-Settled : goal.returns-in_err-put_mark-in-Settled
returns-in_err-put_mark-in-Settled g c =
    let s = c.in-Settled in
    Writes_same (settled c.args.finding.now s.checkpoint s.objects s.for_good s.is) (Writes_then c.in_ok-put_number-in-Settled.ensures
    (Writes_stops (counts_text s.objects) c.from_residual-in_err-put_mark-in-Settled.ensures.0 c.in_err-put_mark-in-Settled.ensures))

pub returns-in_ok-put_mark-in-Settled : goal.returns-in_ok-put_mark-in-Settled
returns-in_ok-put_mark-in-Settled g c =
    let s = c.in-Settled in
    let counts = ap counts_text c.as_slice.ensures.objects in
    Writes_same (settled c.args.finding.now s.checkpoint s.objects s.for_good s.is) (Writes_then c.in_ok-put_number-in-Settled.ensures
    (Writes_then c.in_ok-put_mark-in-Settled.ensures (Writes_same counts c.put_counts.ensures)))

pub returns-in-Unsettled : goal.returns-in-Unsettled
returns-in-Unsettled g c =
    Writes_same (unsettled_spelled ∙ ap (λ finding. flat_map spaced (found_fields (said_of 2 finding))) (sym c.in-Unsettled.is)) c.put.ensures
