use Rattle.std.proofs.Common.{◌++◌, ◌∙◌, ap, codes, decimal}
use Rattle.plane_core.specs.plane.Rules.{rule_text}
use Rattle.plane_core.proofs.lemmas.OutputLemmas.{Writes_same, Writes_then, Writes_stops}
use Rattle.survey_core.specs.declared.job.Job.{Job}
use Rattle.haul_core.specs.HaulTexts.{spaced}
use Rattle.haul_core.specs.ReportLines.{profile_field}
use Rattle.haul_core.proofs.ReportLemmas.{after_profile, after_rule, after_seed, head_spelled, soup_word}
use Rattle.haul_core.proofs.report.write.put_head.Goals as goal

pub returns-in_err-put : goal.returns-in_err-put
returns-in_err-put g c =
    let r = c.args.report.now in
    Writes_same (head_spelled r) (Writes_stops (rule_text r.job.rule ++ after_rule r) c.from_residual.ensures.0 c.in_err-put.ensures)

pub returns-in_err-write_text : goal.returns-in_err-write_text
returns-in_err-write_text g c =
    let r = c.args.report.now in
    let rule = ap (λ (j : Job). rule_text j.rule) c.job-job.ensures in
    Writes_same (head_spelled r) (Writes_then c.in_ok-put.ensures
    (Writes_stops (after_rule r) c.from_residual-in_err-write_text.ensures.0 (Writes_same rule c.in_err-write_text.ensures.text)))

pub returns-in_err-put_profile : goal.returns-in_err-put_profile
returns-in_err-put_profile g c =
    let r = c.args.report.now in
    let rule = ap (λ (j : Job). rule_text j.rule) c.job-job.ensures in
    let profile = ap (λ (j : Job). spaced (profile_field j.profile)) c.job-job.ensures in
    Writes_same (head_spelled r) (Writes_then c.in_ok-put.ensures (Writes_then (Writes_same rule c.in_ok-write_text.ensures.text)
    (Writes_stops (after_profile r) c.from_residual-in_err-put_profile.ensures.0 (Writes_same profile c.in_err-put_profile.ensures))))

pub returns-in_err-put-2 : goal.returns-in_err-put-2
returns-in_err-put-2 g c =
    let r = c.args.report.now in
    let rule = ap (λ (j : Job). rule_text j.rule) c.job-job.ensures in
    let profile = ap (λ (j : Job). spaced (profile_field j.profile)) c.job-job.ensures in
    Writes_same (head_spelled r) (Writes_then c.in_ok-put.ensures (Writes_then (Writes_same rule c.in_ok-write_text.ensures.text)
    (Writes_then (Writes_same profile c.in_ok-put_profile.ensures)
    (Writes_stops (r.job.seed ++ after_seed r) c.from_residual-in_err-put-2.ensures.0 c.in_err-put-2.ensures))))

pub returns-in_err-put-3 : goal.returns-in_err-put-3
returns-in_err-put-3 g c =
    let r = c.args.report.now in
    let rule = ap (λ (j : Job). rule_text j.rule) c.job-job.ensures in
    let profile = ap (λ (j : Job). spaced (profile_field j.profile)) c.job-job.ensures in
    let seed = c.bytes.ensures.bytes ∙ ap (λ (j : Job). j.seed) c.job-job.ensures in
    Writes_same (head_spelled r) (Writes_then c.in_ok-put.ensures (Writes_then (Writes_same rule c.in_ok-write_text.ensures.text)
    (Writes_then (Writes_same profile c.in_ok-put_profile.ensures) (Writes_then c.in_ok-put-2.ensures
    (Writes_stops (after_seed r) c.from_residual-in_err-put-3.ensures.0 (Writes_same seed c.in_err-put-3.ensures))))))

pub returns-in_err-put_number : goal.returns-in_err-put_number
returns-in_err-put_number g c =
    let r = c.args.report.now in
    let rule = ap (λ (j : Job). rule_text j.rule) c.job-job.ensures in
    let profile = ap (λ (j : Job). spaced (profile_field j.profile)) c.job-job.ensures in
    let seed = c.bytes.ensures.bytes ∙ ap (λ (j : Job). j.seed) c.job-job.ensures in
    let worker = ap (λ n. codes " worker=" ++ decimal n) c.worker.ensures.worker in
    Writes_same (head_spelled r) (Writes_then c.in_ok-put.ensures (Writes_then (Writes_same rule c.in_ok-write_text.ensures.text)
    (Writes_then (Writes_same profile c.in_ok-put_profile.ensures) (Writes_then c.in_ok-put-2.ensures (Writes_then (Writes_same seed c.in_ok-put-3.ensures)
    (Writes_stops (soup_word r) c.from_residual-in_err-put_number.ensures.0 (Writes_same worker c.in_err-put_number.ensures)))))))

pub returns : goal.returns
returns g c =
    let r = c.args.report.now in
    let rule = ap (λ (j : Job). rule_text j.rule) c.job-job.ensures in
    let profile = ap (λ (j : Job). spaced (profile_field j.profile)) c.job-job.ensures in
    let seed = c.bytes.ensures.bytes ∙ ap (λ (j : Job). j.seed) c.job-job.ensures in
    let worker = ap (λ n. codes " worker=" ++ decimal n) c.worker.ensures.worker in
    let soup = ap (λ n. codes " soup=" ++ decimal n) c.number.ensures.number in
    Writes_same (head_spelled r) (Writes_then c.in_ok-put.ensures (Writes_then (Writes_same rule c.in_ok-write_text.ensures.text)
    (Writes_then (Writes_same profile c.in_ok-put_profile.ensures) (Writes_then c.in_ok-put-2.ensures (Writes_then (Writes_same seed c.in_ok-put-3.ensures)
    (Writes_then (Writes_same worker c.in_ok-put_number.ensures) (Writes_same soup c.put_number-2.ensures)))))))
