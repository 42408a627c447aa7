use Rattle.std.proofs.Common.{◌++◌}
use Rattle.plane_core.specs.plane.Rules.{rule_text}
use Rattle.plane_core.proofs.lemmas.OutputLemmas.{Writes_same, Writes_then, Writes_stops}
use Rattle.haul_core.specs.HaulTexts.{ended, profile_line}
use Rattle.haul_core.proofs.TextLemmas.{after_rule, after_seed, head_spelled}
use Rattle.haul_core.proofs.book.haul_text.put_head.Goals as goal

pub returns-in_err-put : goal.returns-in_err-put
returns-in_err-put g c =
    let job = c.args.job.now in
    Writes_same (head_spelled job) (Writes_stops (job.seed ++ after_seed job) c.from_residual.ensures.0 c.in_err-put.ensures)

pub returns-in_err-put-2 : goal.returns-in_err-put-2
returns-in_err-put-2 g c =
    let job = c.args.job.now in
    Writes_same (head_spelled job) (Writes_then c.in_ok-put.ensures
    (Writes_stops (after_seed job) c.from_residual-in_err-put-2.ensures.0 (Writes_same c.bytes.ensures.bytes c.in_err-put-2.ensures)))

pub returns-in_err-put-3 : goal.returns-in_err-put-3
returns-in_err-put-3 g c =
    let job = c.args.job.now in
    Writes_same (head_spelled job) (Writes_then c.in_ok-put.ensures (Writes_then (Writes_same c.bytes.ensures.bytes c.in_ok-put-2.ensures)
    (Writes_stops (rule_text job.rule ++ after_rule job) c.from_residual-in_err-put-3.ensures.0 c.in_err-put-3.ensures)))

pub returns-in_err-write_text : goal.returns-in_err-write_text
returns-in_err-write_text g c =
    let job = c.args.job.now in
    Writes_same (head_spelled job) (Writes_then c.in_ok-put.ensures (Writes_then (Writes_same c.bytes.ensures.bytes c.in_ok-put-2.ensures)
    (Writes_then c.in_ok-put-3.ensures (Writes_stops (after_rule job) c.from_residual-in_err-write_text.ensures.0 c.in_err-write_text.ensures.text))))

pub returns-in_err-put-4 : goal.returns-in_err-put-4
returns-in_err-put-4 g c =
    let job = c.args.job.now in
    Writes_same (head_spelled job) (Writes_then c.in_ok-put.ensures (Writes_then (Writes_same c.bytes.ensures.bytes c.in_ok-put-2.ensures)
    (Writes_then c.in_ok-put-3.ensures (Writes_then c.in_ok-write_text.ensures.text
    (Writes_stops (ended (profile_line job.profile)) c.from_residual-in_err-put-4.ensures.0 c.in_err-put-4.ensures)))))

pub returns : goal.returns
returns g c =
    Writes_same (head_spelled c.args.job.now) (Writes_then c.in_ok-put.ensures (Writes_then (Writes_same c.bytes.ensures.bytes c.in_ok-put-2.ensures)
    (Writes_then c.in_ok-put-3.ensures (Writes_then c.in_ok-write_text.ensures.text (Writes_then c.in_ok-put-4.ensures c.put_profile.ensures)))))
