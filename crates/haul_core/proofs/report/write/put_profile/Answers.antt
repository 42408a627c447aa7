use Rattle.std.proofs.Common.{ap, ◌++◌, codes, decimal}
use Rattle.plane_core.proofs.lemmas.OutputLemmas.{Writes_same, Writes_then, Writes_stops}
use Rattle.haul_core.proofs.ReportLemmas.{after_horizon, after_period, after_stride, profile_spelled}
use Rattle.haul_core.proofs.report.write.put_profile.Goals as goal

pub returns-in_err-put_number : goal.returns-in_err-put_number
returns-in_err-put_number g c =
    let p = c.args.profile.now in
    let period = ap (λ n. codes " profile=" ++ decimal n) c.period.ensures.period in
    Writes_same (profile_spelled p) (Writes_stops (after_period p) c.from_residual.ensures.0 (Writes_same period c.in_err-put_number.ensures))

pub returns-in_err-put_number-2 : goal.returns-in_err-put_number-2
returns-in_err-put_number-2 g c =
    let p = c.args.profile.now in
    let period = ap (λ n. codes " profile=" ++ decimal n) c.period.ensures.period in
    let horizon = ap (λ n. codes "," ++ decimal n) c.horizon.ensures.horizon in
    Writes_same (profile_spelled p) (Writes_then (Writes_same period c.in_ok-put_number.ensures)
    (Writes_stops (after_horizon p) c.from_residual-in_err-put_number-2.ensures.0 (Writes_same horizon c.in_err-put_number-2.ensures)))

pub returns-in_err-put_number-3 : goal.returns-in_err-put_number-3
returns-in_err-put_number-3 g c =
    let p = c.args.profile.now in
    let period = ap (λ n. codes " profile=" ++ decimal n) c.period.ensures.period in
    let horizon = ap (λ n. codes "," ++ decimal n) c.horizon.ensures.horizon in
    let stride = ap (λ n. codes "," ++ decimal n) c.stride.ensures.stride in
    Writes_same (profile_spelled p) (Writes_then (Writes_same period c.in_ok-put_number.ensures)
    (Writes_then (Writes_same horizon c.in_ok-put_number-2.ensures)
    (Writes_stops (after_stride p) c.from_residual-in_err-put_number-3.ensures.0 (Writes_same stride c.in_err-put_number-3.ensures))))

pub returns : goal.returns
returns g c =
    let p = c.args.profile.now in
    let period = ap (λ n. codes " profile=" ++ decimal n) c.period.ensures.period in
    let horizon = ap (λ n. codes "," ++ decimal n) c.horizon.ensures.horizon in
    let stride = ap (λ n. codes "," ++ decimal n) c.stride.ensures.stride in
    let limit = ap (λ n. codes "," ++ decimal n) c.limit.ensures.limit in
    Writes_same (profile_spelled p) (Writes_then (Writes_same period c.in_ok-put_number.ensures)
    (Writes_then (Writes_same horizon c.in_ok-put_number-2.ensures)
    (Writes_then (Writes_same stride c.in_ok-put_number-3.ensures) (Writes_same limit c.put_number-4.ensures))))
