use Rattle.std.proofs.Common.{◌++◌, FitsSigned, ap, rules, w32}
use Rattle.std.specs.Fmt.{signed_decimal}
use Rattle.plane_core.proofs.lemmas.OutputLemmas.{Writes_same, Writes_then, Writes_stops}
use Rattle.pattern_commands.specs.Sizes.{after_space}
use Rattle.pattern_commands.proofs.CoordinateLemmas.{shown}
use Rattle.pattern_commands.proofs.sizes.size.put_sides.Goals as goal

pub returns-in_err-put_number : goal.returns-in_err-put_number
returns-in_err-put_number g c =
    let b = c.in-Some.bounds in
    let fits : FitsSigned w32 b.left = search rules in
    rw c.in-Some.is
    (Writes_stops (after_space (signed_decimal b.top) ++ (after_space (signed_decimal b.right) ++ after_space (signed_decimal b.bottom))) c.from_residual.ensures.0
    (Writes_same (ap after_space (shown b.left fits)) c.in_err-put_number.ensures))

pub returns-in_err-put_number-2 : goal.returns-in_err-put_number-2
returns-in_err-put_number-2 g c =
    let b = c.in-Some.bounds in
    let left : FitsSigned w32 b.left = search rules in
    let top : FitsSigned w32 b.top = search rules in
    rw c.in-Some.is
    (Writes_then (Writes_same (ap after_space (shown b.left left)) c.in_ok-put_number.ensures)
    (Writes_stops (after_space (signed_decimal b.right) ++ after_space (signed_decimal b.bottom)) c.from_residual-in_err-put_number-2.ensures.0
    (Writes_same (ap after_space (shown b.top top)) c.in_err-put_number-2.ensures)))

pub returns-in_err-put_number-3 : goal.returns-in_err-put_number-3
returns-in_err-put_number-3 g c =
    let b = c.in-Some.bounds in
    let left : FitsSigned w32 b.left = search rules in
    let top : FitsSigned w32 b.top = search rules in
    let right : FitsSigned w32 b.right = search rules in
    rw c.in-Some.is
    (Writes_then (Writes_same (ap after_space (shown b.left left)) c.in_ok-put_number.ensures)
    (Writes_then (Writes_same (ap after_space (shown b.top top)) c.in_ok-put_number-2.ensures)
    (Writes_stops (after_space (signed_decimal b.bottom)) c.from_residual-in_err-put_number-3.ensures.0
    (Writes_same (ap after_space (shown b.right right)) c.in_err-put_number-3.ensures))))

pub returns : goal.returns
returns g c =
    let b = c.in-Some.bounds in
    let left : FitsSigned w32 b.left = search rules in
    let top : FitsSigned w32 b.top = search rules in
    let right : FitsSigned w32 b.right = search rules in
    let bottom : FitsSigned w32 b.bottom = search rules in
    rw c.in-Some.is
    (Writes_then (Writes_same (ap after_space (shown b.left left)) c.in_ok-put_number.ensures)
    (Writes_then (Writes_same (ap after_space (shown b.top top)) c.in_ok-put_number-2.ensures)
    (Writes_then (Writes_same (ap after_space (shown b.right right)) c.in_ok-put_number-3.ensures)
    (Writes_same (ap after_space (shown b.bottom bottom)) c.put_number-4.ensures))))
