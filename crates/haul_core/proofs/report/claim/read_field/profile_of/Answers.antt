use Rattle.std.proofs.Common.{◌≡◌, ◌∙◌, ◌++◌, ◌∷◌, [], ap, arith, decimal, sym}
use Rattle.survey_core.specs.Profiles.{profile_of}
use Rattle.haul_core.proofs.CountLemmas.{are_small, profile_accepted, same_first}
use Rattle.haul_core.proofs.FieldLemmas.{one_number}
use Rattle.haul_core.proofs.report.claim.read_field.profile_of.Goals as goal

pub returns-in_err-horizon : goal.returns-in_err-horizon
returns-in_err-horizon c =
    rw c.from_residual-in_err-horizon.ensures (λ p lawful e.
    let small = are_small p lawful in
    let one = c.in_ok-period.ensures in
    let first = same_first c.args.text.now c.in_ok-period.remainder.now (decimal p.horizon ++ 44 ∷ (decimal p.stride ++ 44 ∷ decimal p.limit))
    c.in_ok-period.period p.period
    one.0 small.period one.1 e in
    c.in_err-horizon.ensures p.horizon (decimal p.stride ++ 44 ∷ decimal p.limit) small.horizon first.1)

pub returns-in_err-stride : goal.returns-in_err-stride
returns-in_err-stride c =
    rw c.from_residual-in_err-stride.ensures (λ p lawful e.
    let small = are_small p lawful in
    let one = c.in_ok-period.ensures in
    let two = c.in_ok-horizon.ensures in
    let first = same_first c.args.text.now c.in_ok-period.remainder.now (decimal p.horizon ++ 44 ∷ (decimal p.stride ++ 44 ∷ decimal p.limit))
    c.in_ok-period.period p.period
    one.0 small.period one.1 e in
    let second = same_first c.in_ok-period.remainder.now c.in_ok-horizon.remainder.now (decimal p.stride ++ 44 ∷ decimal p.limit) c.in_ok-horizon.horizon p.horizon
    two.0 small.horizon two.1 first.1 in
    c.in_err-stride.ensures p.stride (decimal p.limit) small.stride second.1)

pub returns-in_err-limit : goal.returns-in_err-limit
returns-in_err-limit c =
    rw c.from_residual-in_err-limit.ensures (λ p lawful e.
    let small = are_small p lawful in
    let one = c.in_ok-period.ensures in
    let two = c.in_ok-horizon.ensures in
    let three = c.in_ok-stride.ensures in
    let first = same_first c.args.text.now c.in_ok-period.remainder.now (decimal p.horizon ++ 44 ∷ (decimal p.stride ++ 44 ∷ decimal p.limit))
    c.in_ok-period.period p.period
    one.0 small.period one.1 e in
    let second = same_first c.in_ok-period.remainder.now c.in_ok-horizon.remainder.now (decimal p.stride ++ 44 ∷ decimal p.limit) c.in_ok-horizon.horizon p.horizon
    two.0 small.horizon two.1 first.1 in
    let third = same_first c.in_ok-horizon.remainder.now c.in_ok-stride.remainder.now (decimal p.limit)
    c.in_ok-stride.stride p.stride three.0 small.stride three.1 second.1 in
    c.in_err-limit.ensures p.limit small.limit third.1)

pub returns-in-Err : goal.returns-in-Err
returns-in-Err c =
    λ p lawful e.
    let small = are_small p lawful in
    let one = c.in_ok-period.ensures in
    let two = c.in_ok-horizon.ensures in
    let three = c.in_ok-stride.ensures in
    let four = c.in_ok-limit.ensures in
    let first = same_first c.args.text.now c.in_ok-period.remainder.now (decimal p.horizon ++ 44 ∷ (decimal p.stride ++ 44 ∷ decimal p.limit))
    c.in_ok-period.period p.period
    one.0 small.period one.1 e in
    let second = same_first c.in_ok-period.remainder.now c.in_ok-horizon.remainder.now (decimal p.stride ++ 44 ∷ decimal p.limit) c.in_ok-horizon.horizon p.horizon
    two.0 small.horizon two.1 first.1 in
    let third = same_first c.in_ok-horizon.remainder.now c.in_ok-stride.remainder.now (decimal p.limit)
    c.in_ok-stride.stride p.stride three.0 small.stride three.1 second.1 in
    let last : c.in_ok-limit.limit ≡ p.limit = one_number [] c.in_ok-stride.remainder.now c.in_ok-limit.limit p.limit
    (let a = four.0 in omega arith) (let b = small.limit in omega arith) four.1 third.1 in
    let same : p ≡ record { period = c.in_ok-period.period; horizon = c.in_ok-horizon.horizon; stride = c.in_ok-stride.stride; limit = c.in_ok-limit.limit } =
    (λ i. record { period = sym first.0 i; horizon = sym second.0 i; stride = sym third.0 i; limit = sym last i }) in
    let told = sym (profile_accepted p lawful) ∙ ap profile_of same ∙ sym c.new.ensures ∙ c.in-Err.is in
    absurd (cc)
