use Rattle.std.proofs.Common.{◌≡◌, ◌∷◌, [], ◌++◌, ◌-◌, ◌<◌, ◌≤◌, ℕ, min, replicate, take, arith, ap, Ok, Err}
use Rattle.std.proofs.lemmas.List.{take-replicate}
use Rattle.plane_core.proofs.lemmas.OutputLemmas.{Writes_then, Writes_stops}
use Rattle.plane_core.proofs.lemmas.plaintext.PlaintextWriting.{Writes_as, replicate_more, replicate_more_remainder}
use Rattle.plane_core.specs.PlaintextPlaces.{dot}
use Rattle.plane_core.proofs.plaintext.put_after_gap.Goals as goal

-- `some` dead cells are written at once: all that are left, up to 64
module _ (some left : ℕ) (is : some ≡ min left 64) where
  in_table : some ≤ 64
  in_table = omega (arith, is)

  not_more : some ≤ left
  not_more = omega (arith, is)

  fewer : 0 < left → left - some < left
  fewer any = omega (arith, is, any)

  from_table : take some (replicate 64 dot) ≡ replicate some dot
  from_table = take-replicate some 64 dot in_table

pub returns-in_err-put : goal.returns-in_err-put
returns-in_err-put g c =
    let left = c.loop-left.left in
    let some = c.min-some.result in
    Writes_as {r = c.from_residual.result} (replicate_more_remainder (c.args.gap - left) some (left - some) c.args.gap dot (c.args.byte ∷ []) (omega arith))
    (Writes_stops (replicate (left - some) dot ++ c.args.byte ∷ []) c.from_residual.ensures.0
    (Writes_then {r = Err c.in_err-put.field-0.0} c.loop-left.invariant.1 (Writes_as {r = Err c.in_err-put.field-0.0} (from_table some left c.min-some.ensures) c.in_err-put.ensures)))

pub loop-left-preserved : goal.loop-left-preserved
loop-left-preserved g c =
    let left = c.loop-left.left in
    let some = c.min-some.result in (
      omega arith,
      Writes_as {r = Ok tt} (replicate_more (c.args.gap - left) some (c.args.gap - (left - some)) dot (omega arith))
          (Writes_then {r = Ok tt} c.loop-left.invariant.1 (Writes_as {r = Ok tt} (from_table some left c.min-some.ensures) c.in_ok-put.ensures)),
    )

pub returns : goal.returns
returns g c =
    Writes_as {r = c.put-2.result} (ap (λ n. replicate n dot ++ c.args.byte ∷ []) (omega arith)) (Writes_then {r = c.put-2.result} c.loop-left.invariant.1 c.put-2.ensures)

pub overflow_sub-left : goal.overflow_sub-left
overflow_sub-left g c = not_more c.min-some.result c.loop-left.left c.min-some.ensures

pub loop-left-smaller : goal.loop-left-smaller
loop-left-smaller g c = fewer c.min-some.result c.loop-left.left c.min-some.ensures c.loop-left-test.true

pub put-requires : goal.put-requires
put-requires g c = c.loop-left.invariant.1.remembers

pub put-requires-2 : goal.put-requires-2
put-requires-2 g c = c.loop-left.invariant.1.remembers
