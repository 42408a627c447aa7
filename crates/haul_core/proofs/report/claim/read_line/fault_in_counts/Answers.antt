use Rattle.std.proofs.Common.{ℕ, List, ◌++◌, ◌∷◌, [], option_map, subst, sym}
use Rattle.haul_core.specs.Claims.{IsFirstFaultOf}
use Rattle.haul_core.specs.ClaimSteps.{HasCounts}
use Rattle.haul_core.proofs.CountedLemmas.{counted_bad, counted_claim, counted_first, counted_more}
use Rattle.haul_core.proofs.SpaceLemmas.{no_claim}
use Rattle.haul_core.proofs.report.claim.read_line.fault_in_counts.Goals as goal

pub loop-remainder-init : goal.loop-remainder-init
loop-remainder-init c = (c.requires.0, [], counted_first c.args.line.now c.requires.0 (option_map (λ r. r.now) c.args.counts) c.requires.1)

pub returns-in_default-count_after-clause-fault : goal.returns-in_default-count_after-clause-fault
returns-in_default-count_after-clause-fault c =
    let i = c.loop-remainder.invariant in
    let h = subst (λ o. HasCounts c.args.line.now i.0 i.1 (option_map (λ r. r.now) c.loop-remainder.last) (option_map (λ r. r.now) o)) c.in-Some.is i.2 in
    subst (IsFirstFaultOf c.args.line.now) (sym c.place_of.ensures)
    (counted_bad c.args.line.now i.0 i.1 (option_map (λ r. r.now) c.loop-remainder.last) c.in-Some.here.now c.cut_at.result.0.now
    (option_map (λ r. r.now) c.cut_at.result.1) h c.cut_at.ensures c.in_default-count_after.ensures)

pub returns-in_default-count_after-clause-refused : goal.returns-in_default-count_after-clause-refused
returns-in_default-count_after-clause-refused c =
    let i = c.loop-remainder.invariant in
    let h = subst (λ o. HasCounts c.args.line.now i.0 i.1 (option_map (λ r. r.now) c.loop-remainder.last) (option_map (λ r. r.now) o)) c.in-Some.is i.2 in
    no_claim c.args.line.now c.place_of.result (subst (IsFirstFaultOf c.args.line.now) (sym c.place_of.ensures)
    (counted_bad c.args.line.now i.0 i.1 (option_map (λ r. r.now) c.loop-remainder.last) c.in-Some.here.now c.cut_at.result.0.now
    (option_map (λ r. r.now) c.cut_at.result.1) h c.cut_at.ensures c.in_default-count_after.ensures))

pub loop-remainder-preserved : goal.loop-remainder-preserved
loop-remainder-preserved c =
    let i = c.loop-remainder.invariant in
    let h = subst (λ o. HasCounts c.args.line.now i.0 i.1 (option_map (λ r. r.now) c.loop-remainder.last) (option_map (λ r. r.now) o)) c.in-Some.is i.2 in
    let told = c.in-Some-count_after.ensures in
    let object : List ℕ × ℕ = (c.in-Some-count_after.code.now, c.in-Some-count_after.field-0-1) in (
      i.0,
      i.1 ++ object ∷ [],
      counted_more c.args.line.now i.0 i.1 (option_map (λ r. r.now) c.loop-remainder.last) c.in-Some.here.now c.cut_at.result.0.now
          (option_map (λ r. r.now) c.cut_at.result.1) object h c.cut_at.ensures told.0 told.1,
    )

pub returns-clause-none : goal.returns-clause-none
returns-clause-none c =
    let i = c.loop-remainder.invariant in
    let h = subst (λ o. HasCounts c.args.line.now i.0 i.1 (option_map (λ r. r.now) c.loop-remainder.last) (option_map (λ r. r.now) o)) c.in_default.is i.2 in
    counted_claim c.args.line.now i.0 i.1 (option_map (λ r. r.now) c.loop-remainder.last) h
