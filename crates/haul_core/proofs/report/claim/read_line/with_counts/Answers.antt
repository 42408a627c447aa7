use Rattle.std.proofs.Common.{ℕ, List, Option, ◌≡◌, ◌<◌, ◌∙◌, ◌++◌, ◌∷◌, Some, None, [], ap, arith, length, length-append, option_map, subst, sym}
use Rattle.haul_core.specs.ClaimSteps.{HasCounts}
use Rattle.haul_core.specs.FieldSteps.{Cuts}
use Rattle.haul_core.specs.ReportLines.{claim_line}
use Rattle.haul_core.proofs.CountedLemmas.{counted_bad, counted_end, counted_first, counted_more}
use Rattle.haul_core.proofs.SpaceLemmas.{no_claim}
use Rattle.ranges.proofs.ListLemmas.{left_of}
use Rattle.haul_core.proofs.report.claim.read_line.with_counts.Goals as goal

-- after a cut, less of the line is left
less_left : (byte : ℕ) (here field : List ℕ) (more : Option (List ℕ)) → Cuts byte here field more → left_of more < left_of (Some here)
less_left byte here field None c = omega arith
less_left byte here field (Some remainder) c = omega (arith, ap length c.0, length-append field (byte ∷ remainder))

pub loop-remainder-init : goal.loop-remainder-init
loop-remainder-init c =
    let counts = option_map (λ r. r.now) c.args.counts in
    subst (λ items. HasCounts c.args.line.now c.args.start items None counts) (sym c.new-read.ensures.items)
    (counted_first c.args.line.now c.args.start counts c.requires.start)

pub unreachable-requires : goal.unreachable-requires
unreachable-requires c =
    let h = subst (λ o. HasCounts c.args.line.now c.args.start c.loop-remainder.read.items (option_map (λ r. r.now) c.loop-remainder.last) (option_map (λ r. r.now) o)) c.in-Some.is c.loop-remainder.invariant in
    no_claim c.args.line.now _
    (counted_bad c.args.line.now c.args.start c.loop-remainder.read.items (option_map (λ r. r.now) c.loop-remainder.last) c.in-Some.here.now c.cut_at.result.0.now
    (option_map (λ r. r.now) c.cut_at.result.1) h c.cut_at.ensures c.in_default-count_after.ensures) c.requires.line

pub loop-remainder-preserved : goal.loop-remainder-preserved
loop-remainder-preserved c =
    let h = subst (λ o. HasCounts c.args.line.now c.args.start c.loop-remainder.read.items (option_map (λ r. r.now) c.loop-remainder.last) (option_map (λ r. r.now) o)) c.in-Some.is c.loop-remainder.invariant in
    let told = c.in-Some-count_after.ensures in
    let object : List ℕ × ℕ = (c.in-Some-count_after.code.now, c.in-Some-count_after.count) in
    let pushed : c.push.new.self.items ≡ c.loop-remainder.read.items ++ (c.in-Some-count_after.code.now, c.in-Some-count_after.count) ∷ [] =
    c.in_ok-push.ensures.items ∙ (λ i. c.loop-remainder.read.items ++ (c.in_ok-make.ensures i, c.in-Some-count_after.count) ∷ []) in
    subst (λ items. HasCounts c.args.line.now c.args.start items (Some c.in-Some-count_after.code.now) (option_map (λ r. r.now) c.cut_at.result.1)) (sym pushed)
    (counted_more c.args.line.now c.args.start c.loop-remainder.read.items (option_map (λ r. r.now) c.loop-remainder.last) c.in-Some.here.now c.cut_at.result.0.now
    (option_map (λ r. r.now) c.cut_at.result.1) object h c.cut_at.ensures told.0 told.1)

pub returns-clause-line : goal.returns-clause-line
returns-clause-line c =
    let h = subst (λ o. HasCounts c.args.line.now c.args.start c.loop-remainder.read.items (option_map (λ r. r.now) c.loop-remainder.last) (option_map (λ r. r.now) o)) c.in_default.is c.loop-remainder.invariant in
    ap claim_line c.claim_of.ensures.claim ∙ counted_end c.args.line.now c.args.start c.loop-remainder.read.items (option_map (λ r. r.now) c.loop-remainder.last) h

pub returns-clause-lawful : goal.returns-clause-lawful
returns-clause-lawful c = c.claim_of.ensures.lawful

pub claim_of-requires : goal.claim_of-requires
claim_of-requires c = c.loop-remainder.invariant.lawful

pub loop-remainder-smaller : goal.loop-remainder-smaller
loop-remainder-smaller c =
    let more = option_map (λ r. r.now) c.cut_at.result.1 in
    subst (λ o. left_of more < left_of (option_map (λ r. r.now) o)) (sym c.in-Some.is)
    (less_left 32 c.in-Some.here.now c.cut_at.result.0.now more c.cut_at.ensures)
