use Rattle.std.proofs.Common.{◌≡◌, ◌≢◌, arith, codes, rules, sym}
use Rattle.haul_core.specs.ReportLines.{head_fields}
use Rattle.haul_core.proofs.HeadLemmas.{filled_number, filled_profile, filled_rule, filled_seed, filled_version, filled_report, filled_worker}
use Rattle.haul_core.proofs.report.claim.read_start.with_field.Goals as goal
use Rattle.haul_core.proofs.report.claim.read_start.with_field.Goals.{in-0+else-ne, in-1+in_ok-head-in-1, in-2+in_ok-head-in-2, in-3+in_ok-head-in-3}
use Rattle.haul_core.proofs.report.claim.read_start.with_field.Goals.{in-4+in_ok-head-in-4, in-5+in_ok-head-in-5, in_default+in_ok-head-in_default}

pub returns-then-ne : goal.returns-then-ne
returns-then-ne c =
    let other : c.args.field.now ≢ codes "report" = search rules in
    rw c.in-0.is (λ claim lawful e. other (sym e))

pub returns-in_err-head-in-1 : goal.returns-in_err-head-in-1
unfolding head_fields
returns-in_err-head-in-1 c =
    rw (c.in-1.is, c.from_residual.ensures) (λ claim lawful e. c.in_err-head-in-1.ensures claim.version lawful.version (sym e))

pub returns-in_err-head-in-2 : goal.returns-in_err-head-in-2
unfolding head_fields
returns-in_err-head-in-2 c =
    rw (c.in-2.is, c.from_residual-in_err-head-in-2.ensures) (λ claim lawful e. c.in_err-head-in-2.ensures claim.job.rule lawful.rule (sym e))

pub returns-in_err-head-in-3 : goal.returns-in_err-head-in-3
unfolding head_fields
returns-in_err-head-in-3 c =
    rw (c.in-3.is, c.from_residual-in_err-head-in-3.ensures) (λ claim lawful e. c.in_err-head-in-3.ensures claim.job.profile lawful.profile (sym e))

pub returns-in_err-head-in-4 : goal.returns-in_err-head-in-4
unfolding head_fields
returns-in_err-head-in-4 c =
    rw (c.in-4.is, c.from_residual-in_err-head-in-4.ensures) (λ claim lawful e. c.in_err-head-in-4.ensures claim.job.seed lawful.seed (sym e))

pub returns-in_err-head-in-5 : goal.returns-in_err-head-in-5
unfolding head_fields
returns-in_err-head-in-5 c =
    rw (c.in-5.is, c.from_residual-in_err-head-in-5.ensures) (λ claim lawful e. c.in_err-head-in-5.ensures claim.worker lawful.worker (sym e))

pub returns-in_err-head-in_default : goal.returns-in_err-head-in_default
unfolding head_fields
returns-in_err-head-in_default c =
    let last : c.args.place ≡ 6 = omega arith in
    rw (last, c.from_residual-in_err-head-in_default.ensures) (λ claim lawful e. c.in_err-head-in_default.ensures claim.number lawful.number (sym e))

pub returns : goal.returns
returns c =
    let head = c.args.head in
    let field = c.args.field.now in
    let h = c.requires.head in
    elim c.match-place.branch [
      | in-0+else-ne w ↦ let is : field ≡ codes "report" = search rules in rw (w.in-0.is, w.head-is) (filled_report head field h is)
      | in-1+in_ok-head-in-1 w ↦
          let told = w.in_ok-head-in-1 in
          rw (w.in-1.is, w.head-is) (filled_version head field told.field-0 h told.ensures.0 told.ensures.1)
      | in-2+in_ok-head-in-2 w ↦
          let told = w.in_ok-head-in-2 in
          rw (w.in-2.is, w.head-is) (filled_rule head field told.field-0 h told.ensures.0 told.ensures.1)
      | in-3+in_ok-head-in-3 w ↦
          let told = w.in_ok-head-in-3 in
          rw (w.in-3.is, w.head-is) (filled_profile head field told.field-0 h told.ensures.0 told.ensures.1)
      | in-4+in_ok-head-in-4 w ↦
          let told = w.in_ok-head-in-4 in
          rw (w.in-4.is, w.head-is) (filled_seed head field told.field-0 h told.ensures.0 told.ensures.1)
      | in-5+in_ok-head-in-5 w ↦
          let told = w.in_ok-head-in-5 in
          rw (w.in-5.is, w.head-is) (filled_worker head field told.field-0 h told.ensures.0 told.ensures.1)
      | in_default+in_ok-head-in_default w ↦
          let last : c.args.place ≡ 6 = omega arith in
          let told = w.in_ok-head-in_default in
          rw (last, w.head-is) (filled_number head field told.field-0 h told.ensures.0 told.ensures.1)
    ]
