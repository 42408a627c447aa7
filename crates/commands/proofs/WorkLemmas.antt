-- Lemmas about `work`: the lines of reports are written one after another, and they are the only correct text.
use Rattle.std.proofs.Common.{◌≡◌, ◌∙◌, ◌+◌, ◌-◌, ◌<◌, ◌≤◌, ◌++◌, ℕ, zero, suc, Bool, true, false, List, [], ◌∷◌, Option, Ok, Err, flat_map, refl, sym, ap, ap₂}
use Rattle.std.proofs.Common.{IfErr, length, take, drop, get_or, inr, subst, arith, append_assoc, append-nil, add-zero, zero-add}
use Rattle.std.proofs.lemmas.List.{take-append-drop, take_more}
use Rattle.std.proofs.lemmas.List.Concat.{flat_map-append}
use Rattle.std.specs.List.{range_with_len}
use Rattle.std.specs.Io.KnownBytes.{Appends}
use Rattle.memory.specs.declared.OutOfMemory.{OutOfMemory}
use Rattle.memory.specs.Witness.{out_of_memory}
use Rattle.plane_core.specs.declared.output.WriteError.{WriteError}
use Rattle.plane_core.proofs.lemmas.OutputLemmas.{Appends-append, Appends-nil, AppendsPrefix-append, AppendsPrefix-longer}
use Rattle.survey_core.specs.declared.job.Job.{Job}
use Rattle.survey_core.specs.FindingLaws.{FindingsAreDetermined}
use Rattle.survey_core.specs.Findings.{IsFinding}
use Rattle.survey_core.specs.Soups.{soup}
use Rattle.ranges.specs.declared.range.Range.{Range}
use Rattle.ranges.specs.Ranges.{AreSmall, OneNormalForm, Overlap, is_in}
use Rattle.haul_core.specs.ReportLines.{report_text}
use Rattle.haul_core.specs.Reports.{Reported}
use Rattle.pattern_commands.specs.declared.ending.complaint.Complaint.{Complaint}
use Rattle.pattern_commands.specs.declared.ending.complaint.Complaint.TheVariants.{Refused, Memory, ReadFailed, TooLong, WriteFailed}
use Rattle.requests.specs.declared.plan.Plan.{Plan}
use Rattle.requests.specs.declared.plan.SoupSet.{SoupSet}
use Rattle.pattern_commands.specs.Answers.{Answer, Right, output_text}
use Rattle.commands.specs.SoupSets.{Bad_list, Overlapping, Too_large, IsRightForSet, job_named}
use Rattle.pattern_commands.specs.Streams.{Stream, Has, HasPrefix}
use Rattle.haul_core.specs.Missing.{numbers_of_range, numbers_of}
use Rattle.commands.specs.TakeSteps.{AreNormalRanges}
use Rattle.pattern_commands.specs.TextSteps.{ReachesText, TextOutcome}
use Rattle.commands.specs.Work.{AreReportsOn, IsReportOn, TellsReports, work_right}
use Rattle.commands.specs.WorkSteps.{EndsAtLine, IsBegun, Puts, reports_on}
use Rattle.commands.proofs.NumberLemmas.{range_more}
use Rattle.commands.proofs.TakeLemmas.{listed}

-- a stream with these bytes before and after, on which a write may have failed
abbrev pub over : Option (List ℕ) → Option (List ℕ) → Bool → Stream
over before after failed = record { before = before; after = after; failed = failed }

lines-append : (one two : List Reported) → flat_map report_text (one ++ two) ≡ flat_map report_text one ++ flat_map report_text two
lines-append one two = flat_map-append report_text one two

each-append : (job : Job) (worker : ℕ) (ns ms : List ℕ) (rs ss : List Reported) → AreReportsOn job worker ns rs → AreReportsOn job worker ms ss
    → AreReportsOn job worker (ns ++ ms) (rs ++ ss)
each-append job worker [] ms [] ss one two = two
each-append job worker [] ms (r ∷ rs) ss one two = absurd one
each-append job worker (n ∷ ns) ms [] ss one two = absurd one
each-append job worker (n ∷ ns) ms (r ∷ rs) ss one two = (one.0, each-append job worker ns ms rs ss one.1 two)

-- if no numbers are wanted, nothing needs to be written
pub puts_nothing : (job : Job) (worker : ℕ) (reader : Option (List ℕ)) (failed : Bool) → failed ≡ false
    → Puts (reports_on job worker []) (Ok tt) (over reader reader failed)
puts_nothing job worker reader failed fine = record { reports = []; each = tt; is_written = Appends-nil reader; fine = fine }

-- `Puts` holds if memory ran out at the first number and nothing was written
pub puts_no_memory : (job : Job) (worker : ℕ) (numbers : List ℕ) (reader : Option (List ℕ)) (failed : Bool) (error : OutOfMemory)
    → Puts (reports_on job worker numbers) (Err (Memory error)) (over reader reader failed)
puts_no_memory job worker numbers reader failed error =
    record { done = []; more = numbers; parts = refl; reports = []; each = tt; is_written = Appends-nil reader }

-- if one number is wanted, writing the report on it is enough
pub puts_one : (job : Job) (worker n : ℕ) (report : Reported) (output : Stream) → IsReportOn job worker n report → Has output (report_text report)
    → output.failed ≡ false → Puts (reports_on job worker (n ∷ [])) (Ok tt) output
puts_one job worker n report output is wrote fine = record {
  reports = report ∷ [];
  each = (is, tt);
  is_written = subst (Has output) (sym (append-nil (report_text report))) wrote;
  fine = fine;
}

-- `Puts` holds if one number is wanted, writing the report on it failed, and a prefix of the report was written
pub puts_failed : (job : Job) (worker n : ℕ) (report : Reported) (output : Stream) (error : WriteError) → IsReportOn job worker n report → HasPrefix output (report_text report)
    → output.failed ≡ true → Puts (reports_on job worker (n ∷ [])) (Err (WriteFailed error)) output
puts_failed job worker n report output error is wrote has_failed = (
  record {
    done = n ∷ [];
    more = [];
    parts = refl;
    reports = report ∷ [];
    each = (is, tt);
    is_written = subst (HasPrefix output) (sym (append-nil (report_text report))) wrote;
  },
  has_failed,
)

-- if the reports on `ns` were written, and then `Puts` holds for the reports on `ms`, `Puts` holds for the reports on
-- `ns ++ ms`
pub puts_then : (job : Job) (worker : ℕ) (ns ms : List ℕ) (outcome : TextOutcome) (x y z : Option (List ℕ)) (was failed : Bool)
    → Puts (reports_on job worker ns) (Ok tt) (over x y was) → Puts (reports_on job worker ms) outcome (over y z failed)
    → Puts (reports_on job worker (ns ++ ms)) outcome (over x z failed)
puts_then job worker ns ms (Ok u) x y z was failed one two = record {
  reports = one.reports ++ two.reports;
  each = each-append job worker ns ms one.reports two.reports one.each two.each;
  is_written = subst (Appends x z) (sym (lines-append one.reports two.reports))
      (Appends-append x y z (flat_map report_text one.reports) (flat_map report_text two.reports) one.is_written two.is_written);
  fine = two.fine;
}
puts_then job worker ns ms (Err (Memory error)) x y z was failed one two = record {
  done = ns ++ two.done;
  more = two.more;
  parts = ap (λ (ks : List ℕ). ns ++ ks) two.parts ∙ sym (append_assoc ns two.done two.more);
  reports = one.reports ++ two.reports;
  each = each-append job worker ns two.done one.reports two.reports one.each two.each;
  is_written = subst (Appends x z) (sym (lines-append one.reports two.reports))
      (Appends-append x y z (flat_map report_text one.reports) (flat_map report_text two.reports) one.is_written two.is_written);
}
puts_then job worker ns ms (Err (WriteFailed error)) x y z was failed one (two, has_failed) = (
  record {
    done = ns ++ two.done;
    more = two.more;
    parts = ap (λ (ks : List ℕ). ns ++ ks) two.parts ∙ sym (append_assoc ns two.done two.more);
    reports = one.reports ++ two.reports;
    each = each-append job worker ns two.done one.reports two.reports one.each two.each;
    is_written = subst (HasPrefix (over x z failed)) (sym (lines-append one.reports two.reports))
        (AppendsPrefix-append x y z (flat_map report_text one.reports) (flat_map report_text two.reports) one.is_written two.is_written);
  },
  has_failed,
)
puts_then job worker ns ms (Err (ReadFailed error)) x y z was failed one two = absurd two
puts_then job worker ns ms (Err TooLong) x y z was failed one two = absurd two
puts_then job worker ns ms (Err (Refused refusal)) x y z was failed one two = absurd two

-- if a complaint ends the reports on `ns`, it also ends the reports on `ns ++ ms`
pub puts_stops : (job : Job) (worker : ℕ) (ns ms : List ℕ) (complaint : Complaint) (output : Stream)
    → Puts (reports_on job worker ns) (Err complaint) output
    → Puts (reports_on job worker (ns ++ ms)) (Err complaint) output
puts_stops job worker ns ms (Memory error) output h = record {
  done = h.done;
  more = h.more ++ ms;
  parts = ap (λ (ks : List ℕ). ks ++ ms) h.parts ∙ append_assoc h.done h.more ms;
  reports = h.reports;
  each = h.each;
  is_written = h.is_written;
}
puts_stops job worker ns ms (WriteFailed error) output (h, has_failed) = (
  record {
    done = h.done;
    more = h.more ++ ms;
    parts = ap (λ (ks : List ℕ). ks ++ ms) h.parts ∙ append_assoc h.done h.more ms;
    reports = h.reports;
    each = h.each;
    is_written = h.is_written;
  },
  has_failed,
)
puts_stops job worker ns ms (ReadFailed error) output h = absurd h
puts_stops job worker ns ms TooLong output h = absurd h
puts_stops job worker ns ms (Refused refusal) output h = absurd h

-- ---- the numbers of a range

range_split : (a n k : ℕ) → range_with_len a (n + k) ≡ range_with_len a n ++ range_with_len (a + n) k
range_split a zero k = ap₂ range_with_len (sym (add-zero a)) (zero-add k)
range_split a (suc n) k =
    let here : suc n + k ≡ suc (n + k) = omega arith in
    let there : a + 1 + n ≡ a + suc n = omega arith in
    ap (range_with_len a) here
    ∙ ap (λ (more : List ℕ). a ∷ more) (range_split (a + 1) n k ∙ ap (λ (m : ℕ). range_with_len (a + 1) n ++ range_with_len m k) there)

-- the lemma `puts_then` for one more number of a range
pub puts_next : (job : Job) (worker first number : ℕ) (outcome : TextOutcome) (x y z : Option (List ℕ)) (was failed : Bool) → first ≤ number
    → Puts (reports_on job worker (range_with_len first (number - first))) (Ok tt) (over x y was)
    → Puts (reports_on job worker (number ∷ [])) outcome (over y z failed)
    → Puts (reports_on job worker (range_with_len first (number + 1 - first))) outcome (over x z failed)
puts_next job worker first number outcome x y z was failed low one two =
    let one_more : (number - first) + 1 ≡ number + 1 - first = omega arith in
    subst (λ (ns : List ℕ). Puts (reports_on job worker ns) outcome (over x z failed))
    (sym (range_more first (number - first) number (omega arith)) ∙ ap (range_with_len first) one_more)
    (puts_then job worker (range_with_len first (number - first)) (number ∷ []) outcome x y z was failed one two)

-- if a complaint ends the reports at one number of a range, it ends the reports on the whole range
pub puts_short : (job : Job) (worker first number count : ℕ) (complaint : Complaint) (output : Stream) → first ≤ number → number < first + count
    → Puts (reports_on job worker (range_with_len first (number + 1 - first))) (Err complaint) output
    → Puts (reports_on job worker (range_with_len first count)) (Err complaint) output
puts_short job worker first number count complaint output low high h =
    let k = number + 1 - first in
    let whole : k + (count - k) ≡ count = omega arith in
    subst (λ (ns : List ℕ). Puts (reports_on job worker ns) (Err complaint) output)
    (sym (range_split first k (count - k)) ∙ ap (range_with_len first) whole)
    (puts_stops job worker (range_with_len first k) (range_with_len (first + k) (count - k)) complaint output h)

-- the lemma `puts_then` for one more range
pub puts_more : (job : Job) (worker : ℕ) (ranges : List Range) (i : ℕ) (d : Range) (outcome : TextOutcome) (x y z : Option (List ℕ)) (was failed : Bool)
    → i < length ranges → Puts (reports_on job worker (numbers_of (take i ranges))) (Ok tt) (over x y was)
    → Puts (reports_on job worker (numbers_of_range (get_or ranges i d))) outcome (over y z failed)
    → Puts (reports_on job worker (numbers_of (take (i + 1) ranges))) outcome (over x z failed)
puts_more job worker ranges i d outcome x y z was failed more one two =
    let r : Range = get_or ranges i d in
    subst (λ (ns : List ℕ). Puts (reports_on job worker ns) outcome (over x z failed))
    (sym (ap numbers_of (take_more ranges i d more) ∙ flat_map-append numbers_of_range (take i ranges) (r ∷ [])
    ∙ ap (λ (ns : List ℕ). numbers_of (take i ranges) ++ ns) (append-nil (numbers_of_range r))))
    (puts_then job worker (numbers_of (take i ranges)) (numbers_of_range r) outcome x y z was failed one two)

-- if a complaint ends the reports on the first `k` ranges, it ends the reports on all ranges
pub puts_early : (job : Job) (worker : ℕ) (ranges : List Range) (k : ℕ) (complaint : Complaint) (output : Stream)
    → Puts (reports_on job worker (numbers_of (take k ranges))) (Err complaint) output
    → Puts (reports_on job worker (numbers_of ranges)) (Err complaint) output
puts_early job worker ranges k complaint output h =
    subst (λ (ns : List ℕ). Puts (reports_on job worker ns) (Err complaint) output)
    (sym (flat_map-append numbers_of_range (take k ranges) (drop k ranges)) ∙ ap numbers_of (take-append-drop k ranges))
    (puts_stops job worker (numbers_of (take k ranges)) (numbers_of (drop k ranges)) complaint output h)

-- ---- there is only one correct text

-- two right reports of a worker on one soup, for one job, are equal
same_report : FindingsAreDetermined → (job : Job) (worker n : ℕ) (r s : Reported) → IsReportOn job worker n r → IsReportOn job worker n s → r ≡ s
same_report determined job worker n r s one other = λ i. record {
  job = (one.job_is ∙ sym other.job_is) i;
  worker = (one.worker_is ∙ sym other.worker_is) i;
  number = (one.number_is ∙ sym other.number_is) i;
  finding = (determined job.rule job.profile (soup job.seed n) r.finding s.finding (found r one) (found s other)) i;
}
  where
    found : (t : Reported) → IsReportOn job worker n t → IsFinding job.rule job.profile (soup job.seed n) t.finding
    found t is =
        subst (λ (j : Job). IsFinding j.rule j.profile (soup j.seed n) t.finding) is.job_is
        (subst (λ (k : ℕ). IsFinding t.job.rule t.job.profile (soup t.job.seed k) t.finding) is.number_is is.found.finding)

-- the reports on `done` are a prefix of the reports on `done ++ more`
first_reports : FindingsAreDetermined → (job : Job) (worker : ℕ) (done more : List ℕ) (rs all : List Reported) → AreReportsOn job worker done rs
    → AreReportsOn job worker (done ++ more) all → (remainder : List Reported) × (all ≡ rs ++ remainder)
first_reports determined job worker [] more [] all each every = (all, refl)
first_reports determined job worker [] more (r ∷ rs) all each every = absurd each
first_reports determined job worker (n ∷ done) more [] all each every = absurd each
first_reports determined job worker (n ∷ done) more (r ∷ rs) [] each every = absurd every
first_reports determined job worker (n ∷ done) more (r ∷ rs) (s ∷ all) each every =
    let after = first_reports determined job worker done more rs all each.1 every.1 in
    (after.0, ap₂ (λ (t : Reported) (ts : List Reported). t ∷ ts) (same_report determined job worker n s r every.0 each.0) after.1)

-- the answer is the lines of the worker's reports on these numbers
record AreLines (job : Job) (worker : ℕ) (numbers : List ℕ) (answer : Answer) : Type 0 where
  pub reports : List Reported
  pub each : AreReportsOn job worker numbers reports
  pub answer_is : answer ≡ Ok (flat_map report_text reports)

only_text : OneNormalForm → (job : Job) (worker : ℕ) (set : SoupSet) (normal : List Range) → AreNormalRanges set normal → (answer : Answer)
    → IsRightForSet set (TellsReports job worker) answer → AreLines job worker (numbers_of normal) answer
only_text one_form job worker set normal over (Ok text) is =
    let same : is.ranges ≡ over.ranges = over.only is.ranges is.named in
    let tells = is.is_text in
    let forms : tells.normal ≡ normal =
    one_form tells.normal normal tells.form.normal_form over.form.normal_form
    (λ n. tells.form.same n ∙ ap (λ (rs : List Range). is_in rs n) same ∙ sym (over.form.same n)) in
    record {
      reports = tells.reports;
      each = subst (λ (rs : List Range). AreReportsOn job worker (numbers_of rs) tells.reports) forms tells.each;
      answer_is = ap Ok tells.text_is;
    }
only_text one_form job worker set normal over (Err (Refused refusal)) (Bad_list not_list place fault is_refused) = absurd (not_list
    (listed set over.ranges over.named))
only_text one_form job worker set normal over (Err (Refused refusal)) (Too_large ranges named large is_refused) =
    absurd (large (subst AreSmall (sym (over.only ranges named)) over.small))
only_text one_form job worker set normal over (Err (Refused refusal)) (Overlapping ranges named small overlap is_refused) =
    absurd (over.apart (subst Overlap (over.only ranges named) overlap))
only_text one_form job worker set normal over (Err (Memory error)) is = absurd is
only_text one_form job worker set normal over (Err (ReadFailed error)) is = absurd is
only_text one_form job worker set normal over (Err TooLong) is = absurd is
only_text one_form job worker set normal over (Err (WriteFailed error)) is = absurd is

-- if a prefix of the first reports' lines was written, this is a prefix of the correct text
prefix_of : FindingsAreDetermined → (job : Job) (worker : ℕ) (numbers : List ℕ) (answer : Answer) (output : Stream) → AreLines job worker numbers answer
    → IsBegun (reports_on job worker numbers) (HasPrefix output) → HasPrefix output (output_text answer)
prefix_of determined job worker numbers answer output tells begun =
    let every = subst (λ (ns : List ℕ). AreReportsOn job worker ns tells.reports) begun.parts tells.each in
    let remainder = first_reports determined job worker begun.done begun.more begun.reports tells.reports begun.each every in
    let lines : flat_map report_text tells.reports ≡ flat_map report_text begun.reports ++ flat_map report_text remainder.0 =
    ap (flat_map report_text) remainder.1 ∙ lines-append begun.reports remainder.0 in
    let is : output_text answer ≡ flat_map report_text begun.reports ++ flat_map report_text remainder.0 = ap output_text tells.answer_is ∙ lines in
    subst (HasPrefix output) (sym is)
    (AppendsPrefix-longer output.before output.after (flat_map report_text begun.reports) (flat_map report_text remainder.0) begun.is_written)

-- if the first reports' lines were written completely, a prefix of them was written
begun_whole : (job : Job) (worker : ℕ) (numbers : List ℕ) (output : Stream)
    → IsBegun (reports_on job worker numbers) (Has output)
    → IsBegun (reports_on job worker numbers) (HasPrefix output)
begun_whole job worker numbers output begun = record {
  done = begun.done;
  more = begun.more;
  parts = begun.parts;
  reports = begun.reports;
  each = begun.each;
  is_written = (flat_map report_text begun.reports, [], sym (append-nil (flat_map report_text begun.reports)), begun.is_written);
}

-- each way in which the reports on a plan's soups end is a correct end of `work`
pub reaches_work : FindingsAreDetermined → OneNormalForm → (plan : Plan) (worker : ℕ) (job : Job) (normal : List Range)
    (outcome : TextOutcome) (output : Stream) → job_named plan ≡ Ok job → AreNormalRanges plan.set normal
    → Puts (reports_on job worker (numbers_of normal)) outcome output
    → ReachesText false false (work_right plan worker) outcome output
reaches_work determined one_form plan worker job normal outcome output named over puts = go outcome puts
  where
    right : Right
    right = work_right plan worker

    tells : (answer : Answer) → right answer → AreLines job worker (numbers_of normal) answer
    tells answer right_is = only_text one_form job worker plan.set normal over answer (rw named at right_is)

    never : (complaint : Complaint) → right (Err complaint) → ⊥
    never complaint is =
        let refused = (tells (Err complaint) is).answer_is in
        cc

    go : (o : TextOutcome) → Puts (reports_on job worker (numbers_of normal)) o output
        → ReachesText false false right o output
    go (Ok u) put =
        let text : List ℕ = flat_map report_text put.reports in
        let correct : IsRightForSet plan.set (TellsReports job worker) (Ok text) = record {
          ranges = over.ranges;
          named = over.named;
          small = over.small;
          apart = over.apart;
          is_text = record { normal = normal; form = over.form; reports = put.reports; each = put.each; text_is = refl };
        } in
        ((text, rw named correct, put.is_written), put.fine)
    go (Err (Memory error)) begun = (
      λ unread complaint is. absurd (never complaint is),
      λ answer is. prefix_of determined job worker (numbers_of normal) answer output (tells answer is)
          (begun_whole job worker (numbers_of normal) output begun),
    )
    go (Err (WriteFailed error)) (begun, has_failed) = (
      (never, λ text is. prefix_of determined job worker (numbers_of normal) (Ok text) output (tells (Ok text) is) begun),
      has_failed,
    )
    go (Err (ReadFailed error)) put = absurd put
    go (Err TooLong) put = absurd put
    go (Err (Refused refusal)) put = absurd put

-- if memory ran out at a soup of a plan, nothing or only whole lines were written
pub whole_lines : (plan : Plan) (worker : ℕ) (job : Job) (normal : List Range) (outcome : TextOutcome) (output : Stream)
    → job_named plan ≡ Ok job → AreNormalRanges plan.set normal
    → Puts (reports_on job worker (numbers_of normal)) outcome output
    → IfErr outcome (λ complaint. complaint ≡ Memory out_of_memory → EndsAtLine plan worker output)
whole_lines plan worker job normal (Ok u) output named over puts = tt
whole_lines plan worker job normal (Err (Memory error)) output named over begun = λ _. inr (record {
  job = job;
  job_is = named;
  ranges = over.ranges;
  named = over.named;
  normal = normal;
  form = over.form;
  begun = begun;
})
whole_lines plan worker job normal (Err (WriteFailed error)) output named over puts = λ bad. cc
whole_lines plan worker job normal (Err (ReadFailed error)) output named over puts = absurd puts
whole_lines plan worker job normal (Err TooLong) output named over puts = absurd puts
whole_lines plan worker job normal (Err (Refused refusal)) output named over puts = absurd puts
