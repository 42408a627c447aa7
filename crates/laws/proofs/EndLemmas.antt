-- What `gather` prints if it ends without a complaint, and how it ends if each soup of its set was worked on.
use Rattle.std.proofs.Common.{◌≡◌, ◌∙◌, sym, subst, ℕ, zero, suc, ◌≤◌, ◌^◌, true, List, Ok, Err, arith, length}
use Rattle.requests.specs.declared.plan.Plan.{Plan}
use Rattle.survey_core.specs.declared.job.Job.{Job}
use Rattle.pattern_commands.specs.Ends.{Outcome, Reaches, status_after}
use Rattle.pattern_commands.specs.Status.{has_printed}
use Rattle.pattern_commands.specs.Streams.{Stream}
use Rattle.pattern_commands.specs.declared.ending.complaint.Complaint.TheVariants as complaint
use Rattle.pattern_commands.specs.declared.ending.status.Status.{Status}
use Rattle.commands.specs.Gather.{gather_behaviour}
use Rattle.laws.specs.Gathering.{GatherPrintsCorrectLines, PrintsCorrectLines}
use Rattle.laws.specs.SplitWork.{HasWholeText, IsAccepted, IsInSet, IsWorkedOn, SplitWorkEnds}
use Rattle.commands.proofs.CorrectLineLemmas.{gather_takes_correct_lines}
use Rattle.laws.proofs.SplitLemmas.{split_work_is_whole}
use Rattle.std.specs.Prelude.{Option}

prints : (plan : Plan) (workers : ℕ) (reader : Option (List ℕ)) (bytes : List ℕ) (status : Status) (output so_far : Stream) (outcome : Outcome)
    → status ≡ status_after outcome → Reaches (gather_behaviour plan workers) reader bytes outcome output so_far → has_printed status ≡ true
    → PrintsCorrectLines plan workers bytes status output
prints plan workers reader bytes status output so_far (Ok zero) is reached printed =
    let correct = gather_takes_correct_lines plan workers bytes reached.made reached.is in
    record { made = reached.made; is = correct; text = reached.text; done = (λ h. correct.tells.whole.0 (sym reached.missing_is), λ each. is) }
prints plan workers reader bytes status output so_far (Ok (suc n)) is reached printed =
    let correct = gather_takes_correct_lines plan workers bytes reached.made reached.is in
    record {
      made = reached.made;
      is = correct;
      text = reached.text;
      done = (
        λ h. absurd (cc),
        λ each. absurd (let none : suc n ≡ 0 = reached.missing_is ∙ correct.tells.whole.1 each in omega (arith, none)),
      );
    }
prints plan workers reader bytes status output so_far (Err (complaint.Refused refusal)) is reached printed = absurd (cc)
prints plan workers reader bytes status output so_far (Err (complaint.Memory error)) is reached printed = absurd (cc)
prints plan workers reader bytes status output so_far (Err (complaint.ReadFailed error)) is reached printed = absurd (cc)
prints plan workers reader bytes status output so_far (Err complaint.TooLong) is reached printed = absurd (cc)
prints plan workers reader bytes status output so_far (Err (complaint.WriteFailed error)) is reached printed = absurd (cc)

pub gather_prints_correct_lines : GatherPrintsCorrectLines
gather_prints_correct_lines plan workers reader bytes status output errors ends printed =
    prints plan workers reader bytes status output ends.so_far ends.outcome ends.status_is ends.reached printed

whole_text : (plan : Plan) (job : Job) (workers : ℕ) (reader : Option (List ℕ)) (bytes : List ℕ) (output so_far : Stream) (outcome : Outcome)
    → IsAccepted plan job → length bytes ≤ 2 ^ 32 → ((n : ℕ) → IsInSet plan.set n → IsWorkedOn job workers bytes n)
    → Reaches (gather_behaviour plan workers) reader bytes outcome output so_far → HasWholeText plan (status_after outcome) output
whole_text plan job workers reader bytes output so_far (Ok zero) accepted short each reached =
    let whole = split_work_is_whole plan job workers bytes (Ok reached.made) accepted short each reached.is in
    (reached.made.text, whole.0, reached.text)
whole_text plan job workers reader bytes output so_far (Ok (suc n)) accepted short each reached =
    let whole = split_work_is_whole plan job workers bytes (Ok reached.made) accepted short each reached.is in
    let none : suc n ≡ 0 = reached.missing_is ∙ whole.1 in
    absurd (omega (arith, none))
whole_text plan job workers reader bytes output so_far (Err (complaint.Refused refusal)) accepted short each reached =
    split_work_is_whole plan job workers bytes (Err (complaint.Refused refusal)) accepted short each reached.0
whole_text plan job workers reader bytes output so_far (Err (complaint.Memory error)) accepted short each reached = tt
whole_text plan job workers reader bytes output so_far (Err (complaint.ReadFailed error)) accepted short each reached = tt
whole_text plan job workers reader bytes output so_far (Err complaint.TooLong) accepted short each reached = tt
whole_text plan job workers reader bytes output so_far (Err (complaint.WriteFailed error)) accepted short each reached = tt

pub split_work_ends : SplitWorkEnds
split_work_ends plan job workers reader bytes status output errors accepted short each ends =
    subst (λ (s : Status). HasWholeText plan s output) (sym ends.status_is)
    (whole_text plan job workers reader bytes output ends.so_far ends.outcome accepted short each ends.reached)
