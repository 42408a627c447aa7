-- Lemmas about `take --report-from`: each way in which the command ends is correct.
use Rattle.std.proofs.Common.{◌≡◌, ◌≢◌, ◌∙◌, ◌↔◌, ℕ, Bool, List, [], None, Option, Result, Ok, Err, inl, inr, false, length, refl, subst, sym}
use Rattle.std.specs.Prelude.{IfErr, IfOk, MatchResult, OnOk}
use Rattle.memory.specs.Witness.{out_of_memory}
use Rattle.plane_core.specs.Outputs.{Output}
use Rattle.haul_core.specs.Books.{Held}
use Rattle.haul_core.specs.HaulTexts.{haul_text}
use Rattle.haul_core.specs.Reports.{Reported}
use Rattle.crew.specs.Takes.{HasHeardCrew}
use Rattle.haul_core.specs.declared.book.census.Census.{Census}
use Rattle.haul_core.specs.Keeping.{numbers_in}
use Rattle.haul_core.specs.Missing.{AreAll, IsComplete, missing_of}
use Rattle.pattern_commands.specs.declared.ending.complaint.Complaint.{Complaint}
use Rattle.pattern_commands.specs.declared.ending.complaint.Complaint.TheVariants.{Refused, Memory, ReadFailed, TooLong, WriteFailed}
use Rattle.pattern_commands.specs.declared.ending.status.Status.{Status}
use Rattle.pattern_commands.specs.declared.ending.status.Status.TheVariants as statuses
use Rattle.pattern_commands.specs.Complaints.{status_of}
use Rattle.pattern_commands.specs.Ends.{Ends, status_after}
use Rattle.pattern_commands.specs.Reached.{Outcome, Reaches}
use Rattle.pattern_commands.specs.Streams.{Stream, Has, IsUntouched, stream}
use Rattle.requests.specs.declared.plan.Plan.{Plan}
use Rattle.commands.specs.Finish.{Finishes, IsCensusOf}
use Rattle.commands.specs.LateReports.{late_lines}
use Rattle.commands.specs.ReportSteps.{HasPutBy, HasReportedBy, StopsReporting}
use Rattle.commands.specs.Reporting.{TellsAllLate, TellsLate, reporting_behaviour}
use Rattle.commands.specs.SoupSets.{IsRightForSet}
use Rattle.commands.specs.Take.{PrintsCensus, TellsAll, take_right}
use Rattle.commands.specs.TakeSteps.{IsOpenedFor, Stops}
use Rattle.commands.proofs.GrownLemmas.{grown_by_added}
use Rattle.commands.proofs.HeardLemmas.{reports_of_plan, reports_on_all}
use Rattle.commands.proofs.TakeLemmas.{Stops_memory, complete_right, not_done, prints_right, right_given}

-- if a complaint stops the command before a haul is open, and nothing was written to either stream, the complaint is a
-- correct end of the command
pub reporting_stops : (plan : Plan) (workers from : ℕ) (reader : Option (List ℕ)) (bytes : List ℕ) (complaint : Complaint) (output errors : Stream)
    → Stops (take_right plan) complaint → Has output [] → IsUntouched errors
    → Reaches (reporting_behaviour plan workers from) reader bytes (Err complaint) output errors
reporting_stops plan workers from reader bytes (Refused refusal) output errors stops nothing still =
    (stops, record { nothing = nothing; silent = still.0; fine = still.1 })
reporting_stops plan workers from reader bytes (Memory error) output errors stops nothing still =
    record { hides = λ unread complaint is. stops complaint is; left = nothing; diagnostics = inl still.0; fine = still.1 }
reporting_stops plan workers from reader bytes (ReadFailed error) output errors stops nothing still = absurd stops
reporting_stops plan workers from reader bytes TooLong output errors stops nothing still = absurd stops
reporting_stops plan workers from reader bytes (WriteFailed error) output errors stops nothing still = absurd stops

module _ {V : Type 0} {contents : V → Option (List ℕ)} {plan : Plan} {workers from : ℕ} {opened held : Held} {old new : Output V}
    {taken : Result (Unit {0}) Complaint} (is : IsOpenedFor plan workers opened)
    (h : HasReportedBy contents workers from opened held old new taken) where
  abbrev told_on : Stream
  told_on = stream contents old new

  abbrev pub ReachesReporting : Option (List ℕ) → List ℕ → Outcome → Stream → Type 0
  ReachesReporting reader bytes outcome output = Reaches (reporting_behaviour plan workers from) reader bytes outcome output told_on

  -- if no write has failed, the line of each late soup that was reported so far was written completely
  told_so_far : new.failed ≡ false → TellsLate plan workers from told_on.before told_on.after
  told_so_far fine =
      record { reports = h.heard.reports; are = reports_of_plan is h.heard; written = (h.heard.heard.whole fine).1 }

  -- if no write of a line has failed, and nothing was written to the output, running out of memory is a correct end of
  -- the command
  lacks : (reader : Option (List ℕ)) (bytes : List ℕ) (output : Stream) → Has output [] → new.failed ≡ false
      → ReachesReporting reader bytes (Err (Memory out_of_memory)) output
  lacks reader bytes output nothing fine = record {
    hides = λ unread complaint right. Stops_memory plan opened is complaint right;
    left = nothing;
    diagnostics = inr (told_so_far fine);
    fine = fine;
  }

  -- a complaint that stops the crew is a correct end of the command
  pub reporting_gives_up : (reader : Option (List ℕ)) (bytes : List ℕ) (complaint : Complaint) (output : Stream) → StopsReporting new.failed complaint
      → Has output [] → ReachesReporting reader bytes (Err complaint) output
  reporting_gives_up reader bytes (Memory error) output fine nothing = lacks reader bytes output nothing fine
  reporting_gives_up reader bytes (WriteFailed error) output stops nothing =
      inr (record {
        cut = record { reports = h.heard.reports; are = reports_of_plan is h.heard; written = h.heard.heard.prefix };
        nothing = nothing;
      })
  reporting_gives_up reader bytes (Refused refusal) output stops nothing = absurd stops
  reporting_gives_up reader bytes (ReadFailed error) output stops nothing = absurd stops
  reporting_gives_up reader bytes TooLong output stops nothing = absurd stops

  -- if nothing stopped the crew, each way in which writing the haul text ends is a correct end of the command
  finishes : (reader : Option (List ℕ)) (bytes : List ℕ) (outcome : Outcome) (output : Stream)
      → (new.failed ≡ false) × IsComplete held.terms.ranges held.taken × AreAll held.terms.ranges (numbers_in held.taken)
      → (length (missing_of held.terms.ranges held.taken) ≡ 0) ↔ IsComplete held.terms.ranges held.taken → Finishes held outcome output
      → ReachesReporting reader bytes outcome output
  finishes reader bytes outcome output whole none finished = go outcome finished
    where
      lines : List ℕ
      lines = late_lines from h.heard.reports

      right : (census : Census) → IsCensusOf held census → take_right plan (Ok (haul_text census))
      right census counted =
          right_given plan (λ j. IsRightForSet plan.set (TellsAll j)) is.job (haul_text census) is.named
          (complete_right is.job plan.set opened held census is.opened (grown_by_added opened held h.heard.added) whole.2 counted)

      all_told : TellsAllLate plan workers from lines
      all_told = record {
        reports = h.heard.reports;
        are = reports_of_plan is h.heard;
        all = reports_on_all is h.heard whole.2;
        text_is = refl;
      }

      told : Has told_on lines
      told = (h.heard.heard.whole whole.0).1

      go : (outcome : Outcome) → Finishes held outcome output → ReachesReporting reader bytes outcome output
      go (Ok missing) finished = record {
        made = record { text = haul_text finished.census; diagnostics = lines; missing = missing };
        is = (right finished.census finished.counted, all_told, finished.missing_is ∙ none.1 whole.1);
        missing_is = refl;
        text = finished.text;
        written = finished.fine;
        diagnostics = told;
        fine = whole.0;
      }
      go (Err (Memory error)) nothing = lacks reader bytes output nothing whole.0
      go (Err (WriteFailed error)) half = inl (record {
        left = (
          record { text = haul_text half.census; diagnostics = lines; missing = 0 },
          (right half.census half.counted, all_told, refl),
          half.prefix,
          told,
        );
        cut = half.cut;
        fine = whole.0;
      })
      go (Err (ReadFailed error)) not = absurd not
      go (Err TooLong) not = absurd not
      go (Err (Refused refusal)) not = absurd not

-- once the haul is open, each way in which the command ends is correct
pub reporting_ends : {V : Type 0} {contents : V → Option (List ℕ)} {plan : Plan} {workers from : ℕ} {opened held : Held} {old new : Output V}
    (taken : Result (Unit {0}) Complaint) (is : IsOpenedFor plan workers opened) (h : HasReportedBy contents workers from opened held old new taken)
    (reader : Option (List ℕ)) (bytes : List ℕ) (outcome : Outcome) (output : Stream)
    → IfOk taken (λ _. Finishes held outcome output)
    → IfOk taken (λ _. (length (missing_of held.terms.ranges held.taken) ≡ 0) ↔ IsComplete held.terms.ranges held.taken)
    → IfErr taken (λ complaint. (outcome ≡ Err complaint) × Has output [])
    → Reaches (reporting_behaviour plan workers from) reader bytes outcome output (stream contents old new)
reporting_ends (Ok u) is h reader bytes outcome output finished none gives_up = finishes is h reader bytes outcome output h.whole none finished
reporting_ends {contents = contents} {plan = plan} {workers = workers} {from = from} {old = old} {new = new} (Err complaint) is h reader bytes outcome output finished none gives_up =
    subst (λ (o : Outcome). Reaches (reporting_behaviour plan workers from) reader bytes o output (stream contents old new)) (sym gives_up.0)
    (reporting_gives_up is h reader bytes complaint output h.stops gives_up.1)

-- if the status is `Done`, the command has printed the census of the plan
pub reporting_prints : (plan : Plan) (workers from : ℕ) (reader : Option (List ℕ)) (bytes : List ℕ) (status : Status) (output errors : Stream)
    → Ends (reporting_behaviour plan workers from) reader bytes status output errors → status ≡ statuses.Done
    → PrintsCensus plan output.before output.after
reporting_prints plan workers from reader bytes status output errors ends done = go ends.outcome ends.reached (sym ends.status_is ∙ done)
  where
    go : (outcome : Outcome) → Reaches (reporting_behaviour plan workers from) reader bytes outcome output ends.so_far
        → status_after outcome ≡ statuses.Done → PrintsCensus plan output.before output.after
    go (Ok missing) is done = prints_right plan is.made.text output.before output.after is.is.0 is.text
    go (Err complaint) is done = absurd (not_done complaint done)

-- if the outcome is `Ok`, no write to standard error has failed
pub fine_if_done : (plan : Plan) (workers from : ℕ) (outcome : Outcome) (output errors : Stream)
    → Reaches (reporting_behaviour plan workers from) None [] outcome output errors → OnOk outcome (errors.failed ≡ false)
fine_if_done plan workers from (Ok missing) output errors is = is.fine
fine_if_done plan workers from (Err complaint) output errors is = tt

-- a complaint that stops the crew isn't a refusal
pub not_refused : (failed : Bool) (taken : Result (Unit {0}) Complaint) → IfErr taken (StopsReporting failed)
    → IfErr taken (λ complaint. status_of complaint ≢ statuses.Refused)
not_refused failed (Ok u) stops = tt
not_refused failed (Err (Memory error)) stops = λ is. cc
not_refused failed (Err (WriteFailed error)) stops = λ is. cc
not_refused failed (Err (Refused refusal)) stops = absurd stops
not_refused failed (Err (ReadFailed error)) stops = absurd stops
not_refused failed (Err TooLong) stops = absurd stops

-- a property of the reports that were handed over may be weakened
pub heard_as : {lets : ℕ → ℕ → Type 0} {workers : ℕ} {old new : Held} (hears others : List Reported → Type 0)
    → ((reports : List Reported) → hears reports → others reports) → HasHeardCrew lets workers old new hears
    → HasHeardCrew lets workers old new others
heard_as hears others turn h = record {
  reports = h.reports;
  heard = turn h.reports h.heard;
  job = h.job;
  by_workers = h.by_workers;
  missing = h.missing;
  let_in = h.let_in;
  once = h.once;
  offers = h.offers;
  some = h.some;
  added = h.added;
}

-- the lemma `heard_as` for both ways in which a crew ends
pub heard_by_both : {E : Type 0} (lets : ℕ → ℕ → Type 0) (workers : ℕ) (old : Held) (hears others : List Reported → Type 0)
    → ((reports : List Reported) → hears reports → others reports) → (ended : Result Held (Held × E))
    → MatchResult ended (λ done. HasHeardCrew lets workers old done hears) (λ back. HasHeardCrew lets workers old back.0 hears)
    → MatchResult ended (λ done. HasHeardCrew lets workers old done others) (λ back. HasHeardCrew lets workers old back.0 others)
heard_by_both lets workers old hears others turn (Ok done) h = heard_as hears others turn h
heard_by_both lets workers old hears others turn (Err back) h = heard_as hears others turn h

-- `HasReportedBy` holds for a crew that has reported, whether or not it was stopped
pub reported_by : {V : Type 0} {contents : V → Option (List ℕ)} {workers from : ℕ} {opened held : Held} {old new : Output V}
    (failed : Bool) (taken : Result (Unit {0}) Complaint) → HasPutBy contents workers from opened held old new → failed ≡ new.failed
    → IfOk taken (λ _. (failed ≡ false) × IsComplete held.terms.ranges held.taken × AreAll held.terms.ranges (numbers_in held.taken))
    → IfErr taken (StopsReporting failed) → HasReportedBy contents workers from opened held old new taken
reported_by failed (Ok u) heard same whole stops =
    record { heard = heard; whole = (sym same ∙ whole.0, whole.1, whole.2); stops = tt }
reported_by failed (Err complaint) heard same whole stops =
    record { heard = heard; whole = tt; stops = subst (λ (b : Bool). StopsReporting b complaint) same stops }

-- a property that a successful result implies may be weakened
pub ok_with : {E : Type 0} {P Q : Type 0} (r : Result (Unit {0}) E) → (P → Q) → IfOk r (λ _. P) → IfOk r (λ _. Q)
ok_with (Ok u) turn h = turn h
ok_with (Err e) turn h = tt
