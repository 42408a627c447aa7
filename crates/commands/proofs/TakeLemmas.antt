-- Lemmas about `take`: each way in which the command ends is correct.
use Rattle.std.proofs.Common.{◌≡◌, ◌≢◌, ◌∙◌, ◌≤◌, ◌⊎◌, ◌↔◌, ℕ, zero, suc, Bool, true, false, cond, inl, inr, nat_eq, nat_le, not, length}
use Rattle.std.proofs.Common.{List, [], Option, Result, Ok, Err, All, ap, sym, subst, refl, arith}
use Rattle.std.specs.Prelude.{Contains, IfErr, IfOk}
use Rattle.std.specs.Io.KnownBytes.{Appends}
use Rattle.std.proofs.lemmas.Bool.{cases_Bool, leb-false, leb-true}
use Rattle.std.proofs.lemmas.List.Elements.{All-contains, All-filter, All-weaker}
use Rattle.std.specs.List.{IsDistinct}
use Rattle.std.specs.Result.{result_map_both}
use Rattle.memory.specs.Witness.{out_of_memory}
use Rattle.plane_core.specs.declared.plane.rule.RuleFault.{RuleFault}
use Rattle.plane_core.specs.declared.plane.rule.RuleFault.TheVariants as rule_error
use Rattle.plane_core.specs.plane.Rules.{Numbers, rule_read}
use Rattle.survey_core.specs.declared.job.Job.{Job}
use Rattle.survey_core.specs.declared.seed.SeedFault.{SeedFault}
use Rattle.survey_core.specs.declared.seed.SeedFault.TheVariants as seed_error
use Rattle.survey_core.specs.Profiles.{Settling}
use Rattle.survey_core.specs.Seeds.{seed_read}
use Rattle.haul_core.specs.declared.book.census.Census.{Census}
use Rattle.ranges.specs.declared.range.Range.{Range}
use Rattle.ranges.specs.declared.range_list.ListError.{ListError}
use Rattle.ranges.specs.declared.range_list.ListError.TheVariants as list_error
use Rattle.haul_core.specs.Books.{Held, Terms}
use Rattle.haul_core.specs.Censuses.{IsCensus}
use Rattle.haul_core.specs.HaulTexts.{haul_text}
use Rattle.haul_core.specs.Keeping.{numbers_in}
use Rattle.haul_core.specs.Missing.{AreAll, IsComplete, is_taken, missing_of, numbers_of}
use Rattle.ranges.specs.RangeLists.{FitU64, IsListText, list_text}
use Rattle.ranges.specs.RangeListFaults.{IsFirstListFault}
use Rattle.ranges.specs.Ranges.{AreSmall, IsNormalForm, is_in}
use Rattle.crew.specs.Workers.{StopsAt}
use Rattle.crew.specs.Takes.{was_missing}
use Rattle.pattern_commands.specs.declared.ending.complaint.Complaint.{Complaint}
use Rattle.pattern_commands.specs.declared.ending.complaint.Complaint.TheVariants.{Refused, Memory, ReadFailed, TooLong, WriteFailed}
use Rattle.requests.specs.declared.plan.Plan.{Plan}
use Rattle.pattern_commands.specs.declared.ending.refusal.Refusal.{Refusal}
use Rattle.pattern_commands.specs.declared.ending.refusal.Refusal.TheVariants.{BadRule, BirthZero, HorizonBelowPeriod}
use Rattle.pattern_commands.specs.declared.ending.refusal.Refusal.TheVariants.{SeedBadByte, SeedTooLong}
use Rattle.requests.specs.declared.plan.SoupSet.{SoupSet}
use Rattle.pattern_commands.specs.declared.ending.status.Status.{Status}
use Rattle.pattern_commands.specs.declared.ending.status.Status.TheVariants as statuses
use Rattle.pattern_commands.specs.Answers.{NeedsMemory, Right, given, IsRightGiven, output_text}
use Rattle.pattern_commands.specs.Complaints.{status_of}
use Rattle.pattern_commands.specs.Ends.{Ends, status_after}
use Rattle.pattern_commands.specs.Reached.{Outcome, Reaches}
use Rattle.commands.specs.Finish.{Finishes, IsCensusOf}
use Rattle.pattern_commands.specs.Inputs.{rule_complaint, rule_named, list_complaint}
use Rattle.pattern_commands.specs.Profiles.{profile_named, settling}
use Rattle.pattern_commands.specs.Soup.{seed_complaint, seed_named}
use Rattle.commands.specs.SoupSets.{AreRangesOf, IsRefused, job_named, IsRightForSet, Bad_list, Overlapping, Too_large}
use Rattle.commands.specs.Stopped.{IsLetIn, MayStop, TellsTaken, gated_behaviour, right_if, stopped_right, taken_right}
use Rattle.pattern_commands.specs.Streams.{Stream, Has, IsUntouched}
use Rattle.commands.specs.Take.{PrintsCensus, TellsAll, take_right, take_behaviour}
use Rattle.commands.specs.TakeSteps.{EndsCrew, HasLetIn, HasTakenMore, IsOpened, IsOpenedFor, IsTaken, Stops, StopsOpening, StopsSet}
use Rattle.pattern_commands.specs.Behaviours.{Made, Behaviour, alone}
use Rattle.pattern_commands.specs.TextSteps.{ReachesText}
use Rattle.commands.proofs.GrownLemmas.{let_in_all}
use Rattle.commands.proofs.NumberLemmas.{numbers_within}

-- ---- refusals

-- if a set's range list is valid, finding a refusal of the set needs memory
refused_needs_memory : (set : SoupSet) (refusal : Refusal) → IsListText set.also → IsRefused set refusal → NeedsMemory (Refused refusal)
refused_needs_memory set refusal list (Bad_list not_list place fault is_refused) = absurd (not_list list)
refused_needs_memory set refusal list (Too_large ranges named large is_refused) = subst (λ (r : Refusal). NeedsMemory (Refused r)) (sym is_refused) tt
refused_needs_memory set refusal list (Overlapping ranges named small overlap is_refused) = subst (λ (r : Refusal). NeedsMemory (Refused r)) (sym is_refused) tt

needs_memory : (set : SoupSet) (tells : List Range → List ℕ → Type 0) (complaint : Complaint) → IsListText set.also
    → IsRightForSet set tells (Err complaint) → NeedsMemory complaint
needs_memory set tells (Refused refusal) list right = refused_needs_memory set refusal list right
needs_memory set tells (Memory error) list right = absurd right
needs_memory set tells (ReadFailed error) list right = absurd right
needs_memory set tells TooLong list right = absurd right
needs_memory set tells (WriteFailed error) list right = absurd right

-- a complaint about the set stops the command
Stops_set : (set : SoupSet) (tells : List Range → List ℕ → Type 0) (complaint : Complaint) → StopsSet set complaint
    → Stops (IsRightForSet set tells) complaint
Stops_set set tells (Refused refusal) stops = stops
Stops_set set tells (Memory error) stops = λ complaint right. needs_memory set tells complaint stops right
Stops_set set tells (ReadFailed error) stops = absurd stops
Stops_set set tells TooLong stops = absurd stops
Stops_set set tells (WriteFailed error) stops = absurd stops

-- an error in reading the range list stops the command
pub Stops_list : (set : SoupSet) (text : List ℕ) (error : ListError) → text ≡ set.also
    → ((ranges : List Range) → FitU64 ranges → list_text ranges ≡ text → error ≡ list_error.Memory out_of_memory)
    → ((place : ℕ) → error ≡ list_error.BadList place → IsFirstListFault text place) → (error ≡ list_error.Memory out_of_memory → IsListText text)
    → StopsSet set (list_complaint error)
Stops_list set text (list_error.BadList place) is complete fault memory =
    let not_list : IsListText set.also → ⊥ =
    λ list. let bad : list_error.BadList place ≡ list_error.Memory out_of_memory = complete list.ranges list.fit (list.spelled ∙ sym is) in cc in
    Bad_list not_list place (subst (λ (t : List ℕ). IsFirstListFault t place) is (fault place refl)) refl
Stops_list set text (list_error.Memory refused) is complete fault memory = subst IsListText is (memory refl)

-- if a complaint stops a command, and nothing was written to the output, the command may end with this complaint
pub Reaches_stopped : (right : Right) (complaint : Complaint) (output : Stream) → Stops right complaint → Has output []
    → ReachesText false false right (Err complaint) output
Reaches_stopped right (Refused refusal) output stops nothing = (stops, nothing)
Reaches_stopped right (Memory error) output stops nothing = (λ unread. stops, λ answer is. ([], output_text answer, refl, nothing))
Reaches_stopped right (ReadFailed error) output stops nothing = absurd stops
Reaches_stopped right TooLong output stops nothing = absurd stops
Reaches_stopped right (WriteFailed error) output stops nothing = absurd stops

-- if the job is valid, a complaint about the set stops the command
pub Stops_given : (plan : Plan) (tells : Job → List Range → List ℕ → Type 0) (job : Job)
    (complaint : Complaint)
    → job_named plan ≡ Ok job → StopsSet plan.set complaint
    → Stops (IsRightGiven (job_named plan) (λ j. IsRightForSet plan.set (tells j))) complaint
Stops_given plan tells job complaint named stops = go complaint (Stops_set plan.set (tells job) complaint stops)
  where
    go : (c : Complaint) → Stops (IsRightForSet plan.set (tells job)) c
        → Stops (IsRightGiven (job_named plan) (λ j. IsRightForSet plan.set (tells j))) c
    go (Refused refusal) is = rw named is
    go (Memory error) is = λ c right. is c (rw named at right)
    go (ReadFailed error) is = absurd is
    go TooLong is = absurd is
    go (WriteFailed error) is = absurd is

abbrev IsRefusal : Complaint → Type 0
IsRefusal (Refused refusal) = Unit {0}
IsRefusal (Memory error) = ⊥
IsRefusal (ReadFailed error) = ⊥
IsRefusal TooLong = ⊥
IsRefusal (WriteFailed error) = ⊥

-- a complaint about a seed, a profile or a rule is a refusal
seed_refused : (answer : Result (List ℕ) SeedFault) (complaint : Complaint) → result_map_both (λ seed. seed) seed_complaint answer ≡ Err complaint
    → IsRefusal complaint
seed_refused (Ok seed) complaint e = cc
seed_refused (Err seed_error.TooLong) complaint e = let is : complaint ≡ Refused SeedTooLong = cc in subst IsRefusal (sym is) tt
seed_refused (Err (seed_error.BadByte place)) complaint e = let is : complaint ≡ Refused (SeedBadByte place) = cc in subst IsRefusal (sym is) tt

rule_refused : (answer : Result Numbers RuleFault) (complaint : Complaint) → result_map_both (λ rule. rule) rule_complaint answer ≡ Err complaint
    → IsRefusal complaint
rule_refused (Ok rule) complaint e = cc
rule_refused (Err (rule_error.BadRule place)) complaint e = let is : complaint ≡ Refused (BadRule place) = cc in subst IsRefusal (sym is) tt
rule_refused (Err rule_error.BirthZero) complaint e = let is : complaint ≡ Refused BirthZero = cc in subst IsRefusal (sym is) tt

profile_refused : (within : Bool) (profile : Settling) (complaint : Complaint)
    → cond {A = Result Settling Complaint} within (Ok profile) (Err (Refused HorizonBelowPeriod)) ≡ Err complaint → IsRefusal complaint
profile_refused true profile complaint e = cc
profile_refused false profile complaint e = let is : complaint ≡ Refused HorizonBelowPeriod = cc in subst IsRefusal (sym is) tt

given_refused : {A B : Type 0} (r : Result A Complaint) (next : A → Result B Complaint) (complaint : Complaint)
    → ((c : Complaint) → r ≡ Err c → IsRefusal c) → ((x : A) (c : Complaint) → next x ≡ Err c → IsRefusal c) → given r next ≡ Err complaint
    → IsRefusal complaint
given_refused (Ok x) next complaint own more e = more x complaint e
given_refused (Err c) next complaint own more e =
    let is : c ≡ complaint = cc in
    own complaint (ap Err is)

pub job_refused : (plan : Plan) (complaint : Complaint) → job_named plan ≡ Err complaint
    → IsRefusal complaint
job_refused plan complaint =
    given_refused (seed_named plan.set.seed) (λ seed. given (profile_named plan.profile) (λ profile. given (rule_named plan.rule) (λ rule. job_of seed profile rule)))
    complaint (λ c e. seed_refused (seed_read plan.set.seed) c e)
    (λ seed c. given_refused (profile_named plan.profile) (λ profile. given (rule_named plan.rule) (λ rule. job_of seed profile rule)) c
    (λ c e. profile_refused (nat_le plan.profile.period plan.profile.horizon) (settling plan.profile) c e)
    (λ profile c. given_refused (rule_named plan.rule) (λ rule. job_of seed profile rule) c (λ c e. rule_refused (rule_read plan.rule) c e) (λ rule c e. cc)))
  where
    job_of : List ℕ → Settling → Numbers → Result Job Complaint
    job_of seed profile rule = Ok (record { seed = seed; profile = profile; rule = rule })

-- a complaint about the job stops the command
pub Stops_job : (plan : Plan) (next : Job → Right) (complaint : Complaint)
    → job_named plan ≡ Err complaint → Stops (IsRightGiven (job_named plan) next) complaint
Stops_job plan next (Refused refusal) refused = rw refused refl
Stops_job plan next (Memory error) refused = absurd (job_refused plan (Memory error) refused)
Stops_job plan next (ReadFailed error) refused = absurd (job_refused plan (ReadFailed error) refused)
Stops_job plan next TooLong refused = absurd (job_refused plan TooLong refused)
Stops_job plan next (WriteFailed error) refused = absurd (job_refused plan (WriteFailed error) refused)

-- a complaint that may end a command before its haul is open (`StopsOpening`) may end it before it writes (`Stops`)
pub Stops_opening : (plan : Plan) (tells : Job → List Range → List ℕ → Type 0) (complaint : Complaint)
    → StopsOpening plan complaint
    → Stops (IsRightGiven (job_named plan) (λ j. IsRightForSet plan.set (tells j))) complaint
Stops_opening plan tells complaint (inl refused) =
    Stops_job plan (λ j. IsRightForSet plan.set (tells j)) complaint refused
Stops_opening plan tells complaint (inr (job, named, stops)) = Stops_given plan tells job complaint named stops

-- a haul that is opened for the plan's job is opened for the plan
pub opened_for : (plan : Plan) (workers : ℕ) (job : Job) → job_named plan ≡ Ok job
    → (answer : Result Held Complaint) → IfOk answer (IsOpened job plan.set workers) → IfOk answer (IsOpenedFor plan workers)
opened_for plan workers job named (Ok held) is = record { job = job; named = named; opened = is }
opened_for plan workers job named (Err complaint) is = tt

pub not_opened : (plan : Plan) (job : Job) → job_named plan ≡ Ok job
    → (answer : Result Held Complaint) → IfErr answer (StopsSet plan.set) → IfErr answer (StopsOpening plan)
not_opened plan job named (Ok held) stops = tt
not_opened plan job named (Err complaint) stops = inr (job, named, stops)

-- a text that is correct for the plan's job is correct for the plan
pub right_given : (plan : Plan) (next : Job → Right) (job : Job) (text : List ℕ)
    → job_named plan ≡ Ok job → next job (Ok text) → IsRightGiven (job_named plan) next (Ok text)
right_given plan next job text named right = rw named right

-- if `AreRangesOf` holds for some ranges, the range list of the set is valid
pub listed : (set : SoupSet) (ranges : List Range) → AreRangesOf set ranges → IsListText set.also
listed set ranges of = record { ranges = of.listed; fit = of.fit; spelled = of.spelled }

-- if memory runs out after a haul was opened, that stops the command
pub Stops_memory : {workers : ℕ} (plan : Plan) (held : Held)
    → IsOpenedFor plan workers held → Stops (take_right plan) (Memory out_of_memory)
Stops_memory plan held is =
    Stops_given plan TellsAll is.job (Memory out_of_memory) is.named (listed plan.set is.opened.over.ranges is.opened.over.named)

-- ---- small ranges

-- `AreSmall` holds if it can't be false
pub small_from : (ranges : List Range) → ((AreSmall ranges → ⊥) → ⊥) → AreSmall ranges
small_from ranges never = record {
  below = λ k d low. at_most (λ small. small.below k d low);
  few = at_most (λ small. small.few);
}
  where
    at_most : {a b : ℕ} → (AreSmall ranges → a ≤ b) → a ≤ b
    at_most {a} {b} says = go (cases_Bool (nat_le a b))
      where
        go : (nat_le a b ≡ true) ⊎ (nat_le a b ≡ false) → a ≤ b
        go (inl yes_) = leb-true a b yes_
        go (inr no_) = absurd (never (λ small. let less = leb-false a b no_ in let most = says small in omega arith))

-- ---- the soups that a haul has taken

-- each missing number is in the ranges of the set
pub in_set : (ranges normal : List Range) (taken : List (ℕ × ℕ)) (n : ℕ) → IsNormalForm ranges normal → Contains (missing_of normal taken) n
    → is_in ranges n ≡ true
in_set ranges normal taken n form missing =
    sym (form.same n)
    ∙ All-contains (λ m. is_in normal m ≡ true) (missing_of normal taken) n
    (All-filter (λ m. not (is_taken taken m)) (λ m. is_in normal m ≡ true) (numbers_of normal) (numbers_within normal)) missing

-- the census of a haul has the job and the ranges for which the haul was opened
counted_by : {workers : ℕ} (job : Job) (set : SoupSet) (opened held : Held) (census : Census) → IsOpened job set workers opened
    → HasTakenMore opened held → IsCensus held.terms.job held.terms.ranges (numbers_in held.taken) census
    → IsCensus job opened.terms.ranges (numbers_in held.taken) census
counted_by job set opened held census open_ h is =
    subst (λ (j : Job). IsCensus j opened.terms.ranges (numbers_in held.taken) census) open_.job_is
    (subst (λ (t : Terms). IsCensus t.job t.ranges (numbers_in held.taken) census) h.terms is)

-- if all soups were taken, the haul text is correct
pub complete_right : {workers : ℕ} (job : Job) (set : SoupSet) (opened held : Held) (census : Census) → IsOpened job set workers opened
    → HasTakenMore opened held → AreAll held.terms.ranges (numbers_in held.taken)
    → IsCensus held.terms.job held.terms.ranges (numbers_in held.taken) census → IsRightForSet set (TellsAll job) (Ok (haul_text census))
complete_right job set opened held census open_ h all is = record {
  ranges = open_.over.ranges;
  named = open_.over.named;
  small = open_.over.small;
  apart = open_.over.apart;
  is_text = record {
    numbers = numbers_in held.taken;
    all = λ n. all n ∙ ap (λ (b : Bool). cond {A = ℕ} b 1 0)
        (ap (λ (t : Terms). is_in t.ranges n) h.terms ∙ open_.over.form.same n);
    normal = opened.terms.ranges;
    form = open_.over.form;
    census = census;
    counted = counted_by job set opened held census open_ h is;
    text_is = refl;
  };
}

-- which texts are correct if soups are missing: the gate may have stopped a worker, and the text has the census of the
-- soups that were taken
abbrev stopped_text : (may_stop lets : ℕ → ℕ → Type 0) → (workers missing : ℕ) → Job → List Range → List ℕ → Type 0
stopped_text may_stop lets workers missing job ranges text = MayStop may_stop ranges × TellsTaken lets workers job ranges missing text

-- if soups are missing, and the gate may have stopped a worker, the haul text of the soups that were taken is correct
pub stopped_told : (may_stop lets : ℕ → ℕ → Type 0) (workers : ℕ) (job : Job) (set : SoupSet) (opened held : Held) (census : Census) (missing : ℕ)
    → IsOpened job set workers opened → HasTakenMore opened held → All (λ t. is_in held.terms.ranges t.1 ≡ true) held.taken
    → IsDistinct nat_eq (numbers_in held.taken) → All (IsLetIn lets workers) held.taken → missing ≡ length (missing_of held.terms.ranges held.taken)
    → ¬ IsComplete held.terms.ranges held.taken → ((worker : ℕ) × StopsAt may_stop (was_missing opened) worker)
    → IsCensus held.terms.job held.terms.ranges (numbers_in held.taken) census
    → IsRightForSet set (stopped_text may_stop lets workers missing job) (Ok (haul_text census))
stopped_told may_stop lets workers job set opened held census missing open_ h within once let_in many incomplete stops is = record {
  ranges = open_.over.ranges;
  named = open_.over.named;
  small = open_.over.small;
  apart = open_.over.apart;
  is_text = (
    (stops.0, stops.1.0, in_set open_.over.ranges opened.terms.ranges opened.taken stops.1.0 open_.over.form stops.1.1, stops.1.2),
    record {
      normal = opened.terms.ranges;
      form = open_.over.form;
      taken = held.taken;
      within = All-weaker (λ (t : ℕ × ℕ). is_in held.terms.ranges t.1 ≡ true) (λ (t : ℕ × ℕ). is_in open_.over.ranges t.1 ≡ true)
          (λ t at. sym (ap (λ (ts : Terms). is_in ts.ranges t.1) h.terms ∙ open_.over.form.same t.1) ∙ at) held.taken within;
      once = once;
      let_in = let_in;
      incomplete = subst (λ (t : Terms). ¬ IsComplete t.ranges held.taken) h.terms incomplete;
      missing_is = many ∙ ap (λ (t : Terms). length (missing_of t.ranges held.taken)) h.terms;
      census = census;
      counted = counted_by job set opened held census open_ h is;
      text_is = refl;
    },
  );
}

-- the haul text of the soups that were taken is correct, whether or not soups are missing
taken_told : (may_stop lets : ℕ → ℕ → Type 0) (workers : ℕ) (plan : Plan) (held : Held) (census : Census)
    (missing : ℕ) → IsTaken may_stop lets plan workers held → missing ≡ length (missing_of held.terms.ranges held.taken)
    → (missing ≡ 0) ↔ IsComplete held.terms.ranges held.taken → IsCensusOf held census
    → right_if (take_right plan) (stopped_right may_stop lets plan workers) missing (Ok (haul_text census))
taken_told may_stop lets workers plan held census missing h many none is = go missing many none h.ends
  where
    go : (n : ℕ) → n ≡ length (missing_of held.terms.ranges held.taken) → (n ≡ 0) ↔ IsComplete held.terms.ranges held.taken
        → EndsCrew may_stop h.opened held
        → right_if (take_right plan) (stopped_right may_stop lets plan workers) n (Ok (haul_text census))
    go zero many none (inl whole) =
        right_given plan (λ j. IsRightForSet plan.set (TellsAll j)) h.is.job (haul_text census) h.is.named
        (complete_right h.is.job plan.set h.opened held census h.is.opened h.grown whole.1 is)
    go zero many none (inr less) = absurd (less.0 (none.0 refl))
    go (suc n) many none (inl whole) = let bad = none.1 whole.0 in cc
    go (suc n) many none (inr less) =
        right_given plan (λ j. IsRightForSet plan.set (stopped_text may_stop lets workers (suc n) j)) h.is.job (haul_text census) h.is.named
        (stopped_told may_stop lets workers h.is.job plan.set h.opened held census (suc n) h.is.opened h.grown h.within h.once h.let_in many less.0 (less.1, less.2) is)

-- ---- how `take` ends

-- if a complaint stops `take`, and nothing was written to either stream, `take` may end with this complaint
pub take_stops : (may_stop lets : ℕ → ℕ → Type 0) (workers : ℕ) (plan : Plan) (reader : Option (List ℕ)) (bytes : List ℕ)
    (complaint : Complaint) (output errors : Stream) → Stops (take_right plan) complaint → Has output [] → IsUntouched errors
    → Reaches (gated_behaviour may_stop lets plan workers) reader bytes (Err complaint) output errors
take_stops may_stop lets workers plan reader bytes (Refused refusal) output errors stops nothing still =
    (stops, record { nothing = nothing; silent = still.0; fine = still.1 })
take_stops may_stop lets workers plan reader bytes (Memory error) output errors stops nothing still =
    record { hides = λ unread complaint is. stops complaint is; left = nothing; diagnostics = inl still.0; fine = still.1 }
take_stops may_stop lets workers plan reader bytes (ReadFailed error) output errors stops nothing still = absurd stops
take_stops may_stop lets workers plan reader bytes TooLong output errors stops nothing still = absurd stops
take_stops may_stop lets workers plan reader bytes (WriteFailed error) output errors stops nothing still = absurd stops

-- each way in which writing the haul text ends is a correct end of `take`
take_finishes : (may_stop lets : ℕ → ℕ → Type 0) (workers : ℕ) (plan : Plan) (reader : Option (List ℕ))
    (bytes : List ℕ) (held : Held) (outcome : Outcome) (output errors : Stream) → IsTaken may_stop lets plan workers held
    → (length (missing_of held.terms.ranges held.taken) ≡ 0) ↔ IsComplete held.terms.ranges held.taken → Finishes held outcome output → IsUntouched errors
    → Reaches (gated_behaviour may_stop lets plan workers) reader bytes outcome output errors
take_finishes may_stop lets workers plan reader bytes held (Ok missing) output errors h none finished still =
    let zero_if : (missing ≡ 0) ↔ IsComplete held.terms.ranges held.taken =
    subst (λ (n : ℕ). (n ≡ 0) ↔ IsComplete held.terms.ranges held.taken) (sym finished.missing_is) none in
    record {
      made = record { text = haul_text finished.census; diagnostics = []; missing = missing };
      is = (taken_told may_stop lets workers plan held finished.census missing h finished.missing_is zero_if finished.counted, refl);
      missing_is = refl;
      text = finished.text;
      written = finished.fine;
      diagnostics = still.0;
      fine = still.1;
    }
take_finishes may_stop lets workers plan reader bytes held (Err (Memory error)) output errors h none nothing still =
    take_stops may_stop lets workers plan reader bytes (Memory error) output errors (Stops_memory plan h.opened h.is)
    nothing still
take_finishes may_stop lets workers plan reader bytes held (Err (WriteFailed error)) output errors h none half still =
    let many : ℕ = length (missing_of held.terms.ranges held.taken) in
    inl (record {
      left = (
        record { text = haul_text half.census; diagnostics = []; missing = many },
        (taken_told may_stop lets workers plan held half.census many h refl none half.counted, refl),
        half.prefix,
        still.0,
      );
      cut = half.cut;
      fine = still.1;
    })
take_finishes may_stop lets workers plan reader bytes held (Err (ReadFailed error)) output errors h none not still = absurd not
take_finishes may_stop lets workers plan reader bytes held (Err TooLong) output errors h none not still = absurd not
take_finishes may_stop lets workers plan reader bytes held (Err (Refused refusal)) output errors h none not still = absurd not

-- once its haul is open, each way in which `take` ends is correct
pub take_ends : (may_stop lets : ℕ → ℕ → Type 0) (workers : ℕ) (plan : Plan)
    (reader : Option (List ℕ)) (bytes : List ℕ) (opened held : Held) (taken : Result (Unit {0}) Complaint) (outcome : Outcome) (output errors : Stream)
    → IsOpenedFor plan workers opened → HasTakenMore opened held → All (λ t. is_in held.terms.ranges t.1 ≡ true) held.taken
    → IsDistinct nat_eq (numbers_in held.taken) → HasLetIn lets workers opened held → IfOk taken (λ _. EndsCrew may_stop opened held)
    → IfErr taken (λ complaint. complaint ≡ Memory out_of_memory)
    → IfOk taken (λ _. Finishes held outcome output)
    → IfOk taken (λ _. (length (missing_of held.terms.ranges held.taken) ≡ 0) ↔ IsComplete held.terms.ranges held.taken)
    → IfErr taken (λ complaint. (outcome ≡ Err complaint) × Has output []) → IsUntouched errors
    → Reaches (gated_behaviour may_stop lets plan workers) reader bytes outcome output errors
take_ends may_stop lets workers plan reader bytes opened held (Ok u) outcome output errors is grown within once let_in ends memory finishes none gives_up still =
    take_finishes may_stop lets workers plan reader bytes held outcome output errors
    (record {
      opened = opened;
      is = is;
      grown = grown;
      within = within;
      once = once;
      let_in = let_in_all opened held is.opened.stands.taken let_in;
      ends = ends;
    }) none finishes still
take_ends may_stop lets workers plan reader bytes opened held (Err complaint) outcome output errors is grown within once let_in ends memory finishes none gives_up still =
    subst (λ (o : Outcome). Reaches (gated_behaviour may_stop lets plan workers) reader bytes o output errors) (sym (gives_up.0 ∙ ap Err memory))
    (take_stops may_stop lets workers plan reader bytes (Memory out_of_memory) output errors (Stops_memory plan opened is) gives_up.1 still)

-- the complaint that memory ran out isn't a refusal
pub memory_accepted : (taken : Result (Unit {0}) Complaint) → IfErr taken (λ complaint. complaint ≡ Memory out_of_memory)
    → IfErr taken (λ complaint. status_of complaint ≢ statuses.Refused)
memory_accepted (Ok u) memory = tt
memory_accepted (Err complaint) memory = λ refused. let bad : statuses.Memory ≡ statuses.Refused = sym (ap status_of memory) ∙ refused in cc

-- if a gate stops no worker, no text with missing soups is correct
never_right : (may_stop lets : ℕ → ℕ → Type 0) (workers : ℕ) (plan : Plan) (missing : ℕ) (text : List ℕ)
    → ((worker n : ℕ) → may_stop worker n → ⊥) → stopped_right may_stop lets plan workers missing (Ok text) → ⊥
never_right may_stop lets workers plan missing text never = go (job_named plan)
  where
    go : (r : Result Job Complaint)
        → IsRightGiven r (λ job. IsRightForSet plan.set (stopped_text may_stop lets workers missing job)) (Ok text) → ⊥
    go (Ok job) is = let stops = is.is_text.0 in never stops.0 stops.1 stops.3
    go (Err complaint) is = cc

-- if a gate stops no worker, `take` makes only the haul text of the complete haul
never_less : (may_stop lets : ℕ → ℕ → Type 0) (workers : ℕ) (plan : Plan) (made : Made)
    → ((worker n : ℕ) → may_stop worker n → ⊥) → taken_right may_stop lets plan workers (Ok made) → alone (take_right plan) (Ok made)
never_less may_stop lets workers plan made never is = go made.missing refl is.0
  where
    go : (n : ℕ) → made.missing ≡ n
        → right_if (take_right plan) (stopped_right may_stop lets plan workers) n (Ok made.text)
        → alone (take_right plan) (Ok made)
    go zero none right = (right, is.1, none)
    go (suc n) some right = absurd (never_right may_stop lets workers plan (suc n) made.text never right)

pub never_stopped : (may_stop lets : ℕ → ℕ → Type 0) (workers : ℕ) (plan : Plan) (reader : Option (List ℕ)) (bytes : List ℕ)
    (status : Status) (output errors : Stream) → ((worker n : ℕ) → may_stop worker n → ⊥)
    → Ends (gated_behaviour may_stop lets plan workers) reader bytes status output errors
    → Ends (take_behaviour plan) reader bytes status output errors
never_stopped may_stop lets workers plan reader bytes status output errors never ends = record {
  outcome = ends.outcome;
  so_far = ends.so_far;
  from = ends.from;
  reached = go ends.outcome ends.reached;
  stays = ends.stays;
  last = ends.last;
  status_is = ends.status_is;
}
  where
    gated : Behaviour
    gated = gated_behaviour may_stop lets plan workers

    whole : Behaviour
    whole = take_behaviour plan

    go : (outcome : Outcome) → Reaches gated reader bytes outcome output ends.so_far → Reaches whole reader bytes outcome output ends.so_far
    go (Ok missing) is = record {
      made = is.made;
      is = never_less may_stop lets workers plan is.made never is.is;
      missing_is = is.missing_is;
      text = is.text;
      written = is.written;
      diagnostics = is.diagnostics;
      fine = is.fine;
    }
    go (Err (Refused refusal)) is = is
    go (Err (Memory error)) is = record { hides = is.hides; left = is.left; diagnostics = is.diagnostics; fine = is.fine }
    go (Err (ReadFailed error)) is = record { reads = is.reads; begun = is.begun; nothing = is.nothing; fine = is.fine }
    go (Err TooLong) (right, is) = (right, record { reads = is.reads; begun = is.begun; nothing = is.nothing; fine = is.fine })
    go (Err (WriteFailed error)) (inl is) =
        let (made, right, prefix, diagnostics) = is.left in
        inl (record { left = (made, never_less may_stop lets workers plan made never right, prefix, diagnostics); cut = is.cut; fine = is.fine })
    go (Err (WriteFailed error)) (inr is) = absurd is.cut

-- ---- what `take` prints

-- if a text that is correct for a plan was printed, the census of the plan's job over the plan's set was printed
pub prints_right : (plan : Plan) (text : List ℕ) (before after : Option (List ℕ)) → take_right plan (Ok text)
    → Appends before after text → PrintsCensus plan before after
prints_right plan text before after right grown = go (job_named plan) refl right
  where
    go : (named : Result Job Complaint) → job_named plan ≡ named
        → IsRightGiven named (λ job. IsRightForSet plan.set (TellsAll job)) (Ok text) → PrintsCensus plan before after
    go (Ok job) is right_for = record {
      job = job;
      job_is = is;
      ranges = right_for.ranges;
      named = right_for.named;
      text = text;
      tells = right_for.is_text;
      grown = grown;
    }
    go (Err complaint) is right_for = cc

-- no complaint has the status `Done`
pub not_done : (complaint : Complaint) → status_of complaint ≡ statuses.Done → ⊥
not_done (Refused refusal) is = cc
not_done (Memory error) is = cc
not_done (ReadFailed error) is = cc
not_done TooLong is = cc
not_done (WriteFailed error) is = cc

pub prints_census : (plan : Plan) (reader : Option (List ℕ)) (bytes : List ℕ) (status : Status) (output errors : Stream)
    → Ends (take_behaviour plan) reader bytes status output errors → status ≡ statuses.Done
    → PrintsCensus plan output.before output.after
prints_census plan reader bytes status output errors ends done = go ends.outcome ends.reached (sym ends.status_is ∙ done)
  where
    go : (outcome : Outcome) → Reaches (take_behaviour plan) reader bytes outcome output ends.so_far
        → status_after outcome ≡ statuses.Done → PrintsCensus plan output.before output.after
    go (Ok missing) is done = prints_right plan is.made.text output.before output.after is.is.0 is.text
    go (Err complaint) is done = absurd (not_done complaint done)
