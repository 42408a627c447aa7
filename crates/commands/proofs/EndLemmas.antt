-- How `gather` ends, and how far it has read its input then.
use Rattle.std.proofs.Common.{◌≡◌, ◌∙◌, ◌+◌, ◌++◌, ◌<◌, ◌≤◌, ◌^◌, ◌⊎◌, ℕ, zero, suc, false, inl, inr, List, [], ◌∷◌, Option, None, Some, Ok, Err, IfErr, ap, arith, length, refl, subst, sym, true}
use Rattle.std.specs.Prelude.{is_ok}
use Rattle.std.specs.Io.KnownBytes.{prepend_known}
use Rattle.std.specs.List.{range_with_len}
use Rattle.std.proofs.lemmas.List.FromFn.{length-range_with_len}
use Rattle.memory.specs.Witness.{out_of_memory}
use Rattle.survey_core.specs.declared.job.Job.{Job}
use Rattle.haul_core.specs.declared.book.arrival.Arrival.{Arrival}
use Rattle.haul_core.specs.declared.book.arrival.Arrival.TheVariants.{Closing}
use Rattle.haul_core.specs.declared.book.census.Census.{Census}
use Rattle.haul_core.specs.Books.{Held, StandsFor, Terms, taken_of}
use Rattle.haul_core.specs.Censuses.{IsCensus}
use Rattle.haul_core.specs.HaulTexts.{haul_text}
use Rattle.haul_core.specs.Keeping.{numbers_in}
use Rattle.haul_core.specs.Missing.{missing_of}
use Rattle.ranges.specs.RangeLists.{IsListText}
use Rattle.pattern_commands.specs.declared.ending.complaint.Complaint.{Complaint}
use Rattle.pattern_commands.specs.declared.ending.complaint.Complaint.TheVariants.{Refused, Memory, ReadFailed, TooLong, WriteFailed}
use Rattle.requests.specs.declared.plan.Plan.{Plan}
use Rattle.pattern_commands.specs.declared.ending.refusal.Refusal.{Refusal}
use Rattle.requests.specs.declared.plan.SoupSet.{SoupSet}
use Rattle.pattern_commands.specs.declared.ending.status.Status.TheVariants as statuses
use Rattle.pattern_commands.specs.Answers.{IsInput, NeedsMemory}
use Rattle.pattern_commands.specs.Complaints.{status_of}
use Rattle.pattern_commands.specs.Ends.{status_after}
use Rattle.pattern_commands.specs.Reached.{IsSilent, Outcome, Reaches}
use Rattle.commands.specs.Finish.{Finishes, IsCensusOf}
use Rattle.commands.specs.Gather.{BeginsHaul, HasReadUpTo, IsSame, GivesUpAt, gather_reads, gather_behaviour, haul_behaviour}
use Rattle.commands.specs.GatherSteps.{EndsLines, EndsLinesAt, HasGatheredShort}
use Rattle.commands.specs.Gathering.{IsGathered, IsHaulOver, gather_opens, gather_right, gathered_right}
use Rattle.commands.specs.LinesSoFar.{HasBegun}
use Rattle.commands.specs.GatheredLines.{Gathered}
use Rattle.commands.specs.Lines.{input_lines}
use Rattle.commands.specs.SoupSets.{Bad_list, IsRefused, Overlapping, Too_large, job_named}
use Rattle.pattern_commands.specs.Streams.{Stream, Has}
use Rattle.commands.specs.TakeSteps.{IsOpened, StopsOpening, StopsSet}
use Rattle.pattern_commands.specs.Behaviours.{Made, NeedsMemoryAlone}
use Rattle.commands.proofs.GatherLemmas.{all_begun}
use Rattle.commands.proofs.LineLemmas.{all_spent}
use Rattle.commands.proofs.TakeLemmas.{job_refused}

-- if a set's range list is valid, memory is needed to find out that the set is refused
list_needs : (set : SoupSet) (refusal : Refusal) → IsListText set.also → IsRefused set refusal → NeedsMemory (Refused refusal)
list_needs set refusal listed (Bad_list not place fault is) = absurd (not listed)
list_needs set refusal listed (Too_large ranges named large is) = subst (λ (r : Refusal). NeedsMemory (Refused r)) (sym is) tt
list_needs set refusal listed (Overlapping ranges named small overlap is) = subst (λ (r : Refusal). NeedsMemory (Refused r)) (sym is) tt

list_hides : (plan : Plan) (workers : ℕ) (bytes : List ℕ) (job : Job) → job_named plan ≡ Ok job
    → IsListText plan.set.also → NeedsMemoryAlone (gather_right plan workers bytes)
list_hides plan workers bytes job named listed (Refused refusal) is = list_needs plan.set refusal listed (rw named at is)
list_hides plan workers bytes job named listed (Memory error) is = absurd is
list_hides plan workers bytes job named listed (ReadFailed error) is = absurd is
list_hides plan workers bytes job named listed TooLong is = tt
list_hides plan workers bytes job named listed (WriteFailed error) is = absurd is

-- if the job is refused and nothing was written, the complaint about the job is a correct end of `gather`
gathers_job : (plan : Plan) (workers : ℕ) (bytes : List ℕ) (reader : Option (List ℕ)) (complaint : Complaint)
    (output errors : Stream) → job_named plan ≡ Err complaint → IsSilent output errors
    → Reaches (gather_behaviour plan workers) reader bytes (Err complaint) output errors
gathers_job plan workers bytes reader (Refused refusal) output errors named silent = (rw named refl, silent)
gathers_job plan workers bytes reader (Memory error) output errors named silent = absurd (job_refused plan (Memory error) named)
gathers_job plan workers bytes reader (ReadFailed error) output errors named silent = absurd (job_refused plan (ReadFailed error) named)
gathers_job plan workers bytes reader TooLong output errors named silent = absurd (job_refused plan TooLong named)
gathers_job plan workers bytes reader (WriteFailed error) output errors named silent = absurd (job_refused plan (WriteFailed error) named)

-- if the job is valid and nothing was written, a refusal of the set is a correct end of `gather`; running out of memory
-- is a correct end if the set's range list is valid
gathers_set : (plan : Plan) (workers : ℕ) (bytes : List ℕ) (reader : Option (List ℕ)) (job : Job)
    (complaint : Complaint) (output errors : Stream) → job_named plan ≡ Ok job → StopsSet plan.set complaint → IsSilent output errors
    → Reaches (gather_behaviour plan workers) reader bytes (Err complaint) output errors
gathers_set plan workers bytes reader job (Refused refusal) output errors named stops silent = (rw named stops, silent)
gathers_set plan workers bytes reader job (Memory error) output errors named stops silent = record {
  hides = λ _. list_hides plan workers bytes job named stops;
  left = silent.nothing;
  diagnostics = inl silent.silent;
  fine = silent.fine;
}
gathers_set plan workers bytes reader job (ReadFailed error) output errors named stops silent = absurd stops
gathers_set plan workers bytes reader job TooLong output errors named stops silent = absurd stops
gathers_set plan workers bytes reader job (WriteFailed error) output errors named stops silent = absurd stops

-- if a complaint ended `gather` before a haul was opened, and nothing was written, the complaint is a correct end
pub gathers_opening : (plan : Plan) (workers : ℕ) (bytes : List ℕ) (reader : Option (List ℕ)) (complaint : Complaint)
    (output errors : Stream) → StopsOpening plan complaint → IsSilent output errors
    → Reaches (gather_behaviour plan workers) reader bytes (Err complaint) output errors
gathers_opening plan workers bytes reader complaint output errors (inl refused) silent =
    gathers_job plan workers bytes reader complaint output errors refused silent
gathers_opening plan workers bytes reader complaint output errors (inr (job, named, stops)) silent =
    gathers_set plan workers bytes reader job complaint output errors named stops silent

-- `gather_reads` isn't false for a plan whose job is valid
pub reads_named : (plan : Plan) (job : Job) → job_named plan ≡ Ok job
    → gather_reads plan ≡ false → ⊥
reads_named plan job named unread = let bad : true ≡ false = sym (ap is_ok named) ∙ unread in cc

-- if all lines were gathered, `IsGathered` holds for the haul text of the closed haul
is_gathered : (terms : Terms) (held closed : Held) (census : Census) (n : ℕ) (reader left : Option (List ℕ)) (errors : Stream)
    → (all : HasGatheredShort reader left errors held) → held.terms ≡ terms → closed.terms ≡ held.terms
    → closed.taken ≡ held.taken
    → ((arrivals : List Arrival) → StandsFor arrivals held → StandsFor (arrivals ++ Closing ∷ []) closed)
    → IsCensusOf held census → n ≡ length (missing_of held.terms.ranges held.taken)
    → IsGathered terms all.all.bytes (record { text = haul_text census; diagnostics = all.all.diagnostics; missing = n })
is_gathered terms held closed census n reader left errors all same kept took closes counted many =
    let read = all.all in
    let P : Terms → Type 0 = λ t. Gathered t (input_lines read.bytes) read.come.arrivals read.diagnostics in
    let Q : Terms → Type 0 = λ t. IsCensus t.job t.ranges (numbers_in held.taken) census in
    let stands = closes read.come.arrivals read.come.stands in
    record {
      short = subst (λ (n : ℕ). n ≤ 2 ^ 32) read.size_is all.short;
      arrivals = read.come.arrivals;
      gathered = subst P same read.come.gathered;
      taken = held.taken;
      taken_is = sym took ∙ stands.taken ∙ ap (λ (t : Terms). taken_of t (read.come.arrivals ++ Closing ∷ [])) (kept ∙ same);
      census = census;
      counted = subst Q same counted;
      text_is = refl;
      missing_is = many ∙ ap (λ (t : Terms). length (missing_of t.ranges held.taken)) same;
    }

-- once a haul is open, `gathered_right` allows only the complaint `TooLong`, which can't be found without memory
long_hides : (terms : Terms) (bytes : List ℕ) → NeedsMemoryAlone (gathered_right terms bytes)
long_hides terms bytes (Refused refusal) is = absurd is
long_hides terms bytes (Memory error) is = absurd is
long_hides terms bytes (ReadFailed error) is = absurd is
long_hides terms bytes TooLong is = tt
long_hides terms bytes (WriteFailed error) is = absurd is

-- if standard error has the diagnostics about the lines gathered so far, no write to it failed, and nothing was written
-- to standard output, running out of memory is a correct end of `gather`
gathers_memory : (terms : Terms) (bytes : List ℕ) (reader : Option (List ℕ)) (output errors : Stream) → HasBegun terms reader errors.before errors.after
    → Has output [] → errors.failed ≡ false → Reaches (haul_behaviour terms) reader bytes (Err (Memory out_of_memory)) output errors
gathers_memory terms bytes reader output errors begun nothing fine = record {
  hides = λ _. long_hides terms bytes;
  left = nothing;
  diagnostics = inr (record { terms = terms; opened = refl; begun = begun });
  fine = fine;
}

-- if nothing was written to standard output, a complaint that ends the gathering of lines is a correct end of `gather`
-- for the input `bytes`; if the complaint is `TooLong`, this input must have more than 2^32 bytes
gathers_on : (terms : Terms) (bytes : List ℕ) (reader left : Option (List ℕ)) (complaint : Complaint) (output errors : Stream)
    → (complaint ≡ TooLong → 2 ^ 32 < length bytes)
    → EndsLines terms reader left errors complaint → Has output []
    → Reaches (haul_behaviour terms) reader bytes (Err complaint) output errors
gathers_on terms bytes reader left (Refused refusal) output errors long ends nothing = absurd ends
gathers_on terms bytes reader left (Memory error) output errors long ends nothing =
    gathers_memory terms bytes reader output errors (left, ends.0) nothing ends.1
gathers_on terms bytes reader left (ReadFailed error) output errors long ends nothing =
    record { reads = refl; begun = record { terms = terms; opened = refl; begun = (left, ends.0) }; nothing = nothing; fine = ends.1 }
gathers_on terms bytes reader left TooLong output errors long ends nothing = (
  long refl,
  record { reads = refl; begun = record { terms = terms; opened = refl; begun = (left, ends.0) }; nothing = nothing; fine = ends.1 },
)
gathers_on terms bytes reader left (WriteFailed error) output errors long ends nothing =
    inr (record { cut = ends; nothing = nothing })

-- if nothing was written to standard output, a complaint that ends the gathering of lines is a correct end of `gather`
-- for some bytes that may be its input
pub gathers_lines : (terms : Terms) (reader left : Option (List ℕ)) (complaint : Complaint) (output errors : Stream)
    → EndsLines terms reader left errors complaint → Has output []
    → (bytes : List ℕ) × IsInput reader bytes × Reaches (haul_behaviour terms) reader bytes (Err complaint) output errors
gathers_lines terms None left complaint output errors ends nothing =
    let bytes = range_with_len 0 (2 ^ 32 + 1) in (
      bytes,
      tt,
      gathers_on terms bytes None left complaint output errors
          (λ _. subst (λ n. 2 ^ 32 < n) (sym (length-range_with_len 0 (2 ^ 32 + 1))) (omega arith)) ends nothing,
    )
gathers_lines terms (Some all) left complaint output errors ends nothing = (
  all,
  refl,
  gathers_on terms all (Some all) left complaint output errors
      (λ is. let long = subst (EndsLines terms (Some all) left errors) is ends in long.2) ends nothing,
)

-- if all lines were gathered, each way in which the haul is finished is a correct end of `gather`
pub gathers_haul : (terms : Terms) (held closed : Held) (reader left : Option (List ℕ)) (outcome : Outcome) (output errors : Stream)
    → (all : HasGatheredShort reader left errors held) → held.terms ≡ terms → closed.terms ≡ held.terms
    → closed.taken ≡ held.taken
    → ((arrivals : List Arrival) → StandsFor arrivals held → StandsFor (arrivals ++ Closing ∷ []) closed)
    → Finishes held outcome output → errors.failed ≡ false → Reaches (haul_behaviour terms) reader all.all.bytes outcome output errors
gathers_haul terms held closed reader left outcome output errors all same kept took closes finishes fine = go outcome finishes
  where
    gathered : (census : Census) (n : ℕ) → IsCensusOf held census → n ≡ length (missing_of held.terms.ranges held.taken)
        → IsGathered terms all.all.bytes (record { text = haul_text census; diagnostics = all.all.diagnostics; missing = n })
    gathered census n counted many = is_gathered terms held closed census n reader left errors all same kept took closes
        counted many

    go : (outcome : Outcome) → Finishes held outcome output → Reaches (haul_behaviour terms) reader all.all.bytes outcome output errors
    go (Ok missing) is = record {
      made = record { text = haul_text is.census; diagnostics = all.all.diagnostics; missing = missing };
      is = gathered is.census missing is.counted is.missing_is;
      missing_is = refl;
      text = is.text;
      written = is.fine;
      diagnostics = all.all.written;
      fine = fine;
    }
    go (Err (Memory error)) nothing =
        let place = prepend_known all.ahead left in
        gathers_memory terms all.all.bytes reader output errors (place, all_begun reader place errors all.size held terms all.all same)
        nothing fine
    go (Err (WriteFailed error)) is = inl (record {
      left = (
        record { text = haul_text is.census; diagnostics = all.all.diagnostics; missing = length (missing_of held.terms.ranges held.taken) },
        gathered is.census (length (missing_of held.terms.ranges held.taken)) is.counted refl,
        is.prefix,
        all.all.written,
      );
      cut = is.cut;
      fine = fine;
    })
    go (Err (ReadFailed error)) is = absurd is
    go (Err TooLong) is = absurd is
    go (Err (Refused refusal)) is = absurd is

-- `IsHaulOver` holds for the terms of a haul that was opened
pub is_over : (job : Job) (set : SoupSet) (workers : ℕ) (held : Held) → IsOpened job set workers held → IsHaulOver set workers job held.terms
is_over job set workers held open_ = record {
  ranges = open_.over.ranges;
  named = open_.over.named;
  small = open_.over.small;
  apart = open_.over.apart;
  form = open_.over.form;
  job_is = open_.job_is;
  workers_are = open_.workers_are;
}

-- `gather_opens` holds for the terms of a haul over a plan's set, and for all terms that equal them
opens_over : (plan : Plan) (workers : ℕ) (job : Job) (terms others : Terms) → job_named plan ≡ Ok job
    → IsHaulOver plan.set workers job terms → others ≡ terms → gather_opens plan workers others
opens_over plan workers job terms others named over same =
    let other : IsHaulOver plan.set workers job others = subst (IsHaulOver plan.set workers job) (sym same) over in
    rw named other

-- an end that is correct for an open haul is correct for the plan
pub gathers_over : (plan : Plan) (workers : ℕ) (bytes : List ℕ) (reader : Option (List ℕ)) (job : Job) (terms : Terms)
    (outcome : Outcome) (output errors : Stream) → job_named plan ≡ Ok job → IsHaulOver plan.set workers job terms
    → Reaches (haul_behaviour terms) reader bytes outcome output errors
    → Reaches (gather_behaviour plan workers) reader bytes outcome output errors
gathers_over plan workers bytes reader job terms outcome output errors named over = go outcome
  where
    opens : (others : Terms) → others ≡ terms → gather_opens plan workers others
    opens others same = opens_over plan workers job terms others named over same

    right : (gathering : Made) → IsGathered terms bytes gathering → gather_right plan workers bytes (Ok gathering)
    right gathering is = record { terms = terms; opened = opens terms refl; is = is }

    begins : BeginsHaul (IsSame terms) reader errors.before errors.after
        → BeginsHaul (gather_opens plan workers) reader errors.before errors.after
    begins is = record { terms = is.terms; opened = opens is.terms is.opened; begun = is.begun }

    diagnostics : Has errors [] ⊎ BeginsHaul (IsSame terms) reader errors.before errors.after
        → Has errors [] ⊎ BeginsHaul (gather_opens plan workers) reader errors.before errors.after
    diagnostics (inl silent) = inl silent
    diagnostics (inr is) = inr (begins is)

    listed : IsListText plan.set.also
    listed = record { ranges = over.named.listed; fit = over.named.fit; spelled = over.named.spelled }

    go : (outcome : Outcome) → Reaches (haul_behaviour terms) reader bytes outcome output errors
        → Reaches (gather_behaviour plan workers) reader bytes outcome output errors
    go (Ok missing) is = record {
      made = is.made;
      is = right is.made is.is;
      missing_is = is.missing_is;
      text = is.text;
      written = is.written;
      diagnostics = is.diagnostics;
      fine = is.fine;
    }
    go (Err (Refused refusal)) is = absurd (is.0)
    go (Err (Memory error)) is = record {
      hides = λ _. list_hides plan workers bytes job named listed;
      left = is.left;
      diagnostics = diagnostics is.diagnostics;
      fine = is.fine;
    }
    go (Err (ReadFailed error)) is = record { reads = rw named refl; begun = begins is.begun; nothing = is.nothing; fine = is.fine }
    go (Err TooLong) (long, is) = (
      (terms, opens terms refl, long),
      record { reads = rw named refl; begun = begins is.begun; nothing = is.nothing; fine = is.fine },
    )
    go (Err (WriteFailed error)) (inl is) =
        let (made, gathered, prefix, diagnostics) = is.left in
        inl (record { left = (made, right made gathered, prefix, diagnostics); cut = is.cut; fine = is.fine })
    go (Err (WriteFailed error)) (inr is) = inr (record { cut = ((terms, opens terms refl), is.cut); nothing = is.nothing })

-- ---- how far the input was read

-- `HasReadUpTo` holds if no haul was opened, nothing was read, and nothing was written to standard error
pub unread_opening : {R : Type 0} (plan : Plan) (workers : ℕ) (remaining : R → Option (List ℕ)) (input : R) (complaint : Complaint)
    (errors : Stream) → StopsOpening plan complaint → Has errors []
    → HasReadUpTo (gather_opens plan workers) remaining input input errors (Err complaint)
unread_opening plan workers remaining input (Refused refusal) errors stops silent = tt
unread_opening plan workers remaining input (Memory error) errors stops silent = inl (refl, silent)
unread_opening plan workers remaining input (ReadFailed error) errors (inl named) silent = absurd (job_refused plan (ReadFailed error) named)
unread_opening plan workers remaining input (ReadFailed error) errors (inr (job, named, stops)) silent = absurd stops
unread_opening plan workers remaining input TooLong errors (inl named) silent = absurd (job_refused plan TooLong named)
unread_opening plan workers remaining input TooLong errors (inr (job, named, stops)) silent = absurd stops
unread_opening plan workers remaining input (WriteFailed error) errors stops silent = tt

-- `HasReadUpTo` holds if a complaint ended the gathering of lines
pub stops_lines : {R : Type 0} (terms : Terms) (remaining : R → Option (List ℕ)) (old new : R) (errors : Stream) (complaint : Complaint)
    → EndsLinesAt terms (remaining old) (remaining new) errors complaint
    → HasReadUpTo (IsSame terms) remaining old new errors (Err complaint)
stops_lines terms remaining old new errors (Refused refusal) at_ = tt
stops_lines terms remaining old new errors (Memory error) at_ =
    inr (record { terms = terms; opened = refl; ahead = at_.ahead; few = at_.few; begun = at_.ends.0 })
stops_lines terms remaining old new errors (ReadFailed error) at_ =
    (record { terms = terms; opened = refl; ahead = at_.ahead; few = at_.few; begun = at_.ends.0 }, at_.ends.2)
stops_lines terms remaining old new errors TooLong at_ =
    record { terms = terms; opened = refl; ahead = at_.ahead; few = at_.few; begun = at_.ends.0 }
stops_lines terms remaining old new errors (WriteFailed error) at_ = tt

-- `HasReadUpTo` holds if all lines were gathered
pub stops_finished : {R : Type 0} (terms : Terms) (held : Held) (remaining : R → Option (List ℕ)) (old new : R) (outcome : Outcome)
    (output errors : Stream) → (all : HasGatheredShort (remaining old) (remaining new) errors held) → held.terms ≡ terms
    → Finishes held outcome output → HasReadUpTo (IsSame terms) remaining old new errors outcome
stops_finished terms held remaining old new (Ok missing) output errors all same is =
    all_spent (remaining old) (remaining new) all.ahead all.all.bytes all.all.input all.all.consumed
stops_finished terms held remaining old new (Err (Refused refusal)) output errors all same is = tt
stops_finished terms held remaining old new (Err (Memory error)) output errors all same is = inr (record {
  terms = terms;
  opened = refl;
  ahead = all.ahead;
  few = all.few;
  begun = all_begun (remaining old) (prepend_known all.ahead (remaining new)) errors all.size held terms all.all same;
})
stops_finished terms held remaining old new (Err (ReadFailed error)) output errors all same is = absurd is
stops_finished terms held remaining old new (Err TooLong) output errors all same is = absurd is
stops_finished terms held remaining old new (Err (WriteFailed error)) output errors all same is = tt

-- `HasReadUpTo` holds for the plan if it holds for an open haul over the plan's set
pub stops_over : {R : Type 0} (plan : Plan) (workers : ℕ) (job : Job) (terms : Terms) (remaining : R → Option (List ℕ)) (old new : R)
    (errors : Stream) (outcome : Outcome) → job_named plan ≡ Ok job → IsHaulOver plan.set workers job terms
    → HasReadUpTo (IsSame terms) remaining old new errors outcome
    → HasReadUpTo (gather_opens plan workers) remaining old new errors outcome
stops_over plan workers job terms remaining old new errors outcome named over = go outcome
  where
    stops : (most : ℕ) → GivesUpAt (IsSame terms) most (remaining old) (remaining new) errors
        → GivesUpAt (gather_opens plan workers) most (remaining old) (remaining new) errors
    stops most is = record {
      terms = is.terms;
      opened = opens_over plan workers job terms is.terms named over is.opened;
      ahead = is.ahead;
      few = is.few;
      begun = is.begun;
    }

    go : (outcome : Outcome) → HasReadUpTo (IsSame terms) remaining old new errors outcome
        → HasReadUpTo (gather_opens plan workers) remaining old new errors outcome
    go (Ok missing) is = is
    go (Err (Refused refusal)) is = tt
    go (Err (Memory error)) (inl unread) = inl unread
    go (Err (Memory error)) (inr is) = inr (stops (2 ^ 16) is)
    go (Err (ReadFailed error)) is = (stops 0 is.0, is.1)
    go (Err TooLong) is = stops (2 ^ 16) is
    go (Err (WriteFailed error)) is = tt

-- ---- which outcomes have the status `Refused` or `Memory`

-- only a complaint has the status `Refused`
pub if_refused : {P : Type 0} (outcome : Outcome) → status_after outcome ≡ statuses.Refused
    → IfErr outcome (λ complaint. status_of complaint ≡ statuses.Refused → P) → P
if_refused (Ok zero) is = cc
if_refused (Ok (suc n)) is = cc
if_refused (Err complaint) is = λ so. so is

-- only the complaint that memory ran out has the status `Memory`
pub if_memory : {P : Type 0} (outcome : Outcome) → status_after outcome ≡ statuses.Memory
    → IfErr outcome (λ complaint. complaint ≡ Memory out_of_memory → P) → P
if_memory (Ok zero) is = cc
if_memory (Ok (suc n)) is = cc
if_memory (Err (Refused refusal)) is = cc
if_memory (Err (Memory error)) is = λ so. so refl
if_memory (Err (ReadFailed error)) is = cc
if_memory (Err TooLong) is = cc
if_memory (Err (WriteFailed error)) is = cc
