-- Proves the headline: a call of `take`, `name` or `gather` that was done has printed what its arguments ask for.
use Rattle.std.proofs.Common.{◌≡◌, ◌∙◌, ◌↔◌, suc, arith, ◌^◌, ℕ, Bool, true, false, List, Option, None, Some, Result, Ok, Err, IsSomeAnd, ap, length, nat_le, nat_lt, refl, subst, sym}
use Rattle.std.specs.Prelude.{IsOkAnd, if◌then◌else◌, position}
use Rattle.std.specs.Result.{result_map_both}
use Rattle.std.specs.Io.KnownBytes.{Appends}
use Rattle.plane_core.specs.declared.plane.cell.Cell.{Cell}
use Rattle.plane_core.specs.declared.plane.rule.RuleFault.{RuleFault}
use Rattle.plane_core.specs.declared.plaintext.PlaintextFault.{PlaintextFault}
use Rattle.plane_core.specs.Plaintext.{pattern}
use Rattle.plane_core.specs.plane.Rules.{Numbers, rule_read}
use Rattle.plane_core.proofs.lemmas.plane.RuleReading.{reads_rule, reads_text}
use Rattle.survey_core.specs.declared.job.Job.{Job}
use Rattle.survey_core.specs.declared.seed.SeedFault.{SeedFault}
use Rattle.survey_core.specs.declared.finding.Finding.{Finding}
use Rattle.haul_core.specs.Censuses.{IsCensus}
use Rattle.survey_core.specs.Findings.{IsFinding}
use Rattle.requests.specs.declared.plan.Plan.{Plan}
use Rattle.requests.specs.declared.plan.ProfileNumbers.{ProfileNumbers}
use Rattle.survey_core.specs.Profiles.{Settling}
use Rattle.survey_core.specs.Seeds.{is_invisible, most_bytes, seed_read}
use Rattle.pattern_commands.specs.declared.ending.complaint.Complaint.{Complaint}
use Rattle.pattern_commands.specs.declared.ending.complaint.Complaint.TheVariants.{Refused, TooLong}
use Rattle.pattern_commands.specs.declared.ending.refusal.Refusal.TheVariants.{HorizonBelowPeriod}
use Rattle.pattern_commands.specs.Answers.{IsRightGiven, given}
use Rattle.pattern_commands.specs.Behaviours.{Made}
use Rattle.pattern_commands.specs.Inputs.{pattern_complaint, pattern_of, rule_complaint, rule_named}
use Rattle.pattern_commands.specs.Name.{TellsFinding, finding_text, name_right}
use Rattle.pattern_commands.specs.Profiles.{profile_named, settling}
use Rattle.pattern_commands.specs.Soup.{seed_complaint, seed_named}
use Rattle.pattern_commands.specs.Streams.{Stream}
use Rattle.commands.specs.CorrectLines.{HasCorrectLine, IsOfCorrectLines}
use Rattle.commands.specs.Gathering.{IsHaulOver}
use Rattle.commands.specs.SoupSets.{job_named}
use Rattle.commands.specs.Take.{PrintsCensus, take_right}
use Rattle.commands.proofs.CorrectLineLemmas.{gather_takes_correct_lines}
use Rattle.commands.proofs.TakeLemmas.{prints_right}
use Rattle.arguments.specs.declared.request.Request.{Request}
use Rattle.arguments.specs.declared.request.Request.TheVariants.{Gather, Name, Take}
use Rattle.arguments.specs.GivenValues.{number_given, number_if_given, plan_given, profile_given, text_given}
use Rattle.arguments.specs.Requests.{Text, asked_by}
use Rattle.arguments.specs.Table as table
use Rattle.arguments.specs.Uses.{Use, is_used}
use Rattle.arguments.proofs.LawLemmas.{ask_for_their_values}
use Rattle.census.specs.Headline.{GatherPrintsItsLines, IsCensusOfCall, IsCensusOfLines, IsFindingOf, IsJobOf, IsRuleOf, NamePrintsItsFinding, PrintsWhatIsAsked, TakePrintsItsCensus}
use Rattle.census.specs.Program.{IsDone}
use Rattle.census.specs.Requests.{right_for, take_behaviour_from}

-- ---- what is read from the texts of a call

-- a seed that is read from a text is this text
seed_text : (text seed : List ℕ) → seed_read text ≡ Ok seed → seed ≡ text
seed_text text seed is = go (nat_lt most_bytes (length text)) refl (position is_invisible text) refl
  where
    go : (long : Bool) → nat_lt most_bytes (length text) ≡ long → (place : Option ℕ) → position is_invisible text ≡ place → seed ≡ text
    go true long_is place place_is = let bad = rw long_is at is in cc
    go false short None place_is = let read = rw (short, place_is) at is in cc
    go false short (Some n) place_is = let read = rw (short, place_is) at is in cc

-- a text is read as the rule that it spells
rule_of_text : (text : List ℕ) (rule : Numbers) → rule_named text ≡ Ok rule → IsRuleOf text rule
rule_of_text text rule is = go (rule_read text) refl is
  where
    go : (read : Result Numbers RuleFault) → rule_read text ≡ read → result_map_both (λ (r : Numbers). r) rule_complaint read ≡ Ok rule
        → IsRuleOf text rule
    go (Ok r) read_is e =
        let same : r ≡ rule = cc in
        let spells : Ok rule ≡ rule_read text = sym (read_is ∙ ap Ok same) in
        record { complete = reads_rule text rule spells; spelled = reads_text text rule spells }
    go (Err fault) read_is e = cc

-- the seed that a text names is this text
seed_of_text : (text seed : List ℕ) → seed_named text ≡ Ok seed → seed ≡ text
seed_of_text text seed is = go (seed_read text) refl is
  where
    go : (read : Result (List ℕ) SeedFault) → seed_read text ≡ read → result_map_both (λ (x : List ℕ). x) seed_complaint read ≡ Ok seed → seed ≡ text
    go (Ok x) read_is e = let same : x ≡ seed = cc in seed_text text seed (read_is ∙ ap Ok same)
    go (Err fault) read_is e = cc

-- the profile that numbers name is the profile with these numbers
profile_of_numbers : (numbers : ProfileNumbers) (profile : Settling) → profile_named numbers ≡ Ok profile → profile ≡ settling numbers
profile_of_numbers numbers profile is = go (nat_le numbers.period numbers.horizon) is
  where
    go : (within : Bool) → (if within then Ok (settling numbers) else Err (Refused HorizonBelowPeriod)) ≡ Ok profile → profile ≡ settling numbers
    go true e = cc
    go false e = cc

-- the job of a plan has the plan's seed, rule and profile
job_of : (uses : List Use) (job : Job) → job_named (plan_given uses) ≡ Ok job → IsJobOf uses job
job_of uses job is =
    go (seed_named (text_given table.seed uses)) refl (profile_named (profile_given uses)) refl (rule_named (text_given table.rule uses)) refl is
  where
    go : (s : Result (List ℕ) Complaint) → seed_named (text_given table.seed uses) ≡ s → (p : Result Settling Complaint)
        → profile_named (profile_given uses) ≡ p → (r : Result Numbers Complaint) → rule_named (text_given table.rule uses) ≡ r
        → given s (λ seed. given p (λ profile. given r (λ rule. Ok (record { seed = seed; profile = profile; rule = rule })))) ≡ Ok job
        → IsJobOf uses job
    go (Ok seed) s_is (Ok profile) p_is (Ok rule) r_is e =
        let same : record { seed = seed; profile = profile; rule = rule } ≡ job = cc in record {
          seed_is = sym (ap (λ (j : Job). j.seed) same) ∙ seed_of_text (text_given table.seed uses) seed s_is;
          rule_is =
              subst (IsRuleOf (text_given table.rule uses)) (ap (λ (j : Job). j.rule) same) (rule_of_text (text_given table.rule uses) rule r_is);
          profile_is = sym (ap (λ (j : Job). j.profile) same) ∙ profile_of_numbers (profile_given uses) profile p_is;
        }
    go (Ok seed) s_is (Ok profile) p_is (Err complaint) r_is e = cc
    go (Ok seed) s_is (Err complaint) p_is r r_is e = cc
    go (Err complaint) s_is p p_is r r_is e = cc

-- ---- what `take` and `name` printed

-- the census that is printed for the plan of a call is the census of the call
census_of : (uses : List Use) (before after : Option (List ℕ)) → (prints : PrintsCensus (plan_given uses) before after)
    → IsCensusOfCall uses prints.tells.census
census_of uses before after prints = record {
  job = prints.job;
  job_is = job_of uses prints.job prints.job_is;
  ranges = prints.ranges;
  soups = record { listed = prints.named.listed; fit = prints.named.fit; spelled = prints.named.spelled; all = prints.named.all };
  numbers = prints.tells.numbers;
  all = prints.tells.all;
  normal = prints.tells.normal;
  form = prints.tells.form;
  counted = prints.tells.counted;
}

-- if a request was done, what was made is right for the request that the arguments ask for
right_of : (arguments : List Text) (reader before after : Option (List ℕ)) (errors : Stream) (missing : ℕ) (request : Request)
    → (done : IsDone arguments reader before after errors missing) → asked_by arguments ≡ Some request
    → right_for request done.bytes (Ok done.made)
right_of arguments reader before after errors missing request done asked =
    let same : done.request ≡ request = let both = sym done.asked ∙ asked in cc in
    subst (λ (r : Request). right_for r done.bytes (Ok done.made)) same done.right

-- if what `take` made is right for a plan, with or without report lines, the text in it is right for the plan
take_right_of : (plan : Plan) (workers : ℕ) (from : Option ℕ) (bytes : List ℕ) (made : Made) → (take_behaviour_from plan workers from).right bytes (Ok made)
    → take_right plan (Ok made.text)
take_right_of plan workers None bytes made right = right.0
take_right_of plan workers (Some from) bytes made right = right.0

take_prints : (arguments : List Text) (reader before after : Option (List ℕ)) (errors : Stream) (missing : ℕ)
    → IsDone arguments reader before after errors missing → TakePrintsItsCensus arguments before after
take_prints arguments reader before after errors missing done uses call =
    let from = number_if_given table.report_from uses in
    let request = Take (plan_given uses) (number_given table.workers uses) (is_used table.progress.name uses) from in
    let asked : asked_by arguments ≡ Some request =
    ap asked_by call.spelled ∙ ask_for_their_values.take call.program uses call.permitted call.complete in
    let right = take_right_of (plan_given uses) (number_given table.workers uses) from done.bytes done.made
    (right_of arguments reader before after errors missing request done asked) in
    let prints = prints_right (plan_given uses) done.made.text before after right done.written in
    (prints.tells.census, census_of uses before after prints, subst (Appends before after) prints.tells.text_is prints.grown)

-- the pattern of an input is the pattern that its bytes spell
read_of : (bytes : List ℕ) (cells : List Cell) → pattern_of bytes ≡ Ok cells → pattern bytes ≡ Ok cells
read_of bytes cells is = go (nat_le (length bytes) (2 ^ 24)) (pattern bytes) refl is
  where
    go : (short : Bool) (read : Result (List Cell) PlaintextFault) → pattern bytes ≡ read
        → (if short then result_map_both (λ (c : List Cell). c) pattern_complaint read else Err TooLong) ≡ Ok cells → pattern bytes ≡ Ok cells
    go true (Ok x) read_is e = let same : x ≡ cells = cc in read_is ∙ ap Ok same
    go true (Err fault) read_is e = cc
    go false read read_is e = cc

-- a text that is right for `name` is the text of a finding of the pattern that the call reads
finding_of : (uses : List Use) (bytes text : List ℕ) (before after : Option (List ℕ))
    → name_right (profile_given uses) (text_given table.rule uses) bytes (Ok text) → Appends before after text
    → (finding : Finding) × IsFindingOf uses bytes finding × Appends before after (finding_text finding)
finding_of uses bytes text before after right grown =
    go (profile_named (profile_given uses)) refl (rule_named (text_given table.rule uses)) refl (pattern_of bytes) refl right
  where
    go : (p : Result Settling Complaint) → profile_named (profile_given uses) ≡ p → (r : Result Numbers Complaint)
        → rule_named (text_given table.rule uses) ≡ r → (c : Result (List Cell) Complaint) → pattern_of bytes ≡ c
        → IsRightGiven p (λ profile. IsRightGiven r (λ rule. IsRightGiven c (TellsFinding rule profile))) (Ok text)
        → (finding : Finding) × IsFindingOf uses bytes finding × Appends before after (finding_text finding)
    go (Ok profile) p_is (Ok rule) r_is (Ok cells) c_is (finding, found, told) =
        let same : finding_text finding ≡ text = cc in (
          finding,
          record {
            rule_of = rule;
            rule_is = rule_of_text (text_given table.rule uses) rule r_is;
            cells = cells;
            read = read_of bytes cells c_is;
            found = subst (λ (p : Settling). IsFinding rule p cells finding) (profile_of_numbers (profile_given uses) profile p_is) found;
          },
          subst (Appends before after) (sym same) grown,
        )
    go (Ok profile) p_is (Ok rule) r_is (Err complaint) c_is told = cc
    go (Ok profile) p_is (Err complaint) r_is c c_is told = cc
    go (Err complaint) p_is r r_is c c_is told = cc

name_prints : (arguments : List Text) (reader before after : Option (List ℕ)) (errors : Stream) (missing : ℕ)
    → IsDone arguments reader before after errors missing → NamePrintsItsFinding arguments reader before after
name_prints arguments reader before after errors missing done uses call =
    let request = Name (profile_given uses) (text_given table.rule uses) in
    let asked : asked_by arguments ≡ Some request =
    ap asked_by call.spelled ∙ ask_for_their_values.name call.program uses call.permitted call.complete in
    let right = right_of arguments reader before after errors missing request done asked in
    (done.bytes, done.input, finding_of uses done.bytes done.made.text before after right.0 done.written)

-- ---- what `gather` printed

-- if `IsOfCorrectLines` holds for what `gather` made, the census is over the call's soups that have a correct line
gathered_of : (uses : List Use) (bytes : List ℕ) (made : Made) (code : ℕ)
    → (lines : IsOfCorrectLines (plan_given uses) (number_given table.workers uses) bytes made) → (code ≡ 0) ↔ (made.missing ≡ 0)
    → IsCensusOfLines uses bytes code lines.tells.census
gathered_of uses bytes made code lines same_end = go (job_named (plan_given uses)) refl lines.opened
  where
    go : (named : Result Job Complaint) → job_named (plan_given uses) ≡ named
        → IsOkAnd named (λ job. IsHaulOver (plan_given uses).set (number_given table.workers uses) job lines.terms)
        → IsCensusOfLines uses bytes code lines.tells.census
    go (Err complaint) is over = absurd over
    go (Ok job) is over = record {
      job = job;
      job_is = job_of uses job is;
      ranges = over.ranges;
      soups = record { listed = over.named.listed; fit = over.named.fit; spelled = over.named.spelled; all = over.named.all };
      numbers = lines.tells.numbers;
      once = lines.tells.once;
      correct = λ n. (
        λ taken. let found = (lines.tells.correct n).0 taken in (sym (over.form.same n) ∙ found.0, to n found.1),
        λ found. (lines.tells.correct n).1 (over.form.same n ∙ found.0, from n found.1),
      );
      normal = lines.terms.ranges;
      form = over.form;
      counted = subst (λ (j : Job). IsCensus j lines.terms.ranges lines.tells.numbers lines.tells.census) over.job_is lines.tells.counted;
      complete = (
        λ zero_is n within. to n (lines.tells.whole.0 (same_end.0 zero_is) n (over.form.same n ∙ within)),
        λ each. same_end.1 (lines.tells.whole.1 (λ n within. from n (each n (sym (over.form.same n) ∙ within)))),
      );
    }
      where
        to : (n : ℕ) → HasCorrectLine lines.terms.job lines.terms.workers bytes n → HasCorrectLine job (number_given table.workers uses) bytes n
        to n h =
            subst (λ (j : Job). HasCorrectLine j (number_given table.workers uses) bytes n) over.job_is
            (subst (λ (w : ℕ). HasCorrectLine lines.terms.job w bytes n) over.workers_are h)

        from : (n : ℕ) → HasCorrectLine job (number_given table.workers uses) bytes n → HasCorrectLine lines.terms.job lines.terms.workers bytes n
        from n h =
            subst (λ (j : Job). HasCorrectLine j lines.terms.workers bytes n) (sym over.job_is)
            (subst (λ (w : ℕ). HasCorrectLine job w bytes n) (sym over.workers_are) h)

gather_prints : (arguments : List Text) (reader before after : Option (List ℕ)) (errors : Stream) (missing code : ℕ)
    → (code ≡ 0) ↔ (missing ≡ 0) → IsDone arguments reader before after errors missing → GatherPrintsItsLines arguments reader before after code
gather_prints arguments reader before after errors missing code same_end done uses call =
    let request = Gather (plan_given uses) (number_given table.workers uses) in
    let asked : asked_by arguments ≡ Some request =
    ap asked_by call.spelled ∙ ask_for_their_values.gather call.program uses call.permitted call.complete in
    let right = right_of arguments reader before after errors missing request done asked in
    let lines = gather_takes_correct_lines (plan_given uses) (number_given table.workers uses) done.bytes done.made right in
    let both : (code ≡ 0) ↔ (done.made.missing ≡ 0) =
    subst (λ (n : ℕ). (code ≡ 0) ↔ (n ≡ 0)) done.missing_is same_end in (
      done.bytes,
      done.input,
      (lines.tells.census, gathered_of uses done.bytes done.made code lines both, subst (Appends before after) lines.tells.text_is done.written),
    )

-- if a request was done, and no soup is missing, the headline holds
pub prints_what_is_asked : (arguments : List Text) (reader before after : Option (List ℕ)) (errors : Stream)
    → IsDone arguments reader before after errors 0 → PrintsWhatIsAsked arguments reader before after
prints_what_is_asked arguments reader before after errors done = record {
  take = take_prints arguments reader before after errors 0 done;
  name = name_prints arguments reader before after errors 0 done;
  gather = gather_prints arguments reader before after errors 0 0 (λ zero_is. refl, λ zero_is. refl) done;
}

-- if a request was done, and no soup is missing, the headline holds for the writer that the program gives back
pub prints_if_done : {V : Type 0} (contents : V → Option (List ℕ)) (arguments : List Text) (reader : Option (List ℕ)) (given : V) (back : Option V)
    (errors : Stream) → IsSomeAnd back (λ writer. IsDone arguments reader (contents given) (contents writer) errors 0)
    → IsSomeAnd back (λ writer. PrintsWhatIsAsked arguments reader (contents given) (contents writer))
prints_if_done contents arguments reader given None errors done = absurd done
prints_if_done contents arguments reader given (Some writer) errors done =
    prints_what_is_asked arguments reader (contents given) (contents writer) errors done

-- if a request was done, except that soups are missing, `GatherPrintsItsLines` holds with exit code 6 for the writer
-- that the program gives back
pub prints_if_incomplete : {V : Type 0} (contents : V → Option (List ℕ)) (arguments : List Text) (reader : Option (List ℕ)) (given : V)
    (back : Option V) (errors : Stream)
    → IsSomeAnd back (λ writer. (less : ℕ) × IsDone arguments reader (contents given) (contents writer) errors (suc less))
    → IsSomeAnd back (λ writer. GatherPrintsItsLines arguments reader (contents given) (contents writer) 6)
prints_if_incomplete contents arguments reader given None errors done = absurd done
prints_if_incomplete contents arguments reader given (Some writer) errors (less, done) =
    gather_prints arguments reader (contents given) (contents writer) errors (suc less) 6
    (λ zero_is. absurd (omega (arith, zero_is)), λ none. absurd (omega (arith, none))) done
