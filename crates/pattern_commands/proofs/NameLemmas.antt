-- Lemmas about `name`: which answers are right.
use Rattle.std.proofs.Common.{◌≡◌, ◌&&◌, ◌++◌, ◌+◌, ◌<◌, ℕ, Bool, List, [], ◌∷◌, Option, Result, Ok, Err, true, false, is_ok, nat_le, refl, sym, ap, ◌∙◌, append_assoc}
use Rattle.std.proofs.Common.{drop, flat_map, get_or, length, subst}
use Rattle.std.proofs.lemmas.List.{drop_more}
use Rattle.memory.specs.declared.OutOfMemory.{OutOfMemory}
use Rattle.plane_core.specs.declared.plane.cell.Cell.{Cell}
use Rattle.plane_core.specs.plane.Rules.{Numbers}
use Rattle.survey_core.specs.declared.finding.Finding.{Finding}
use Rattle.survey_core.specs.Findings.{IsFinding}
use Rattle.survey_core.specs.Profiles.{Settling}
use Rattle.pattern_commands.specs.declared.ending.complaint.Complaint.{Complaint}
use Rattle.requests.specs.declared.plan.ProfileNumbers.{ProfileNumbers}
use Rattle.pattern_commands.specs.declared.ending.complaint.Complaint.TheVariants.{Refused, Memory}
use Rattle.pattern_commands.specs.declared.ending.refusal.Refusal.TheVariants.{HorizonBelowPeriod}
use Rattle.pattern_commands.specs.declared.ending.status.Status.TheVariants as statuses
use Rattle.pattern_commands.specs.Answers.{IsRightGiven, given}
use Rattle.pattern_commands.specs.Complaints.{status_of}
use Rattle.pattern_commands.specs.Found.{HasFound, answer_with, ruled_pattern}
use Rattle.pattern_commands.specs.Inputs.{pattern_of, rule_named}
use Rattle.pattern_commands.specs.Name.{TellsFinding, finding_text, name_right}
use Rattle.pattern_commands.specs.Profiles.{profile_named, settling}
use Rattle.pattern_commands.proofs.FoundLemmas.{found_err, found_memory, found_ok, found_refused}

module _ {V : Type 0} (numbers : ProfileNumbers) (text : List ℕ) (remaining : V → Option (List ℕ)) (old new : V) where
  abbrev reads : Bool
  reads = is_ok (profile_named numbers) && is_ok (rule_named text)

  abbrev ruled : List ℕ → Result (Numbers × List Cell) Complaint → Type 0
  ruled bytes found = ruled_pattern text bytes ≡ found

  abbrev right : List ℕ → Result Finding Complaint → Type 0
  right bytes found = name_right numbers text bytes (answer_with finding_text found)

  -- the profile is refused
  pub found_no_profile : (complaint : Complaint) → profile_named numbers ≡ Err complaint → HasFound reads right remaining old old (Err complaint)
  found_no_profile complaint is = found_refused reads right remaining old complaint (go (nat_le numbers.period numbers.horizon) refl) (λ bytes. rw is refl)
    where
      go : (b : Bool) → nat_le numbers.period numbers.horizon ≡ b → status_of complaint ≡ statuses.Refused
      go true fits = let named : profile_named numbers ≡ Ok (settling numbers) = rw fits refl in let bad = sym named ∙ is in cc
      go false low = let named : profile_named numbers ≡ Err (Refused HorizonBelowPeriod) = rw low refl in let why = sym named ∙ is in cc

  -- if the profile is valid, only the rule decides whether the input is read
  with_profile : (profile : Settling) {A : Type 0} {found_right : List ℕ → Result A Complaint → Type 0} (found : Result A Complaint)
      → profile_named numbers ≡ Ok profile → HasFound (is_ok (rule_named text)) found_right remaining old new found
      → HasFound reads found_right remaining old new found
  with_profile profile found is has = rw is has

  no_finding : (profile : Settling) (bytes : List ℕ) (complaint : Complaint) → profile_named numbers ≡ Ok profile → ruled_pattern text bytes ≡ Err complaint
      → name_right numbers text bytes (Err complaint)
  no_finding profile bytes complaint is ruled_is = rw is (go (rule_named text) (pattern_of bytes) ruled_is)
    where
      go : (rule : Result Numbers Complaint) (read : Result (List Cell) Complaint)
          → given {B = Numbers × List Cell} rule (λ r. given read (λ cells. Ok (r, cells))) ≡ Err complaint
          → IsRightGiven rule (λ r. IsRightGiven read (TellsFinding r profile)) (Err complaint)
      go (Ok rule) (Ok cells) so = cc
      go (Ok rule) (Err other) so = cc
      go (Err other) read so = cc

  -- the rule or the input was refused, or the input couldn't be read
  pub found_no_finding : (profile : Settling) (complaint : Complaint) → profile_named numbers ≡ Ok profile
      → HasFound (is_ok (rule_named text)) ruled remaining old new (Err complaint) → HasFound reads right remaining old new (Err complaint)
  found_no_finding profile complaint is has =
      found_err reads ruled right remaining old new complaint (λ bytes other. no_finding profile bytes other is) (with_profile profile (Err complaint) is has)

  -- memory ran out
  pub found_no_memory : (profile : Settling) (rule : Numbers) (cells : List Cell) (error : OutOfMemory) → profile_named numbers ≡ Ok profile
      → HasFound (is_ok (rule_named text)) ruled remaining old new (Ok (rule, cells)) → HasFound reads right remaining old new (Err (Memory error))
  found_no_memory profile rule cells error is has =
      found_memory reads ruled right remaining old new (rule, cells) error (with_profile profile (Ok (rule, cells)) is has)

  finding_is : (profile : Settling) (bytes : List ℕ) (rule : Numbers) (cells : List Cell) (finding : Finding) → profile_named numbers ≡ Ok profile
      → IsFinding rule profile cells finding → ruled_pattern text bytes ≡ Ok (rule, cells) → name_right numbers text bytes (Ok (finding_text finding))
  finding_is profile bytes rule cells finding is tells ruled_is = rw is (go (rule_named text) (pattern_of bytes) ruled_is)
    where
      go : (one : Result Numbers Complaint) (read : Result (List Cell) Complaint)
          → given {B = Numbers × List Cell} one (λ r. given read (λ some. Ok (r, some))) ≡ Ok (rule, cells)
          → IsRightGiven one (λ r. IsRightGiven read (TellsFinding r profile)) (Ok (finding_text finding))
      go (Ok one) (Ok some) so =
          let both : (one, some) ≡ (rule, cells) = cc in
          subst (λ (read : Numbers × List Cell). TellsFinding read.0 profile read.1 (Ok (finding_text finding))) (sym both) (finding, tells, refl)
      go (Ok one) (Err other) so = cc
      go (Err other) read so = cc

  -- the pattern was surveyed
  pub found_finding : (profile : Settling) (rule : Numbers) (cells : List Cell) (finding : Finding) → profile_named numbers ≡ Ok profile
      → IsFinding rule profile cells finding → HasFound (is_ok (rule_named text)) ruled remaining old new (Ok (rule, cells))
      → HasFound reads right remaining old new (Ok finding)
  found_finding profile rule cells finding is tells has =
      found_ok reads ruled right remaining old new (rule, cells) finding (λ bytes. finding_is profile bytes rule cells finding is tells)
      (with_profile profile (Ok (rule, cells)) is has)

-- the lines from object `i` on are the line of object `i`, and then the lines from object `i + 1` on
pub lines_more : {A : Type 0} (line : A → List ℕ) (xs : List A) (i : ℕ) (x : A) (text prefix : List ℕ) → i < length xs → x ≡ get_or xs i x
    → text ≡ prefix ++ flat_map line (drop i xs) → text ≡ (prefix ++ line x) ++ flat_map line (drop (i + 1) xs)
lines_more line xs i x text prefix more here is =
    let next = drop_more xs i x more ∙ ap (λ y. y ∷ drop (i + 1) xs) (sym here) in
    is ∙ ap (λ remainder. prefix ++ flat_map line remainder) next ∙ sym (append_assoc prefix (line x) (flat_map line (drop (i + 1) xs)))
