-- What commands for a single pattern find before they write anything, and how they end then.
use Rattle.std.proofs.Common.{◌≡◌, ◌∙◌, ◌+◌, ◌^◌, ℕ, Bool, true, false, inl, inr, is_ok, IfErr, IfOk, IsErr, IsErrAnd, List, [], Option, Result, Ok, Err, ap, refl, subst, sym}
use Rattle.std.proofs.KnownBytes.{Appends-nil, Consumes-nil}
use Rattle.std.proofs.lemmas.Bool.{true≢false}
use Rattle.memory.specs.declared.OutOfMemory.{OutOfMemory}
use Rattle.plane_core.specs.declared.plane.cell.Cell.{Cell}
use Rattle.plane_core.specs.declared.plane.rule.RuleFault.{RuleFault}
use Rattle.plane_core.specs.declared.plane.rule.RuleFault.TheVariants as rule_error
use Rattle.plane_core.specs.Outputs.{Output}
use Rattle.plane_core.specs.plane.Rules.{Numbers, rule_read}
use Rattle.pattern_commands.specs.declared.ending.complaint.Complaint.{Complaint}
use Rattle.pattern_commands.specs.declared.ending.complaint.Complaint.TheVariants.{Refused, Memory, ReadFailed, TooLong, WriteFailed}
use Rattle.pattern_commands.specs.declared.ending.status.Status.{Status}
use Rattle.pattern_commands.specs.declared.ending.status.Status.TheVariants as statuses
use Rattle.pattern_commands.specs.Answers.{Answer, IsInput, Right, given}
use Rattle.pattern_commands.specs.Behaviours.{text_behaviour}
use Rattle.pattern_commands.specs.Complaints.{status_of}
use Rattle.pattern_commands.specs.Ends.{Ends}
use Rattle.pattern_commands.specs.Found.{EndsFound, Finds, HasFound, answer_with, ruled_pattern}
use Rattle.pattern_commands.specs.Inputs.{HasReadAtMost, Reads, pattern_of, rule_complaint, rule_named}
use Rattle.pattern_commands.specs.Streams.{Stream, Has, stream}
use Rattle.pattern_commands.specs.TextSteps.{ReachesText}
use Rattle.pattern_commands.proofs.AnswerLemmas.{none_short, some_input}
use Rattle.pattern_commands.proofs.TextLemmas.{text_ends}

-- ---- what was found

module _ {A V : Type 0} (reads : Bool) (right : List ℕ → Result A Complaint → Type 0) (remaining : V → Option (List ℕ)) (old : V) where
  finds_refused : (bytes : List ℕ) (complaint : Complaint) → status_of complaint ≡ statuses.Refused → right bytes (Err complaint)
      → Finds reads (right bytes) (Err complaint)
  finds_refused bytes (Refused refusal) refused is = is
  finds_refused bytes (Memory error) refused is = cc
  finds_refused bytes (ReadFailed error) refused is = cc
  finds_refused bytes TooLong refused is = cc
  finds_refused bytes (WriteFailed error) refused is = cc

  -- a command may refuse a text before it reads its input
  pub found_refused : (complaint : Complaint) → status_of complaint ≡ statuses.Refused → ((bytes : List ℕ) → right bytes (Err complaint))
      → HasFound reads right remaining old old (Err complaint)
  found_refused complaint refused is =
      let some = some_input (remaining old) in
      record {
        bytes = some.0;
        input = some.1;
        is = finds_refused some.0 complaint refused (is some.0);
        refused = λ unread. (refused, refl);
        little = ([], Consumes-nil (remaining old), none_short (2 ^ 24 + 2 ^ 16) [] refl);
      }

  finds_unread : (bytes : List ℕ) (answer : Result (List Cell) Complaint) (complaint : Complaint) → reads ≡ true
      → ((other : Complaint) → answer ≡ Err other → right bytes (Err other)) → Reads answer (Err complaint) → Finds reads (right bytes) (Err complaint)
  finds_unread bytes answer (Refused refusal) read is told = is (Refused refusal) told
  finds_unread bytes answer (Memory error) read is told = λ unread. absurd (true≢false (sym read ∙ unread))
  finds_unread bytes answer (ReadFailed error) read is told = read
  finds_unread bytes answer TooLong read is told = (read, is TooLong told)
  finds_unread bytes answer (WriteFailed error) read is told = absurd told

  -- a command that reads its input may end with the complaint about the input
  pub found_unread : (new : V) (bytes : List ℕ) (answer : Result (List Cell) Complaint) (complaint : Complaint) → reads ≡ true → IsInput (remaining old) bytes
      → ((other : Complaint) → answer ≡ Err other → right bytes (Err other)) → Reads answer (Err complaint)
      → HasReadAtMost (2 ^ 24 + 2 ^ 16) (remaining old) (remaining new) → HasFound reads right remaining old new (Err complaint)
  found_unread new bytes answer complaint read input is told little = record {
    bytes = bytes;
    input = input;
    is = finds_unread bytes answer complaint read is told;
    refused = λ unread. absurd (true≢false (sym read ∙ unread));
    little = little;
  }

-- the complaint about a rule is a refusal
rule_refused : (fault : RuleFault) → status_of (rule_complaint fault) ≡ statuses.Refused
rule_refused (rule_error.BadRule place) = refl
rule_refused rule_error.BirthZero = refl

module _ {V : Type 0} (text : List ℕ) (remaining : V → Option (List ℕ)) (old new : V) where
  abbrev ruled : List ℕ → Result (Numbers × List Cell) Complaint → Type 0
  ruled bytes found = ruled_pattern text bytes ≡ found

  -- the rule was refused
  pub found_rule : (fault : RuleFault) → rule_read text ≡ Err fault → HasFound (is_ok (rule_named text)) ruled remaining old old (Err (rule_complaint fault))
  found_rule fault is =
      let named : rule_named text ≡ Err (rule_complaint fault) = rw is refl in
      found_refused _ ruled remaining old _ (rule_refused fault) (λ bytes. rw named refl)

  -- the rule is valid, but the input was refused or couldn't be read
  pub found_no_pattern : (rule : Numbers) (bytes : List ℕ) (complaint : Complaint) → rule_read text ≡ Ok rule → IsInput (remaining old) bytes
      → Reads (pattern_of bytes) (Err complaint) → HasReadAtMost (2 ^ 24 + 2 ^ 16) (remaining old) (remaining new)
      → HasFound (is_ok (rule_named text)) ruled remaining old new (Err complaint)
  found_no_pattern rule bytes complaint is input told little =
      let named : rule_named text ≡ Ok rule = rw is refl in
      found_unread _ ruled remaining old new bytes (pattern_of bytes) complaint (rw named refl) input (λ other why. rw (named, why) refl) told little

  -- the rule is valid, and the pattern was read
  pub found_pattern : (rule : Numbers) (bytes : List ℕ) (cells : List Cell) → rule_read text ≡ Ok rule → IsInput (remaining old) bytes
      → pattern_of bytes ≡ Ok cells → HasReadAtMost (2 ^ 24 + 2 ^ 16) (remaining old) (remaining new)
      → HasFound (is_ok (rule_named text)) ruled remaining old new (Ok (rule, cells))
  found_pattern rule bytes cells is input told little =
      let named : rule_named text ≡ Ok rule = rw is refl in
      let read : is_ok (rule_named text) ≡ true = rw named refl in
      record { bytes = bytes; input = input; is = rw (named, told) refl; refused = λ unread. absurd (true≢false (sym read ∙ unread)); little = little }

-- the answer that follows from the rule and the pattern, or from the complaint about one of them
abbrev pub answer_from : (Numbers → List Cell → List ℕ) → Result (Numbers × List Cell) Complaint → Answer
answer_from write found = given found (λ read. Ok (write read.0 read.1))

pub answer_from_is : (write : Numbers → List Cell → List ℕ) (text bytes : List ℕ)
    → given (rule_named text) (λ rule. given (pattern_of bytes) (λ cells. Ok (write rule cells))) ≡ answer_from write (ruled_pattern text bytes)
answer_from_is write text bytes = go (rule_named text) (pattern_of bytes)
  where
    go : (ruled : Result Numbers Complaint) (read : Result (List Cell) Complaint)
        → given {B = List ℕ} ruled (λ rule. given read (λ cells. Ok (write rule cells)))
        ≡ answer_from write (given {B = Numbers × List Cell} ruled (λ rule. given read (λ cells. Ok (rule, cells))))
    go (Ok rule) (Ok cells) = refl
    go (Ok rule) (Err complaint) = refl
    go (Err complaint) (Ok cells) = refl
    go (Err complaint) (Err other) = refl

-- ---- from what was found to what is found next

module _ {A B V : Type 0} (reads : Bool) (right : List ℕ → Result A Complaint → Type 0) (next : List ℕ → Result B Complaint → Type 0)
    (remaining : V → Option (List ℕ)) (old new : V) where
  -- a complaint is passed on
  pub found_err : (complaint : Complaint) → ((bytes : List ℕ) (other : Complaint) → right bytes (Err other) → next bytes (Err other))
      → HasFound reads right remaining old new (Err complaint) → HasFound reads next remaining old new (Err complaint)
  found_err complaint is found =
      record { bytes = found.bytes; input = found.input; is = go complaint found.is found.refused; refused = found.refused; little = found.little }
    where
      go : (c : Complaint) → Finds reads (right found.bytes) (Err c) → (reads ≡ false → (status_of c ≡ statuses.Refused) × (new ≡ old)) → Finds reads (next found.bytes) (Err c)
      go (Refused refusal) so refused = is found.bytes (Refused refusal) so
      go (Memory error) so refused = λ unread. let bad = (refused unread).0 in cc
      go (ReadFailed error) so refused = so
      go TooLong so refused = (so.0, is found.bytes TooLong so.1)
      go (WriteFailed error) so refused = absurd so

  -- a command that found `x` finds `y` next, if `y` is right for each input for which `x` is right
  pub found_ok : (x : A) (y : B) → ((bytes : List ℕ) → right bytes (Ok x) → next bytes (Ok y)) → HasFound reads right remaining old new (Ok x)
      → HasFound reads next remaining old new (Ok y)
  found_ok x y is found =
      record { bytes = found.bytes; input = found.input; is = is found.bytes found.is; refused = λ unread. absurd (found.refused unread).0; little = found.little }

  -- memory runs out after the input was read
  pub found_memory : (x : A) (error : OutOfMemory) → HasFound reads right remaining old new (Ok x) → HasFound reads next remaining old new (Err (Memory error))
  found_memory x error found = record {
    bytes = found.bytes;
    input = found.input;
    is = λ unread. absurd (found.refused unread).0;
    refused = λ unread. absurd (found.refused unread).0;
    little = found.little;
  }

-- ---- how a command ends

-- a result that is an error isn't `Ok`
pub not_ok : {A E : Type 0} (r : Result A E) → IsErr r → is_ok r ≡ false
not_ok (Ok x) is = sym is
not_ok (Err error) is = refl

module _ {A W : Type 0} (text : A → List ℕ) (contents : W → Option (List ℕ)) (old new : Output W) (errors : Stream) (status : Status) where
  reached : (reads : Bool) (right : Right) (complaint : Complaint) → Finds reads (λ found. right (answer_with text found)) (Err complaint)
      → Has (stream contents old new) [] → ReachesText reads true right (Err complaint) (stream contents old new)
  reached reads right (Refused refusal) is nothing = (is, nothing)
  reached reads right (Memory error) is nothing = (is, nothing)
  reached reads right (ReadFailed error) is nothing = (is, nothing)
  reached reads right TooLong is nothing = (is.0, is.1, nothing)
  reached reads right (WriteFailed error) is nothing = absurd is

  -- a command that writes what it found ends as its behaviour says
  pub found_ends : (reads : Bool) (right : List ℕ → Right) (reader : Option (List ℕ)) (bytes : List ℕ) (found : Result A Complaint)
      → Finds reads (λ some. right bytes (answer_with text some)) found → EndsFound text found status contents old new errors
      → Ends (text_behaviour reads true right) reader bytes status (stream contents old new) errors
  found_ends reads right reader bytes (Ok x) is (inl (done, has, fine, silent, alive)) =
      text_ends reads true right reader bytes (Ok tt) status (stream contents old new) errors ((text x, is, has), fine) done (silent, alive)
  found_ends reads right reader bytes (Ok x) is (inr (error, failed, has, cut, last)) =
      text_ends reads true right reader bytes (Err (WriteFailed error)) status (stream contents old new) errors ((text x, is, has), cut) failed last
  found_ends reads right reader bytes (Err complaint) is (ended, same, last) =
      let nothing = subst (λ (now : Output W). Has (stream contents old now) []) (sym same) (Appends-nil (contents old.writer)) in
      text_ends reads true right reader bytes (Err complaint) status (stream contents old new) errors (reached reads (right bytes) complaint is nothing) ended last

  -- if the status is `Refused`, nothing was written to standard output
  pub refused_untouched : (found : Result A Complaint) → EndsFound text found status contents old new errors → status ≡ statuses.Refused → new ≡ old
  refused_untouched (Ok x) (inl ended) refused = let is = ended.0 in cc
  refused_untouched (Ok x) (inr ended) refused = let is = ended.1 in cc
  refused_untouched (Err complaint) ended refused = ended.1

  -- if the status is `Memory`, nothing was written to standard output
  pub memory_untouched : (found : Result A Complaint) → EndsFound text found status contents old new errors → status ≡ statuses.Memory → new ≡ old
  memory_untouched (Ok x) (inl ended) refused = let is = ended.0 in cc
  memory_untouched (Ok x) (inr ended) refused = let is = ended.1 in cc
  memory_untouched (Err complaint) ended refused = ended.1

  module _ {V : Type 0} (reads : Bool) (found_right : List ℕ → Result A Complaint → Type 0) (remaining : V → Option (List ℕ)) (before after : V) where
    -- a command that writes what it found from its input ends as its behaviour says
    pub input_ends : (right : List ℕ → Right) (found : Result A Complaint)
        → ((bytes : List ℕ) (some : Result A Complaint) → found_right bytes some → right bytes (answer_with text some))
        → HasFound reads found_right remaining before after found → EndsFound text found status contents old new errors
        → (bytes : List ℕ) × IsInput (remaining before) bytes
        × Ends (text_behaviour reads true right) (remaining before) bytes status (stream contents old new) errors
    input_ends right found is has ended =
        (has.bytes, has.input, found_ends reads right (remaining before) has.bytes found (go found has.is has.refused) ended)
      where
        go : (some : Result A Complaint) → Finds reads (found_right has.bytes) some
            → (reads ≡ false → IsErrAnd some (λ complaint. status_of complaint ≡ statuses.Refused) × (after ≡ before))
            → Finds reads (λ other. right has.bytes (answer_with text other)) some
        go (Ok x) so refused = is has.bytes (Ok x) so
        go (Err (Refused refusal)) so refused = is has.bytes (Err (Refused refusal)) so
        go (Err (Memory error)) so refused = λ unread. let bad = (refused unread).0 in cc
        go (Err (ReadFailed error)) so refused = so
        go (Err TooLong) so refused = (so.0, is has.bytes (Err TooLong) so.1)
        go (Err (WriteFailed error)) so refused = absurd so

    -- if what is checked before the input was refused, the status is `Refused`, and the input isn't read
    pub unread_refused : (found : Result A Complaint) → HasFound reads found_right remaining before after found
        → EndsFound text found status contents old new errors → reads ≡ false → (status ≡ statuses.Refused) × (after ≡ before)
    unread_refused (Ok x) has ended unread = absurd (has.refused unread).0
    unread_refused (Err complaint) has ended unread = let refused = has.refused unread in (ended.0 ∙ refused.0, refused.1)
