-- How commands that write only a text end.
use Rattle.std.proofs.Common.{◌≡◌, ℕ, Bool, true, false, inl, List, [], Option, Result, Ok, Err, IfErr, refl}
use Rattle.std.proofs.KnownBytes.{Appends-nil}
use Rattle.memory.specs.Witness.{out_of_memory}
use Rattle.pattern_commands.specs.declared.ending.complaint.Complaint.{Complaint}
use Rattle.pattern_commands.specs.declared.ending.complaint.Complaint.TheVariants.{Refused, Memory, ReadFailed, TooLong, WriteFailed}
use Rattle.pattern_commands.specs.declared.ending.status.Status.{Status}
use Rattle.pattern_commands.specs.declared.ending.status.Status.TheVariants as statuses
use Rattle.pattern_commands.specs.Answers.{Right}
use Rattle.pattern_commands.specs.Complaints.{status_of}
use Rattle.pattern_commands.specs.Ends.{Ends, HasLast, status_after}
use Rattle.pattern_commands.specs.Reached.{WritesBeginning, LeavesPart, Reaches}
use Rattle.pattern_commands.specs.Streams.{Stream, HasPrefix, IsUntouched}
use Rattle.pattern_commands.specs.Behaviours.{Made, alone, text_made, text_behaviour}
use Rattle.pattern_commands.specs.TextSteps.{LeavesTextPrefix, LeavesTextPart, ReachesText, TextOutcome, none_missing}

-- if `LeavesTextPart` allows what was written, so does the command's behaviour
part_of : (whole : Bool) (right : Right) (output : Stream) → LeavesTextPart whole right output → LeavesPart whole (alone right) output
part_of true right output left = left
part_of false right output left = go
  where
    go : (answer : Result Made Complaint) → alone right answer → HasPrefix output (text_made answer)
    go (Ok made) is = left (Ok made.text) is.0
    go (Err complaint) is = left (Err complaint) is

prefix_of : (whole : Bool) (right : Right) (output errors : Stream) → LeavesTextPrefix whole right output → IsUntouched errors
    → WritesBeginning whole (alone right) output errors
prefix_of true right output errors (text, is, prefix) still = (record { text = text; diagnostics = []; missing = 0 }, (is, refl, refl), prefix, still.0)
prefix_of false right output errors (never, prefixes) still = (never, λ made is. prefixes made.text is.0, still.0)

-- if `ReachesText` holds and standard error is untouched, the outcome is one that the command's behaviour allows
reaches_text : (reads whole : Bool) (right : List ℕ → Right) (reader : Option (List ℕ)) (bytes : List ℕ) (outcome : TextOutcome) (output errors : Stream)
    → ReachesText reads whole (right bytes) outcome output → IsUntouched errors
    → Reaches (text_behaviour reads whole right) reader bytes (none_missing outcome) output errors
reaches_text reads whole right reader bytes (Ok _) output errors ((text, is, has), written) still = record {
  made = record { text = text; diagnostics = []; missing = 0 };
  is = (is, refl, refl);
  missing_is = refl;
  text = has;
  written = written;
  diagnostics = still.0;
  fine = still.1;
}
reaches_text reads whole right reader bytes (Err (Refused refusal)) output errors (is, nothing) still =
    (is, record { nothing = nothing; silent = still.0; fine = still.1 })
reaches_text reads whole right reader bytes (Err (Memory error)) output errors (hides, left) still =
    record { hides = hides; left = part_of whole (right bytes) output left; diagnostics = inl still.0; fine = still.1 }
reaches_text reads whole right reader bytes (Err (ReadFailed error)) output errors (read, nothing) still =
    record { reads = read; begun = still.0; nothing = nothing; fine = still.1 }
reaches_text reads whole right reader bytes (Err TooLong) output errors (read, long, nothing) still =
    (long, record { reads = read; begun = still.0; nothing = nothing; fine = still.1 })
reaches_text reads whole right reader bytes (Err (WriteFailed error)) output errors (left, cut) still =
    inl (record { left = prefix_of whole (right bytes) output errors left still; cut = cut; fine = still.1 })

-- a command that writes only a text ends as its behaviour says
pub text_ends : (reads whole : Bool) (right : List ℕ → Right) (reader : Option (List ℕ)) (bytes : List ℕ) (outcome : TextOutcome) (status : Status)
    (output errors : Stream)
    → ReachesText reads whole (right bytes) outcome output → status ≡ status_after (none_missing outcome) → HasLast (none_missing outcome) errors
    → Ends (text_behaviour reads whole right) reader bytes status output errors
text_ends reads whole right reader bytes outcome status output errors reached is last =
    let so_far : Stream = record { before = errors.before; after = errors.before; failed = false } in
    record {
      outcome = none_missing outcome;
      so_far = so_far;
      from = refl;
      reached = reaches_text reads whole right reader bytes outcome output so_far reached (Appends-nil errors.before, refl);
      stays = λ failed. let bad : false ≡ true = failed in cc;
      last = last;
      status_is = is;
    }

-- if the status is `Refused`, the outcome is a refusal
pub text_refused : {P : Type 0} (outcome : TextOutcome) → status_after (none_missing outcome) ≡ statuses.Refused
    → IfErr outcome (λ complaint. status_of complaint ≡ statuses.Refused → P) → P
text_refused (Ok _) is = cc
text_refused (Err complaint) is = λ so. so is

-- if the status is `Memory`, memory ran out
pub text_memory : {P : Type 0} (outcome : TextOutcome) → status_after (none_missing outcome) ≡ statuses.Memory
    → IfErr outcome (λ complaint. complaint ≡ Memory out_of_memory → P) → P
text_memory (Ok _) is = cc
text_memory (Err (Refused refusal)) is = cc
text_memory (Err (Memory error)) is = λ so. so refl
text_memory (Err (ReadFailed error)) is = cc
text_memory (Err TooLong) is = cc
text_memory (Err (WriteFailed error)) is = cc
