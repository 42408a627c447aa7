-- How a haul is finished depends only on its terms and on what it has taken.
use Rattle.std.proofs.Common.{◌≡◌, ◌≢◌, Ok, Err}
use Rattle.std.specs.Prelude.{IfErr}
use Rattle.memory.specs.Witness.{out_of_memory}
use Rattle.plane_core.specs.declared.output.WriteError.{WriteError}
use Rattle.haul_core.specs.Books.{Held}
use Rattle.pattern_commands.specs.declared.ending.complaint.Complaint.TheVariants.{Refused, Memory, ReadFailed, TooLong, WriteFailed}
use Rattle.pattern_commands.specs.declared.ending.status.Status.TheVariants as statuses
use Rattle.pattern_commands.specs.Complaints.{status_of}
use Rattle.pattern_commands.specs.Reached.{Outcome}
use Rattle.pattern_commands.specs.Streams.{Stream}
use Rattle.commands.specs.Finish.{Finishes}

pub finishes_alike : (one other : Held) (outcome : Outcome) (output : Stream) → other.terms ≡ one.terms → other.taken ≡ one.taken
    → Finishes other outcome output → Finishes one outcome output
finishes_alike one other (Ok missing) output terms taken f = record {
  census = f.census;
  counted = rw (← taken, ← terms) f.counted;
  missing_is = rw (← taken, ← terms) f.missing_is;
  text = f.text;
  fine = f.fine;
}
finishes_alike one other (Err (Memory error)) output terms taken f = f
finishes_alike one other (Err (WriteFailed error)) output terms taken f =
    record { census = f.census; counted = rw (← taken, ← terms) f.counted; prefix = f.prefix; cut = f.cut }
finishes_alike one other (Err (ReadFailed error)) output terms taken f = absurd f
finishes_alike one other (Err TooLong) output terms taken f = absurd f
finishes_alike one other (Err (Refused refusal)) output terms taken f = absurd f

-- a haul that was opened isn't refused when it is finished
pub finishes_accepted : (held : Held) (outcome : Outcome) (output : Stream) → Finishes held outcome output
    → IfErr outcome (λ complaint. status_of complaint ≢ statuses.Refused)
finishes_accepted held (Ok missing) output f = tt
finishes_accepted held (Err (Memory error)) output f = λ is. cc
finishes_accepted held (Err (WriteFailed error)) output f = λ is. cc
finishes_accepted held (Err (ReadFailed error)) output f = absurd f
finishes_accepted held (Err TooLong) output f = absurd f
finishes_accepted held (Err (Refused refusal)) output f = absurd f

-- the complaints `WriteFailed` and `Memory` are different
pub unwritten : (P : Type 0) (error : WriteError) → WriteFailed error ≡ Memory out_of_memory → P
unwritten P error is = cc
