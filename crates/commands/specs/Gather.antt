-- The behaviour of `census gather`.
use Rattle.std.specs.Prelude.{◌≡◌, ◌≤◌, ◌⊎◌, ◌^◌, ℕ, Bool, true, false, List, [], Option, Ok, Err, is_ok, length}
use Rattle.std.specs.Io.KnownBytes.{prepend_known}
use Rattle.haul_core.specs.Books.{Terms}
use Rattle.pattern_commands.specs.declared.ending.complaint.Complaint.TheVariants.{Memory, ReadFailed, TooLong}
use Rattle.pattern_commands.specs.Behaviours.{Behaviour}
use Rattle.requests.specs.declared.plan.Plan.{Plan}
use Rattle.pattern_commands.specs.Reached.{Outcome}
use Rattle.pattern_commands.specs.Streams.{Stream, Has}
use Rattle.commands.specs.Gathering.{Hauls, gather_opens, gather_right, gathered_right}
use Rattle.commands.specs.Lines.{IsSpent}
use Rattle.commands.specs.LinesSoFar.{AreAllEnded, HasBegun, HasBegunUpTo}
use Rattle.commands.specs.SoupSets.{job_named}

-- the job is valid, so the input may be read (but it isn't read if the set is refused)
abbrev pub gather_reads : Plan → Bool
gather_reads plan = is_ok (job_named plan)

-- a haul was opened, and standard error has the diagnostics about the lines that were gathered
pub record BeginsHaul (opens : Hauls) (reader before after : Option (List ℕ)) : Type 0 where
  pub terms : Terms
  pub opened : opens terms
  pub begun : HasBegun terms reader before after

-- the behaviour of `gather` for a plan; there are diagnostics about lines only if a haul was opened
abbrev pub gather_behaviour : Plan → ℕ → Behaviour
gather_behaviour plan workers = record {
  right = gather_right plan workers;
  reads = gather_reads plan;
  refuses = false;
  whole = true;
  begins = BeginsHaul (gather_opens plan workers);
  breaks_off = λ errors. ((terms : Terms) × gather_opens plan workers terms) × (errors.failed ≡ true);
}

-- the terms `others` of a haul equal `terms`
abbrev pub IsSame : Terms → Terms → Type 0
IsSame terms others = others ≡ terms

-- the behaviour of `gather` once a haul with these terms is open
abbrev pub haul_behaviour : Terms → Behaviour
haul_behaviour terms = record {
  right = gathered_right terms;
  reads = true;
  refuses = false;
  whole = true;
  begins = BeginsHaul (IsSame terms);
  breaks_off = λ errors. errors.failed ≡ true;
}

-- Gathering ended early at a place of its input, with an open haul. All lines before that place, except perhaps the
-- last, were gathered, and standard error has the diagnostics about them. At most `most` bytes were read beyond the
-- place.
pub record GivesUpAt (opens : Hauls) (most : ℕ) (reader left : Option (List ℕ)) (errors : Stream) : Type 0 where
  pub terms : Terms
  pub opened : opens terms
  pub ahead : List ℕ
  pub few : length ahead ≤ most
  pub begun : HasBegunUpTo terms reader (prepend_known ahead left) errors.before errors.after

-- How far the input was read: to its end if all lines were gathered. After a failed read, nothing was read beyond the
-- place where gathering ended, and all lines before it that end with a line feed were gathered. If memory ran out
-- before a haul was opened, nothing was read.
abbrev pub HasReadUpTo : {R : Type 0} → Hauls → (remaining : R → Option (List ℕ)) → (old new : R) → Stream → Outcome → Type 0
HasReadUpTo opens remaining old new errors (Ok missing) = IsSpent (remaining old) (remaining new)
HasReadUpTo opens remaining old new errors (Err (Memory error)) =
    ((new ≡ old) × Has errors []) ⊎ GivesUpAt opens (2 ^ 16) (remaining old) (remaining new) errors
HasReadUpTo opens remaining old new errors (Err (ReadFailed error)) =
    (place : GivesUpAt opens 0 (remaining old) (remaining new) errors) × AreAllEnded place.begun.read place.begun.lines
HasReadUpTo opens remaining old new errors (Err TooLong) = GivesUpAt opens (2 ^ 16) (remaining old) (remaining new) errors
HasReadUpTo opens remaining old new errors (Err _) = Unit {0}
