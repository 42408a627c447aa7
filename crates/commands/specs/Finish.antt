-- How a haul is finished: its text is written.
use Rattle.std.specs.Prelude.{◌≡◌, ℕ, true, false, [], Ok, Err, length}
use Rattle.haul_core.specs.declared.book.census.Census.{Census}
use Rattle.haul_core.specs.Books.{Held}
use Rattle.haul_core.specs.Censuses.{IsCensus}
use Rattle.haul_core.specs.HaulTexts.{haul_text}
use Rattle.haul_core.specs.Keeping.{numbers_in}
use Rattle.haul_core.specs.Missing.{missing_of}
use Rattle.pattern_commands.specs.declared.ending.complaint.Complaint.TheVariants.{Refused, Memory, ReadFailed, TooLong, WriteFailed}
use Rattle.pattern_commands.specs.Reached.{Outcome}
use Rattle.pattern_commands.specs.Streams.{Stream, Has, HasPrefix}

-- the census of the soups that a haul has taken
abbrev pub IsCensusOf : Held → Census → Type 0
IsCensusOf held census = IsCensus held.terms.job held.terms.ranges (numbers_in held.taken) census

-- the haul text was written, and this many soups are missing
pub record IsFinished (held : Held) (missing : ℕ) (output : Stream) : Type 0 where
  pub census : Census
  pub counted : IsCensusOf held census
  pub missing_is : missing ≡ length (missing_of held.terms.ranges held.taken)
  pub text : Has output (haul_text census)
  pub fine : output.failed ≡ false

-- a prefix of the haul text was written, and a write failed
pub record IsHalfFinished (held : Held) (output : Stream) : Type 0 where
  pub census : Census
  pub counted : IsCensusOf held census
  pub prefix : HasPrefix output (haul_text census)
  pub cut : output.failed ≡ true

-- what became of the haul text; if memory ran out, nothing of it was written
abbrev pub Finishes : Held → Outcome → Stream → Type 0
Finishes held (Ok missing) output = IsFinished held missing output
Finishes held (Err (Memory error)) output = Has output []
Finishes held (Err (WriteFailed error)) output = IsHalfFinished held output
Finishes held (Err (ReadFailed error)) output = ⊥
Finishes held (Err TooLong) output = ⊥
Finishes held (Err (Refused refusal)) output = ⊥
