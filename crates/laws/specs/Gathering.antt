-- What `gather` prints and how it ends, given the lines of its input.
use Rattle.std.specs.Prelude.{Option, ◌≡◌, ◌↔◌, ℕ, true, List}
use Rattle.ranges.specs.Ranges.{is_in}
use Rattle.requests.specs.declared.plan.Plan.{Plan}
use Rattle.pattern_commands.specs.Behaviours.{Made}
use Rattle.pattern_commands.specs.Ends.{Ends}
use Rattle.pattern_commands.specs.Status.{has_printed}
use Rattle.pattern_commands.specs.Streams.{Has, Stream}
use Rattle.pattern_commands.specs.declared.ending.status.Status.{Status}
use Rattle.pattern_commands.specs.declared.ending.status.Status.TheVariants.{Done}
use Rattle.commands.specs.CorrectLines.{HasCorrectLine, IsOfCorrectLines}
use Rattle.commands.specs.Gather.{gather_behaviour}

-- `gather` prints the haul text of the soups of its set that have a correct line in its input, and its status is `Done`
-- if and only if each number of the set has a correct line
pub record PrintsCorrectLines (plan : Plan) (workers : ℕ) (bytes : List ℕ) (status : Status) (output : Stream) : Type 0 where
  pub made : Made
  pub is : IsOfCorrectLines plan workers bytes made
  pub text : Has output made.text
  pub done : (status ≡ Done) ↔ ((n : ℕ) → is_in is.terms.ranges n ≡ true → HasCorrectLine is.terms.job is.terms.workers bytes n)

-- unless `gather` ends with a complaint, it prints the haul text of the soups of its set that have a correct line
abbrev pub GatherPrintsCorrectLines : Type 0
GatherPrintsCorrectLines = (plan : Plan) (workers : ℕ) (reader : Option (List ℕ)) (bytes : List ℕ) (status : Status) (output errors : Stream)
    → Ends (gather_behaviour plan workers) reader bytes status output errors → has_printed status ≡ true
    → PrintsCorrectLines plan workers bytes status output
