-- Laws of split work: `gather` turns the lines of several calls of `work` into what `take` prints for the whole set,
-- and for each plan only one text is correct for `take`.
use Rattle.std.specs.Prelude.{Option, ◌≡◌, ◌≤◌, ◌^◌, ℕ, true, List, Ok, MatchResult, length}
use Rattle.std.specs.List.{All, Contains}
use Rattle.survey_core.specs.declared.job.Job.{Job}
use Rattle.ranges.specs.declared.range.Range.{Range}
use Rattle.ranges.specs.Ranges.{AreSmall, Overlap, is_in}
use Rattle.requests.specs.declared.plan.Plan.{Plan}
use Rattle.requests.specs.declared.plan.SoupSet.{SoupSet}
use Rattle.pattern_commands.specs.Behaviours.{Made}
use Rattle.pattern_commands.specs.declared.ending.complaint.Complaint.{Complaint}
use Rattle.pattern_commands.specs.Profiles.{AreInRange}
use Rattle.pattern_commands.specs.Ends.{Ends}
use Rattle.pattern_commands.specs.Streams.{Has, Stream}
use Rattle.pattern_commands.specs.declared.ending.status.Status.{Status}
use Rattle.pattern_commands.specs.declared.ending.status.Status.TheVariants.{Done, Failed, Memory}
use Rattle.commands.specs.Gather.{gather_behaviour}
use Rattle.commands.specs.Gathering.{gather_right}
use Rattle.commands.specs.Lines.{input_lines}
use Rattle.commands.specs.SoupSets.{AreRangesOf, job_named}
use Rattle.commands.specs.Take.{take_right}
use Rattle.commands.specs.Work.{work_right}
use Rattle.std.specs.declared.result.Result.{Result}

-- the number is in the set
pub record IsInSet (set : SoupSet) (n : ℕ) : Type 0 where
  pub ranges : List Range
  pub named : AreRangesOf set ranges
  pub within : is_in ranges n ≡ true

-- the plan's job and set are valid
pub record IsAccepted (plan : Plan) (job : Job) : Type 0 where
  pub job_is : job_named plan ≡ Ok job
  pub profile : AreInRange plan.profile
  pub ranges : List Range
  pub named : AreRangesOf plan.set ranges
  pub small : AreSmall ranges
  pub apart : ¬ Overlap ranges

-- The soup with this number is in the set of a call of `work` for this job. The number of the call's worker is at most
-- `workers`. Each line that the call prints has at most 2^24 bytes, and is among the lines of the input `bytes`.
pub record IsWorkedOn (job : Job) (workers : ℕ) (bytes : List ℕ) (n : ℕ) : Type 0 where
  pub plan : Plan
  pub job_is : job_named plan ≡ Ok job
  pub has : IsInSet plan.set n
  pub worker : ℕ
  pub known : worker ≤ workers
  pub text : List ℕ
  pub right : work_right plan worker (Ok text)
  pub passed_on : All (Contains (input_lines bytes)) (input_lines text)
  pub short : All (λ line. length line ≤ 2 ^ 24) (input_lines text)

-- the answer has the text that `take` prints for the plan, and no soup is missing
abbrev pub IsWholeHaul : Plan → Result Made Complaint → Type 0
IsWholeHaul plan answer = MatchResult answer (λ made. take_right plan (Ok made.text) × (made.missing ≡ 0)) (λ complaint. ⊥)

-- if each soup of a set is worked on, by calls whose sets may overlap, and the input has at most 2^32 bytes, `gather`
-- makes what `take` prints for the set
abbrev pub SplitWorkIsWhole : Type 0
SplitWorkIsWhole = (plan : Plan) (job : Job) (workers : ℕ) (bytes : List ℕ) (answer : Result Made Complaint) → IsAccepted plan job
    → length bytes ≤ 2 ^ 32 → ((n : ℕ) → IsInSet plan.set n → IsWorkedOn job workers bytes n) → gather_right plan workers bytes answer
    → IsWholeHaul plan answer

-- the output by status: the text of `take` for `Done`, anything for `Memory` and `Failed`; no other status is possible
abbrev pub HasWholeText : Plan → Status → Stream → Type 0
HasWholeText plan Done output = (text : List ℕ) × take_right plan (Ok text) × Has output text
HasWholeText plan Memory output = Unit {0}
HasWholeText plan Failed output = Unit {0}
HasWholeText plan _ output = ⊥

-- if each soup is worked on and the input has at most 2^32 bytes, `gather` prints `take`'s text, or memory or I/O fails
abbrev pub SplitWorkEnds : Type 0
SplitWorkEnds = (plan : Plan) (job : Job) (workers : ℕ) (reader : Option (List ℕ)) (bytes : List ℕ) (status : Status) (output errors : Stream)
    → IsAccepted plan job → length bytes ≤ 2 ^ 32 → ((n : ℕ) → IsInSet plan.set n → IsWorkedOn job workers bytes n)
    → Ends (gather_behaviour plan workers) reader bytes status output errors → HasWholeText plan status output

-- for each plan, at most one text is correct for `take`
abbrev pub OneRightText : Type 0
OneRightText = (plan : Plan) (one other : List ℕ) → take_right plan (Ok one) → take_right plan (Ok other) → one ≡ other
