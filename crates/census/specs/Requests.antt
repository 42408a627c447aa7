-- How the command of each request behaves, and how it may end.
use Rattle.std.specs.Prelude.{◌≡◌, ◌⊎◌, ℕ, Bool, true, false, List, [], None, Option, Some, IsSomeAnd}
use Rattle.memory.specs.Witness.{out_of_memory}
use Rattle.pattern_commands.specs.declared.ending.complaint.Complaint.TheVariants as complaint
use Rattle.pattern_commands.specs.declared.ending.status.Status.{Status}
use Rattle.pattern_commands.specs.declared.ending.status.Status.TheVariants.{Memory, Refused}
use Rattle.pattern_commands.specs.Answers.{IsInput}
use Rattle.pattern_commands.specs.Complaints.{complaint_line}
use Rattle.pattern_commands.specs.Ends.{Ends}
use Rattle.commands.specs.Gather.{gather_behaviour}
use Rattle.pattern_commands.specs.Name.{name_behaviour}
use Rattle.pattern_commands.specs.Run.{run_behaviour}
use Rattle.pattern_commands.specs.Show.{show_behaviour}
use Rattle.pattern_commands.specs.Sizes.{sizes_behaviour}
use Rattle.pattern_commands.specs.Soup.{soup_behaviour}
use Rattle.pattern_commands.specs.Streams.{Stream, Has, HasLine}
use Rattle.commands.specs.Reporting.{reporting_behaviour}
use Rattle.commands.specs.Take.{take_behaviour}
use Rattle.pattern_commands.specs.Behaviours.{Makes, Behaviour}
use Rattle.pattern_commands.specs.Version.{version_behaviour}
use Rattle.commands.specs.Work.{work_behaviour}
use Rattle.requests.specs.declared.form.RunForm.{RunForm}
use Rattle.requests.specs.declared.form.RunForm.TheVariants.{Pattern, Sizes}
use Rattle.requests.specs.declared.plan.Plan.{Plan}
use Rattle.arguments.specs.declared.request.Request.{Request}
use Rattle.arguments.specs.declared.request.Request.TheVariants.{Run, Name, Show, Soup, Take, Work, Gather, Version}
use Rattle.arguments.specs.Requests.{Text, asked_by, asks_version}
use Rattle.arguments.specs.Unasked.{IsUsageText}

-- the behaviour of `take`, which reports late soups if a generation is given
abbrev pub take_behaviour_from : Plan → ℕ → Option ℕ → Behaviour
take_behaviour_from plan workers None = take_behaviour plan
take_behaviour_from plan workers (Some from) = reporting_behaviour plan workers from

-- the behaviour of `run`, which prints the pattern or the sizes of generations
abbrev pub run_behaviour_for : RunForm → List ℕ → ℕ → Behaviour
run_behaviour_for (Pattern form) rule last = run_behaviour form rule last
run_behaviour_for (Sizes from) rule last = sizes_behaviour rule from last

-- the behaviour of the command of a request
abbrev pub behaviour_of : Request → Behaviour
behaviour_of (Run generations form rule) = run_behaviour_for form rule generations
behaviour_of (Name profile rule) = name_behaviour profile rule
behaviour_of (Show code form) = show_behaviour form code
behaviour_of (Soup seed number form) = soup_behaviour form seed number
behaviour_of (Take plan workers progress from) = take_behaviour_from plan workers from
behaviour_of (Work plan worker) = work_behaviour plan worker
behaviour_of (Gather plan workers) = gather_behaviour plan workers
behaviour_of Version = version_behaviour

-- the command reads its input: `run` if its rule is valid, `name` if its rule and profile are, and `gather` if its
-- rule, profile and seed are
abbrev pub reads_input : Request → Bool
reads_input request = (behaviour_of request).reads

-- the input itself may be refused: `run` and `name` refuse what isn't a pattern
abbrev pub refuses_input : Request → Bool
refuses_input request = (behaviour_of request).refuses

-- the command's text is complete before its first byte is written: this holds for all commands except `work` and
-- `run --sizes`
abbrev pub is_whole : Request → Bool
is_whole request = (behaviour_of request).whole

-- the command may write to standard error before its last line there: diagnostics about lines of its input, or report
-- lines
abbrev pub writes_lines : Request → Bool
writes_lines (Gather plan workers) = true
writes_lines (Take plan workers progress (Some from)) = true
writes_lines request = false

-- the request is about a set of soups
abbrev pub is_over_sets : Request → Bool
is_over_sets (Take plan workers progress from) = true
is_over_sets (Work plan worker) = true
is_over_sets (Gather plan workers) = true
is_over_sets request = false

-- which result or complaint is right for a request and an input
abbrev pub right_for : Request → List ℕ → Makes
right_for request = (behaviour_of request).right

-- What a request leaves unchanged. `input` says that the reader is unchanged, and `output` that standard output is. The
-- reader is unchanged if the command doesn't read its input, or if it refused something but can't refuse its input.
-- Standard output is unchanged after a refusal. If memory ran out, it is unchanged for a command whose text is complete
-- before its first byte is written.
pub record Spares (request : Request) (status : Status) (input output : Type 0) : Type 0 where
  pub unread : reads_input request ≡ false → input
  pub unread_refused : status ≡ Refused → refuses_input request ≡ false → input
  pub untouched : status ≡ Refused → output
  pub no_memory : status ≡ Memory → is_whole request ≡ true → output

-- on the input of `reader`, the command of a request has ended in a way that its behaviour allows
pub record DoesRequest (reader : Option (List ℕ)) (status : Status) (output errors : Stream) (request : Request) : Type 0 where
  pub bytes : List ℕ
  pub input : IsInput reader bytes
  pub ends : Ends (behaviour_of request) reader bytes status output errors

-- there was no memory to read the arguments or for a buffer, and nothing was done; this can't happen with `--version`
pub record LacksMemory (arguments : List Text) (status : Status) (output errors : Stream) : Type 0 where
  pub no_version : asks_version arguments ≡ false
  pub status_is : status ≡ Memory
  pub nothing : Has output []
  pub line : HasLine errors (complaint_line (complaint.Memory out_of_memory))

-- the command that the arguments ask for has ended, or there was no memory to read the arguments or for a buffer
abbrev pub DoesArguments : List Text → Option (List ℕ) → Status → Stream → Stream → Type 0
DoesArguments arguments reader status output errors =
    IsSomeAnd (asked_by arguments) (DoesRequest reader status output errors) ⊎ LacksMemory arguments status output errors

-- standard error got a text that says why the arguments ask for nothing, or a prefix of the text if a write failed
pub record TellsUsage (errors : Stream) : Type 0 where
  pub text : List ℕ
  pub says : IsUsageText text
  pub line : HasLine errors text
