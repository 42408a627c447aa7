-- What holds when the program has ended, for each exit code.
use Rattle.std.specs.Prelude.{◌≡◌, ◌≢◌, ℕ, suc, false, true, List, [], Option, None, Some, IfSome, IsSomeAnd}
use Rattle.pattern_commands.specs.Streams.{Stream, Has}
use Rattle.arguments.specs.Requests.{Text, asked_by}
use Rattle.census.specs.Program.{Complains, IsDone, left_by}
use Rattle.census.specs.Requests.{TellsUsage, is_whole, reads_input, refuses_input, writes_lines}

-- What is left unchanged, for each exit code. `input` says that the reader is unchanged, `output` that the writer of
-- standard output is, and `unprinted` that this writer is unchanged or, without memory for its buffer, not returned.
pub record LeavesAlone (arguments : List Text) (code : ℕ) (errors : Stream) (input output unprinted : Type 0) : Type 0 where
  -- code 2: the arguments ask for nothing
  pub usage : code ≡ 2 → asked_by arguments ≡ None
  -- code 2: a text on standard error says why
  pub tells_usage : code ≡ 2 → TellsUsage errors
  -- code 2: nothing was read or printed
  pub untouched : code ≡ 2 → input × output
  -- code 3: nothing was printed
  pub refused : code ≡ 3 → output
  -- code 3: nothing was read, if the command can't refuse its input
  pub unread_refused : code ≡ 3 → IfSome (asked_by arguments) (λ request. refuses_input request ≡ false → input)
  -- code 4: nothing was printed, if the command's text is complete before its first byte is written
  pub nothing_left : code ≡ 4 → IfSome (asked_by arguments) (λ request. is_whole request ≡ true → unprinted)
  -- any code: nothing was read, if the command doesn't read its input
  pub unread : IfSome (asked_by arguments) (λ request. reads_input request ≡ false → input)

-- How the program ends if its arguments are texts. `given` is the writer of standard output. `back` is that writer
-- afterwards, or `None` if there was no memory for its buffer. `input` says that the reader is unchanged.
pub record ProgramEnds {V : Type 0} (contents : V → Option (List ℕ)) (arguments : List Text) (reader : Option (List ℕ)) (code : ℕ) (given : V)
    (back : Option V) (errors : Stream) (input : Type 0) : Type 0 where
  -- code 0: what the arguments ask for was done, and the writer has received the whole text
  pub done : code ≡ 0 → IsSomeAnd back (λ writer. IsDone arguments reader (contents given) (contents writer) errors 0)
  -- code 0: apart from the progress line, only `gather`, and `take` with `--report-from`, write to standard error
  pub silent : code ≡ 0 → IfSome (asked_by arguments) (λ request. writes_lines request ≡ false → Has errors [])
  -- code 6: what the arguments ask for was done, except that soups are missing
  pub incomplete : code ≡ 6 → IsSomeAnd back (λ writer. (less : ℕ) × IsDone arguments reader (contents given) (contents writer) errors (suc less))
  -- any code except 0, 2 and 6: the program ended with a complaint
  pub complains : code ≢ 0 → code ≢ 2 → code ≢ 6 → Complains arguments reader code (contents given) (left_by contents given back) errors
  -- any code: what is left unchanged
  pub leaves : LeavesAlone arguments code errors input (back ≡ Some given) (IfSome back (λ writer. writer ≡ given))
