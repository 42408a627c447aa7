-- The behaviour of `census --version`.
use Rattle.std.specs.Prelude.{ℕ, List, Ok, codes, true, false}
use Rattle.pattern_commands.specs.Answers.{Answer, only}
use Rattle.pattern_commands.specs.Behaviours.{Behaviour, text_behaviour}

-- the program's name and version, as a line
abbrev pub version_line : List ℕ
version_line = codes "census 0.3.0\n"

-- the only right answer: the line of the version
abbrev pub version_answer : Answer
version_answer = Ok version_line

-- the behaviour of `--version`
abbrev pub version_behaviour : Behaviour
version_behaviour = text_behaviour false true (λ bytes. only version_answer)
