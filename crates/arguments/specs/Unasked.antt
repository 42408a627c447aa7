-- Why arguments give no request.
use Rattle.std.specs.Prelude.{◌≡◌, ◌<◌, ◌++◌, ℕ, List, codes, length, string_bytes}
use Rattle.clap.specs.Words.{kind_of}
use Rattle.clap.specs.declared.error.kind.ErrorKind.TheVariants.{OutOfMemory}
use Rattle.arguments.specs.declared.calls.Unasked.{Unasked}
use Rattle.arguments.specs.declared.calls.Unasked.TheVariants.{Memory, Unread, Usage}

-- the reason is the arguments: they aren't understood, contradict each other, or ask for help
abbrev pub IsUsage : Unasked → Type 0
IsUsage (Usage text) = Unit {0}
IsUsage (Unread error) = ⊥
IsUsage (Memory error) = ⊥

-- a text that ends with a line feed and has something before it
pub record IsUsageText (text : List ℕ) : Type 0 where
  pub prefix : List ℕ
  pub some : 0 < length prefix
  pub ended : text ≡ prefix ++ codes "\n"

-- the reason is a usage text, or an error that says that memory ran out
abbrev pub SaysWhy : Unasked → Type 0
SaysWhy (Usage text) = IsUsageText (string_bytes text)
SaysWhy (Unread error) = kind_of error ≡ OutOfMemory
SaysWhy (Memory error) = Unit {0}
