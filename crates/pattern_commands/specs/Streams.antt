-- What a command leaves on a stream.
use Rattle.std.specs.Prelude.{◌≡◌, ℕ, Bool, false, List, [], Option, MatchBool}
use Rattle.std.specs.Io.KnownBytes.{Appends}
use Rattle.plane_core.specs.Outputs.{Output, AppendsPrefix}

-- A stream during a call: the bytes before and after, if they are known, and whether a write failed.
pub record Stream : Type 0 where
  pub before : Option (List ℕ)
  pub after : Option (List ℕ)
  pub failed : Bool

-- the stream of a writer that was lent to a call; `contents` are the bytes that a writer holds, if they are known
abbrev pub stream : {V : Type 0} → (V → Option (List ℕ)) → Output V → Output V → Stream
stream contents old new = record { before = contents old.writer; after = contents new.writer; failed = new.failed }

-- the text was added, and nothing else
abbrev pub Has : Stream → List ℕ → Type 0
Has s text = Appends s.before s.after text

-- a prefix of the text was added, and nothing else
abbrev pub HasPrefix : Stream → List ℕ → Type 0
HasPrefix s text = AppendsPrefix s.before s.after text

-- the line was added, or a prefix of it if a write failed
abbrev pub HasLine : Stream → List ℕ → Type 0
HasLine s line = MatchBool s.failed (HasPrefix s line) (Has s line)

-- nothing was added, and no write failed
abbrev pub IsUntouched : Stream → Type 0
IsUntouched s = Has s [] × (s.failed ≡ false)
