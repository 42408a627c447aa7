-- What happens to the writer when a call writes a text. The writer may fail before the end of the text.
use Rattle.std.specs.Prelude.{◌≡◌, Bool, List, ℕ, ◌++◌, Option, Result, is_err, OnOk, OnErr}
use Rattle.std.specs.Io.KnownBytes.{Appends}

-- a writer, and whether writing to it has failed
pub record Output (V : Type 0) : Type 0 where
  pub writer : V
  pub failed : Bool

-- the known bytes of a writer grow by a prefix of the text
abbrev pub AppendsPrefix : Option (List ℕ) → Option (List ℕ) → List ℕ → Type 0
AppendsPrefix known_old known_new text = (prefix remainder : List ℕ) × (text ≡ prefix ++ remainder) × Appends known_old known_new prefix

-- A call wrote the whole text. Or it failed: it wrote a prefix of the text, and `new` is marked as failed. `contents`
-- are the bytes that a writer holds, if they are known.
pub record Writes {V E : Type 0} (contents : V → Option (List ℕ)) (old new : Output V) (result : Result (Unit {0}) E) (text : List ℕ) : Type 0 where
  pub remembers : new.failed ≡ is_err result
  pub whole : OnOk result (Appends (contents old.writer) (contents new.writer) text)
  pub prefix : OnErr result (AppendsPrefix (contents old.writer) (contents new.writer) text)
