-- How a command ends if soups are missing.
use Rattle.std.proofs.Common.{◌≡◌, ℕ, zero, suc, List, Option, Result, Ok, Err, refl}
use Rattle.plane_core.specs.Outputs.{Output, Writes}
use Rattle.pattern_commands.specs.declared.ending.status.Status.TheVariants.{Incomplete}
use Rattle.pattern_commands.specs.Complaints.{missing_line}
use Rattle.pattern_commands.specs.Ends.{HasLast, status_after}
use Rattle.pattern_commands.specs.Streams.{HasLine, stream}

-- if soups are missing, the status is `Incomplete`
pub missing_status : (missing : ℕ) → (missing ≡ 0 → ⊥) → Incomplete ≡ status_after (Ok missing)
missing_status zero some = absurd (some refl)
missing_status (suc n) some = refl

-- if a line was written, or writing it failed, then the stream has this line or a prefix of it
has_line : {V E : Type 0} (contents : V → Option (List ℕ)) (old new : Output V) (result : Result (Unit {0}) E) (line : List ℕ)
    → Writes contents old new result line → HasLine (stream contents old new) line
has_line contents old new (Ok _) line writes = rw writes.remembers writes.whole
has_line contents old new (Err error) line writes = rw writes.remembers writes.prefix

-- if soups are missing, the last line says how many
pub missing_last : {V E : Type 0} (contents : V → Option (List ℕ)) (old new : Output V) (result : Result (Unit {0}) E) (missing : ℕ) → (missing ≡ 0 → ⊥)
    → Writes contents old new result (missing_line missing) → HasLast (Ok missing) (stream contents old new)
missing_last contents old new result zero some writes = absurd (some refl)
missing_last contents old new result (suc n) some writes = has_line contents old new result (missing_line (suc n)) writes
