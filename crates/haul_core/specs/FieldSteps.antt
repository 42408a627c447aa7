-- How the fields of a report line are cut out and read.
use Rattle.std.specs.Prelude.{◌≡◌, ◌≢◌, ◌<◌, ◌≤◌, ◌^◌, ◌==◌, ◌⊎◌, ◌++◌, ℕ, Bool, false, List, ◌∷◌, Option, None, Some, codes, decimal}
use Rattle.std.specs.List.{list_any}
use Rattle.survey_core.specs.Profiles.{Settling}

-- the byte isn't in the text
abbrev pub Lacks : ℕ → List ℕ → Type 0
Lacks byte text = list_any (λ b. b == byte) text ≡ false

-- the text is cut at the first occurrence of the byte, into a prefix and the text after the byte; `None` means that the
-- byte doesn't occur, and that the prefix is the whole text
abbrev pub Cuts : ℕ → List ℕ → List ℕ → Option (List ℕ) → Type 0
Cuts byte text prefix None = (text ≡ prefix) × Lacks byte prefix
Cuts byte text prefix (Some remainder) = (text ≡ prefix ++ byte ∷ remainder) × Lacks byte prefix

-- the field is the text of this value, which is allowed; `None` means that it is the text of no allowed value
abbrev pub SpellsField : {A : Type 0} → (A → Type 0) → (A → List ℕ) → List ℕ → Option A → Type 0
SpellsField MayBe text field None = (a : _) → MayBe a → field ≢ text a
SpellsField MayBe text field (Some a) = MayBe a × (field ≡ text a)

-- a number that a field may have
abbrev pub IsNumber : ℕ → Type 0
IsNumber n = n < 2 ^ 64

-- a version of report lines
abbrev pub IsVersion : ℕ → Type 0
IsVersion n = (n ≡ 1) ⊎ (n ≡ 2)

-- a field may say either that the objects stay for good or that they don't
abbrev pub IsAnyMark : Bool → Type 0
IsAnyMark for_good = Unit {0}

-- a number that may be in a profile, or be a checkpoint
abbrev pub IsSmall : ℕ → Type 0
IsSmall n = n ≤ 100000

-- the text begins with this number, up to 100,000, and a `,` (44); `None` means that it doesn't begin in this way
abbrev pub BeginsNumber : List ℕ → Option (ℕ × List ℕ) → Type 0
BeginsNumber text None = (n : ℕ) (remainder : List ℕ) → IsSmall n → text ≢ decimal n ++ 44 ∷ remainder
BeginsNumber text (Some first) = IsSmall first.0 × (text ≡ decimal first.0 ++ 44 ∷ first.1)

-- the four numbers of a profile, with a `,` between each two
abbrev pub numbers_text : Settling → List ℕ
numbers_text p = decimal p.period ++ 44 ∷ (decimal p.horizon ++ 44 ∷ (decimal p.stride ++ 44 ∷ decimal p.limit))

-- what a line says in the field after the soup's number: that the soup didn't settle, or when it did
abbrev pub state_field : Option ℕ → List ℕ
state_field None = codes "unsettled"
state_field (Some checkpoint) = codes "at=" ++ decimal checkpoint

-- a state that a line may give
abbrev pub IsState : Option ℕ → Type 0
IsState None = Unit {0}
IsState (Some checkpoint) = IsSmall checkpoint
