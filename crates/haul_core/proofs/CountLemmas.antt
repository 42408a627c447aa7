-- Profiles and counts as fields: where a text is cut, and why a field spells only one value.
use Rattle.std.proofs.Common.{◌≡◌, ◌∙◌, ◌++◌, ◌∷◌, ℕ, List, Some, Ok, sym, refl, decimal, arith}
use Rattle.std.proofs.lemmas.Bool.{le-leb}
use Rattle.std.proofs.lemmas.Fmt.{decimal_injective}
use Rattle.survey_core.specs.Profiles.{IsProfile, Settling, profile_of}
use Rattle.haul_core.specs.FieldSteps.{Cuts, IsSmall}
use Rattle.haul_core.specs.ReportLines.{count_field}
use Rattle.haul_core.specs.LawfulClaims.{IsCount}
use Rattle.haul_core.proofs.SpaceLemmas.{code_lacks_star, cut_once, decimal_lacks}

-- if the field of a count is cut at `*` (42), the parts are the count's code and its number in decimal
pub same_count : (field prefix text : List ℕ) (object : List ℕ × ℕ) → Cuts 42 field prefix (Some text) → IsCount object → field ≡ count_field object
    → (prefix ≡ object.0) × (text ≡ decimal object.1)
same_count field prefix text object cut lawful e =
    cut_once 42 prefix object.0 text (decimal object.1) cut.1 (code_lacks_star object.0 lawful.code.bytes) (sym cut.0 ∙ e)

-- if a text begins with a number up to 100,000 and a `,` (44), the number is unique, and so is the text after the `,`
pub same_first : (text remainder more : List ℕ) (n m : ℕ) → IsSmall n → IsSmall m → text ≡ decimal n ++ 44 ∷ remainder → text ≡ decimal m ++ 44 ∷ more
    → (n ≡ m) × (remainder ≡ more)
same_first text remainder more n m p q e f =
    let c = cut_once 44 (decimal n) (decimal m) remainder more (decimal_lacks 44 n refl (omega arith)) (decimal_lacks 44 m refl (omega arith)) (sym e ∙ f) in
    (decimal_injective n m (omega arith) (omega arith) c.0, c.1)

-- the four numbers of a profile are at most 100,000
pub record AreSmall (p : Settling) : Type 0 where
  pub period : IsSmall p.period
  pub horizon : IsSmall p.horizon
  pub stride : IsSmall p.stride
  pub limit : IsSmall p.limit

pub are_small : (p : Settling) → IsProfile p → AreSmall p
are_small p h =
    let a = h.period in
    let b = h.horizon in
    let c = h.stride in
    record { period = omega arith; horizon = omega arith; stride = omega arith; limit = h.limit }

pub profile_accepted : (p : Settling) → IsProfile p → profile_of p ≡ Ok p
profile_accepted p h =
    let a = le-leb 1 p.period h.some in
    let b = le-leb p.period 64 h.period in
    let c = le-leb p.period p.horizon h.ahead in
    let d = le-leb p.horizon 4096 h.horizon in
    let e = le-leb 1 p.stride h.onward in
    let f = le-leb p.stride 10000 h.stride in
    let g = le-leb p.limit 100000 h.limit in
    rw (a, b, c, d, e, f, g) refl
