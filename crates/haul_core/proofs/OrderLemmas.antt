-- Counts in the order of their codes, with one more at the end.
use Rattle.std.proofs.Common.{◌≡◌, ◌++◌, ◌∷◌, ℕ, List, [], Some, refl}
use Rattle.std.proofs.lemmas.Cmp.{nat_list_cmp_total}
use Rattle.std.specs.Cmp.Lexicographic.{slice_cmp}
use Rattle.std.specs.List.{AllByRecursion}
use Rattle.std.specs.List.Sorted.{IsStrictlySortedBy}
use Rattle.std.specs.Map.{keys_of}
use Rattle.std.specs.Ordering.{nat_cmp}
use Rattle.std.specs.declared.cmp.Ordering.TheVariants.{Less}
use Rattle.haul_core.specs.ClaimSteps.{IsAfter, last_code}

abbrev Counts : Type 0
Counts = List (List ℕ × ℕ)

abbrev pub AreOrdered : Counts → Type 0
AreOrdered counts = IsStrictlySortedBy (slice_cmp nat_cmp) (keys_of counts)

pub last_code-push : (counts : Counts) (object : List ℕ × ℕ) → last_code (counts ++ object ∷ []) ≡ Some object.0
last_code-push [] object = refl
last_code-push (a ∷ []) object = refl
last_code-push (a ∷ b ∷ more) object = last_code-push (b ∷ more) object

-- if counts are in order, the code of each count comes after the code of the count before it
pub seam : (counts : Counts) (object : List ℕ × ℕ) (more : Counts) → AreOrdered (counts ++ object ∷ more) → IsAfter (last_code counts) object.0
unfolding IsStrictlySortedBy
seam [] object more h = tt
seam (a ∷ []) object more h = h.0.0
seam (a ∷ b ∷ counts) object more h = seam (b ∷ counts) object more h.1

all_push : (code : List ℕ) (counts : Counts) (object : List ℕ × ℕ) → AllByRecursion (λ y. slice_cmp nat_cmp code y ≡ Less) (keys_of counts)
    → slice_cmp nat_cmp code object.0 ≡ Less → AllByRecursion (λ y. slice_cmp nat_cmp code y ≡ Less) (keys_of (counts ++ object ∷ []))
all_push code [] object h k = (k, tt)
all_push code (a ∷ counts) object h k = (h.0, all_push code counts object h.1 k)

below : (code : List ℕ) (a : List ℕ × ℕ) (counts : Counts) (object : List ℕ × ℕ) → slice_cmp nat_cmp code a.0 ≡ Less → AreOrdered (a ∷ counts)
    → IsAfter (last_code (a ∷ counts)) object.0 → slice_cmp nat_cmp code object.0 ≡ Less
unfolding IsStrictlySortedBy
below code a [] object h k l = nat_list_cmp_total.trans code a.0 object.0 h l
below code a (b ∷ counts) object h k l = below code b counts object (nat_list_cmp_total.trans code a.0 b.0 h k.0.0) k.1 l

pub ordered-push : (counts : Counts) (object : List ℕ × ℕ) → AreOrdered counts → IsAfter (last_code counts) object.0 → AreOrdered (counts ++ object ∷ [])
unfolding IsStrictlySortedBy
ordered-push [] object h k = (tt, tt)
ordered-push (a ∷ []) object h k = ((k, tt), (tt, tt))
ordered-push (a ∷ b ∷ counts) object h k =
    (all_push a.0 (b ∷ counts) object h.0 (below a.0 b counts object h.0.0 h.1 k), ordered-push (b ∷ counts) object h.1 k)
