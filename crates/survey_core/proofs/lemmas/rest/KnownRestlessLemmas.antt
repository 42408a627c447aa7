-- Checkpoints at which a pattern is known not to be at rest.
use Rattle.std.proofs.Common.{◌≡◌, ◌∙◌, ◌+◌, ◌%◌, ℕ, Bool, true, false, List, ap, arith, get_or-set_other, inl, inr, replicate, set, sym, subst}
use Rattle.std.proofs.lemmas.List.{get_or-replicate}
use Rattle.std.proofs.lemmas.Bool.{cases_eq, false≢true}
use Rattle.plane_core.specs.declared.plane.cell.Cell.{Cell}
use Rattle.plane_core.specs.plane.Generations.{after}
use Rattle.plane_core.specs.plane.Rules.{Numbers}
use Rattle.plane_core.proofs.lemmas.plane.GenerationLemmas.{after-none}
use Rattle.survey_core.specs.rest.KnownRestless.{AreKnownRestless, is_known}
use Rattle.survey_core.specs.Profiles.{Settling}
use Rattle.survey_core.specs.rest.Rest.{IsAtRest}
use Rattle.survey_core.proofs.lemmas.FindingLemmas.{after-then}

-- `AreKnownRestless` holds if nothing is known
pub none_known : (rule : Numbers) (profile : Settling) (cells : List Cell) (t : ℕ) → AreKnownRestless rule profile cells t (replicate 2 false)
none_known rule profile cells t n known = absurd (false≢true (sym (get_or-replicate 2 ((t + n) % 2) false false (omega arith)) ∙ known))

-- if `AreKnownRestless` holds, and `is_known` is true for generation t, the pattern in generation t isn't at rest
pub known_now : (rule : Numbers) (profile : Settling) (cells : List Cell) (t : ℕ) (known_restless : List Bool) → AreKnownRestless rule profile cells t known_restless
    → is_known known_restless t ≡ true → ¬ IsAtRest rule profile cells
known_now rule profile cells t known_restless are known rest =
    are 0 (ap (is_known known_restless) same ∙ known) (subst (IsAtRest rule profile) (sym (after-none rule cells)) rest)
  where
    same : t + 0 ≡ t
    same = omega arith

-- what is known about a pattern in generation t is known s generations later, too
pub known_later : (rule : Numbers) (profile : Settling) (cells : List Cell) (t s : ℕ) (known_restless : List Bool) → AreKnownRestless rule profile cells t known_restless
    → AreKnownRestless rule profile (after rule cells s) (t + s) known_restless
known_later rule profile cells t s known_restless are n known rest =
    are (s + n) (ap (is_known known_restless) same ∙ known) (subst (IsAtRest rule profile) (after-then rule cells s n) rest)
  where
    same : t + (s + n) ≡ (t + s) + n
    same = omega arith

-- if a pattern isn't at rest in generation t, and even numbers of generations don't change it, then it isn't at rest in
-- any later generation whose number is even or odd like t
pub known_more : (rule : Numbers) (profile : Settling) (cells : List Cell) (t : ℕ) (known_restless : List Bool) → AreKnownRestless rule profile cells t known_restless
    → ¬ IsAtRest rule profile cells → ((n : ℕ) → n % 2 ≡ 0 → after rule cells n ≡ cells) → AreKnownRestless rule profile cells t (set known_restless (t % 2) true)
known_more rule profile cells t known_restless are moves still n known = elim (cases_eq ((t + n) % 2) (t % 2)) [
  | inl same ↦ λ rest. moves (subst (IsAtRest rule profile) (still n (omega (arith, same))) rest)
  | inr differs ↦ are n (sym (get_or-set_other known_restless (t % 2) ((t + n) % 2) true false differs) ∙ known)
]
