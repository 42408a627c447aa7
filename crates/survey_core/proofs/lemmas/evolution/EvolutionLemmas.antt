-- A pattern that evolves from checkpoint to checkpoint: it stays near the origin, and a still pattern remains still.
use Rattle.std.proofs.Common.{◌≡◌, ◌∙◌, ◌+◌, ◌-◌, ◌<◌, ◌≤◌, ◌⊎◌, ℕ, true, List, ap, arith, inl, inr, sym}
use Rattle.plane_core.specs.declared.plane.cell.Cell.{Cell}
use Rattle.plane_core.specs.plane.Generations.{after, lies_within}
use Rattle.plane_core.specs.plane.Rules.{Numbers}
use Rattle.plane_core.proofs.lemmas.plane.CaseLemmas.{less_or_not}
use Rattle.plane_core.proofs.lemmas.plane.GenerationLemmas.{after-none}
use Rattle.survey_core.specs.UnderWay.{StaysNear, survey_reach}
use Rattle.survey_core.proofs.lemmas.FindingLemmas.{after-then}
use Rattle.survey_core.proofs.lemmas.PlaneLemmas.{within_later}

-- if a + b is n, `a` generations followed by `b` generations are n generations
pub in_parts : (rule : Numbers) (cells : List Cell) (a b n : ℕ) → a + b ≡ n → after rule (after rule cells a) b ≡ after rule cells n
in_parts rule cells a b n is = after-then rule cells a b ∙ ap (after rule cells) is

-- a pattern that stays near the origin is near it now
pub near_now : (rule : Numbers) (cells : List Cell) (n : ℕ) → StaysNear rule cells n → lies_within survey_reach cells ≡ true
near_now rule cells n near = ap (lies_within survey_reach) (sym (after-none rule cells)) ∙ near 0 (omega arith)

-- if a pattern is near the origin now and in the generations `ahead` (0 or 1) to `ahead` + n, it stays near the origin
-- for `ahead` + n generations
pub near_ahead : (rule : Numbers) (cells : List Cell) (ahead n : ℕ) → ahead ≤ 1 → lies_within survey_reach cells ≡ true
    → StaysNear rule (after rule cells ahead) n → StaysNear rule cells (ahead + n)
near_ahead rule cells ahead n few here near g low = go (less_or_not g ahead)
  where
    go : (g < ahead) ⊎ (ahead ≤ g) → lies_within survey_reach (after rule cells g) ≡ true
    go (inl early) =
        let first : g ≡ 0 = omega arith in
        ap (λ (m : ℕ). lies_within survey_reach (after rule cells m)) first ∙ ap (lies_within survey_reach) (after-none rule cells) ∙ here
    go (inr late) =
        ap (lies_within survey_reach) (sym (in_parts rule cells ahead (g - ahead) g (omega arith))) ∙ near (g - ahead) (omega arith)

-- a pattern that began within 1,000 of the origin stays near it for n more generations, up to generation 100,000
pub stays_near : (rule : Numbers) (cells latest : List Cell) (t n : ℕ) → latest ≡ after rule cells t
    → lies_within 1000 cells ≡ true → t + n ≤ 100000 → StaysNear rule latest n
stays_near rule cells latest t n is near most g few =
    (λ i. lies_within survey_reach (after rule (is i) g)) ∙ ap (lies_within survey_reach) (after-then rule cells t g)
    ∙ within_later 1000 survey_reach rule cells (t + g) (omega arith) near

-- if n generations leave a pattern unchanged, they leave its later generations unchanged, too
pub still_ahead : (rule : Numbers) (cells : List Cell) (ahead n : ℕ) → after rule cells n ≡ cells
    → after rule (after rule cells ahead) n ≡ after rule cells ahead
still_ahead rule cells ahead n still =
    in_parts rule cells ahead n (ahead + n) (omega arith) ∙ sym (in_parts rule cells n ahead (ahead + n) (omega arith))
    ∙ ap (λ (S : List Cell). after rule S ahead) still
