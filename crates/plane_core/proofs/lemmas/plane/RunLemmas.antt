-- Runs of several generations: they keep the cells in order, and two runs join into one.
use Rattle.std.proofs.Common.{◌≡◌, ◌+◌, ◌-◌, ◌<◌, ◌≤◌, ℕ, zero, suc, false, List}
use Rattle.std.proofs.Common.{arith, ap, ◌∙◌, sym, subst, inl, inr, ◌⊎◌}
use Rattle.plane_core.specs.declared.plane.cell.Cell.{Cell}
use Rattle.plane_core.specs.plane.Cells.{InOrder}
use Rattle.plane_core.specs.plane.Generations.{next, after, touches_edge}
use Rattle.plane_core.specs.plane.Rules.{Numbers}
use Rattle.plane_core.proofs.lemmas.plane.CaseLemmas.{less_or_not}
use Rattle.plane_core.proofs.lemmas.plane.GenerationLemmas.{in_order-next, after-none}
use Rattle.plane_core.proofs.lemmas.plane.SpeedLemmas.{after-suc}

pub in_order-after : (rule : Numbers) (S : List Cell) (g : ℕ) → InOrder S → InOrder (after rule S g)
in_order-after rule S zero o = subst (λ (T : List Cell). InOrder T) (sym (after-none rule S)) o
in_order-after rule S (suc g) o = subst (λ (T : List Cell). InOrder T) (sym (after-suc rule S g)) (in_order-next rule (after rule S g))

pub after-plus : (rule : Numbers) (S : List Cell) (a b : ℕ) → after rule (after rule S a) b ≡ after rule S (a + b)
after-plus rule S a zero = after-none rule (after rule S a) ∙ ap (λ (n : ℕ). after rule S n) (omega arith)
after-plus rule S a (suc b) =
    after-suc rule (after rule S a) b ∙ ap (λ (T : List Cell). next rule T) (after-plus rule S a b) ∙ sym (after-suc rule S (a + b))
    ∙ ap (λ (n : ℕ). after rule S n) (omega arith)

-- if the first `a` generations stay off the edge, and so do the next `b`, then all `a + b` generations do
pub inside-more : (rule : Numbers) (S : List Cell) (a b : ℕ) → ((g : ℕ) → g < a → touches_edge (after rule S g) ≡ false)
    → ((g : ℕ) → g < b → touches_edge (after rule (after rule S a) g) ≡ false) → (g : ℕ) → g < a + b → touches_edge (after rule S g) ≡ false
inside-more rule S a b before later g low = go (less_or_not g a)
  where
    go : (g < a) ⊎ (a ≤ g) → touches_edge (after rule S g) ≡ false
    go (inl early) = before g early
    go (inr late) =
        ap (λ (n : ℕ). touches_edge (after rule S n)) (omega arith) ∙ ap touches_edge (sym (after-plus rule S a (g - a))) ∙ later (g - a) (omega arith)
