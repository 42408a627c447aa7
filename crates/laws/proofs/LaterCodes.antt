-- Each generation of a pattern that recurs has the pattern's apgcode.
use Rattle.std.proofs.Common.{◌≡◌, ◌∙◌, sym, ap, refl, subst, ℕ, zero, suc, ℤ, ◌+◌, ◌-◌, ◌≤◌, List, length, arith, eq-or-lt_of_le, inl, inr, add-zero}
use Rattle.std.proofs.Common.{Bool, true, false, ◌&&◌, ◌==◌, cond, int_eq, pos, eqb-true}
use Rattle.plane_core.specs.declared.plane.cell.Cell.{Cell}
use Rattle.plane_core.specs.plane.Bounds.{shifted}
use Rattle.plane_core.specs.plane.Cells.{InOrder}
use Rattle.plane_core.specs.plane.Generations.{after, next}
use Rattle.plane_core.specs.plane.Orientations.{turned}
use Rattle.plane_core.specs.plane.Rules.{Numbers}
use Rattle.plane_core.proofs.lemmas.plane.GenerationLemmas.{after-none}
use Rattle.plane_core.proofs.lemmas.plane.OrientationLemmas.{turning_moved}
use Rattle.code_core.specs.declared.apgcode.Kind.{Kind}
use Rattle.code_core.specs.declared.apgcode.Kind.TheVariants.{Still, Oscillator, Ship}
use Rattle.code_core.specs.declared.recurrence.Recurrence.{Recurrence}
use Rattle.code_core.specs.Apgcodes.{code_text}
use Rattle.code_core.specs.Names.{IsCode, IsImageText, kind_of, number_of}
use Rattle.code_core.specs.Recurrences.{Recurs}
use Rattle.code_core.specs.Texts.{text}
use Rattle.code_core.proofs.LeastLemmas.{least_of_same}
use Rattle.code_core.proofs.MovedCodes.{after-shifted, after-suc, in_order-after, length-shifted, shifted-same, shifted-swap}
use Rattle.laws.specs.Codes.{CodesLater}

-- h generations after generation g is generation g + h
pub after-after : (rule : Numbers) (cells : List Cell) (g h : ℕ) → after rule (after rule cells g) h ≡ after rule cells (g + h)
after-after rule cells g zero = after-none rule (after rule cells g) ∙ ap (after rule cells) (sym (add-zero g))
after-after rule cells g (suc h) = after-suc rule (after rule cells g) h ∙ ap (next rule) (after-after rule cells g h)
    ∙ sym (after-suc rule cells (g + h)) ∙ ap (after rule cells) (omega arith)

module _ (rule : Numbers) (cells : List Cell) (limit : ℕ) (r : Recurrence) (order : InOrder cells) (h : Recurs rule cells limit r) where
  -- each generation occurs again one period later, moved
  a_period_later : (g : ℕ) → after rule cells (r.period + g) ≡ shifted r.dx r.dy (after rule cells g)
  a_period_later g = sym (after-after rule cells r.period g) ∙ ap (λ (S : List Cell). after rule S g) h.back ∙ after-shifted r.dx r.dy rule cells g order

  -- the next generation recurs with the same period and displacement as the pattern
  recurs-next : Recurs rule (after rule cells 1) limit r
  recurs-next = record {
    some = h.some;
    within = h.within;
    back = after-after rule cells 1 r.period ∙ ap (after rule cells) (omega arith) ∙ a_period_later 1;
    least = λ p ex ey some less is. h.least p ex ey some less (sooner p ex ey is);
  }
    where
      -- if the next generation recurs after p generations, so does the pattern
      sooner : (p : ℕ) (ex ey : ℤ) → after rule (after rule cells 1) p ≡ shifted ex ey (after rule cells 1) → after rule cells p ≡ shifted ex ey cells
      sooner p ex ey is =
          let remainder : 1 + (r.period - 1) ≡ r.period = omega (arith, h.some) in
          let whole : after rule (after rule cells 1) (r.period - 1) ≡ shifted r.dx r.dy cells = after-after rule cells 1 (r.period - 1)
          ∙ ap (after rule cells) remainder ∙ h.back in
          let early : after rule (after rule (after rule cells 1) p) (r.period - 1) ≡ shifted r.dx r.dy (after rule cells p) =
          after-after rule (after rule cells 1) p (r.period - 1) ∙ after-after rule cells 1 (p + (r.period - 1))
          ∙ ap (after rule cells) (omega (arith, h.some)) ∙ a_period_later p in
          let late : after rule (shifted ex ey (after rule cells 1)) (r.period - 1) ≡ shifted r.dx r.dy (shifted ex ey cells) =
          after-shifted ex ey rule (after rule cells 1) (r.period - 1) (in_order-after rule cells 1 order) ∙ ap (shifted ex ey) whole
          ∙ shifted-swap ex ey r.dx r.dy cells in
          shifted-same r.dx r.dy (after rule cells p) (shifted ex ey cells) (sym early ∙ ap (λ (S : List Cell). after rule S (r.period - 1)) is ∙ late)

  -- in each orientation, a generation and the generation one period later have the same text
  text_later : (o : _) (g : ℕ) → text (turned o (after rule cells (r.period + g))) ≡ text (turned o (after rule cells g))
  text_later o g = ap (λ (S : List Cell). text (turned o S)) (a_period_later g) ∙ ap text (turning_moved o r.dx r.dy (after rule cells g))

  -- a text of a phase of the next generation is a text of a phase of the pattern
  text-next : (t : List ℕ) → IsImageText rule (after rule cells 1) r.period t → IsImageText rule cells r.period t
  text-next t one = elim (eq-or-lt_of_le one.within) [
    | inl last ↦ record {
      phase = 0;
      orientation = one.orientation;
      within = h.some;
      is = sym (text_later one.orientation 0) ∙ ap (λ (g : ℕ). text (turned one.orientation (after rule cells g))) (add-zero r.period ∙ sym last)
          ∙ ap (λ (S : List Cell). text (turned one.orientation S)) (ap (after rule cells) (omega arith) ∙ sym (after-after rule cells 1 one.phase)) ∙ one.is;
    }
    | inr less ↦ record {
      phase = suc one.phase;
      orientation = one.orientation;
      within = less;
      is = ap (λ (S : List Cell). text (turned one.orientation S)) (ap (after rule cells) (omega arith) ∙ sym (after-after rule cells 1 one.phase)) ∙ one.is;
    }
  ]

  text-before : (t : List ℕ) → IsImageText rule cells r.period t → IsImageText rule (after rule cells 1) r.period t
  text-before t one = elim (eq-or-lt_of_le (least_phase one.phase)) [
    | inl first ↦ record {
      phase = r.period - 1;
      orientation = one.orientation;
      within = omega (arith, h.some);
      is = ap (λ (S : List Cell). text (turned one.orientation S)) (after-after rule cells 1 (r.period - 1) ∙ ap (after rule cells) (omega (arith, h.some)))
          ∙ text_later one.orientation 0 ∙ ap (λ (g : ℕ). text (turned one.orientation (after rule cells g))) first ∙ one.is;
    }
    | inr later ↦ record {
      phase = one.phase - 1;
      orientation = one.orientation;
      within = omega (arith, one.within);
      is = ap (λ (S : List Cell). text (turned one.orientation S)) (after-after rule cells 1 (one.phase - 1)
          ∙ ap (after rule cells) (omega (arith, later))) ∙ one.is;
    }
  ]
    where
      least_phase : (n : ℕ) → 0 ≤ n
      least_phase n = omega arith

-- a still life has period 1
still_period : (r : Recurrence) → kind_of r ≡ Still → r.period ≡ 1
still_period r is = eqb-true r.period 1 (only (int_eq r.dx (pos 0) && int_eq r.dy (pos 0)) (r.period == 1) is)
  where
    only : (stays one : Bool) → cond stays (cond one Still Oscillator) Ship ≡ Still → one ≡ true
    only true true is = refl
    only true false is = cc
    only false one is = cc

-- the next generation has the same number in its apgcode; for a still life, the number is the population
number-next : (rule : Numbers) (cells : List Cell) (limit : ℕ) (r : Recurrence) (kind : Kind) → Recurs rule cells limit r → kind_of r ≡ kind
    → number_of kind cells r ≡ number_of kind (after rule cells 1) r
number-next rule cells limit r Still h is =
    sym (length-shifted r.dx r.dy cells) ∙ ap length (sym h.back) ∙ ap (λ (g : ℕ). length (after rule cells g)) (still_period r is)
number-next rule cells limit r Oscillator h is = refl
number-next rule cells limit r Ship h is = refl

codes_next : (rule : Numbers) (cells : List Cell) (limit : ℕ) (code : List ℕ) → InOrder cells → IsCode rule cells limit code
    → IsCode rule (after rule cells 1) limit code
codes_next rule cells limit code order h = record {
  recurrence = h.recurrence;
  recurs = recurs-next rule cells limit h.recurrence order h.recurs;
  least = h.least;
  is_least = least_of_same (IsImageText rule cells h.recurrence.period) (IsImageText rule (after rule cells 1) h.recurrence.period) h.least
      (text-before rule cells limit h.recurrence order h.recurs) (text-next rule cells limit h.recurrence order h.recurs) h.is_least;
  spelled = h.spelled ∙ ap (λ (n : ℕ). code_text (kind_of h.recurrence) n h.least)
      (number-next rule cells limit h.recurrence (kind_of h.recurrence) h.recurs refl);
}

-- each generation has the apgcode of the pattern
pub codes_later : CodesLater
codes_later zero rule cells limit code order h = subst (λ (S : List Cell). IsCode rule S limit code) (sym (after-none rule cells)) h
codes_later (suc g) rule cells limit code order h =
    subst (λ (S : List Cell). IsCode rule S limit code) (after-after rule cells g 1 ∙ ap (after rule cells) (omega arith))
    (codes_next rule (after rule cells g) limit code (in_order-after rule cells g order) (codes_later g rule cells limit code order h))
