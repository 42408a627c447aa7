-- A pattern that is moved keeps its apgcode.
use Rattle.std.proofs.Common.{◌≡◌, ◌∙◌, sym, ap, refl, subst, ℕ, zero, suc, ℤ, ◌+ℤ◌, neg_ℤ, List, [], ◌∷◌, length, arith}
use Rattle.std.proofs.lemmas.Int.{ints}
use Rattle.plane_core.specs.declared.plane.cell.Cell.{Cell}
use Rattle.plane_core.specs.plane.Bounds.{shifted}
use Rattle.plane_core.specs.plane.Cells.{InOrder, cell_at}
use Rattle.plane_core.specs.plane.Generations.{after, next}
use Rattle.plane_core.specs.plane.Orientations.{turned}
use Rattle.plane_core.specs.plane.Rules.{Numbers}
use Rattle.plane_core.proofs.lemmas.plane.CommuteLemmas.{next-shifted}
use Rattle.plane_core.proofs.lemmas.plane.GenerationLemmas.{after-none, in_order-next}
use Rattle.plane_core.proofs.lemmas.plane.OrientationLemmas.{turning_moved}
use Rattle.plane_core.proofs.lemmas.plane.TransformLemmas.{in_order-shifted}
use Rattle.code_core.specs.declared.apgcode.Kind.{Kind}
use Rattle.code_core.specs.declared.apgcode.Kind.TheVariants.{Still, Oscillator, Ship}
use Rattle.code_core.specs.declared.recurrence.Recurrence.{Recurrence}
use Rattle.code_core.specs.Apgcodes.{code_text}
use Rattle.code_core.specs.Names.{CodesMoved, IsImageText, kind_of, number_of}
use Rattle.code_core.specs.Recurrences.{Recurs}
use Rattle.code_core.specs.Texts.{text}
use Rattle.code_core.proofs.LeastLemmas.{least_of_same}

pub after-suc : (rule : Numbers) (cells : List Cell) (g : ℕ) → after rule cells (suc g) ≡ next rule (after rule cells g)
unfolding after
after-suc rule cells g = refl

pub in_order-after : (rule : Numbers) (cells : List Cell) (g : ℕ) → InOrder cells → InOrder (after rule cells g)
in_order-after rule cells zero order = subst InOrder (sym (after-none rule cells)) order
in_order-after rule cells (suc g) order = subst InOrder (sym (after-suc rule cells g)) (in_order-next rule (after rule cells g))

-- the generations of a moved pattern are those of the pattern, moved
pub after-shifted : (dx dy : ℤ) (rule : Numbers) (cells : List Cell) (g : ℕ) → InOrder cells
    → after rule (shifted dx dy cells) g ≡ shifted dx dy (after rule cells g)
after-shifted dx dy rule cells zero order = after-none rule (shifted dx dy cells) ∙ ap (shifted dx dy) (sym (after-none rule cells))
after-shifted dx dy rule cells (suc g) order =
    after-suc rule (shifted dx dy cells) g ∙ ap (next rule) (after-shifted dx dy rule cells g order)
    ∙ next-shifted dx dy rule (after rule cells g) (in_order-after rule cells g order)
    ∙ ap (shifted dx dy) (sym (after-suc rule cells g))

either_way : (a v w : ℤ) → (a +ℤ v) +ℤ w ≡ (a +ℤ w) +ℤ v
either_way a v w = omega (arith, ints)

-- shifts commute
pub shifted-swap : (dx dy ex ey : ℤ) (cells : List Cell) → shifted dx dy (shifted ex ey cells) ≡ shifted ex ey (shifted dx dy cells)
shifted-swap dx dy ex ey [] = refl
shifted-swap dx dy ex ey (c ∷ cs) = λ i. cell_at (either_way c.x ex dx i) (either_way c.y ey dy i) ∷ shifted-swap dx dy ex ey cs i

there_and_back : (a v : ℤ) → (a +ℤ v) +ℤ neg_ℤ v ≡ a
there_and_back a v = omega (arith, ints)

pub shifted-back : (dx dy : ℤ) (cells : List Cell) → shifted (neg_ℤ dx) (neg_ℤ dy) (shifted dx dy cells) ≡ cells
shifted-back dx dy [] = refl
shifted-back dx dy (c ∷ cs) = λ i. cell_at (there_and_back c.x dx i) (there_and_back c.y dy i) ∷ shifted-back dx dy cs i

-- `shifted` is injective in the pattern
pub shifted-same : (dx dy : ℤ) (S T : List Cell) → shifted dx dy S ≡ shifted dx dy T → S ≡ T
shifted-same dx dy S T is = sym (shifted-back dx dy S) ∙ ap (shifted (neg_ℤ dx) (neg_ℤ dy)) is ∙ shifted-back dx dy T

pub length-shifted : (dx dy : ℤ) (cells : List Cell) → length (shifted dx dy cells) ≡ length cells
length-shifted dx dy [] = refl
length-shifted dx dy (c ∷ cs) = ap suc (length-shifted dx dy cs)

-- a moved pattern has the recurrence of the pattern
pub recurs-shifted : (dx dy : ℤ) (rule : Numbers) (cells : List Cell) (limit : ℕ) (r : Recurrence) → InOrder cells → Recurs rule cells limit r
    → Recurs rule (shifted dx dy cells) limit r
recurs-shifted dx dy rule cells limit r order h = record {
  some = h.some;
  within = h.within;
  back = after-shifted dx dy rule cells r.period order ∙ ap (shifted dx dy) h.back ∙ shifted-swap dx dy r.dx r.dy cells;
  least = λ p ex ey some less is. h.least p ex ey some less
      (shifted-same dx dy (after rule cells p) (shifted ex ey cells) (sym (after-shifted dx dy rule cells p order) ∙ is ∙ shifted-swap ex ey dx dy cells));
}

-- a moved pattern has the image texts of the pattern, and no others
text-shifted : (dx dy : ℤ) (rule : Numbers) (cells : List Cell) (period : ℕ) (t : List ℕ) → InOrder cells → IsImageText rule cells period t
    → IsImageText rule (shifted dx dy cells) period t
text-shifted dx dy rule cells period t order h = record {
  phase = h.phase;
  orientation = h.orientation;
  within = h.within;
  is = ap (λ (S : List Cell). text (turned h.orientation S)) (after-shifted dx dy rule cells h.phase order)
      ∙ ap text (turning_moved h.orientation dx dy (after rule cells h.phase)) ∙ h.is;
}

text-unshifted : (dx dy : ℤ) (rule : Numbers) (cells : List Cell) (period : ℕ) (t : List ℕ) → InOrder cells
    → IsImageText rule (shifted dx dy cells) period t → IsImageText rule cells period t
text-unshifted dx dy rule cells period t order h =
    subst (λ (S : List Cell). IsImageText rule S period t) (shifted-back dx dy cells)
    (text-shifted (neg_ℤ dx) (neg_ℤ dy) rule (shifted dx dy cells) period t (in_order-shifted dx dy cells order) h)

-- the number in an apgcode is the same for two patterns with the same kind, recurrence and population
pub number-same : (kind : Kind) (S T : List Cell) (r : Recurrence) → length S ≡ length T → number_of kind S r ≡ number_of kind T r
number-same Still S T r is = is
number-same Oscillator S T r is = refl
number-same Ship S T r is = refl

-- a moved pattern has the apgcode of the pattern
pub codes_moved : CodesMoved
codes_moved dx dy rule cells limit code order h = record {
  recurrence = h.recurrence;
  recurs = recurs-shifted dx dy rule cells limit h.recurrence order h.recurs;
  least = h.least;
  is_least = least_of_same (IsImageText rule cells h.recurrence.period) (IsImageText rule (shifted dx dy cells) h.recurrence.period) h.least
      (λ t. text-shifted dx dy rule cells h.recurrence.period t order) (λ t. text-unshifted dx dy rule cells h.recurrence.period t order) h.is_least;
  spelled = h.spelled ∙ ap (λ (n : ℕ). code_text (kind_of h.recurrence) n h.least)
      (number-same (kind_of h.recurrence) cells (shifted dx dy cells) h.recurrence (sym (length-shifted dx dy cells)));
}
