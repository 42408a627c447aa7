-- The laws of apgcodes: a pattern that isn't empty has at most one, and each apgcode has the shape `HasCodeShape`.
use Rattle.std.proofs.Common.{◌≡◌, ◌≢◌, ◌∙◌, sym, ap, refl, subst, ℕ, ℤ, ◌+ℤ◌, ◌<◌, ◌≤◌, List, [], ◌∷◌, length, Option, None, Some, arith, inl, inr}
use Rattle.std.proofs.Common.{Ordering, Less, Equal, Greater, nat_cmp}
use Rattle.std.proofs.lemmas.Int.{ints}
use Rattle.std.specs.Cmp.Lexicographic.{slice_cmp}
use Rattle.std.specs.FinMap.{nat_cmp-IsAntisymmetric, slice_cmp-IsAntisymmetric}
use Rattle.std.specs.Ordering.{ordering_reverse, ordering_then}
use Rattle.plane_core.specs.declared.plane.cell.Cell.{Cell}
use Rattle.plane_core.specs.plane.Bounds.{shifted}
use Rattle.plane_core.specs.plane.Cells.{moved_by}
use Rattle.plane_core.specs.plane.Generations.{after}
use Rattle.plane_core.specs.plane.Rules.{Numbers}
use Rattle.code_core.specs.declared.recurrence.Recurrence.{Recurrence}
use Rattle.code_core.specs.Apgcodes.{HasCodeShape, code_text}
use Rattle.code_core.specs.Names.{CodesAreDetermined, CodesHaveTheirShape, IsImageText, OnlyEqualTextsTie, IsLeastOf, kind_of, number_of, text_cmp}
use Rattle.code_core.specs.Recurrences.{Recurs}
use Rattle.code_core.specs.Texts.{HasTextShape}
use Rattle.code_core.specs.declared.apgcode.Kind.{Kind}
use Rattle.code_core.specs.declared.apgcode.Kind.TheVariants.{Still, Oscillator, Ship}
use Rattle.code_core.proofs.ApgcodeLemmas.{shape_of_name}
use Rattle.code_core.proofs.TextLaw.{texts_have_their_shape}
use Rattle.plane_core.specs.plane.Orientations.{turned}
use Rattle.std.specs.Prelude.{IfSome, ◌^◌}
use Rattle.code_core.proofs.LeastLemmas.{text_cmp_total}
use Rattle.code_core.proofs.RecurrenceLemmas.{le_or_lt}

-- two texts that tie in the order of texts are equal
pub texts_tie : OnlyEqualTextsTie
texts_tie a b e = slice_cmp-IsAntisymmetric nat_cmp-IsAntisymmetric a b (second_ties (nat_cmp (length a) (length b)) (slice_cmp nat_cmp a b) e)
  where
    second_ties : (p q : Ordering) → ordering_then p q ≡ Equal → q ≡ Equal
    second_ties Less q e = cc
    second_ties Equal q e = e
    second_ties Greater q e = cc

-- two texts tie if neither comes after the other
text_cmp-tie : (a b : List ℕ) → text_cmp a b ≢ Greater → text_cmp b a ≢ Greater → text_cmp a b ≡ Equal
text_cmp-tie a b one other = go (text_cmp a b) refl
  where
    go : (o : Ordering) → text_cmp a b ≡ o → text_cmp a b ≡ Equal
    go Less is = absurd (other (text_cmp_total.antisymm b a ∙ ap ordering_reverse is))
    go Equal is = is
    go Greater is = absurd (one is)

-- the least text with a property is unique
least_is_one : (P : List ℕ → Type 0) (a b : Option (List ℕ)) → IsLeastOf P a → IsLeastOf P b → a ≡ b
least_is_one P None None one other = refl
least_is_one P None (Some b) one other = absurd (one b other.0)
least_is_one P (Some a) None one other = absurd (other a one.0)
least_is_one P (Some a) (Some b) one other = ap Some (texts_tie a b (text_cmp-tie a b (one.1 b other.0) (other.1 a one.0)))

same_step : (a v w : ℤ) → a +ℤ v ≡ a +ℤ w → v ≡ w
same_step a v w e = omega (arith, ints)

-- the displacement between two nonempty patterns is unique
one_move : (cells : List Cell) (dx dy ex ey : ℤ) → cells ≢ [] → shifted dx dy cells ≡ shifted ex ey cells → (dx ≡ ex) × (dy ≡ ey)
one_move [] dx dy ex ey some is = absurd (some refl)
one_move (c ∷ cs) dx dy ex ey some is =
    let first : moved_by dx dy c ≡ moved_by ex ey c = cc in
    (same_step c.x dx ex (ap (λ (d : Cell). d.x) first), same_step c.y dy ey (ap (λ (d : Cell). d.y) first))

-- the recurrence of a nonempty pattern is unique
pub recurs_once : (rule : Numbers) (cells : List Cell) (limit : ℕ) (q r : Recurrence) → cells ≢ [] → Recurs rule cells limit q → Recurs rule cells limit r → q ≡ r
recurs_once rule cells limit q r some one other =
    let low : q.period ≤ r.period = not_less r.period q.period (λ less. one.least r.period r.dx r.dy other.some less other.back) in
    let high : r.period ≤ q.period = not_less q.period r.period (λ less. other.least q.period q.dx q.dy one.some less one.back) in
    let same : q.period ≡ r.period = omega arith in
    let move = one_move cells q.dx q.dy r.dx r.dy some (sym one.back ∙ ap (λ (p : ℕ). after rule cells p) same ∙ other.back) in
    λ i. record { period = same i; dx = move.0 i; dy = move.1 i }
  where
    not_less : (a b : ℕ) → (a < b → ⊥) → b ≤ a
    not_less a b never = elim (le_or_lt b a) [ inl low ↦ low | inr less ↦ absurd (never less) ]

-- so the apgcode of a nonempty pattern is unique
pub codes_are_determined : CodesAreDetermined
codes_are_determined rule cells limit one other some h k =
    let recurrence : h.recurrence ≡ k.recurrence = recurs_once rule cells limit h.recurrence k.recurrence some h.recurs k.recurs in
    let is_least : IsLeastOf (IsImageText rule cells h.recurrence.period) k.least =
    subst (λ (r : Recurrence). IsLeastOf (IsImageText rule cells r.period) k.least) (sym recurrence) k.is_least in
    let least : h.least ≡ k.least = least_is_one (IsImageText rule cells h.recurrence.period) h.least k.least h.is_least is_least in
    h.spelled ∙ (λ i. code_text (kind_of (recurrence i)) (number_of (kind_of (recurrence i)) cells (recurrence i)) (least i)) ∙ sym k.spelled

-- ---- the shape of an apgcode

image_shape : (rule : Numbers) (cells : List Cell) (period : ℕ) (least : Option (List ℕ)) → IsLeastOf (IsImageText rule cells period) least
    → IfSome least HasTextShape
image_shape rule cells period None h = tt
image_shape rule cells period (Some t) h = texts_have_their_shape (turned h.0.orientation (after rule cells h.0.phase)) t h.0.is

small_number : (kind : Kind) (cells : List Cell) (r : Recurrence) → length cells < 2 ^ 64 → r.period < 2 ^ 64 → number_of kind cells r < 2 ^ 64
small_number Still cells r few low = few
small_number Oscillator cells r few low = low
small_number Ship cells r few low = low

pub codes_have_their_shape : CodesHaveTheirShape
codes_have_their_shape rule cells limit code few low h =
    let r = h.recurrence in
    let number : number_of (kind_of r) cells r < 2 ^ 64 = small_number (kind_of r) cells r few (omega (arith, h.recurs.within)) in
    let shape = image_shape rule cells r.period h.least h.is_least in
    subst HasCodeShape (sym h.spelled) (shape_of_name (kind_of r) (number_of (kind_of r) cells r) h.least number shape)
