-- Envelopes: where a pattern that recurs lies in each cycle, and boxes that stay clear of each other.
use Rattle.std.proofs.Common.{◌≡◌, ◌∙◌, ◌+◌, ◌*◌, ◌/◌, ◌%◌, ◌<◌, ◌≤◌, ◌+ℤ◌, ◌-ℤ◌, ◌≤ℤ◌, ◌<ℤ◌, ap, sym, refl, subst, ℕ, ℤ, pos, zero, suc, List, [], ◌∷◌}
use Rattle.std.proofs.Common.{All, Bool, arith, false, get_or, inl, inr, ◌⊎◌, ◌&&◌, ◌||◌, true, zero-add, eq-or-lt_of_le, int_le, int_lt, length, mul_comm, take, unsigned_abs, ◌++◌, FitsSigned, to_z, of_z, w32, w64}
use Rattle.std.proofs.lemmas.Int.{ints, to_z-of_z}
use Rattle.std.proofs.lemmas.List.Elements.{All-map, recursion_from_All}
use Rattle.std.proofs.lemmas.Bool.{and_parts, cases_lt, or_cases, or_left, or_right}
use Rattle.std.proofs.lemmas.List.{append_assoc, get_or_append_left, get_or_default, get_or_push, length-append, length-take-le, take_more}
use Rattle.std.proofs.Math.Nat.{div-add-mod, le-div_iff_mul-le, suc-mul, zero-mul}
use Rattle.plane_core.specs.declared.plane.bounds.Bounds.{Bounds}
use Rattle.plane_core.specs.declared.plane.cell.Cell.{Cell}
use Rattle.plane_core.specs.plane.Bounds.{IsWithin, shifted}
use Rattle.plane_core.specs.plane.Cells.{InOrder, cell_at, distance, king_distance, moved_by}
use Rattle.plane_core.specs.clusters.Clusters.{LieApart}
use Rattle.plane_core.specs.plane.Generations.{after}
use Rattle.plane_core.specs.plane.Rules.{Numbers}
use Rattle.plane_core.proofs.lemmas.plane.SetLemmas.{has-all}
use Rattle.plane_core.proofs.lemmas.plane.CaseLemmas.{same_or_not}
use Rattle.plane_core.proofs.lemmas.plane.GenerationLemmas.{after-none}
use Rattle.code_core.specs.declared.recurrence.Recurrence.{Recurrence}
use Rattle.code_core.specs.Recurrences.{IsCycle, Recurs}
use Rattle.code_core.proofs.LeastLemmas.{phase_at, phase_count}
use Rattle.code_core.proofs.MovedCodes.{after-shifted}
use Rattle.survey_core.specs.declared.shapes.envelope_bounds.EnvelopeBounds.{EnvelopeBounds}
use Rattle.survey_core.specs.shapes.Envelopes.{AreEnvelopes, IsEnvelope, IsStillLife, Serves, SpaceshipsMoveByCycles, StayApart, StayClear, gap_stays, gaps_of, is_clear, is_past, times}
use Rattle.survey_core.proofs.lemmas.FindingLemmas.{after-then}
use Rattle.survey_core.proofs.lemmas.rest.ForGoodLemmas.{after_remainder, shifted-none}

-- ---- cycles

-- the envelope's box in cycle n
abbrev carried : ℕ → EnvelopeBounds → Bounds
carried n envelope = record {
  left = envelope.bounds.left +ℤ times n envelope.recurrence.dx;
  top = envelope.bounds.top +ℤ times n envelope.recurrence.dy;
  right = envelope.bounds.right +ℤ times n envelope.recurrence.dx;
  bottom = envelope.bounds.bottom +ℤ times n envelope.recurrence.dy;
}

one_more : (a s t : ℤ) → (a +ℤ s) +ℤ t ≡ a +ℤ (s +ℤ t)
one_more a s t = omega (arith, ints)

shifted-twice : (sx sy tx ty : ℤ) (cells : List Cell) → shifted tx ty (shifted sx sy cells) ≡ shifted (sx +ℤ tx) (sy +ℤ ty) cells
shifted-twice sx sy tx ty [] = refl
shifted-twice sx sy tx ty (c ∷ cs) = λ i. cell_at (one_more c.x sx tx i) (one_more c.y sy ty i) ∷ shifted-twice sx sy tx ty cs i

-- a pattern that recurs moves by its displacement in each period
pub after_cycles : SpaceshipsMoveByCycles
after_cycles rule cells p dx dy order back zero r =
    ap (after rule cells) (ap (λ (m : ℕ). m + r) (zero-mul p) ∙ zero-add r) ∙ sym (shifted-none (after rule cells r))
after_cycles rule cells p dx dy order back (suc n) r =
    ap (after rule cells) (later (n * p) (suc n * p) (suc-mul n p)) ∙ sym (after-then rule cells p (n * p + r))
    ∙ ap (λ (S : List Cell). after rule S (n * p + r)) back ∙ after-shifted dx dy rule cells (n * p + r) order
    ∙ ap (shifted dx dy) (after_cycles rule cells p dx dy order back n r)
    ∙ shifted-twice (times n dx) (times n dy) dx dy (after rule cells r)
  where
    later : (m k : ℕ) → k ≡ m + p → k + r ≡ p + (m + r)
    later m k e = omega (arith, e)

pub times-none : (n : ℕ) → times n (pos 0) ≡ pos 0
times-none zero = refl
times-none (suc n) = ap (λ (t : ℤ). t +ℤ pos 0) (times-none n)

-- n times the difference e - d, plus n times d, is n times e
pub times-difference : (n : ℕ) (d e : ℤ) → times n (e -ℤ d) +ℤ times n d ≡ times n e
times-difference zero d e = refl
times-difference (suc n) d e = one (times n (e -ℤ d)) (times n d) (times n e) (times-difference n d e)
  where
    one : (a b c : ℤ) → a +ℤ b ≡ c → (a +ℤ (e -ℤ d)) +ℤ (b +ℤ d) ≡ c +ℤ e
    one a b c h = omega (arith, ints, h)

within_shifted : (b : Bounds) (tx ty : ℤ) (cells : List Cell) → All (IsWithin b) cells
    → All (IsWithin (record { left = b.left +ℤ tx; top = b.top +ℤ ty; right = b.right +ℤ tx; bottom = b.bottom +ℤ ty })) (shifted tx ty cells)
within_shifted b tx ty cells all =
    All-map (IsWithin (record { left = b.left +ℤ tx; top = b.top +ℤ ty; right = b.right +ℤ tx; bottom = b.bottom +ℤ ty })) (moved_by tx ty) cells
    (λ k d low. each (get_or cells k d) (all k d low))
  where
    each : (c : Cell) → IsWithin b c
        → IsWithin (record { left = b.left +ℤ tx; top = b.top +ℤ ty; right = b.right +ℤ tx; bottom = b.bottom +ℤ ty }) (moved_by tx ty c)
    each c w = record {
      left = low b.left c.x tx w.left;
      top = low b.top c.y ty w.top;
      right = low c.x b.right tx w.right;
      bottom = low c.y b.bottom ty w.bottom;
    }
      where
        low : (a e t : ℤ) → a ≤ℤ e → (a +ℤ t) ≤ℤ (e +ℤ t)
        low a e t h = omega (arith, ints, h)

-- in each generation of cycle n the pattern lies in its box of that cycle
pub in_cycle : (rule : Numbers) (limit : ℕ) (cells : List Cell) (s : EnvelopeBounds) (p n r : ℕ) → IsEnvelope rule limit cells s → Serves p s → r < p
    → All (IsWithin (carried n s)) (after rule cells (n * p + r))
in_cycle rule limit cells s p n r is (inl same) low =
    let part : r < s.recurrence.period = subst (λ (m : ℕ). r < m) same low in
    subst (λ (m : ℕ). All (IsWithin (carried n s)) (after rule cells (n * m + r))) (sym same)
    (subst (All (IsWithin (carried n s)))
    (sym (after_cycles rule cells s.recurrence.period s.recurrence.dx s.recurrence.dy is.in_order is.recurs.back n r))
    (within_shifted s.bounds (times n s.recurrence.dx) (times n s.recurrence.dy) (after rule cells r) (is.within r part)))
in_cycle rule limit cells s p n r is (inr still) low =
    let q : ℕ = s.recurrence.period in
    let some : 1 ≤ s.recurrence.period = is.recurs.some in
    let back : after rule cells s.recurrence.period ≡ cells =
    is.recurs.back ∙ (λ i. shifted (still.0 i) (still.1 i) cells) ∙ shifted-none cells in
    let within : (n * p + r) % s.recurrence.period < s.recurrence.period = omega arith in
    subst (λ (b : Bounds). All (IsWithin b) (after rule cells (n * p + r))) (sym (stays still))
    (subst (All (IsWithin s.bounds)) (sym (after_remainder rule cells s.recurrence.period (n * p + r) back))
    (is.within ((n * p + r) % s.recurrence.period) within))
  where
    zero_more : (a t : ℤ) → t ≡ pos 0 → a +ℤ t ≡ a
    zero_more a t e = omega (arith, ints, e)

    stays : (s.recurrence.dx ≡ pos 0) × (s.recurrence.dy ≡ pos 0) → carried n s ≡ s.bounds
    stays (x, y) =
        let tx : times n s.recurrence.dx ≡ pos 0 = ap (times n) x ∙ times-none n in
        let ty : times n s.recurrence.dy ≡ pos 0 = ap (times n) y ∙ times-none n in
        λ i. record {
          left = zero_more s.bounds.left (times n s.recurrence.dx) tx i;
          top = zero_more s.bounds.top (times n s.recurrence.dy) ty i;
          right = zero_more s.bounds.right (times n s.recurrence.dx) tx i;
          bottom = zero_more s.bounds.bottom (times n s.recurrence.dy) ty i;
        }

-- ---- clear boxes

-- if a box begins more than two past the end of another, coordinates in the two boxes differ by 3 or more
far_past : (end begin x t u a b : ℤ) → is_past end (pos 0) begin x ≡ true → x +ℤ t ≡ u → a ≤ℤ (end +ℤ t) → (begin +ℤ u) ≤ℤ b → 3 ≤ distance a b
far_past end begin x t u a b h e low high =
    let less : ((end +ℤ pos 0) +ℤ pos 2) <ℤ (begin +ℤ x) = strict _ _ h in
    omega (arith, ints, less, e, low, high)
  where
    strict : (m n : ℤ) → int_lt m n ≡ true → m <ℤ n
    strict m n k = grind (arith, ints)

far_ahead : (end begin x t u a b : ℤ) → is_past end x begin (pos 0) ≡ true → x +ℤ t ≡ u → (begin +ℤ t) ≤ℤ a → b ≤ℤ (end +ℤ u) → 3 ≤ distance a b
far_ahead end begin x t u a b h e low high =
    let less : ((end +ℤ x) +ℤ pos 2) <ℤ (begin +ℤ pos 0) = strict _ _ h in
    omega (arith, ints, less, e, low, high)
  where
    strict : (m n : ℤ) → int_lt m n ≡ true → m <ℤ n
    strict m n k = grind (arith, ints)

-- cells of boxes that are clear of each other in cycle n are at king distance 3 or more
clear_apart : (one other : EnvelopeBounds) (n : ℕ) (c d : Cell)
    → is_clear one.bounds other.bounds (times n (other.recurrence.dx -ℤ one.recurrence.dx)) (times n (other.recurrence.dy -ℤ one.recurrence.dy)) ≡ true
    → IsWithin (carried n one) c → IsWithin (carried n other) d → 3 ≤ king_distance c d
clear_apart one other n c d clear v w = elim (or_cases _ _ clear) [
  | inl others ↦ elim (or_cases _ _ others) [
    | inl more ↦ elim (or_cases _ _ more) [
      | inl right ↦ across (far_past one.bounds.right other.bounds.left (times n (other.recurrence.dx -ℤ one.recurrence.dx)) (times n one.recurrence.dx)
          (times n other.recurrence.dx) c.x d.x right ex v.right w.left)
      | inr left ↦ across (far_ahead other.bounds.right one.bounds.left (times n (other.recurrence.dx -ℤ one.recurrence.dx)) (times n one.recurrence.dx)
          (times n other.recurrence.dx) c.x d.x left ex v.left w.right)
    ]
    | inr below ↦ down (far_past one.bounds.bottom other.bounds.top (times n (other.recurrence.dy -ℤ one.recurrence.dy)) (times n one.recurrence.dy)
        (times n other.recurrence.dy) c.y d.y below ey v.bottom w.top)
  ]
  | inr above ↦ down (far_ahead other.bounds.bottom one.bounds.top (times n (other.recurrence.dy -ℤ one.recurrence.dy)) (times n one.recurrence.dy)
      (times n other.recurrence.dy) c.y d.y above ey v.top w.bottom)
]
  where
    ex : times n (other.recurrence.dx -ℤ one.recurrence.dx) +ℤ times n one.recurrence.dx ≡ times n other.recurrence.dx
    ex = times-difference n one.recurrence.dx other.recurrence.dx

    ey : times n (other.recurrence.dy -ℤ one.recurrence.dy) +ℤ times n one.recurrence.dy ≡ times n other.recurrence.dy
    ey = times-difference n one.recurrence.dy other.recurrence.dy

    across : 3 ≤ distance c.x d.x → 3 ≤ king_distance c d
    across h = omega arith

    down : 3 ≤ distance c.y d.y → 3 ≤ king_distance c d
    down h = omega arith

-- the envelope of a pattern that doesn't move, with this box
abbrev resting : Bounds → EnvelopeBounds
resting b = record { recurrence = record { period = 1; dx = pos 0; dy = pos 0 }; bounds = b }

-- cells of boxes that are clear of each other are at king distance 3 or more
pub clear_is_far : (one other : Bounds) (c d : Cell) → is_clear one other (pos 0) (pos 0) ≡ true → IsWithin one c → IsWithin other d → 3 ≤ king_distance c d
clear_is_far one other c d clear v w = clear_apart (resting one) (resting other) 0 c d clear (same one c v) (same other d w)
  where
    same : (b : Bounds) (e : Cell) → IsWithin b e → IsWithin (carried 0 (resting b)) e
    same b e h = record {
      left = omega (arith, ints, h.left);
      top = omega (arith, ints, h.top);
      right = omega (arith, ints, h.right);
      bottom = omega (arith, ints, h.bottom);
    }

-- patterns stay apart if their boxes are clear of each other in all cycles up to the horizon
pub apart_by_cycles : (horizon p : ℕ) (one other : EnvelopeBounds) → 1 ≤ p → Serves p one → Serves p other → StayClear (horizon / p + 1) one other
    → StayApart horizon one other
apart_by_cycles horizon p one other some s t clear rule limit cells others is that apart g low c d in_one in_other =
    let whole : g ≡ g / p * p + g % p = sym (div-add-mod g p) ∙ ap (λ (m : ℕ). m + g % p) (mul_comm p (g / p)) in
    let inside : g % p < p = omega arith in
    let below : g / p * p ≤ horizon = omega (arith, whole) in
    let cycle : g / p ≤ horizon / p = (le-div_iff_mul-le some).1 below in
    clear_apart one other (g / p) c d (clear (g / p) (omega (arith, cycle)))
    (has-all (IsWithin (carried (g / p) one)) (after rule cells g) c
    (recursion_from_All (IsWithin (carried (g / p) one)) (after rule cells g)
    (subst (λ (m : ℕ). All (IsWithin (carried (g / p) one)) (after rule cells m)) (sym whole) (in_cycle rule limit cells one p (g / p) (g % p) is s inside))) in_one)
    (has-all (IsWithin (carried (g / p) other)) (after rule others g) d
    (recursion_from_All (IsWithin (carried (g / p) other)) (after rule others g)
    (subst (λ (m : ℕ). All (IsWithin (carried (g / p) other)) (after rule others m)) (sym whole) (in_cycle rule limit others other p (g / p) (g % p) that t inside))) in_other)

-- patterns that don't move stay apart if their boxes are clear of each other
pub still_apart : (horizon : ℕ) (one other : EnvelopeBounds) → (one.recurrence.dx ≡ pos 0) × (one.recurrence.dy ≡ pos 0)
    → (other.recurrence.dx ≡ pos 0) × (other.recurrence.dy ≡ pos 0) → is_clear one.bounds other.bounds (pos 0) (pos 0) ≡ true → StayApart horizon one other
still_apart horizon one other s t clear =
    apart_by_cycles horizon 1 one other (omega arith) (inr s) (inr t)
    (λ n low. (λ i. is_clear one.bounds other.bounds (across n i) (down n i)) ∙ clear)
  where
    across : (n : ℕ) → times n (other.recurrence.dx -ℤ one.recurrence.dx) ≡ pos 0
    across n = (λ i. times n (t.0 i -ℤ s.0 i)) ∙ times-none n

    down : (n : ℕ) → times n (other.recurrence.dy -ℤ one.recurrence.dy) ≡ pos 0
    down n = (λ i. times n (t.1 i -ℤ s.1 i)) ∙ times-none n

-- a still life stays as it is
still_life_stays : (rule : Numbers) (limit : ℕ) (cells : List Cell) (envelope : EnvelopeBounds) → IsEnvelope rule limit cells envelope
    → IsStillLife envelope → (g : ℕ) → after rule cells g ≡ cells
still_life_stays rule limit cells envelope is still g =
    let back : after rule cells 1 ≡ cells = subst (λ (p : ℕ). after rule cells p ≡ cells) still.0
    (is.recurs.back ∙ (λ i. shifted (still.1 i) (still.2 i) cells) ∙ shifted-none cells) in
    let none : g % 1 ≡ 0 = omega arith in
    after_remainder rule cells 1 g back ∙ ap (after rule cells) none ∙ after-none rule cells

-- two still lifes that are apart stay apart
pub still_lives_stay_apart : (horizon : ℕ) (one other : EnvelopeBounds) → IsStillLife one → IsStillLife other → StayApart horizon one other
still_lives_stay_apart horizon one other s t rule limit cells others is that apart g low =
    subst (λ (S : List Cell). LieApart S (after rule others g)) (sym (still_life_stays rule limit cells one is s g))
    (subst (LieApart cells) (sym (still_life_stays rule limit others other that t g)) apart)

-- ---- the loop over cycles

times_small : (n : ℕ) (d : ℤ) → unsigned_abs d ≤ 8589934592 → unsigned_abs (times n d) ≤ n * 8589934592
times_small zero d small = omega (arith, ints)
times_small (suc n) d small =
    let more : unsigned_abs (times n d) ≤ n * 8589934592 = times_small n d small in
    let sum : unsigned_abs (times n d +ℤ d) ≤ unsigned_abs (times n d) + unsigned_abs d = both (times n d) d in
    omega (arith, more, sum, small)
  where
    both : (a b : ℤ) → unsigned_abs (a +ℤ b) ≤ unsigned_abs a + unsigned_abs b
    both a b = omega (arith, ints)

pub offset_small : (n cycles : ℕ) (d o : ℤ) → n < cycles → cycles ≤ 4097 → unsigned_abs d ≤ 8589934592 → o ≡ times n d
    → unsigned_abs o + unsigned_abs d ≤ 70368744177664
offset_small n cycles d o low few small is =
    let whole : unsigned_abs (times n d) ≤ n * 8589934592 = times_small n d small in
    let same : unsigned_abs o ≡ unsigned_abs (times n d) = ap unsigned_abs is in
    omega (arith, whole, same, small, low, few)

pub clear_more : (one other : EnvelopeBounds) (n : ℕ) (x y : ℤ) → x ≡ times n (other.recurrence.dx -ℤ one.recurrence.dx)
    → y ≡ times n (other.recurrence.dy -ℤ one.recurrence.dy) → StayClear n one other → is_clear one.bounds other.bounds x y ≡ true
    → StayClear (n + 1) one other
clear_more one other n x y is_x is_y before now m low = elim (eq-or-lt_of_le (m_low m low)) [
  | inl same ↦
      subst (λ (k : ℕ). is_clear one.bounds other.bounds (times k (other.recurrence.dx -ℤ one.recurrence.dx)) (times k (other.recurrence.dy -ℤ one.recurrence.dy)) ≡ true)
      (sym same) ((λ i. is_clear one.bounds other.bounds (sym is_x i) (sym is_y i)) ∙ now)
  | inr less ↦ before m less
]
  where
    m_low : (m : ℕ) → m < n + 1 → m ≤ n
    m_low m h = omega arith

-- induction: a property that holds in cycle n, and carries over from each cycle to the next, holds in all later cycles
in_later_cycles : (P : ℕ → Type 0) (n : ℕ) → ((m : ℕ) → P m → P (suc m)) → P n → (m : ℕ) → n ≤ m → P m
in_later_cycles P n more now zero low = subst P (omega (arith, low)) now
in_later_cycles P n more now (suc m) low = elim (eq-or-lt_of_le low) [
  | inl same ↦ subst P same now
  | inr less ↦ more m (in_later_cycles P n more now m (omega (arith, less)))
]

-- a box that begins past the end of another box, and doesn't move back, stays past it
past_later : (end begin d : ℤ) (n m : ℕ) → n ≤ m → (is_past end (pos 0) begin (times n d) && int_le (pos 0) d) ≡ true
    → is_past end (pos 0) begin (times m d) ≡ true
past_later end begin d n m low h =
    let parts = and_parts (is_past end (pos 0) begin (times n d)) (int_le (pos 0) d) h in
    in_later_cycles (λ (k : ℕ). is_past end (pos 0) begin (times k d) ≡ true) n (λ k there. one (times k d) there parts.1) parts.0 m low
  where
    one : (t : ℤ) → is_past end (pos 0) begin t ≡ true → int_le (pos 0) d ≡ true → is_past end (pos 0) begin (t +ℤ d) ≡ true
    one t there on = grind (arith, ints)

-- a box that ends before the beginning of another box, and doesn't move forward, stays before it
ahead_later : (end begin d : ℤ) (n m : ℕ) → n ≤ m → (is_past end (times n d) begin (pos 0) && int_le d (pos 0)) ≡ true
    → is_past end (times m d) begin (pos 0) ≡ true
ahead_later end begin d n m low h =
    let parts = and_parts (is_past end (times n d) begin (pos 0)) (int_le d (pos 0)) h in
    in_later_cycles (λ (k : ℕ). is_past end (times k d) begin (pos 0) ≡ true) n (λ k there. one (times k d) there parts.1) parts.0 m low
  where
    one : (t : ℤ) → is_past end t begin (pos 0) ≡ true → int_le d (pos 0) ≡ true → is_past end (t +ℤ d) begin (pos 0) ≡ true
    one t there on = grind (arith, ints)

either : {a b c d : Bool} → (a ≡ true → c ≡ true) → (b ≡ true → d ≡ true) → (a || b) ≡ true → (c || d) ≡ true
either {a} {b} {c} {d} one other some = elim (or_cases a b some) [ inl e ↦ or_left c d (one e) | inr e ↦ or_right c d (other e) ]

-- box `other`, moved by (x, y), is clear of box `one`, and stays clear if it moves by (dx, dy) in each cycle
abbrev is_parting : Bounds → Bounds → ℤ → ℤ → ℤ → ℤ → Bool
is_parting one other x y dx dy = gap_stays (gaps_of one other x y) dx dy

-- if `is_parting` is true in cycle n, the boxes are clear of each other in all later cycles
parting_clear : (one other : Bounds) (dx dy : ℤ) (n m : ℕ) → n ≤ m → is_parting one other (times n dx) (times n dy) dx dy ≡ true
    → is_clear one other (times m dx) (times m dy) ≡ true
parting_clear one other dx dy n m low =
    either (either (either (past_later one.right other.left dx n m low) (ahead_later other.right one.left dx n m low))
    (past_later one.bottom other.top dy n m low)) (ahead_later other.bottom one.top dy n m low)

-- if the boxes are clear of each other in the first n cycles, and `is_parting` is true in cycle n, they are clear of
-- each other in all cycles
pub clear_from_here : (one other : EnvelopeBounds) (n cycles : ℕ) (x y s t : ℤ) → s ≡ other.recurrence.dx -ℤ one.recurrence.dx
    → t ≡ other.recurrence.dy -ℤ one.recurrence.dy → x ≡ times n s → y ≡ times n t → StayClear n one other
    → is_parting one.bounds other.bounds x y s t ≡ true → StayClear cycles one other
clear_from_here one other n cycles x y s t is_s is_t is_x is_y before part m low = elim (cases_lt m n) [
  | inl early ↦ before m early
  | inr late ↦ parting_clear one.bounds other.bounds (other.recurrence.dx -ℤ one.recurrence.dx) (other.recurrence.dy -ℤ one.recurrence.dy) n m late
      ((λ i. is_parting one.bounds other.bounds (sym (is_x ∙ ap (times n) is_s) i) (sym (is_y ∙ ap (times n) is_t) i) (sym is_s i) (sym is_t i)) ∙ part)
]

-- ---- the box of all phases

-- if box `bounds` contains the first n phases, and box `box` contains phase n, a box that contains both boxes contains
-- the first n + 1 phases
pub phases_more : (phases : List (List Cell)) (n : ℕ) (bounds both box : Bounds) (phase : List Cell) → n < length phases → phase ≡ get_or phases n phase
    → ((c : Cell) → IsWithin bounds c → IsWithin both c) → ((c : Cell) → IsWithin box c → IsWithin both c) → All (IsWithin box) phase
    → ((g : ℕ) (none : List Cell) → g < n → All (IsWithin bounds) (get_or phases g none))
    → (g : ℕ) (none : List Cell) → g < n + 1 → All (IsWithin both) (get_or phases g none)
phases_more phases n bounds both box phase there is first second now before g none low = elim (same_or_not g n) [
  | inl same ↦
      let at : phase ≡ get_or phases g none =
      is ∙ get_or_default phases n phase none there ∙ ap (λ (m : ℕ). get_or phases m none) (sym same) in
      subst (All (IsWithin both)) at (λ k d here. second (get_or phase k d) (now k d here))
  | inr apart ↦ λ k d here. first (get_or (get_or phases g none) k d) (before g none (omega arith) k d here)
]

-- a pattern's recurrence, with a box that contains all phases, is an envelope of the pattern
pub envelope_of : (rule : Numbers) (limit : ℕ) (cells : List Cell) (phases : List (List Cell)) (r : Recurrence) (envelope : EnvelopeBounds) → InOrder cells
    → IsCycle rule cells limit phases r → envelope.recurrence ≡ r
    → ((g : ℕ) (none : List Cell) → g < length phases → All (IsWithin envelope.bounds) (get_or phases g none)) → IsEnvelope rule limit cells envelope
envelope_of rule limit cells found r envelope order cycle back within = record {
  in_order = order;
  recurs = subst (Recurs rule cells limit) (sym back) cycle.recurs;
  within = λ g low.
      let early : g < r.period = subst (λ (q : Recurrence). g < q.period) back low in
      let count : length found ≡ r.period = ap length cycle.phases ∙ phase_count rule cells r.period in
      let at : get_or found g [] ≡ after rule cells g =
      ap (λ (each : List (List Cell)). get_or each g []) cycle.phases ∙ phase_at rule cells r.period g [] early in
      subst (All (IsWithin envelope.bounds)) at (within g [] (omega (arith, early, count)));
}

-- ---- the envelopes of some patterns, one after another

envelopes_push : (rule : Numbers) (limit : ℕ) (parts : List (List Cell)) (envelopes : List EnvelopeBounds) (part : List Cell) (envelope : EnvelopeBounds)
    → AreEnvelopes rule limit parts envelopes → IsEnvelope rule limit part envelope → AreEnvelopes rule limit (parts ++ part ∷ []) (envelopes ++ envelope ∷ [])
envelopes_push rule limit parts envelopes part envelope are is = record {
  count = length-append envelopes (envelope ∷ []) ∙ ap (λ (n : ℕ). n + 1) are.count ∙ sym (length-append parts (part ∷ []));
  each = λ i d e low. go i d e (eq-or-lt_of_le (below i low));
}
  where
    below : (i : ℕ) → i < length (parts ++ part ∷ []) → i ≤ length parts
    below i low = omega (arith, low, length-append parts (part ∷ []))

    go : (i : ℕ) (d : List Cell) (e : EnvelopeBounds) → (i ≡ length parts) ⊎ (i < length parts)
        → IsEnvelope rule limit (get_or (parts ++ part ∷ []) i d) (get_or (envelopes ++ envelope ∷ []) i e)
    go i d e (inl last) =
        let at : length envelopes ≡ i = are.count ∙ sym last in
        subst (λ (s : EnvelopeBounds). IsEnvelope rule limit (get_or (parts ++ part ∷ []) i d) s) (sym (get_or_push envelopes envelope e i at))
        (subst (λ (p : List Cell). IsEnvelope rule limit p envelope) (sym (get_or_push parts part d i (sym last))) is)
    go i d e (inr low) =
        let there : i < length envelopes = subst (λ (n : ℕ). i < n) (sym are.count) low in
        subst (λ (s : EnvelopeBounds). IsEnvelope rule limit (get_or (parts ++ part ∷ []) i d) s) (sym (get_or_append_left envelopes (envelope ∷ []) e i there))
        (subst (λ (p : List Cell). IsEnvelope rule limit p (get_or envelopes i e)) (sym (get_or_append_left parts (part ∷ []) d i low)) (are.each i d e low))

pub envelopes_more : (rule : Numbers) (limit : ℕ) (parts : List (List Cell)) (i : ℕ) (part : List Cell) (envelopes : List EnvelopeBounds) (envelope : EnvelopeBounds) (items : List EnvelopeBounds)
    → i < length parts → part ≡ get_or parts i part → AreEnvelopes rule limit (take i parts) envelopes → IsEnvelope rule limit part envelope
    → items ≡ envelopes ++ envelope ∷ [] → AreEnvelopes rule limit (take (i + 1) parts) items
envelopes_more rule limit parts i part envelopes envelope items low at are is made =
    subst (AreEnvelopes rule limit (take (i + 1) parts)) (sym made)
    (subst (λ (prefix : List (List Cell)). AreEnvelopes rule limit prefix (envelopes ++ envelope ∷ [])) (sym (take_more parts i part low))
    (envelopes_push rule limit (take i parts) envelopes (get_or parts i part) envelope are (subst (λ (p : List Cell). IsEnvelope rule limit p envelope) at is)))

-- if the envelopes are those of the first i patterns, they are those of the first `length envelopes` patterns
pub first_envelopes : (rule : Numbers) (limit : ℕ) (parts : List (List Cell)) (i : ℕ) (envelopes : List EnvelopeBounds) → i ≤ length parts
    → AreEnvelopes rule limit (take i parts) envelopes → AreEnvelopes rule limit (take (length envelopes) parts) envelopes
first_envelopes rule limit parts i envelopes low are =
    subst (λ (n : ℕ). AreEnvelopes rule limit (take n parts) envelopes) (sym (are.count ∙ length-take-le i parts low)) are

pub few_envelopes : (rule : Numbers) (limit : ℕ) (parts : List (List Cell)) (i : ℕ) (envelopes : List EnvelopeBounds) → i ≤ length parts
    → AreEnvelopes rule limit (take i parts) envelopes → length envelopes ≤ length parts
few_envelopes rule limit parts i envelopes low are = subst (λ (n : ℕ). n ≤ length parts) (sym (are.count ∙ length-take-le i parts low)) low

-- adding the envelope of pattern i to the envelopes of `before` and the first i patterns gives the envelopes of
-- `before` and the first i + 1 patterns
pub envelopes_after : (rule : Numbers) (limit : ℕ) (before parts : List (List Cell)) (i : ℕ) (part : List Cell) (envelopes : List EnvelopeBounds)
    (envelope : EnvelopeBounds) (items : List EnvelopeBounds) → i < length parts → part ≡ get_or parts i part
    → AreEnvelopes rule limit (before ++ take i parts) envelopes → IsEnvelope rule limit part envelope
    → items ≡ envelopes ++ envelope ∷ [] → AreEnvelopes rule limit (before ++ take (i + 1) parts) items
envelopes_after rule limit before parts i part envelopes envelope items low at are is made =
    subst (AreEnvelopes rule limit (before ++ take (i + 1) parts)) (sym made)
    (subst (λ (prefix : List (List Cell)). AreEnvelopes rule limit prefix (envelopes ++ envelope ∷ []))
    (append_assoc before (take i parts) (get_or parts i part ∷ []) ∙ ap (λ (more : List (List Cell)). before ++ more) (sym (take_more parts i part low)))
    (envelopes_push rule limit (before ++ take i parts) envelopes (get_or parts i part) envelope are (subst (λ (p : List Cell). IsEnvelope rule limit p envelope) at is)))

-- if `one` begins more than two rows past the bottom of `other`, the two boxes are clear of each other
pub above_is_clear : (one other : Bounds) → is_past other.bottom (pos 0) one.top (pos 0) ≡ true → true ≡ is_clear one other (pos 0) (pos 0)
above_is_clear one other is =
    last_of_four (is_past one.right (pos 0) other.left (pos 0)) (is_past other.right (pos 0) one.left (pos 0))
    (is_past one.bottom (pos 0) other.top (pos 0)) (is_past other.bottom (pos 0) one.top (pos 0)) is
  where
    last_of_four : (a b c d : Bool) → d ≡ true → true ≡ (a || b || c || d)
    last_of_four true b c d is = refl
    last_of_four false true c d is = refl
    last_of_four false false true d is = refl
    last_of_four false false false d is = sym is

-- ---- numbers that are converted to words and back

pub past_at : (result : Bool) (end begin : ℤ) → FitsSigned w32 end → FitsSigned w32 begin
    → result ≡ is_past (to_z w32 (of_z w32 end)) (pos 0) (to_z w32 (of_z w32 begin)) (pos 0) → result ≡ is_past end (pos 0) begin (pos 0)
past_at result end begin end_fits begin_fits is =
    is ∙ (λ i. is_past (to_z-of_z w32 end end_fits i) (pos 0) (to_z-of_z w32 begin begin_fits i) (pos 0))

pub past_by : (result : Bool) (end begin s : ℤ) → FitsSigned w32 end → FitsSigned w32 begin → FitsSigned w64 s
    → result ≡ is_past (to_z w32 (of_z w32 end)) (pos 0) (to_z w32 (of_z w32 begin)) (to_z w64 (of_z w64 s))
    → result ≡ is_past end (pos 0) begin s
past_by result end begin s end_fits begin_fits fits is =
    is ∙ (λ i. is_past (to_z-of_z w32 end end_fits i) (pos 0) (to_z-of_z w32 begin begin_fits i)
    (to_z-of_z w64 s fits i))

pub past_from : (result : Bool) (end t begin : ℤ) → FitsSigned w32 end → FitsSigned w64 t → FitsSigned w32 begin
    → result ≡ is_past (to_z w32 (of_z w32 end)) (to_z w64 (of_z w64 t)) (to_z w32 (of_z w32 begin)) (pos 0)
    → result ≡ is_past end t begin (pos 0)
past_from result end t begin end_fits fits begin_fits is =
    is ∙ (λ i. is_past (to_z-of_z w32 end end_fits i) (to_z-of_z w64 t fits i) (to_z-of_z w32 begin begin_fits i)
    (pos 0))
