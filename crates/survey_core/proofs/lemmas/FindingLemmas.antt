-- Which generations are checkpoints, and how the checkpoints at which a pattern is at rest determine its finding.
use Rattle.std.proofs.Common.{◌≡◌, ◌∙◌, ap, sym, subst, subst₂, inl, inr, ◌⊎◌, ℕ, zero, suc, ◌+◌, ◌-◌, ◌*◌, ◌<◌, ◌≤◌, add-zero, add-one, eq-or-lt_of_le}
use Rattle.std.proofs.Common.{List, arith}
use Rattle.std.proofs.Math.Nat.{lt_of_mul-lt-mul_right, mul-lt-mul_of_pos_right, suc-mul, zero-mul}
use Rattle.plane_core.specs.declared.plane.cell.Cell.{Cell}
use Rattle.plane_core.specs.plane.Generations.{after, next}
use Rattle.plane_core.specs.plane.Rules.{Numbers}
use Rattle.plane_core.proofs.lemmas.plane.GenerationLemmas.{after-none, after-more}
use Rattle.survey_core.specs.declared.finding.Finding.{Finding}
use Rattle.survey_core.specs.declared.finding.Finding.TheVariants.{Settled, Unsettled}
use Rattle.survey_core.specs.Findings.{IsFinding, IsSettled, NoRestBefore, SettlesAt}
use Rattle.survey_core.specs.Profiles.{IsCheckpoint, Settling}
use Rattle.survey_core.specs.rest.Rest.{IsAtRest}

-- n generations after generation g is generation g + n
pub after-then : (rule : Numbers) (cells : List Cell) (g n : ℕ) → after rule (after rule cells g) n ≡ after rule cells (g + n)
after-then rule cells g zero = after-none rule (after rule cells g) ∙ ap (after rule cells) (sym (add-zero g))
after-then rule cells g (suc n) =
    ap (after rule (after rule cells g)) (sym (add-one n)) ∙ after-more rule (after rule cells g) n ∙ ap (next rule) (after-then rule cells g n)
    ∙ sym (after-more rule cells (g + n)) ∙ ap (after rule cells) (omega arith)

one_more : (place stride : ℕ) → (place + 1) * stride ≡ place * stride + stride
one_more place stride = ap (λ (p : ℕ). p * stride) (add-one place) ∙ suc-mul place stride

-- generation 0 is a checkpoint, and so is the generation one stride after a checkpoint, if it isn't past the limit
pub first_checkpoint : (profile : Settling) → IsCheckpoint profile 0
first_checkpoint profile = record {
  place = 0;
  is = sym (zero-mul profile.stride);
  within = omega arith;
}

pub next_checkpoint : (profile : Settling) (t : ℕ) → IsCheckpoint profile t → t + profile.stride ≤ profile.limit
    → IsCheckpoint profile (t + profile.stride)
next_checkpoint profile t here within = record {
  place = here.place + 1;
  is = ap (λ (u : ℕ). u + profile.stride) here.is ∙ sym (one_more here.place profile.stride);
  within = within;
}

-- `survey_pattern` tests whether the stride is at most `limit` - t: if so, generation t + `stride` is within the limit,
-- and otherwise (`no_room`) it is past the limit
pub room_for_more : (limit stride l s t : ℕ) → l ≡ limit → s ≡ stride → t ≤ limit → s ≤ l - t → t + stride ≤ limit
room_for_more limit stride l s t l_is s_is here room = omega arith

pub no_room : (limit stride l s t : ℕ) → l ≡ limit → s ≡ stride → l - t < s → limit < t + stride
no_room limit stride l s t l_is s_is room = omega arith

-- if a multiple of the stride comes before (`place` + 1) * `stride`, it is at most `place` * `stride`
by_place : (stride place other : ℕ) → 1 ≤ stride → other * stride < place * stride + stride
    → (other * stride ≡ place * stride) ⊎ (other * stride < place * stride)
by_place stride place other some low = elim (eq-or-lt_of_le below) [
  | inl same ↦ inl (ap (λ (p : ℕ). p * stride) same)
  | inr before ↦ inr (mul-lt-mul_of_pos_right before some)
]
  where
    earlier : other < place + 1
    earlier = lt_of_mul-lt-mul_right stride (subst (λ (v : ℕ). other * stride < v) (sym (one_more place stride)) low)

    below : other ≤ place
    below = omega (arith, earlier)

-- a checkpoint that comes before t + stride is the checkpoint t or an earlier one
this_or_before : (profile : Settling) (t u : ℕ) → 1 ≤ profile.stride → IsCheckpoint profile t → IsCheckpoint profile u
    → u < t + profile.stride → (u ≡ t) ⊎ (u < t)
this_or_before profile t u some here is low =
    subst₂ (λ (v w : ℕ). (v ≡ w) ⊎ (v < w)) (sym is.is) (sym here.is)
    (by_place profile.stride here.place is.place some (subst₂ (λ (v w : ℕ). v < w + profile.stride) is.is here.is low))

-- if there is no rest at this checkpoint or before it, there is none before the next checkpoint
pub no_rest_more : (rule : Numbers) (profile : Settling) (cells latest : List Cell) (t : ℕ) → 1 ≤ profile.stride → IsCheckpoint profile t
    → latest ≡ after rule cells t → NoRestBefore rule profile cells t → ¬ IsAtRest rule profile latest
    → NoRestBefore rule profile cells (t + profile.stride)
no_rest_more rule profile cells latest t some here is before moves u check low rest = elim (this_or_before profile t u some here check low) [
  | inl same ↦ moves (subst (λ (state : List Cell). IsAtRest rule profile state) (ap (after rule cells) same ∙ sym is) rest)
  | inr earlier ↦ before u check earlier rest
]

-- if a pattern is at rest at a checkpoint, and at no earlier one, the finding there is the finding of the pattern
pub finding_from : (rule : Numbers) (profile : Settling) (cells latest : List Cell) (t : ℕ) (finding : Finding) → SettlesAt rule profile latest t finding
    → latest ≡ after rule cells t → IsCheckpoint profile t → NoRestBefore rule profile cells t → IsFinding rule profile cells finding
finding_from rule profile cells latest t (Settled u objects good) (same, settled) is check before = (
  subst (IsCheckpoint profile) (sym same) check,
  subst (NoRestBefore rule profile cells) (sym same) before,
  subst (λ (state : List Cell). IsSettled rule profile state objects good) (is ∙ ap (after rule cells) (sym same)) settled,
)
finding_from rule profile cells latest t Unsettled settled is check before = absurd settled

-- if there is no rest up to the last checkpoint, the pattern is unsettled
pub none_at_last : (rule : Numbers) (profile : Settling) (cells latest : List Cell) (t : ℕ) → ¬ IsAtRest rule profile latest
    → latest ≡ after rule cells t → 1 ≤ profile.stride → IsCheckpoint profile t → profile.limit < t + profile.stride
    → NoRestBefore rule profile cells t → IsFinding rule profile cells Unsettled
none_at_last rule profile cells latest t moves is some here last before u check rest =
    let within : u ≤ profile.limit = check.within in
    no_rest_more rule profile cells latest t some here is before moves u check (omega arith) rest
