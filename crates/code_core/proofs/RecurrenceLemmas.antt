-- A search that follows a pattern until it recurs: the states of the search, and how it ends.
use Rattle.std.proofs.Common.{◌≡◌, ◌≢◌, ◌∙◌, sym, ap, refl, subst, ℕ, suc, ℤ, ◌+◌, ◌<◌, ◌≤◌, List, [], ◌∷◌, ◌++◌, false, arith, below_more}
use Rattle.std.proofs.Common.{eq-or-lt_of_le, inl, inr, ◌⊎◌, true, Bool, Option, Some, None, Result, Ok, Err, IsErrAnd, is_ok}
use Rattle.std.proofs.lemmas.Bool.{false≢true}
use Rattle.std.proofs.lemmas.Bool.Decides.{leb_tells}
use Rattle.std.proofs.lemmas.List.FromFn.{map-range_with_len_more}
use Rattle.memory.specs.Witness.{out_of_memory}
use Rattle.plane_core.specs.declared.plane.cell.Cell.{Cell}
use Rattle.plane_core.specs.declared.generation.StepError.{StepError}
use Rattle.plane_core.specs.declared.generation.StepError.TheVariants.{Edge, Memory}
use Rattle.plane_core.specs.plane.Bounds.{shifted}
use Rattle.plane_core.specs.plane.Cells.{plane_bound}
use Rattle.plane_core.specs.plane.Generations.{NeverRecurs, after, lies_within, next, touches_edge}
use Rattle.plane_core.specs.plane.Refusals.{RefusesStep}
use Rattle.plane_core.specs.plane.Rules.{Numbers}
use Rattle.plane_core.proofs.lemmas.plane.GenerationLemmas.{after-none, after-more}
use Rattle.plane_core.proofs.lemmas.plane.SpeedLemmas.{run_inside}
use Rattle.code_core.specs.Recurrences.{Follows, MeetsEdge, Recurs, SearchEnds, StaysInside, phases}

-- the first n + 1 phases are the first n phases and generation n
pub phases-more : (rule : Numbers) (cells : List Cell) (n : ℕ) → phases rule cells (n + 1) ≡ phases rule cells n ++ after rule cells n ∷ []
unfolding phases
phases-more rule cells n = map-range_with_len_more (after rule cells) 0 n n (omega arith)

pub le_or_lt : (a b : ℕ) → (a ≤ b) ⊎ (b < a)
le_or_lt a b = elim (leb_tells a b) [ inl h ↦ inl h.1 | inr h ↦ inr h.1 ]

-- the search begins with the pattern itself as generation 0, and without earlier generations
pub follows-none : (rule : Numbers) (cells latest : List Cell) → latest ≡ cells → Follows rule cells 0 [] latest
unfolding phases
follows-none rule cells latest is = record {
  earlier = refl;
  latest = is ∙ sym (after-none rule cells);
  new = λ p dx dy some none. absurd (omega arith);
  inside = λ g low. absurd (omega arith);
}

-- if the latest generation is generation n, the next one is generation n + 1
next_of : (rule : Numbers) (cells latest later : List Cell) (n : ℕ) → latest ≡ after rule cells n → later ≡ next rule latest → later ≡ after rule cells (n + 1)
next_of rule cells latest later n is next_is = next_is ∙ ap (next rule) is ∙ sym (after-more rule cells n)

-- by `Follows`, no generation before the latest touches the edge; so if the latest doesn't, none up to it does
pub inside-more : (rule : Numbers) (cells : List Cell) (n : ℕ) (before : List (List Cell)) (latest : List Cell) → Follows rule cells n before latest
    → touches_edge latest ≡ false
    → (g : ℕ) → g < n + 1 → touches_edge (after rule cells g) ≡ false
inside-more rule cells n before latest h off = below_more _ _ h.inside (ap touches_edge (sym h.latest) ∙ off)

-- the search goes on with the next generation if the latest one doesn't touch the edge and the next one isn't the
-- pattern again
pub follows-more : (rule : Numbers) (cells : List Cell) (n : ℕ) (before : List (List Cell)) (latest later : List Cell) → Follows rule cells n before latest
    → touches_edge latest ≡ false → later ≡ next rule latest → ((dx dy : ℤ) → shifted dx dy cells ≢ later)
    → Follows rule cells (n + 1) (before ++ latest ∷ []) later
follows-more rule cells n before latest later h off next_is other = record {
  earlier = (λ k. h.earlier k ++ h.latest k ∷ []) ∙ sym (phases-more rule cells n);
  latest = is;
  new = λ p dx dy some low back. new p dx dy some low back;
  inside = inside-more rule cells n before latest h off;
}
  where
    is : later ≡ after rule cells (n + 1)
    is = next_of rule cells latest later n h.latest next_is

    new : NeverRecurs rule cells (n + 1)
    new p dx dy some low back = elim (eq-or-lt_of_le low) [
      | inl e ↦ other dx dy (sym (subst (λ (q : ℕ). after rule cells q ≡ shifted dx dy cells) e back) ∙ sym is)
      | inr less ↦ h.new p dx dy some (omega arith) back
    ]

-- if the next generation, n + 1, is the pattern moved by (dx, dy), the pattern recurs with the period n + 1 and the
-- displacement (dx, dy)
pub recurs_then : (rule : Numbers) (cells : List Cell) (n limit : ℕ) (before : List (List Cell)) (latest later : List Cell) (dx dy : ℤ)
    → Follows rule cells n before latest
    → n < limit → later ≡ next rule latest → shifted dx dy cells ≡ later → Recurs rule cells limit (record { period = suc n; dx = dx; dy = dy })
recurs_then rule cells n limit before latest later dx dy h low next_is is = record {
  some = omega arith;
  within = omega arith;
  back = ap (λ (g : ℕ). after rule cells g) (omega arith) ∙ sym (next_of rule cells latest later n h.latest next_is) ∙ sym is;
  least = λ p ex ey some less back. h.new p ex ey some (omega arith) back;
}

-- By `Follows`, no generation before the latest touches the edge. If the latest one doesn't either, and the next one is
-- the pattern again, then no generation touches the edge before the pattern recurs.
pub inside_then : (rule : Numbers) (cells : List Cell) (n : ℕ) (before : List (List Cell)) (latest later : List Cell) (dx dy : ℤ)
    → Follows rule cells n before latest
    → touches_edge latest ≡ false → later ≡ next rule latest → shifted dx dy cells ≡ later → (g : ℕ) → NeverRecurs rule cells g
    → touches_edge (after rule cells g) ≡ false
inside_then rule cells n before latest later dx dy h off next_is is g new =
    elim (le_or_lt (n + 1) g) [
      | inl far ↦ absurd (new (n + 1) dx dy (omega arith) far (sym (next_of rule cells latest later n h.latest next_is) ∙ sym is))
      | inr near ↦ inside-more rule cells n before latest h off g near
    ]

-- the earlier generations, followed by the latest one, are the first n + 1 phases
pub phases_then : (rule : Numbers) (cells : List Cell) (n : ℕ) (before : List (List Cell)) (latest : List Cell) → Follows rule cells n before latest
    → before ++ latest ∷ [] ≡ phases rule cells (suc n)
phases_then rule cells n before latest h =
    (λ k. h.earlier k ++ h.latest k ∷ []) ∙ sym (phases-more rule cells n) ∙ ap (phases rule cells) (omega arith)

-- ---- at the edge

-- if the pattern touches the edge, the search meets the edge at once
pub meets_at_once : (rule : Numbers) (cells : List Cell) (limit : ℕ) → 1 ≤ limit → touches_edge cells ≡ true → MeetsEdge rule cells limit
meets_at_once rule cells limit some on =
    (0, omega arith, λ p dx dy least most back. absurd (omega arith), ap touches_edge (after-none rule cells) ∙ on)

-- if the pattern is far enough from the edge, the search never meets the edge
pub never_meets : (rule : Numbers) (cells : List Cell) (limit reach : ℕ) → lies_within reach cells ≡ true → reach + limit ≤ plane_bound
    → MeetsEdge rule cells limit → ⊥
never_meets rule cells limit reach inside far (g, low, new, on) = false≢true (sym (run_inside rule cells reach g limit inside far low) ∙ on)

-- if a step was refused because of the edge, the pattern touches the edge
pub step_refused : (cells : List Cell) (y : StepError) → RefusesStep cells y → y ≡ Edge → touches_edge cells ≡ true
step_refused cells Edge refused e = refused
step_refused cells (Memory error) refused e = cc

memory_is_no_edge : ◌≡◌ {A = StepError} (Memory out_of_memory) Edge → ⊥
memory_is_no_edge e = cc

-- ---- how a search ends

module _ {X : Type 0} (F : X → Type 0) (rule : Numbers) (cells : List Cell) (limit : ℕ) where
  -- `SearchEnds` holds if the search found an x with the property F
  pub ends_found : (x : X) → F x → StaysInside rule cells limit → touches_edge cells ≡ false → SearchEnds F rule cells limit (Ok (Some x))
  ends_found x is inside off = record {
    found = is;
    never = tt;
    inside = inside;
    edge = λ e. absurd (false≢true (sym (ap is_ok e)));
    edge_first = λ on. absurd (false≢true (sym off ∙ on));
    never_edge = λ reach within far e. false≢true (sym (ap is_ok e));
  }

  -- `SearchEnds` holds if no generation is the pattern again
  pub ends_without : NeverRecurs rule cells limit → StaysInside rule cells limit → touches_edge cells ≡ false → SearchEnds F rule cells limit (Ok None)
  ends_without new inside off = record {
    found = tt;
    never = new;
    inside = inside;
    edge = λ e. absurd (false≢true (sym (ap is_ok e)));
    edge_first = λ on. absurd (false≢true (sym off ∙ on));
    never_edge = λ reach within far e. false≢true (sym (ap is_ok e));
  }

  -- `SearchEnds` holds if the pattern touches the edge from the start
  pub ends_at_once : 1 ≤ limit → touches_edge cells ≡ true → SearchEnds F rule cells limit (Err Edge)
  ends_at_once some on = record {
    found = tt;
    never = tt;
    inside = tt;
    edge = λ e. meets_at_once rule cells limit some on;
    edge_first = λ _. refl;
    never_edge = λ reach within far e. never_meets rule cells limit reach within far (meets_at_once rule cells limit some on);
  }

  -- `SearchEnds` holds if the step to the next generation was refused
  pub ends_refused : (r : Result (Option X) StepError) (y : StepError) → IsErrAnd r (λ e. e ≡ y) → (y ≡ Edge → MeetsEdge rule cells limit)
      → touches_edge cells ≡ false → SearchEnds F rule cells limit r
  ends_refused (Ok x) y told meets off = absurd told
  ends_refused (Err z) y told meets off = record {
    found = tt;
    never = tt;
    inside = tt;
    edge = λ e. meets (is_edge e);
    edge_first = λ on. absurd (false≢true (sym off ∙ on));
    never_edge = λ reach within far e. never_meets rule cells limit reach within far (meets (is_edge e));
  }
    where
      is_edge : ◌≡◌ {A = Result (Option X) StepError} (Err z) (Err Edge) → y ≡ Edge
      is_edge e = cc

  -- `SearchEnds` holds if memory ran out
  pub ends_by_memory : (r : Result (Option X) StepError) → IsErrAnd r (λ e. e ≡ Memory out_of_memory) → touches_edge cells ≡ false
      → SearchEnds F rule cells limit r
  ends_by_memory r told off = ends_refused r (Memory out_of_memory) told (λ e. absurd (memory_is_no_edge e)) off

module _ {X Y : Type 0} (F : X → Type 0) (G : Y → Type 0) (rule : Numbers) (cells : List Cell) (limit : ℕ) where
  -- if a search returned `Ok`, its pattern doesn't touch the edge
  pub off_edge : (o : Option X) → SearchEnds F rule cells limit (Ok o) → touches_edge cells ≡ false
  off_edge o ends = split (touches_edge cells) refl
    where
      split : (b : Bool) → touches_edge cells ≡ b → touches_edge cells ≡ false
      split false e = e
      split true e = absurd (false≢true (sym (ap is_ok (ends.edge_first e))))

  -- if a search ended with x, and y has the property G, a search for something with the property G may end with y
  pub found_as : (x : X) (y : Y) → SearchEnds F rule cells limit (Ok (Some x)) → G y → SearchEnds G rule cells limit (Ok (Some y))
  found_as x y ends is = ends_found G rule cells limit y is ends.inside (off_edge (Some x) ends)
