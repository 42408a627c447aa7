-- The loop of `run --sizes`, which goes from one stretch of generations to the next.
use Rattle.std.proofs.Common.{◌≡◌, ◌∙◌, ◌+◌, ◌-◌, ◌≤◌, ℕ, List, Option, ap, arith, subst, sym, true}
use Rattle.plane_core.specs.Outputs.{Output}
use Rattle.plane_core.specs.declared.plane.cell.Cell.{Cell}
use Rattle.plane_core.specs.plane.Generations.{after, lies_within}
use Rattle.plane_core.specs.plane.Rules.{Numbers}
use Rattle.plane_core.proofs.lemmas.plane.GenerationLemmas.{after-none}
use Rattle.plane_core.proofs.lemmas.plane.RunLemmas.{after-plus}
use Rattle.plane_core.proofs.lemmas.plane.SpeedLemmas.{within-after}
use Rattle.pattern_commands.specs.SizeSteps.{later_sizes}
use Rattle.pattern_commands.specs.Streams.{Has, stream}
use Rattle.pattern_commands.proofs.SizeStepLemmas.{has_after, has_first}

module _ (rule : Numbers) (cells : List Cell) (from : ℕ) where
  none_yet : from - from ≡ 0
  none_yet = omega arith

  -- at generation `from`, the pattern is still `cells`
  pub now_first : cells ≡ after rule cells (from - from)
  now_first = sym (ap (after rule cells) none_yet ∙ after-none rule cells)

  pub lines_first : {V : Type 0} (contents : V → Option (List ℕ)) (x : Output V) → Has (stream contents x x) (later_sizes rule cells from (from - from))
  lines_first contents x = subst (λ (n : ℕ). Has (stream contents x x) (later_sizes rule cells from n)) (sym none_yet) (has_first rule cells from contents x)

  -- if generation `from` is within `reach + from` columns and rows of the origin, generation `g` is within `reach + g`
  pub near_now : (reach g : ℕ) (now : List Cell) → from ≤ g → lies_within (reach + from) cells ≡ true → now ≡ after rule cells (g - from)
      → lies_within (reach + g) now ≡ true
  near_now reach g now low near is =
      let far : reach + from + (g - from) ≡ reach + g = omega arith in
      subst (λ (n : ℕ). lies_within n now ≡ true) far
      (subst (λ (S : List Cell). lies_within (reach + from + (g - from)) S ≡ true) (sym is) (within-after rule cells (reach + from) (g - from) near))

  module _ (g made : ℕ) (now : List Cell) (low : from ≤ g) (is : now ≡ after rule cells (g - from)) where
    here : from + (g - from) ≡ g
    here = omega arith

    later : g - from + made ≡ g + made - from
    later = omega arith

    -- a property that holds for `now` and `g` also holds for `after rule cells (g - from)` and `from + (g - from)`,
    -- which equal `now` and `g`
    pub moved : (P : List Cell → ℕ → Type 0) → P now g → P (after rule cells (g - from)) (from + (g - from))
    moved P h = subst (P (after rule cells (g - from))) (sym here) (subst (λ (S : List Cell). P S g) is h)

    -- running the pattern of generation `g` for `made` generations gives the pattern of generation `g + made`
    pub now_later : (next : List Cell) → next ≡ after rule now made → next ≡ after rule cells (g + made - from)
    now_later next so = so ∙ ap (λ (S : List Cell). after rule S made) is ∙ after-plus rule cells (g - from) made ∙ ap (after rule cells) later

    -- if the lines up to generation `g` were written, and then `made` more, the lines up to `g + made` were written
    pub lines_later : {V : Type 0} (contents : V → Option (List ℕ)) (x y z : Output V) → Has (stream contents x y) (later_sizes rule cells from (g - from))
        → Has (stream contents y z) (later_sizes rule now g made) → Has (stream contents x z) (later_sizes rule cells from (g + made - from))
    lines_later contents x y z one two =
        subst (λ (n : ℕ). Has (stream contents x z) (later_sizes rule cells from n)) later
        (has_after rule cells from contents (g - from) made x y z one (moved (λ (S : List Cell) (n : ℕ). Has (stream contents y z) (later_sizes rule S n made)) two))
