use Rattle.std.proofs.Common.{◌≡◌, ◌∙◌, ◌+◌, Bool, FitsSigned, ap, cond, drop, false, of_z, rules, subst, sym, to_z, true, w32, List}
use mathlib.Core.Bool.{beq}
use Rattle.std.proofs.lemmas.Int.{to_z-of_z}
use Rattle.std.specs.List.{flat_map}
use Rattle.std.specs.List.Sorted.{IsPermutation}
use Rattle.plane_core.specs.declared.plane.cell.Cell.{Cell}
use Rattle.plane_core.specs.plane.Cells.{cell_at, has}
use Rattle.plane_core.specs.plane.Generations.{neighbourhood}
use Rattle.plane_core.proofs.lemmas.plane.CellLemmas.{same_cell-eq}
use Rattle.plane_core.proofs.lemmas.plane.GenerationLemmas.{is_pattern-next}
use Rattle.plane_core.proofs.lemmas.plane.ListGenerationLemmas.{all_one, count_low, fits_one_more, goes_on, inside, just_one, kept_all, kept_further, kept_more, kept_same, list_ends, lives_in, next_tells, none_kept, past}
use Rattle.plane_core.proofs.plane.pattern.Pattern.counted.Goals.{else-lives, else-place-end-via-else-place-end, else-place-end-via-then-place-end+else-eq}
use Rattle.plane_core.proofs.plane.pattern.Pattern.counted.Goals.{else-stays-born, then-lives, then-stays-born}
use Rattle.plane_core.proofs.plane.pattern.Pattern.counted.Goals as goal

pub loop-place-init : goal.loop-place-init
loop-place-init c =
    let near = c.sort_unstable.new.self in
    let listed = c.in_ok-near.ensures ∙ ap (flat_map neighbourhood) c.cells.ensures.cells in
    none_kept c.args.rule.now c.args.self.now near.items c.len-end.result c.cells.ensures.pattern.in_order
    (subst (λ (cells : List Cell). IsPermutation cells near.items) listed c.sort_unstable.ensures.permutation)
    c.sort_unstable.ensures.sorted (sym near.ok.0 ∙ sym c.len-end.ensures)

pub overflow_add-count : goal.overflow_add-count
overflow_add-count c = fits_one_more _ (count_low _ _ _ _ _ _ _ c.loop-place-test.true c.loop-place.invariant)

-- if the next cell in `near` equals this cell, the run of equal cells continues, and its count grows by one
pub loop-place-preserved-then-eq : goal.loop-place-preserved-then-eq
loop-place-preserved-then-eq c =
    let near = c.loop-place.near.items in
    let cell = c.index.result.now in
    let next = c.index-then-place-end.result.now in
    kept_further _ _ _ _ _ near _ cell _ c.loop-place-test.true c.loop-place.invariant c.index.ensures
    (next_tells near c.loop-place.place cell next _ true (inside _ _ _ c.if-place-end.true c.loop-place.invariant.whole) c.index-then-place-end.ensures
    (sym (same_cell-eq next cell) ∙ sym c.eq.ensures ∙ c.if-eq.true))

-- at the end of a run of equal cells, the rule decides whether the cell is kept, by the length of the run and by
-- whether the cell is alive
pub loop-place-preserved : goal.loop-place-preserved
loop-place-preserved c =
    let near = c.loop-place.near.items in
    let before = c.loop-place.invariant in
    let place = c.loop-place.place in
    let n = c.loop-place.count in
    let cell = c.index.result.now in
    let rule = c.args.rule.now in
    let start = c.args.self.now in
    let ended : goes_on cell (drop (place + 1) near) ≡ false = elim c.else-place-end.branch [
      | else-place-end-via-then-place-end+else-eq w ↦
          let next = w.index-then-place-end.result.now in
          next_tells near place cell next _ false (inside _ _ _ w.if-place-end.true before.whole) w.index-then-place-end.ensures
          (sym (same_cell-eq next cell) ∙ sym w.eq.ensures ∙ w.if-eq.false)
      | else-place-end-via-else-place-end w ↦ list_ends near place cell (past _ _ _ w.if-place-end.false before.whole)
    ] in
    let stays = c.survives-stays.result in
    let born = c.births-born.result in
    let now : lives_in rule start cell (n + 1) ≡ cond (has start cell) stays born =
    λ i. cond (has start cell) (sym c.survives-stays.ensures.survival i) (sym c.births-born.ensures.birth i) in
    let lives : lives_in rule start cell (n + 1) ≡ c.if-stays-born.lives = now ∙ elim c.if-stays-born.branch [
      | then-stays-born w ↦ all_one (has start cell) stays born w.if-stays-born.true ∙ sym w.lives-is
      | else-stays-born w ↦
          let x : FitsSigned w32 cell.x = search rules in
          let y : FitsSigned w32 cell.y = search rules in
          let here : cell ≡ cell_at (to_z w32 (of_z w32 cell.x)) (to_z w32 (of_z w32 cell.y)) =
          λ i. cell_at (sym (to_z-of_z w32 cell.x x) i) (sym (to_z-of_z w32 cell.y y) i) in
          just_one (has start cell) stays born w.if-stays-born.false
          ∙ ap (λ (alive : Bool). beq alive stays) (ap (has start) here ∙ sym w.has.ensures) ∙ sym w.lives-is
    ] in
    elim c.if-lives.branch [
      | then-lives w ↦ rw (ap (λ v. v.items) w.near-is, w.kept-is)
          (kept_more (lives_in rule start) n c.loop-place.kept place _ near _ cell _ c.loop-place-test.true before c.index.ensures ended (lives ∙ w.if-lives.true))
      | else-lives w ↦ rw (ap (λ v. v.items) w.near-is, w.kept-is)
          (kept_same (lives_in rule start) n c.loop-place.kept place _ near _ cell _ c.loop-place-test.true before c.index.ensures ended (lives ∙ w.if-lives.false))
    ]

pub from_ordered-requires : goal.from_ordered-requires
from_ordered-requires c =
    rw (c.truncate.ensures.items ∙ kept_all (lives_in c.args.rule.now c.args.self.now) _ _ _ _ _ _ c.loop-place-test.false c.loop-place.invariant)
    (is_pattern-next c.args.rule.now c.args.self.now c.cells.ensures.pattern c.requires)

pub returns : goal.returns
returns c =
    c.from_ordered.ensures ∙ c.truncate.ensures.items
    ∙ kept_all (lives_in c.args.rule.now c.args.self.now) _ _ _ _ _ _ c.loop-place-test.false c.loop-place.invariant
