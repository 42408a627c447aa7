use Rattle.std.proofs.Common.{◌≡◌, ◌∙◌, ℕ, [], IfOk, ap, refl, subst, sym, List, arith}
use Rattle.plane_core.specs.declared.plane.cell.Cell.{Cell}
use Rattle.plane_core.specs.plane.Cells.{InOrder}
use Rattle.plane_core.specs.plane.Generations.{after, lies_within}
use Rattle.survey_core.specs.evolution.Evolutions.{kept}
use Rattle.plane_core.specs.plane.Rules.{Numbers}
use Rattle.survey_core.specs.declared.evolution.split_pattern.SplitPattern.{SplitPattern}
use Rattle.survey_core.specs.evolution.SplitPatterns.{IsSplitAt, IsSplit, whole_at, whole_of}
use Rattle.survey_core.proofs.lemmas.evolution.SplitPatternLemmas.{new_split}
use Rattle.survey_core.proofs.lemmas.evolution.RemovedLemmas.{whole-none}
use Rattle.survey_core.specs.UnderWay.{StaysNear, survey_reach}
use Rattle.survey_core.proofs.lemmas.evolution.EvolutionLemmas.{near_now}
use Rattle.survey_core.proofs.evolution.from_list.Goals as goal

pub run_on-requires-clause-near : goal.run_on-requires-clause-near
run_on-requires-clause-near c = near_now c.args.rule.now c.args.pattern.now c.args.generations c.requires.near

pub run_on-requires-clause-few : goal.run_on-requires-clause-few
run_on-requires-clause-few c = c.requires.few

pub returns-in_default-clause-kept : goal.returns-in_default-clause-kept
returns-in_default-clause-kept c = ap (lies_within survey_reach) c.in_ok-later.ensures ∙ c.requires.near c.args.generations (omega arith)

-- a board from which no spaceship was removed is a split pattern
is_split : (rule : Numbers) (split : SplitPattern) (pattern : List Cell) → split.board.rule ≡ rule → split.board.cells ≡ pattern
    → split.spaceships.items ≡ [] → split.time ≡ 0 → InOrder pattern → IsSplit rule split
is_split rule split pattern goes shows none early order = (
  goes,
  subst (λ (t : ℕ). IsSplitAt rule t split.board.cells split.spaceships.items) (sym early)
      (new_split rule split.board.cells split.spaceships.items (subst InOrder (sym shows) order) none),
)

whole_is : (rule : Numbers) (split : SplitPattern) (pattern : List Cell) → split.board.cells ≡ pattern → split.spaceships.items ≡ [] → InOrder pattern
    → whole_of rule split ≡ pattern
whole_is rule split pattern shows none order =
    (λ i. whole_at rule split.time (shows i) (none i)) ∙ whole-none rule split.time pattern order

pub on_board-requires-clause-is_split : goal.on_board-requires-clause-is_split
on_board-requires-clause-is_split c =
    is_split c.args.rule.now (record { board = c.in-Some.board; spaceships = c.new.result; time = 0 }) c.args.pattern.now (rw c.in-Some.is at c.in_ok-board.ensures.rule) (rw c.in-Some.is at c.in_ok-board.ensures.cells)
    c.new.ensures.items refl c.recall_order.ensures.in_order

pub on_board-requires-clause-few : goal.on_board-requires-clause-few
on_board-requires-clause-few c = c.requires.few

pub on_board-requires-clause-near : goal.on_board-requires-clause-near
on_board-requires-clause-near c =
    subst (λ (S : List Cell). StaysNear c.args.rule.now S c.args.generations)
    (sym (whole_is c.args.rule.now (record { board = c.in-Some.board; spaceships = c.new.result; time = 0 }) c.args.pattern.now
    (rw c.in-Some.is at c.in_ok-board.ensures.cells) c.new.ensures.items c.recall_order.ensures.in_order)) c.requires.near

pub returns-clause-cells : goal.returns-clause-cells
returns-clause-cells c =
    subst (λ (S : List Cell). IfOk c.on_board.result (λ evolution. kept c.args.rule.now evolution ≡ after c.args.rule.now S c.args.generations))
    (whole_is c.args.rule.now (record { board = c.in-Some.board; spaceships = c.new.result; time = 0 }) c.args.pattern.now
    (rw c.in-Some.is at c.in_ok-board.ensures.cells) c.new.ensures.items c.recall_order.ensures.in_order) c.on_board.ensures.cells

pub returns-clause-kept : goal.returns-clause-kept
returns-clause-kept c = c.on_board.ensures.kept
