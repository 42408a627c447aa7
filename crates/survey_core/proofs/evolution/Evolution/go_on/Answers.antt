use Rattle.std.proofs.Common.{◌≡◌, ◌∙◌, ◌+◌, ◌≤◌, ap, List, ℕ, refl, sym, subst, IfOk}
use Rattle.plane_core.specs.declared.plane.cell.Cell.{Cell}
use Rattle.plane_core.specs.plane.Generations.{after, lies_within}
use Rattle.plane_core.specs.plane.Rules.{Numbers}
use Rattle.survey_core.specs.evolution.Evolutions.{kept}
use Rattle.survey_core.specs.evolution.SplitPatterns.{whole_of}
use Rattle.survey_core.specs.UnderWay.{StaysNear, survey_reach}
use Rattle.survey_core.proofs.lemmas.evolution.EvolutionLemmas.{in_parts, near_ahead}
use Rattle.survey_core.proofs.evolution.Evolution.go_on.Goals as goal

-- `StaysNear` carries over to an equal pattern and an equal number of generations
near_here : (rule : Numbers) (cells latest : List Cell) (m n : ℕ) → cells ≡ latest → m ≡ n → StaysNear rule latest n → StaysNear rule cells m
near_here rule cells latest m n is same near g low =
    (λ i. lies_within survey_reach (after rule (is i) g)) ∙ near g (subst (λ (k : ℕ). g ≤ k) same low)

-- the case of a pattern that is kept as a list
pub from_list-requires-clause-near : goal.from_list-requires-clause-near
from_list-requires-clause-near c =
    near_here c.args.rule.now c.in-Listed.pattern (kept c.args.rule.now c.args.self) c.stride-generations.result c.args.profile.now.stride
    (sym (ap (kept c.args.rule.now) c.in-Listed.is)) c.stride-generations.ensures.stride c.requires.near

pub returns-in-Listed-clause-kept : goal.returns-in-Listed-clause-kept
returns-in-Listed-clause-kept c = c.from_list.ensures.kept

pub returns-in-Listed-clause-cells : goal.returns-in-Listed-clause-cells
returns-in-Listed-clause-cells c =
    let cells = sym (ap (kept c.args.rule.now) c.in-Listed.is) in
    subst (λ (T : List Cell). IfOk c.from_list.result (λ evolution. kept c.args.rule.now evolution ≡ T))
    (λ i. after c.args.rule.now (cells i) (c.stride-generations.ensures.stride i)) c.from_list.ensures.cells

-- the case of a pattern that is kept on a board
pub remove_escaped-requires-clause-is_split : goal.remove_escaped-requires-clause-is_split
remove_escaped-requires-clause-is_split c = (rw c.in-Shown.is at c.requires.kept).0

pub remove_escaped-requires-clause-near : goal.remove_escaped-requires-clause-near
remove_escaped-requires-clause-near c = (rw c.in-Shown.is at c.requires.kept).2

pub remove_escaped-requires-clause-least : goal.remove_escaped-requires-clause-least
remove_escaped-requires-clause-least c = subst (λ (n : ℕ). 1 ≤ n) (sym c.period.ensures.period) c.period.ensures.profile.some

pub remove_escaped-requires-clause-most : goal.remove_escaped-requires-clause-most
remove_escaped-requires-clause-most c = subst (λ (n : ℕ). n ≤ 64) (sym c.period.ensures.period) c.period.ensures.profile.period

pub on_board-requires-clause-is_split : goal.on_board-requires-clause-is_split
on_board-requires-clause-is_split c = c.in_ok-remove_escaped-in-Shown.ensures.is_split

pub on_board-requires-clause-near : goal.on_board-requires-clause-near
on_board-requires-clause-near c g low =
    let is = rw c.in-Shown.is at c.requires.kept in
    let own = c.args.rule.now in
    let split = c.in-Shown.split in
    let ahead = c.in-Shown.ahead in
    let cells = sym (ap (kept own) c.in-Shown.is) in
    let early : g ≤ ahead + c.args.profile.now.stride = subst (λ (n : ℕ). g ≤ ahead + n) c.stride-generations.ensures.stride low in
    ap (λ (S : List Cell). lies_within survey_reach (after own S g)) c.in_ok-remove_escaped-in-Shown.ensures.cells
    ∙ near_ahead own (whole_of own split) ahead c.args.profile.now.stride is.1 is.2
    (near_here own (after own (whole_of own split) ahead) (kept c.args.rule.now c.args.self) _ _ cells refl c.requires.near)
    g early

pub returns-in_ok-remove_escaped-in-Shown-clause-kept : goal.returns-in_ok-remove_escaped-in-Shown-clause-kept
returns-in_ok-remove_escaped-in-Shown-clause-kept c = c.on_board.ensures.kept

pub returns-in_ok-remove_escaped-in-Shown-clause-cells : goal.returns-in_ok-remove_escaped-in-Shown-clause-cells
returns-in_ok-remove_escaped-in-Shown-clause-cells c =
    let is = rw c.in-Shown.is at c.requires.kept in
    let own = c.args.rule.now in
    let split = c.in-Shown.split in
    let ahead = c.in-Shown.ahead in
    let stride = c.args.profile.now.stride in
    let cells = sym (ap (kept own) c.in-Shown.is) in
    let same : after own (whole_of own c.remove_escaped.new.self) (ahead + c.stride-generations.result) ≡ after own (kept c.args.rule.now c.args.self) stride =
    (λ i. after own (c.in_ok-remove_escaped-in-Shown.ensures.cells i) (ahead + c.stride-generations.ensures.stride i))
    ∙ sym (in_parts own (whole_of own split) ahead stride (ahead + stride) refl) ∙ (λ i. after own (cells i) stride) in
    subst (λ (T : List Cell). IfOk c.on_board.result (λ evolution. kept c.args.rule.now evolution ≡ T)) same c.on_board.ensures.cells
