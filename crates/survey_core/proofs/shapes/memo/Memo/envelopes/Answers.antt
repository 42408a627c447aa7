use Rattle.std.proofs.Common.{◌≡◌, ◌≢◌, ◌++◌, ◌∙◌, ap, drop, length, refl, rules, sym, subst, true, take, List, []}
use Rattle.std.proofs.lemmas.List.{take-append-drop}
use Rattle.std.proofs.lemmas.List.Elements.{All-drop}
use Rattle.std.specs.Prelude.{All, IfOk, IfSome}
use Rattle.plane_core.specs.declared.plane.cell.Cell.{Cell}
use Rattle.plane_core.specs.plane.Cells.{InOrder}
use Rattle.plane_core.specs.plane.Generations.{lies_within}
use Rattle.survey_core.specs.shapes.RecurringShapes.{RecursWithin}
use Rattle.survey_core.specs.shapes.Envelopes.{AreEnvelopes}
use Rattle.survey_core.specs.UnderWay.{survey_reach}
use Rattle.survey_core.proofs.lemmas.shapes.MemoLemmas.{none_of_part}
use Rattle.survey_core.proofs.shapes.memo.Memo.envelopes.Goals.{After-split_at}
use Rattle.survey_core.proofs.shapes.memo.Memo.envelopes.Goals as goal

-- a property of all patterns is a property of the others: the first pattern that isn't remembered, and all after it
of_others : (c : After-split_at) (P : List Cell → Type 0) → All P c.args.patterns.now → All P c.split_at.result.1.now
of_others c P all = subst (All P) (sym c.split_at.ensures.back) (All-drop P _ c.args.patterns.now all)

pub other_envelopes-requires-clause-order : goal.other_envelopes-requires-clause-order
other_envelopes-requires-clause-order c = of_others (goal.at.other_envelopes-requires-clause-order c).After-split_at InOrder c.requires.order

pub other_envelopes-requires-clause-some : goal.other_envelopes-requires-clause-some
other_envelopes-requires-clause-some c =
    of_others (goal.at.other_envelopes-requires-clause-some c).After-split_at (λ (pattern : List Cell). pattern ≢ []) c.requires.some

pub other_envelopes-requires-clause-near : goal.other_envelopes-requires-clause-near
other_envelopes-requires-clause-near c =
    of_others (goal.at.other_envelopes-requires-clause-near c).After-split_at
    (λ (pattern : List Cell). lies_within survey_reach pattern ≡ true) c.requires.near

pub returns-then-any_surely_changes-clause-never : goal.returns-then-any_surely_changes-clause-never
returns-then-any_surely_changes-clause-never c = λ all.
    c.if-any_surely_changes.ensures refl
    (of_others (goal.at.returns-then-any_surely_changes-clause-never c).After-split_at (RecursWithin c.args.rule.now c.args.limit) all)

-- the known envelopes, followed by the envelopes of the other patterns, are the envelopes of all patterns
pub returns-clause-envelopes : goal.returns-clause-envelopes
returns-clause-envelopes c =
    let count : c.len.result ≡ length c.in_ok-known.known.items = search rules in
    let patterns : take (length c.in_ok-known.known.items) c.args.patterns.now ++ c.split_at.result.1.now ≡ c.args.patterns.now =
    ap (λ (more : List (List Cell)). take (length c.in_ok-known.known.items) c.args.patterns.now ++ more)
    (c.split_at.ensures.back ∙ ap (λ n. drop n c.args.patterns.now) count) ∙ take-append-drop (length c.in_ok-known.known.items) c.args.patterns.now in
    subst (λ (parts : List (List Cell)). IfOk c.other_envelopes.result
    (λ found. IfSome found (λ envelopes. AreEnvelopes c.args.rule.now c.args.limit parts envelopes.items))) patterns
    (c.other_envelopes.ensures.envelopes (take (length c.in_ok-known.known.items) c.args.patterns.now) c.in_ok-known.ensures.envelopes)

pub returns-clause-never : goal.returns-clause-never
returns-clause-never c =
    none_of_part c.other_envelopes.result _ _
    (of_others (goal.at.returns-clause-never c).After-split_at (RecursWithin c.args.rule.now c.args.limit)) c.other_envelopes.ensures.never
