use Rattle.std.proofs.Common.{◌≡◌, ◌++◌, ◌∙◌, ap, length, rules, subst, sym}
use Rattle.std.proofs.lemmas.List.{with_items_is}
use Rattle.plane_core.specs.plane.Cells.{IsPattern, set_of}
use Rattle.plane_core.proofs.lemmas.plane.MergeLemmas.{merged_all}
use Rattle.plane_core.proofs.lemmas.plane.PartLemmas.{is_pattern-union}
use Rattle.plane_core.proofs.plane.pattern.Pattern.united.Goals.{After-in_order}
use Rattle.plane_core.proofs.plane.pattern.Pattern.united.Goals as goal

united : (c : After-in_order) → c.in_order.result.items ≡ set_of (c.args.self ++ c.args.other.now)
united c =
    let one = c.args.self in
    let other = c.args.other.now in
    let new = c.merge.new.cells in
    let old : c.as_mut_slice.result.now ≡ one ++ other = c.as_mut_slice.ensures.value
    ∙ c.in_ok-extend_from_slice.ensures.items ∙ (λ i. c.self.view_is i ++ c.cells.ensures.cells i) in
    let here : c.len-count.result ≡ length c.self.inside.cells.items = search rules in
    let count : c.len-count.result ≡ length one = here ∙ ap length c.self.view_is in
    c.in_order.ensures ∙ ap set_of (with_items_is c.extend_from_slice.new.self new (c.merge.auto.cells ∙ c.as_mut_slice.ensures.len))
    ∙ merged_all one other c.cells-2.result.now c.as_mut_slice.result.now new c.len-count.result count old c.cells-2.ensures.cells c.merge.ensures

pub invariant_of-result : goal.invariant_of-result
invariant_of-result c =
    subst IsPattern (sym (united (goal.at.invariant_of-result c).After-in_order))
    (is_pattern-union c.args.self c.args.other.now (subst IsPattern c.self.view_is c.self.invariant) c.cells.ensures.pattern)

pub returns : goal.returns
returns c = united (goal.at.returns c).After-in_order
