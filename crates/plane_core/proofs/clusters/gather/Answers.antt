use Rattle.std.proofs.Common.{Ok, ℕ, ◌≡◌, ◌∙◌, ◌+◌, ◌*◌, ◌<◌, Fits, ap, arith, rules, length, set, subst, sym, w64, List, ◌++◌, ◌∷◌, []}
use Rattle.std.specs.Vec.{vec_len}
use Rattle.std.proofs.lemmas.List.{get_or_default}
use Rattle.std.proofs.lemmas.Result.{on_ok_weaker}
use Rattle.plane_core.specs.declared.plane.cell.Cell.{Cell}
use Rattle.plane_core.specs.plane.Cells.{IsPattern}
use Rattle.plane_core.specs.clusters.UnionFind.{IsGatheringCells, cell_of, parent_of}
use Rattle.plane_core.proofs.lemmas.clusters.GatherLemmas.{gathering-begun, gathering-grown, number_is_inside, parent_inside, pattern_grown, pattern-root}
use Rattle.plane_core.proofs.clusters.gather.Goals as goal

-- appending a cell to an empty list gives the list with only this cell
one_cell : (first new : List Cell) (cell : Cell) → first ≡ [] → new ≡ first ++ cell ∷ [] → new ≡ cell ∷ []
one_cell first new cell none is = is ∙ ap (λ (cs : List Cell). cs ++ cell ∷ []) none

pub from_ordered-requires : goal.from_ordered-requires
from_ordered-requires c =
    subst IsPattern (sym (one_cell _ _ _ c.in_ok-first.ensures.items c.in_ok-push.ensures.items))
    (pattern-root c.args.cells.now c.args.place c.requires.pattern c.requires.place)

pub returns-then-parent-place : goal.returns-then-parent-place
returns-then-parent-place c =
    let number : c.len.result ≡ length c.args.clusters.now.items = search rules in
    let old = c.args.clusters.now.items in
    let new = c.push-then-parent-place.new.self.items in
    subst (λ n. IsGatheringCells c.args.cells.now (set c.args.parents.now c.args.place n) new (c.args.place + 1))
    (sym number)
    (gathering-begun c.args.cells.now c.args.parents.now old c.args.place c.requires.place c.requires.gathering {E = ℕ} (Ok tt) new
    c.requires.pattern c.if-parent-place.true
    (c.in_ok-push-2.ensures.items ∙ ap (λ (cluster : List Cell). old ++ cluster ∷ [])
    (c.from_ordered.ensures ∙ one_cell _ _ _ c.in_ok-first.ensures.items c.in_ok-push.ensures.items)))

pub bounds-parents-parent : goal.bounds-parents-parent
bounds-parents-parent c =
    let most = parent_inside c.args.cells.now c.args.parents.now c.args.clusters.now.items c.args.place c.requires.place c.requires.gathering in
    omega (arith, most, c.requires.place, c.requires.gathering.size)

pub offset_bounds-parents-parent : goal.offset_bounds-parents-parent
offset_bounds-parents-parent c =
    let most = parent_inside c.args.cells.now c.args.parents.now c.args.clusters.now.items c.args.place c.requires.place c.requires.gathering in
    let long : Fits w64 (length c.args.parents.now * 8) = search rules in
    omega (arith, most, c.requires.place, c.requires.gathering.size, long)

-- the number of the parent's cluster is a valid index into the list of clusters
pub index_mut-requires : goal.index_mut-requires
index_mut-requires c =
    let number = number_is_inside c.args.cells.now c.args.parents.now c.args.clusters.now.items c.args.place c.requires.place c.requires.gathering
    c.if-parent-place.false in
    let long : length c.args.clusters.now.items ≡ vec_len c.args.clusters.now = search rules in
    subst (λ n. parent_of c.args.parents.now (parent_of c.args.parents.now c.args.place) < n) long number

pub push-requires-2 : goal.push-requires-2
push-requires-2 c =
    subst (λ cluster. IsPattern (cluster ++ cell_of c.args.cells.now c.args.place ∷ []))
    (sym (c.index_mut.ensures.value ∙ get_or_default c.args.clusters.now.items _ _ [] (number_is_inside c.args.cells.now c.args.parents.now
    c.args.clusters.now.items c.args.place c.requires.place c.requires.gathering c.if-parent-place.false)))
    (pattern_grown c.args.cells.now c.args.parents.now c.args.clusters.now.items c.args.place c.requires.place c.requires.gathering
    c.requires.pattern c.if-parent-place.false)

pub returns : goal.returns
returns c =
    let n = parent_of c.args.parents.now (parent_of c.args.parents.now c.args.place) in
    let is = c.index_mut.ensures.value ∙ get_or_default c.args.clusters.now.items n _ [] (number_is_inside c.args.cells.now c.args.parents.now
    c.args.clusters.now.items c.args.place c.requires.place c.requires.gathering c.if-parent-place.false) in
    gathering-grown c.args.cells.now c.args.parents.now c.args.clusters.now.items c.args.place c.requires.place c.requires.gathering
    c.push-2.result _ c.requires.pattern c.if-parent-place.false
    (on_ok_weaker c.push-2.result (λ pushed. ap (set c.args.clusters.now.items n)
    (pushed ∙ ap (λ (cluster : List Cell). cluster ++ cell_of c.args.cells.now c.args.place ∷ []) is)) c.push-2.ensures)
