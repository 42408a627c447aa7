use Rattle.std.proofs.Common.{◌≡◌, ◌+◌, ◌/◌, ◌^◌, ◌+ℤ◌, ◌∙◌, ◌∷◌, ◌++◌, [], ℕ, pos, arith, sym, ap, subst, List, w64}
use Rattle.std.specs.Int.{trailing_zeros}
use Rattle.plane_core.specs.declared.plane.cell.Cell.{Cell}
use Rattle.plane_core.specs.plane.Cells.{cell_at}
use Rattle.plane_core.specs.engine.Listing.{HasRead}
use Rattle.plane_core.proofs.lemmas.engine.ListingLemmas.{next_alive_is, no_more_alive, read_on, read_one}
use Rattle.plane_core.proofs.engine.listing.read_word.Goals as goal
use Rattle.plane_core.proofs.engine.listing.read_word.Goals.{Else-remainder-eq0}
use Rattle.plane_core.proofs.lemmas.Between.{IsNextAlive}

-- the column of the first live cell from column `done` on
next : ℕ → ℕ → ℕ
next word done = done + trailing_zeros w64 (word / 2 ^ done)

mark : (c : Else-remainder-eq0) → IsNextAlive c.args.word c.loop-done.done (next c.args.word c.loop-done.done)
unfolding next
mark c = next_alive_is c.args.word c.loop-done.done (omega arith) (omega (arith, c.if-remainder-eq0.false))

pub along-requires-clause-columns : goal.along-requires-clause-columns
unfolding next
along-requires-clause-columns c = (mark (goal.at.along-requires-clause-columns c).Else-remainder-eq0).high

-- an iteration reads one more live cell
pub loop-done-preserved : goal.loop-done-preserved
unfolding next
loop-done-preserved c =
    let word = c.args.word in
    let first = c.args.first in
    let old = c.args.cells.now.items in
    let before = c.loop-done.cells.items in
    let done = c.loop-done.done in
    let i = next word done in
    let found = mark (goal.at.loop-done-preserved c).Else-remainder-eq0 in
    let items : c.push.new.self.items ≡ before ++ cell_at (first.x +ℤ pos i) first.y ∷ [] =
    c.in_ok-push.ensures.items ∙ ap (λ (d : Cell). before ++ d ∷ []) c.along.ensures in
    record {
      within = omega (arith, found.high);
      read = subst (λ (cs : List Cell). HasRead word first old (i + 1) cs) (sym items)
          (read_one word first old before i found.high found.one (read_on word first old before done i found.none c.loop-done.invariant.read));
    }

pub returns-then-remainder-eq0 : goal.returns-then-remainder-eq0
returns-then-remainder-eq0 c =
    read_on c.args.word c.args.first c.args.cells.now.items c.loop-done.cells.items c.loop-done.done 64
    (no_more_alive c.args.word c.loop-done.done (omega (arith, c.if-remainder-eq0.true))) c.loop-done.invariant.read

pub returns : goal.returns
returns c =
    read_on c.args.word c.args.first c.args.cells.now.items c.loop-done.cells.items c.loop-done.done 64
    (λ b low high. absurd (omega (arith, low, high, c.loop-done-test.false))) c.loop-done.invariant.read
