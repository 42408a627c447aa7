use borrow.Author.Count.{below_more}
use Rattle.std.proofs.Common.{◌∙◌, ◌≡◌, ◌<ℤ◌, ◌≤◌, FitsSigned, arith, of_z, subst, to_z, true, w32, ℕ, ℤ}
use Rattle.std.proofs.lemmas.Int.{to_z-of_z}
use lib.Signed.{lt_z}
use Rattle.plane_core.specs.clusters.UnionFind.{cell_of}
use Rattle.plane_core.proofs.clusters.union_find.first_from.Goals as goal

-- `lt_z`, the comparison `<` of the code, is true only if the first number is less than the second
less : (a b : ℤ) → lt_z a b ≡ true → a <ℤ b
less a b is = search is

pub loop-at-preserved : goal.loop-at-preserved
loop-at-preserved g c =
    let least = to_z w32 (of_z w32 c.args.least) in
    let is_before = λ (k : ℕ). g.A.Axis.coordinate (cell_of c.args.cells.now k) <ℤ least in
    let fits : FitsSigned w32 c.of.result = record { sfits = c.of.type_inv } in
    let here : is_before c.loop-at.at =
    subst (λ (x : ℤ). x <ℤ least) (to_z-of_z w32 c.of.result fits ∙ c.of.ensures) (less _ _ c.if-of-least.true) in
    record {
      low = omega (arith, c.loop-at.invariant.low);
      high = omega (arith, c.loop-at-test.true);
      before = λ k low few.
          below_more (λ (j : ℕ). c.args.from ≤ j → is_before j) c.loop-at.at (λ j few low. c.loop-at.invariant.before j low few) (λ _. here) k few low;
    }
