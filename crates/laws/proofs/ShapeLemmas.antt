-- The finding of a pattern within 1,000 columns and rows of the origin is small: it has fewer than 2^64 objects, and
-- their codes have the shape of apgcodes.
use Rattle.std.proofs.Common.{◌≡◌, ◌≢◌, ap, sym, refl, subst, ℕ, suc, ℤ, pos, ◌+ℤ◌, ◌+◌, ◌*◌, ◌<◌, ◌≤◌, ◌^◌, ◌++◌, true, List, [], ◌∷◌, All, AllPairs, arith, decimal, get_or, length, nat_le, unsigned_abs}
use Rattle.std.specs.List.{list_all}
use Rattle.std.specs.Ordering.{int_cmp, ordering_then}
use Rattle.std.specs.declared.cmp.Ordering.{Ordering}
use Rattle.std.specs.declared.cmp.Ordering.TheVariants.{Less, Equal, Greater}
use Rattle.std.proofs.lemmas.Bool.{and_parts, leb-true}
use Rattle.std.proofs.lemmas.Cmp.{int_ranked}
use Rattle.std.proofs.lemmas.Int.{ints}
use Rattle.sha2.specs.Sha256.{sha256}
use Rattle.plane_core.specs.declared.plane.cell.Cell.{Cell}
use Rattle.plane_core.specs.clusters.Clusters.{AreClusters, FirstBefore}
use Rattle.plane_core.specs.plane.Cells.{InOrder, cell_cmp, is_within}
use Rattle.plane_core.specs.plane.Generations.{after, lies_within}
use Rattle.plane_core.specs.plane.Rules.{Numbers}
use Rattle.plane_core.proofs.lemmas.plane.SetLemmas.{in_order-head, in_order-tail}
use Rattle.code_core.specs.Apgcodes.{HasCodeShape}
use Rattle.code_core.proofs.CodeLaws.{codes_have_their_shape}
use Rattle.survey_core.specs.declared.finding.Finding.{Finding}
use Rattle.survey_core.specs.declared.finding.Finding.TheVariants.{Settled, Unsettled}
use Rattle.survey_core.specs.Findings.{IsFinding, IsSettled, objects_in}
use Rattle.survey_core.specs.Profiles.{IsProfile, Settling}
use Rattle.survey_core.specs.Soups.{soup}
use Rattle.survey_core.proofs.lemmas.PlaneLemmas.{within_later, within_more}
use Rattle.survey_core.proofs.lemmas.SoupLemmas.{soup_is_small}
use Rattle.survey_core.proofs.lemmas.rest.RestLemmas.{clusters_near, clusters_some}
use Rattle.haul_core.specs.ClaimChecks.{HaveShape}
use Rattle.laws.proofs.CountLemmas.{counts_add_up}
use Rattle.survey_core.proofs.lemmas.shapes.MarkLemmas.{of_objects}

-- the place of a cell in the square within 101,000 columns and rows of the origin, counted row by row
rank : Cell → ℕ
rank c = unsigned_abs (c.y +ℤ pos 101000) * 202001 + unsigned_abs (c.x +ℤ pos 101000)

-- the coordinate is within 101,000 of the origin
record IsNear (x : ℤ) : Type 0 where
  is : unsigned_abs x ≤ 101000

near : (c : Cell) → is_within 101000 c ≡ true → IsNear c.x × IsNear c.y
near c h =
    let parts = and_parts (nat_le (unsigned_abs c.x) 101000) (nat_le (unsigned_abs c.y) 101000) h in
    (record { is = leb-true _ _ parts.0 }, record { is = leb-true _ _ parts.1 })

column_low : (x : ℤ) → IsNear x → unsigned_abs (x +ℤ pos 101000) ≤ 202000
column_low x h = let low : unsigned_abs x ≤ 101000 = h.is in omega (arith, ints)

rank_low : (c : Cell) → is_within 101000 c ≡ true → rank c < 40804404001
unfolding rank
rank_low c h =
    let n = near c h in
    let x : unsigned_abs (c.x +ℤ pos 101000) ≤ 202000 = column_low c.x n.0 in
    let y : unsigned_abs (c.y +ℤ pos 101000) ≤ 202000 = column_low c.y n.1 in
    omega arith

less_shifted : (a b : ℤ) → IsNear a → IsNear b → int_cmp a b ≡ Less → unsigned_abs (a +ℤ pos 101000) < unsigned_abs (b +ℤ pos 101000)
less_shifted a b h k less =
    let low : unsigned_abs a ≤ 101000 = h.is in
    let high : unsigned_abs b ≤ 101000 = k.is in
    let lower = int_ranked a b Less (sym less) in
    omega (arith, ints, lower)

-- a later cell has a higher rank
rank_less : (c d : Cell) → is_within 101000 c ≡ true → is_within 101000 d ≡ true → cell_cmp c d ≡ Less → rank c < rank d
unfolding rank
rank_less c d h k less = go (int_cmp c.y d.y) refl less
  where
    x : unsigned_abs (c.x +ℤ pos 101000) ≤ 202000
    x = column_low c.x (near c h).0

    go : (o : Ordering) → int_cmp c.y d.y ≡ o → ordering_then o (int_cmp c.x d.x) ≡ Less
        → unsigned_abs (c.y +ℤ pos 101000) * 202001 + unsigned_abs (c.x +ℤ pos 101000) < unsigned_abs (d.y +ℤ pos 101000) * 202001 + unsigned_abs (d.x +ℤ pos 101000)
    go Less is e =
        let y = less_shifted c.y d.y (near c h).1 (near d k).1 is in
        omega (arith, x, y)
    go Equal is e =
        let same : c.y ≡ d.y = int_ranked c.y d.y Equal (sym is) in
        let rows : unsigned_abs (c.y +ℤ pos 101000) ≡ unsigned_abs (d.y +ℤ pos 101000) = ap (λ (y : ℤ). unsigned_abs (y +ℤ pos 101000)) same in
        let columns = less_shifted c.x d.x (near c h).0 (near d k).0 e in
        omega (arith, rows, columns)
    go Greater is e = absurd (cc)

few_after : (c : Cell) (cells : List Cell) → InOrder (c ∷ cells) → lies_within 101000 (c ∷ cells) ≡ true → length (c ∷ cells) + rank c ≤ 40804404001
few_after c [] order within =
    let low = rank_low c (and_parts (is_within 101000 c) true within).0 in
    omega (arith, low)
few_after c (d ∷ cells) order within =
    let parts = and_parts (is_within 101000 c) (list_all (is_within 101000) (d ∷ cells)) within in
    let more = few_after d cells (in_order-tail c (d ∷ cells) order) parts.1 in
    let less = rank_less c d parts.0 (and_parts (is_within 101000 d) (list_all (is_within 101000) cells) parts.1).0 (in_order-head c (d ∷ cells) order).0 in
    omega (arith, more, less)

-- a pattern within 101,000 columns and rows of the origin has fewer than 2^64 cells
few_cells : (cells : List Cell) → InOrder cells → lies_within 101000 cells ≡ true → length cells < 2 ^ 64
few_cells [] order within = omega arith
few_cells (c ∷ cells) order within = omega (arith, few_after c cells order within)

-- ---- clusters

first : List Cell → Cell
first [] = record { y = pos 0; x = pos 0 }
first (c ∷ cs) = c

first_within : (cells : List Cell) → cells ≢ [] → lies_within 101000 cells ≡ true → is_within 101000 (first cells) ≡ true
unfolding first
first_within [] some within = absurd (some refl)
first_within (c ∷ cs) some within = (and_parts (is_within 101000 c) (list_all (is_within 101000) cs) within).0

first_before : (one other : List Cell) → FirstBefore one other → cell_cmp (first one) (first other) ≡ Less
unfolding first
first_before [] other before = absurd before
first_before (c ∷ cs) [] before = absurd before
first_before (c ∷ cs) (d ∷ ds) before = before

few_clusters_after : (one : List Cell) (clusters : List (List Cell)) → All (λ cluster. cluster ≢ []) (one ∷ clusters) → AllPairs FirstBefore (one ∷ clusters)
    → All (λ cluster. lies_within 101000 cluster ≡ true) (one ∷ clusters) → length (one ∷ clusters) + rank (first one) ≤ 40804404001
few_clusters_after one [] some order within =
    let low = rank_low (first one) (first_within one (some 0 one (omega arith)) (within 0 one (omega arith))) in
    omega (arith, low)
few_clusters_after one (other ∷ clusters) some order within =
    let more = few_clusters_after other clusters (λ k d low. some (suc k) d (omega arith))
    (λ i j d less low. order (suc i) (suc j) d (omega arith) (omega arith)) (λ k d low. within (suc k) d (omega arith)) in
    let less = rank_less (first one) (first other) (first_within one (some 0 one (omega arith)) (within 0 one (omega arith)))
    (first_within other (some 1 one (omega arith)) (within 1 one (omega arith))) (first_before one other (order 0 1 one (omega arith) (omega arith))) in
    omega (arith, more, less)

few_clusters : (cells : List Cell) (clusters : List (List Cell)) → AreClusters cells clusters → lies_within 101000 cells ≡ true → length clusters < 2 ^ 64
few_clusters cells [] are within = omega arith
few_clusters cells (one ∷ clusters) are within =
    omega (
      arith,
      few_clusters_after one clusters (clusters_some cells (one ∷ clusters) are) are.in_order
          (clusters_near 101000 cells (one ∷ clusters) are within),
    )

-- ---- findings

-- each code of the finding has the shape of an apgcode, and the finding has fewer than 2^64 objects
pub record IsSmallFinding (finding : Finding) : Type 0 where
  pub shape : HaveShape finding
  pub few : objects_in finding < 2 ^ 64

pub small_finding : (rule : Numbers) (profile : Settling) (cells : List Cell) (finding : Finding) → IsProfile profile → lies_within 1000 cells ≡ true
    → IsFinding rule profile cells finding → IsSmallFinding finding
small_finding rule profile cells Unsettled valid close found = record { shape = tt; few = omega arith }
small_finding rule profile cells (Settled t objects good) valid close found = record {
  shape = of_objects rule profile.period settled.clusters objects settled.counted HasCodeShape (λ k d there code named.
      codes_have_their_shape rule (get_or settled.clusters k d) profile.period code
      (few_cells (get_or settled.clusters k d) (settled.rest.parts.each k d there).in_order
      (clusters_near 101000 (after rule cells t) settled.clusters settled.rest.parts later k d there)) period named);
  few = subst (λ (n : ℕ). n < 2 ^ 64) (sym (counts_add_up rule profile.period settled.clusters objects settled.counted))
      (few_clusters (after rule cells t) settled.clusters settled.rest.parts later);
}
  where
    settled : IsSettled rule profile (after rule cells t) objects good
    settled = found.2

    period : profile.period < 2 ^ 64
    period = let low : profile.period ≤ 64 = valid.period in omega arith

    later : lies_within 101000 (after rule cells t) ≡ true
    later =
        let limit : profile.limit ≤ 100000 = valid.limit in
        let within : t ≤ profile.limit = found.0.within in
        within_later 1000 101000 rule cells t (omega arith) close

-- soups are within 1,000 columns and rows of the origin
pub soup_close : (seed : List ℕ) (number : ℕ) → lies_within 1000 (soup seed number) ≡ true
soup_close seed number = within_more 15 1000 (soup seed number) (omega arith) (soup_is_small (sha256 (seed ++ decimal number)))
