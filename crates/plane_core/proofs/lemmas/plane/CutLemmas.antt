-- A pattern that is cut into two parts, between two of its rows or between two of its columns.
use Rattle.std.proofs.Common.{◌≡◌, ◌-◌, ◌*◌, ◌<◌, ◌≤◌, ◌+ℤ◌, ◌-ℤ◌, ◌≤ℤ◌, ℕ, ℤ, pos, ◌++◌, zero, suc, Bool, true, false, ◌&&◌, List, [], ◌∷◌}
use Rattle.std.proofs.Common.{take, drop, length, get_or, map, arith, refl, ap, ◌∙◌, sym, subst, inl, inr}
use Rattle.std.proofs.Common.{unsigned_abs, leb}
use Rattle.std.specs.List.{list_all}
use Rattle.std.specs.declared.cmp.Ordering.TheVariants.{Less}
use Rattle.std.proofs.lemmas.Int.{ints}
use Rattle.std.proofs.lemmas.Bool.{false≢true, and_parts}
use Rattle.std.proofs.lemmas.List.{take-append-drop}
use Rattle.std.proofs.lemmas.List.Folds.{list_all-append}
use Rattle.plane_core.specs.declared.plane.cell.Cell.{Cell}
use Rattle.plane_core.specs.declared.plane.orientation.Orientation.TheVariants.{Diagonal, Same}
use Rattle.plane_core.specs.declared.plane.transform.Transform.{Transform}
use Rattle.plane_core.specs.plane.Cells.{cell_at, cell_cmp, has, is_within, on_plane, plane_bound, set_of, distance, InOrder, IsPattern}
use Rattle.plane_core.specs.plane.Generations.{after}
use Rattle.plane_core.specs.plane.Orientations.{image, landed, turned_cell}
use Rattle.plane_core.specs.plane.Parts.{HasRun, IsCut, LieFurther}
use Rattle.plane_core.specs.plane.Rules.{Numbers}
use Rattle.plane_core.proofs.lemmas.plane.CommuteLemmas.{set_of-in_order}
use Rattle.plane_core.proofs.lemmas.engine.FillLemmas.{has-at}
use Rattle.plane_core.proofs.lemmas.plane.FrontierLemmas.{after-image}
use Rattle.plane_core.proofs.lemmas.plane.OrientationLemmas.{image-image}
use Rattle.plane_core.proofs.lemmas.plane.PartLemmas.{far_patterns}
use Rattle.plane_core.proofs.lemmas.plaintext.PlaintextWalks.{in_order-drop, in_order-take, no_row_above}
use Rattle.plane_core.proofs.lemmas.plane.RunLemmas.{in_order-after}
use Rattle.plane_core.proofs.lemmas.plane.SetLemmas.{has-all, has-cases, in_order-head, in_order-set_of, in_order-tail}
use Rattle.plane_core.proofs.lemmas.plane.TurnLemmas.{images_on_plane, list_all-set_of}

-- ---- where cells in order can be cut

-- no cell up to place i is in a row below the cell at i
above_cut : (S : List Cell) (i : ℕ) (z c : Cell) → InOrder S → i < length S → has (take (suc i) S) c ≡ true → c.y ≤ℤ (get_or S i z).y
above_cut [] i z c o low h = absurd (omega arith)
above_cut (d ∷ ds) zero z c o low h = elim (has-cases d [] c h) [ inl same ↦ at_once c.y d.y (ap (λ (e : Cell). e.y) same) | inr none ↦ absurd (false≢true none) ]
  where
    at_once : (a b : ℤ) → a ≡ b → a ≤ℤ b
    at_once a b e = omega (arith, ints)
above_cut (d ∷ ds) (suc i) z c o low h = elim (has-cases d (take (suc i) ds) c h) [
  | inl same ↦ subst (λ (e : Cell). e.y ≤ℤ (get_or ds i z).y) (sym same)
      (no_row_above d (get_or ds i z) (has-all (λ e. cell_cmp d e ≡ Less) ds (get_or ds i z) (in_order-head d ds o) (has-at ds i z (omega arith))))
  | inr more ↦ above_cut ds i z c (in_order-tail d ds o) (omega arith) more
]

-- no cell from place i on is in a row above the cell at i
below_cut : (S : List Cell) (i : ℕ) (z d : Cell) → InOrder S → has (drop i S) d ≡ true → (get_or S i z).y ≤ℤ d.y
below_cut [] zero z d o h = absurd (false≢true h)
below_cut [] (suc i) z d o h = absurd (false≢true h)
below_cut (c ∷ cs) zero z d o h = elim (has-cases c cs d h) [
  | inl same ↦ subst (λ (e : Cell). c.y ≤ℤ e.y) (sym same) (itself c.y)
  | inr more ↦ no_row_above c d (has-all (λ e. cell_cmp c e ≡ Less) cs d (in_order-head c cs o) more)
]
  where
    itself : (a : ℤ) → a ≤ℤ a
    itself a = omega (arith, ints)
below_cut (c ∷ cs) (suc i) z d o h = below_cut cs i z d (in_order-tail c cs o) h

further : (a b c d : ℤ) (far : ℕ) → a ≤ℤ b → far < unsigned_abs (c -ℤ b) → b ≤ℤ c → c ≤ℤ d → far < distance a d
further a b c d far p h q r = omega (arith, ints)

-- a list can be cut before a cell that is more than `far` rows below the previous cell
pub is_cut : (S : List Cell) (i far : ℕ) (z : Cell) → InOrder S → 1 ≤ i → i < length S → far < unsigned_abs ((get_or S i z).y -ℤ (get_or S (i - 1) z).y)
    → IsCut far S i
is_cut S zero far z o some low h = absurd (omega arith)
is_cut S (suc i) far z o some low h = record {
  some = some;
  within = low;
  apart = λ c d p q. apart c d p q;
}
  where
    one_less : suc i - 1 ≡ i
    one_less = omega arith

    step : far < unsigned_abs ((get_or S (suc i) z).y -ℤ (get_or S i z).y)
    step = subst (λ (n : ℕ). far < unsigned_abs ((get_or S (suc i) z).y -ℤ (get_or S n z).y)) one_less h

    next : (T : List Cell) (k : ℕ) → InOrder T → suc k < length T → (get_or T k z).y ≤ℤ (get_or T (suc k) z).y
    next [] k u l = absurd (omega arith)
    next (t ∷ ts) zero u l = no_row_above t (get_or ts 0 z) (has-all (λ e. cell_cmp t e ≡ Less) ts (get_or ts 0 z) (in_order-head t ts u) (has-at ts 0 z (omega arith)))
    next (t ∷ ts) (suc k) u l = next ts k (in_order-tail t ts u) (omega arith)

    apart : LieFurther far (take (suc i) S) (drop (suc i) S)
    apart c d p q =
        let rows = further c.y (get_or S i z).y (get_or S (suc i) z).y d.y far (above_cut S i z c o (omega arith) p) step (next S i o low)
        (below_cut S (suc i) z d o q) in
        omega (arith, rows)

-- ---- the two parts

-- each part of a pattern is a pattern
pub is_pattern-take : (S : List Cell) (cut : ℕ) → IsPattern S → IsPattern (take cut S)
is_pattern-take S cut p = record {
  in_order = in_order-take cut S p.in_order;
  on_plane = (and_parts _ _ (sym (list_all-append on_plane (take cut S) (drop cut S)) ∙ ap (list_all on_plane) (take-append-drop cut S) ∙ p.on_plane)).0;
}

pub is_pattern-drop : (S : List Cell) (cut : ℕ) → IsPattern S → IsPattern (drop cut S)
is_pattern-drop S cut p = record {
  in_order = in_order-drop cut S p.in_order;
  on_plane = (and_parts _ _ (sym (list_all-append on_plane (take cut S) (drop cut S)) ∙ ap (list_all on_plane) (take-append-drop cut S) ∙ p.on_plane)).1;
}

-- if the two parts are more than 2n apart, and both have run for n generations, the union of the results is the whole
-- pattern after n generations
pub run_from_parts : (rule : Numbers) (S : List Cell) (cut n : ℕ) (above below whole : List Cell) → InOrder S → IsCut (2 * n) S cut
    → HasRun rule (take cut S) n above → HasRun rule (drop cut S) n below → whole ≡ set_of (above ++ below) → HasRun rule S n whole
run_from_parts rule S cut n above below whole o p one other both = record {
  after = both
      ∙ (λ i. set_of (one.after i ++ other.after i))
      ∙ sym (far_patterns rule (take cut S) (drop cut S) n (in_order-take cut S o) (in_order-drop cut S o) p.apart)
      ∙ ap (λ (T : List Cell). after rule (set_of T) n) (take-append-drop cut S)
      ∙ ap (λ (T : List Cell). after rule T n) (set_of-in_order S o);
  inside = ap (list_all (is_within (plane_bound - n))) (sym (take-append-drop cut S))
      ∙ list_all-append (is_within (plane_bound - n)) (take cut S) (drop cut S)
      ∙ (λ i. one.inside i && other.inside i);
}

-- ---- columns as rows

same_cells : (T : List Cell) → map (turned_cell Same) T ≡ T
same_cells [] = refl
same_cells (c ∷ cs) = ap (λ (ds : List Cell). c ∷ ds) (same_cells cs)

-- the transform that swaps columns and rows without moving
abbrev pub transposing : Transform
transposing = record { orientation = Diagonal; dx = pos 0; dy = pos 0 }

pub landed_turned : (S : List Cell) → map (landed transposing) S ≡ map (turned_cell Diagonal) S
landed_turned [] = refl
landed_turned (c ∷ cs) = λ i. cell_at (unmoved c.y i) (unmoved c.x i) ∷ landed_turned cs i
  where
    unmoved : (a : ℤ) → a +ℤ pos 0 ≡ a
    unmoved a = omega (arith, ints)

pub landed_on_plane : (S : List Cell) → list_all on_plane S ≡ true → list_all on_plane (map (landed transposing) S) ≡ true
landed_on_plane S on = ap (list_all on_plane) (landed_turned S) ∙ images_on_plane Diagonal S on

pub landed_image : (S : List Cell) → set_of (map (landed transposing) S) ≡ image Diagonal S
unfolding image
landed_image S = ap set_of (landed_turned S)

pub is_pattern-image : (S : List Cell) → list_all on_plane S ≡ true → IsPattern (image Diagonal S)
unfolding image
is_pattern-image S on = record {
  in_order = in_order-set_of (map (turned_cell Diagonal) S);
  on_plane = list_all-set_of on_plane (map (turned_cell Diagonal) S) ∙ images_on_plane Diagonal S on;
}

-- transposing a pattern twice gives the pattern back
pub image_back : (T : List Cell) → InOrder T → image Diagonal (image Diagonal T) ≡ T
unfolding image
image_back T o = image-image Diagonal Diagonal T ∙ ap set_of (same_cells T) ∙ set_of-in_order T o

-- transposed cells are within n of the origin exactly if the cells are
turned_within : (n : ℕ) (S : List Cell) → list_all (is_within n) (map (turned_cell Diagonal) S) ≡ list_all (is_within n) S
turned_within n [] = refl
turned_within n (c ∷ cs) = λ i. crossed (leb (unsigned_abs c.y) n) (leb (unsigned_abs c.x) n) i && turned_within n cs i
  where
    crossed : (a b : Bool) → (a && b) ≡ (b && a)
    crossed true true = refl
    crossed true false = refl
    crossed false true = refl
    crossed false false = refl

-- if the transposed pattern has run for n generations, transposing the result gives the pattern after n generations
pub run_from_turned : (rule : Numbers) (S : List Cell) (n : ℕ) (later whole : List Cell) → InOrder S → HasRun rule (image Diagonal S) n later
    → whole ≡ image Diagonal later → HasRun rule S n whole
unfolding image
run_from_turned rule S n later whole o ran is = record {
  after = is ∙ ap (image Diagonal) (ran.after ∙ after-image rule Diagonal S n o) ∙ image_back (after rule S n) (in_order-after rule S n o);
  inside = sym (list_all-set_of (is_within (plane_bound - n)) (map (turned_cell Diagonal) S) ∙ turned_within (plane_bound - n) S) ∙ ran.inside;
}
