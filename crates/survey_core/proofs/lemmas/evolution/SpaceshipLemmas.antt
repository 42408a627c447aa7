-- Spaceships that are ahead of a pattern: nothing comes near them, so they and the rest evolve independently.
use Rattle.std.proofs.Common.{◌≡◌, ◌∙◌, ◌+◌, ◌*◌, ◌/◌, ◌%◌, ◌<◌, ◌≤◌, ◌⊎◌, ℕ, ℤ, pos, ◌+ℤ◌, ◌*ℤ◌, ◌≤ℤ◌, zero, suc, Bool, true, false, ◌||◌, ◌&&◌, not}
use Rattle.std.proofs.Common.{zero-add}
use Rattle.std.proofs.Common.{FitsSigned, IsTrue, ◌^◌, int_le, of_z, to_z, w64, unsigned_abs, ◌-ℤ◌, IfSome, IsNone, Option, None, Some}
use Rattle.std.proofs.Common.{List, [], ◌∷◌, All, Any, arith, ap, refl, sym, subst, inl, inr, get_or, length}
use Rattle.std.proofs.Math.IntN.{suc_ℤ-*ℤ, zero-*ℤ}
use Rattle.std.proofs.Math.Nat.{suc-mul, zero-mul}
use Rattle.std.proofs.lemmas.Bool.{and_parts, false≢true}
use Rattle.std.proofs.lemmas.Int.{fits_signed_from_abs, ints, to_z-of_z}
use Rattle.std.proofs.lemmas.Nat.{div-add-mod'}
use Rattle.std.proofs.lemmas.List.Elements.{All-cons, recursion_from_All}
use Rattle.std.proofs.lemmas.List.Folds.{list_any_at}
use Rattle.std.proofs.lemmas.List.Kept.{AllPairs-cons}
use Rattle.plane_core.specs.declared.plane.bounds.Bounds.{Bounds}
use Rattle.plane_core.specs.declared.plane.cell.Cell.{Cell}
use Rattle.plane_core.specs.declared.plane.orientation.Orientation.{Orientation}
use Rattle.plane_core.specs.declared.plane.orientation.Orientation.TheVariants.{Same, Quarter, Half, ThreeQuarter, Mirror, Flip, Diagonal, AntiDiagonal}
use Rattle.plane_core.specs.plane.Bounds.{IsLeastBox, IsWithin, box_of, enlarged, shifted}
use Rattle.plane_core.specs.plane.Cells.{InOrder, cell_at, has, king_distance, moved_by, same_cell}
use Rattle.plane_core.specs.clusters.Clusters.{IsCluster, LieApart, Partition}
use Rattle.plane_core.specs.plane.Frontiers.{LiesUpTo, depth}
use Rattle.plane_core.specs.plane.Generations.{after}
use Rattle.plane_core.specs.plane.Orientations.{turned_cell}
use Rattle.plane_core.specs.plane.Rules.{Numbers}
use Rattle.plane_core.specs.plane.Without.{without}
use Rattle.plane_core.proofs.lemmas.plane.BoundsLemmas.{box_of-least, box_of-none}
use Rattle.plane_core.proofs.lemmas.plane.CellLemmas.{same_cell-itself}
use Rattle.plane_core.proofs.lemmas.clusters.ClusterLemmas.{king_distance-itself, linked-has}
use Rattle.plane_core.proofs.lemmas.plane.CommuteLemmas.{turned-keeps}
use Rattle.plane_core.proofs.lemmas.plane.FrontierLemmas.{frontiers_are_slow}
use Rattle.plane_core.proofs.lemmas.plane.GenerationLemmas.{after-none}
use Rattle.plane_core.proofs.lemmas.plane.OrientationLemmas.{has-map, has-map_from}
use Rattle.plane_core.proofs.lemmas.plane.SpeedLemmas.{boxed-after}
use Rattle.plane_core.proofs.lemmas.plane.SetLemmas.{has-all, has-filter, in_order-filter}
use Rattle.code_core.specs.declared.recurrence.Recurrence.{Recurrence}
use Rattle.survey_core.specs.declared.shapes.envelope_bounds.EnvelopeBounds.{EnvelopeBounds}
use Rattle.survey_core.specs.rest.Rest.{KeepApart}
use Rattle.survey_core.specs.evolution.EscapedSpaceships.{BeginsPast, IsAheadOf, IsPartOf, IsSpaceship, SpaceshipsRunAlone, SpaceshipsStayAhead}
use Rattle.survey_core.specs.shapes.Envelopes.{IsEnvelope, times}
use Rattle.survey_core.proofs.lemmas.rest.AloneLemmas.{parts_run_alone}
use Rattle.survey_core.proofs.lemmas.shapes.EnvelopeLemmas.{after_cycles}

-- ---- how deep a spaceship lies

depth-moved : (o : Orientation) (dx dy : ℤ) (c : Cell)
    → depth (turned_cell o (moved_by dx dy c)) ≡ depth (turned_cell o c) +ℤ depth (turned_cell o (cell_at dx dy))
depth-moved Same dx dy c = omega (arith, ints)
depth-moved Quarter dx dy c = omega (arith, ints)
depth-moved Half dx dy c = omega (arith, ints)
depth-moved ThreeQuarter dx dy c = omega (arith, ints)
depth-moved Mirror dx dy c = omega (arith, ints)
depth-moved Flip dx dy c = omega (arith, ints)
depth-moved Diagonal dx dy c = omega (arith, ints)
depth-moved AntiDiagonal dx dy c = omega (arith, ints)

depth-origin : (o : Orientation) → depth (turned_cell o (cell_at (pos 0) (pos 0))) ≡ pos 0
depth-origin Same = refl
depth-origin Quarter = refl
depth-origin Half = refl
depth-origin ThreeQuarter = refl
depth-origin Mirror = refl
depth-origin Flip = refl
depth-origin Diagonal = refl
depth-origin AntiDiagonal = refl

-- if one displacement adds at least p / 2 to the depth, n displacements add at least n * p / 2
cycles_deep : (o : Orientation) (dx dy : ℤ) (p n : ℕ) → pos p ≤ℤ (pos 2 *ℤ depth (turned_cell o (cell_at dx dy)))
    → pos (n * p) ≤ℤ (pos 2 *ℤ depth (turned_cell o (cell_at (times n dx) (times n dy))))
cycles_deep o dx dy p zero fast = none (0 * p) (depth (turned_cell o (cell_at (pos 0) (pos 0)))) (zero-mul p) (depth-origin o)
  where
    none : (k : ℕ) (d : ℤ) → k ≡ 0 → d ≡ pos 0 → pos k ≤ℤ (pos 2 *ℤ d)
    none k d e f = omega (arith, ints)
cycles_deep o dx dy p (suc n) fast =
    more (suc n * p) (n * p) (depth (turned_cell o (cell_at (times (suc n) dx) (times (suc n) dy))))
    (depth (turned_cell o (cell_at (times n dx) (times n dy))))
    (depth (turned_cell o (cell_at dx dy))) (suc-mul n p) (depth-moved o dx dy (cell_at (times n dx) (times n dy))) (cycles_deep o dx dy p n fast) fast
  where
    more : (k j : ℕ) (d e f : ℤ) → k ≡ j + p → d ≡ e +ℤ f → pos j ≤ℤ (pos 2 *ℤ e) → pos p ≤ℤ (pos 2 *ℤ f) → pos k ≤ℤ (pos 2 *ℤ d)
    more k j d e f same sum low fast = omega (arith, ints)

-- after n generations, each cell of a spaceship that is ahead is at least (n + 1 - period) / 2 deeper than `from`
spaceship_deep : (rule : Numbers) (o : Orientation) (m : ℤ) (r : Recurrence) (spaceship : List Cell) (n : ℕ) (c : Cell) → (ahead : IsAheadOf rule o m r spaceship)
    → has (after rule spaceship n) c ≡ true → ((pos 2 *ℤ ahead.from) +ℤ pos (n + 1)) ≤ℤ ((pos 2 *ℤ depth (turned_cell o c)) +ℤ pos r.period)
spaceship_deep rule o m r spaceship n c ahead e =
    numbers ahead.from (depth (turned_cell o d.0)) (depth (turned_cell o (cell_at (times q r.dx) (times q r.dy)))) (depth (turned_cell o c)) n
    (q * r.period) b
    r.period (sym whole) (ahead.none_behind b part d.0 d.1)
    (ap (λ (x : Cell). depth (turned_cell o x)) d.2 ∙ depth-moved o (times q r.dx) (times q r.dy) d.0)
    (cycles_deep o r.dx r.dy r.period q ahead.fast) part
  where
    some : 1 ≤ r.period
    some = ahead.comes.some

    q : ℕ
    q = n / r.period

    b : ℕ
    b = n % r.period

    part : b < r.period
    part = omega (arith, some)

    whole : q * r.period + b ≡ n
    whole = div-add-mod' n r.period

    there : has (shifted (times q r.dx) (times q r.dy) (after rule spaceship b)) c ≡ true
    there =
        ap (λ (S : List Cell). has S c) (sym (after_cycles rule spaceship r.period r.dx r.dy ahead.comes.in_order ahead.comes.back q b)
        ∙ ap (after rule spaceship) whole) ∙ e

    d : (x : Cell) × (has (after rule spaceship b) x ≡ true) × (c ≡ moved_by (times q r.dx) (times q r.dy) x)
    d = has-map_from (moved_by (times q r.dx) (times q r.dy)) (after rule spaceship b) c there

    numbers : (f e v w : ℤ) (n k b p : ℕ) → n ≡ k + b → f ≤ℤ e → w ≡ e +ℤ v → pos k ≤ℤ (pos 2 *ℤ v) → b < p
        → ((pos 2 *ℤ f) +ℤ pos (n + 1)) ≤ℤ ((pos 2 *ℤ w) +ℤ pos p)
    numbers f e v w n k b p is low sum deep part = omega (arith, ints)

-- two cells, one at least five deeper than the other, are at king distance 3 or more
deeper_apart : (c d : Cell) → (depth c +ℤ pos 5) ≤ℤ depth d → 3 ≤ king_distance c d
deeper_apart c d low = omega (arith, ints)

-- under a slow rule, no pattern behind a spaceship ever comes near it
pub spaceships_stay_ahead : SpaceshipsStayAhead
spaceships_stay_ahead rule o m r spaceship cells n k g slow ahead order behind few c d in_cells in_spaceship =
    subst (λ (w : ℕ). 3 ≤ w) (turned-keeps o c d)
    (deeper_apart (turned_cell o c) (turned_cell o d) (gap m ahead.from (depth (turned_cell o c)) (depth (turned_cell o d)) n k g r.period
    (frontiers_are_slow rule o (m +ℤ pos k) cells g order slow behind c in_cells) (spaceship_deep rule o m r spaceship (n + g) d ahead in_spaceship) ahead.room few))
  where
    gap : (m f a b : ℤ) (n k g p : ℕ) → (pos 2 *ℤ a) ≤ℤ ((pos 2 *ℤ (m +ℤ pos k)) +ℤ pos (g + 1))
        → ((pos 2 *ℤ f) +ℤ pos ((n + g) + 1)) ≤ℤ ((pos 2 *ℤ b) +ℤ pos p) → ((pos 2 *ℤ m) +ℤ pos (p + 10)) ≤ℤ (pos 2 *ℤ f) → 2 * k ≤ n + 1
        → (a +ℤ pos 5) ≤ℤ b
    gap m f a b n k g p low deep room few = omega (arith, ints)

-- ---- two patterns that stay apart

pub or_nothing : (a : Bool) → (a || false) ≡ a
or_nothing true = refl
or_nothing false = refl

-- if two parts of a pattern never come near each other, the pattern evolves as the parts do, each run alone
two_run_alone : (rule : Numbers) (cells one other : List Cell) → InOrder cells → InOrder one → InOrder other
    → ((c : Cell) → has cells c ≡ (has one c || has other c)) → ((g : ℕ) → LieApart (after rule one g) (after rule other g))
    → (g : ℕ) (c : Cell) → has (after rule cells g) c ≡ (has (after rule one g) c || has (after rule other g) c)
two_run_alone rule cells one other order first second is far g c =
    sym (keeps.union c) ∙ ap (λ (b : Bool). has (after rule one g) c || b) (or_nothing (has (after rule other g) c))
  where
    parts : List (List Cell)
    parts = one ∷ other ∷ []

    now : LieApart one other
    now = subst (λ (S : List Cell). LieApart S other) (after-none rule one)
        (subst (λ (S : List Cell). LieApart (after rule one 0) S) (after-none rule other) (far 0))

    apart : (x : Cell) → has one x ≡ true → has other x ≡ false
    apart x here = go (has other x) refl
      where
        go : (b : Bool) → has other x ≡ b → has other x ≡ false
        go true there = let near : 3 ≤ king_distance x x = now x x here there in absurd (omega (arith, near, king_distance-itself x))
        go false none = none

    partition : Partition cells parts
    partition = record {
      disjoint = AllPairs-cons (λ (a b : List Cell). (x : Cell) → has a x ≡ true → has b x ≡ false) one (other ∷ [])
          (λ k d low. alone k d low) (λ i j d lt low. absurd (omega arith));
      union = λ x. ap (λ (b : Bool). has one x || b) (or_nothing (has other x)) ∙ sym (is x);
    }
      where
        alone : (k : ℕ) (d : List Cell) → k < length (other ∷ []) → (x : Cell) → has one x ≡ true → has (get_or (other ∷ []) k d) x ≡ false
        alone zero d low = apart
        alone (suc k) d low = absurd (omega arith)

    each : All InOrder parts
    each = All-cons InOrder one (other ∷ []) first (λ k d low. last k d low)
      where
        last : (k : ℕ) (d : List Cell) → k < length (other ∷ []) → InOrder (get_or (other ∷ []) k d)
        last zero d low = second
        last (suc k) d low = absurd (omega arith)

    turned : (u : ℕ) → LieApart (after rule other u) (after rule one u)
    turned u a b in_other in_one = subst (λ (w : ℕ). 3 ≤ w) (crossed b a) (far u b a in_one in_other)
      where
        crossed : (a b : Cell) → king_distance a b ≡ king_distance b a
        crossed a b = omega (arith, ints)

    all_far : (i j : ℕ) (d : List Cell) (u : ℕ) → i < length parts → j < length parts → (i ≡ j → ⊥) → u ≤ g
        → LieApart (after rule (get_or parts i d) u) (after rule (get_or parts j d) u)
    all_far zero zero d u one_low other_low ne low = absurd (ne refl)
    all_far zero (suc zero) d u one_low other_low ne low = far u
    all_far zero (suc (suc j)) d u one_low other_low ne low = absurd (omega arith)
    all_far (suc zero) zero d u one_low other_low ne low = turned u
    all_far (suc zero) (suc zero) d u one_low other_low ne low = absurd (ne refl)
    all_far (suc zero) (suc (suc j)) d u one_low other_low ne low = absurd (omega arith)
    all_far (suc (suc i)) j d u one_low other_low ne low = absurd (omega arith)

    keeps : KeepApart rule cells parts g
    keeps = parts_run_alone rule cells parts g order each partition all_far g (omega arith)

-- ---- a pattern without a spaceship

-- a cell that is left after a removal is on the board and isn't one of those removed
pub left_has : (board spaceship : List Cell) (c : Cell) → has (without board spaceship) c ≡ true → (has board c ≡ true) × (has spaceship c ≡ false)
left_has board spaceship c e =
    let parts = and_parts (has board c) (not (has spaceship c)) (sym (has-filter (λ d. not (has spaceship d)) board c) ∙ e) in
    (parts.0, dead (has spaceship c) parts.1)
  where
    dead : (b : Bool) → not b ≡ true → b ≡ false
    dead true h = absurd (false≢true h)
    dead false h = refl

-- a part of the board and the rest of the board make up the board
both_parts : (board spaceship : List Cell) → IsPartOf board spaceship → (c : Cell)
    → has board c ≡ (has (without board spaceship) c || has spaceship c)
both_parts board spaceship part c =
    cases (has board c) (has spaceship c) (part c) ∙ ap (λ (b : Bool). b || has spaceship c) (sym (has-filter (λ d. not (has spaceship d)) board c))
  where
    cases : (a b : Bool) → (b ≡ true → a ≡ true) → a ≡ ((a && not b) || b)
    cases true true h = refl
    cases true false h = refl
    cases false true h = h refl
    cases false false h = refl

pub cluster_part : (board cluster : List Cell) → IsCluster board cluster → IsPartOf board cluster
cluster_part board cluster is c e = linked-has board is.start c ((is.members c).0 e)

-- under a slow rule, a part that is ahead of the rest of a pattern evolves independently of the rest
pub spaceships_run_alone : SpaceshipsRunAlone
spaceships_run_alone rule whole r spaceship slow order is =
    two_run_alone rule whole (without whole spaceship) spaceship order left is.ahead.comes.in_order (both_parts whole spaceship is.part) far
  where
    left : InOrder (without whole spaceship)
    left = in_order-filter (λ d. not (has spaceship d)) whole order

    far : (g : ℕ) → LieApart (after rule (without whole spaceship) g) (after rule spaceship g)
    far g = subst (λ (n : ℕ). LieApart (after rule (without whole spaceship) g) (after rule spaceship n)) (zero-add g)
        (spaceships_stay_ahead rule is.way is.m r spaceship (without whole spaceship) 0 0 g slow is.ahead left
        (subst (λ (d : ℤ). LiesUpTo is.way d (without whole spaceship)) (same is.m) is.behind) (omega arith))
      where
        same : (d : ℤ) → d ≡ d +ℤ pos 0
        same d = omega (arith, ints)

-- ---- how a spaceship is found

-- a lower bound of the depths in a box, if the orientation reverses both axes
pub both_turned : (o : Orientation) (b : Bounds) (s : ℤ) (c : Cell) → (o ≡ Half) ⊎ (o ≡ AntiDiagonal) → s ≡ b.right +ℤ b.bottom → IsWithin b c
    → (pos 0 -ℤ s) ≤ℤ depth (turned_cell o c)
both_turned o b s c (inl is) e w =
    subst (λ (p : Orientation). (pos 0 -ℤ s) ≤ℤ depth (turned_cell p c)) (sym is) (omega (arith, ints, e, w.right, w.bottom))
both_turned o b s c (inr is) e w =
    subst (λ (p : Orientation). (pos 0 -ℤ s) ≤ℤ depth (turned_cell p c)) (sym is) (omega (arith, ints, e, w.right, w.bottom))

-- a lower bound of the depths in a box, if the orientation reverses neither axis, or only one of them (`bottom_turned`
-- and `right_turned`)
pub none_turned : (o : Orientation) (b : Bounds) (s : ℤ) (c : Cell) → (o ≡ Same) ⊎ (o ≡ Diagonal) → s ≡ b.left +ℤ b.top → IsWithin b c
    → s ≤ℤ depth (turned_cell o c)
none_turned o b s c (inl is) e w = subst (λ (p : Orientation). s ≤ℤ depth (turned_cell p c)) (sym is) (omega (arith, ints, e, w.left, w.top))
none_turned o b s c (inr is) e w = subst (λ (p : Orientation). s ≤ℤ depth (turned_cell p c)) (sym is) (omega (arith, ints, e, w.left, w.top))

pub bottom_turned : (o : Orientation) (b : Bounds) (s : ℤ) (c : Cell) → (o ≡ Quarter) ⊎ (o ≡ Flip) → s ≡ b.left -ℤ b.bottom → IsWithin b c
    → s ≤ℤ depth (turned_cell o c)
bottom_turned o b s c (inl is) e w = subst (λ (p : Orientation). s ≤ℤ depth (turned_cell p c)) (sym is) (omega (arith, ints, e, w.left, w.bottom))
bottom_turned o b s c (inr is) e w = subst (λ (p : Orientation). s ≤ℤ depth (turned_cell p c)) (sym is) (omega (arith, ints, e, w.left, w.bottom))

pub right_turned : (o : Orientation) (b : Bounds) (s : ℤ) (c : Cell) → (o ≡ ThreeQuarter) ⊎ (o ≡ Mirror) → s ≡ b.top -ℤ b.right → IsWithin b c
    → s ≤ℤ depth (turned_cell o c)
right_turned o b s c (inl is) e w = subst (λ (p : Orientation). s ≤ℤ depth (turned_cell p c)) (sym is) (omega (arith, ints, e, w.right, w.top))
right_turned o b s c (inr is) e w = subst (λ (p : Orientation). s ≤ℤ depth (turned_cell p c)) (sym is) (omega (arith, ints, e, w.right, w.top))

-- a sum of at most 2^33 in absolute value is unchanged by the conversion to a 64-bit word and back
pub is_told : (s : ℤ) → unsigned_abs s ≤ 2 ^ 33 → to_z w64 (of_z w64 s) ≡ s
is_told s small = to_z-of_z w64 s (fits_signed_from_abs w64 s (omega (arith, small)))

pub is_told_small : (s : ℤ) → unsigned_abs s ≤ 2 ^ 33 → unsigned_abs (to_z w64 (of_z w64 s)) ≤ 2 ^ 33
is_told_small s small = subst (λ (v : ℤ). unsigned_abs v ≤ 2 ^ 33) (sym (is_told s small)) small

pub minus_fits : (s : ℤ) → unsigned_abs s ≤ 2 ^ 33 → FitsSigned w64 (pos 0 -ℤ to_z w64 (of_z w64 s))
minus_fits s small = subst (λ (v : ℤ). FitsSigned w64 (pos 0 -ℤ v)) (sym (is_told s small))
    (fits_signed_from_abs w64 (pos 0 -ℤ s) (omega (arith, ints, small)))

pub minus_small : (s : ℤ) → unsigned_abs s ≤ 2 ^ 33 → unsigned_abs (pos 0 -ℤ s) ≤ 2 ^ 33
minus_small s small = omega (arith, ints, small)

pub minus_told : (s : ℤ) → unsigned_abs s ≤ 2 ^ 33 → to_z w64 (of_z w64 (pos 0 -ℤ to_z w64 (of_z w64 s))) ≡ pos 0 -ℤ s
minus_told s small =
    ap (λ (v : ℤ). to_z w64 (of_z w64 (pos 0 -ℤ v))) (is_told s small) ∙ is_told (pos 0 -ℤ s) (minus_small s small)

-- a fast enough pattern whose envelope begins far enough past depth m is a spaceship ahead of everything up to depth m
pub ahead_by_envelope : (rule : Numbers) (limit : ℕ) (cells : List Cell) (envelope : EnvelopeBounds) (way : Orientation) (m : ℤ) → IsEnvelope rule limit cells envelope
    → pos envelope.recurrence.period ≤ℤ (pos 2 *ℤ depth (turned_cell way (cell_at envelope.recurrence.dx envelope.recurrence.dy))) → BeginsPast way m envelope
    → IsAheadOf rule way m envelope.recurrence cells
ahead_by_envelope rule limit cells envelope way m is fast room = record {
  comes = record { in_order = is.in_order; some = is.recurs.some; back = is.recurs.back };
  fast = fast;
  from = room.from;
  none_behind = λ g low c e. room.least c (has-all (IsWithin envelope.bounds) (after rule cells g) c
      (recursion_from_All (IsWithin envelope.bounds) (after rule cells g) (is.within g low)) e);
  room = room.room;
}

-- no spaceship is faster than light
pub no_faster : (rule : Numbers) (cells : List Cell) (p : ℕ) (dx dy : ℤ) → (cells ≡ [] → ⊥) → after rule cells p ≡ shifted dx dy cells
    → (unsigned_abs dx ≤ p) × (unsigned_abs dy ≤ p)
no_faster rule cells p dx dy some back = go (box_of cells) refl
  where
    go : (found : Option Bounds) → box_of cells ≡ found → (unsigned_abs dx ≤ p) × (unsigned_abs dy ≤ p)
    go None e = absurd (some ((box_of-none cells).0 (subst IsNone (sym e) refl)))
    go (Some b) e = (across (left is.left) (right is.right), down (top is.top) (bottom is.bottom))
      where
        is : IsLeastBox cells b
        is = subst (λ (found : Option Bounds). IfSome found (IsLeastBox cells)) e (box_of-least cells)

        moved : (c : Cell) → has cells c ≡ true → IsWithin (enlarged p b) (moved_by dx dy c)
        moved c there =
            boxed-after rule cells b p (λ d h. has-all (IsWithin b) cells d (recursion_from_All (IsWithin b) cells is.within) h) (moved_by dx dy c)
            (ap (λ (S : List Cell). has S (moved_by dx dy c)) back ∙ has-map (moved_by dx dy) cells c there)

        member : (k : ℕ) (c : Cell) → k < length cells → get_or cells k c ≡ c → has cells c ≡ true
        member k c low at = list_any_at (same_cell c) cells k c low (ap (same_cell c) at ∙ same_cell-itself c)

        left : Any (λ (c : Cell). c.x ≡ b.left) cells → (b.left -ℤ pos p) ≤ℤ (b.left +ℤ dx)
        left (k, c, low, at, same) =
            let in_box : (b.left -ℤ pos p) ≤ℤ (c.x +ℤ dx) = (moved c (member k c low at)).left in omega (arith, ints, same, in_box)

        right : Any (λ (c : Cell). c.x ≡ b.right) cells → (b.right +ℤ dx) ≤ℤ (b.right +ℤ pos p)
        right (k, c, low, at, same) =
            let in_box : (c.x +ℤ dx) ≤ℤ (b.right +ℤ pos p) = (moved c (member k c low at)).right in omega (arith, ints, same, in_box)

        top : Any (λ (c : Cell). c.y ≡ b.top) cells → (b.top -ℤ pos p) ≤ℤ (b.top +ℤ dy)
        top (k, c, low, at, same) =
            let in_box : (b.top -ℤ pos p) ≤ℤ (c.y +ℤ dy) = (moved c (member k c low at)).top in omega (arith, ints, same, in_box)

        bottom : Any (λ (c : Cell). c.y ≡ b.bottom) cells → (b.bottom +ℤ dy) ≤ℤ (b.bottom +ℤ pos p)
        bottom (k, c, low, at, same) =
            let in_box : (c.y +ℤ dy) ≤ℤ (b.bottom +ℤ pos p) = (moved c (member k c low at)).bottom in omega (arith, ints, same, in_box)

        across : (b.left -ℤ pos p) ≤ℤ (b.left +ℤ dx) → (b.right +ℤ dx) ≤ℤ (b.right +ℤ pos p) → unsigned_abs dx ≤ p
        across low high = omega (arith, ints)

        down : (b.top -ℤ pos p) ≤ℤ (b.top +ℤ dy) → (b.bottom +ℤ dy) ≤ℤ (b.bottom +ℤ pos p) → unsigned_abs dy ≤ p
        down low high = omega (arith, ints)

-- if a test in 64-bit numbers says that p is at most twice d, and d is at most v, then p is at most twice v
pub half_by_test : (p d v : ℤ) → FitsSigned w64 p → FitsSigned w64 d → FitsSigned w64 (pos 2 *ℤ d)
    → IsTrue (int_le (to_z w64 (of_z w64 p)) (to_z w64 (of_z w64 (pos 2 *ℤ to_z w64 (of_z w64 d))))) → d ≤ℤ v → p ≤ℤ (pos 2 *ℤ v)
half_by_test p d v p_fits d_fits twice_fits test low =
    further (at_most p (pos 2 *ℤ d) (subst (λ (a : ℤ). IsTrue (int_le a (pos 2 *ℤ d))) (to_z-of_z w64 p p_fits)
    (subst (λ (a : ℤ). IsTrue (int_le (to_z w64 (of_z w64 p)) a))
    (ap (λ (a : ℤ). to_z w64 (of_z w64 (pos 2 *ℤ a))) (to_z-of_z w64 d d_fits) ∙ to_z-of_z w64 (pos 2 *ℤ d) twice_fits) test)))
  where
    at_most : (a b : ℤ) → IsTrue (int_le a b) → a ≤ℤ b
    at_most a b t = grind (arith, ints)

    further : p ≤ℤ (pos 2 *ℤ d) → p ≤ℤ (pos 2 *ℤ v)
    further q = omega (arith, ints)

-- ---- where a spaceship is

-- n steps by d make the product n * d
pub times-product : (n : ℕ) (d : ℤ) → times n d ≡ pos n *ℤ d
times-product zero d = sym (zero-*ℤ d)
times-product (suc n) d = ap (λ (t : ℤ). t +ℤ d) (times-product n d) ∙ sym (suc_ℤ-*ℤ (pos n) d)

-- at any age, a spaceship is one of its phases, displaced once for each whole period
pub spaceship_by_cycles : (rule : Numbers) (r : Recurrence) (cells : List Cell) (age : ℕ) → IsSpaceship rule r cells
    → after rule cells age ≡ shifted (times (age / r.period) r.dx) (times (age / r.period) r.dy) (after rule cells (age % r.period))
spaceship_by_cycles rule r cells age is =
    ap (after rule cells) (sym (div-add-mod' age r.period))
    ∙ after_cycles rule cells r.period r.dx r.dy is.in_order is.back (age / r.period) (age % r.period)

-- the phase, displaced once for each whole period, is the spaceship at this age
pub spaceship_moved : (rule : Numbers) (r : Recurrence) (cells phase result : List Cell) (age : ℕ) (x y dx dy : ℤ) → IsSpaceship rule r cells
    → phase ≡ after rule cells (age % r.period) → x ≡ times (age / r.period) dx → y ≡ times (age / r.period) dy → dx ≡ r.dx → dy ≡ r.dy
    → result ≡ shifted x y phase → result ≡ after rule cells age
spaceship_moved rule r cells phase result age x y dx dy is is_phase is_x is_y is_dx is_dy made =
    made ∙ (λ i. shifted ((is_x ∙ ap (times (age / r.period)) is_dx) i) ((is_y ∙ ap (times (age / r.period)) is_dy) i) (is_phase i))
    ∙ sym (spaceship_by_cycles rule r cells age is)
