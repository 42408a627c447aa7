-- The least text of several groups of texts, found group by group. There is a group for each orientation of a phase, or
-- for each phase of a pattern.
use Rattle.std.proofs.Common.{◌≡◌, ◌≢◌, ◌∙◌, sym, ap, refl, subst, ℕ, ◌+◌, ◌<◌, ◌≤◌, List, [], length, get_or, Option, None, Some, arith}
use Rattle.std.proofs.Common.{eq-or-lt_of_le, inl, inr, ◌⊎◌, Ordering, Less, Equal, Greater, is_le, IsTrue}
use Rattle.std.proofs.lemmas.Cmp.{nat_cmp_total, nat_list_cmp_total, on_total, then_total}
use Rattle.std.specs.BTreeMap.Comparable.{le_lt_trans}
use Rattle.std.specs.Cmp.{IsTotalOrder}
use Rattle.std.specs.Prelude.{IfSome}
use Rattle.std.specs.Ordering.{match_ordering, ordering_reverse}
use Rattle.code_core.specs.Names.{IsCode, IsImageText, IsLeastOf, text_cmp}
use Rattle.code_core.specs.declared.recurrence.Recurrence.{Recurrence}
use Rattle.code_core.specs.Recurrences.{IsCycle, phases}
use Rattle.code_core.specs.Texts.{HasTextShape, text}
use Rattle.std.proofs.lemmas.List.FromFn.{get_or-map-range_with_len, length-map-range_with_len}
use Rattle.plane_core.specs.declared.plane.cell.Cell.{Cell}
use Rattle.plane_core.specs.plane.Generations.{after}
use Rattle.plane_core.specs.plane.Orientations.{orientations, turned}
use Rattle.plane_core.specs.plane.Rules.{Numbers}
use Rattle.plane_core.specs.declared.plane.orientation.Orientation.TheVariants.{Same, Quarter, Half, ThreeQuarter, Mirror, Flip, Diagonal, AntiDiagonal}
use Rattle.code_core.specs.Least.{Among, IsImage, IsImageAt, IsImageOf, IsNameBy, earlier_text}
use Rattle.code_core.proofs.TextLaw.{texts_have_their_shape}

-- the order of texts is total
pub text_cmp_total : IsTotalOrder text_cmp
text_cmp_total = then_total (on_total length nat_cmp_total) nat_list_cmp_total

not_greater : (o : Ordering) → o ≢ Greater → IsTrue (is_le o)
not_greater Less h = refl
not_greater Equal h = refl
not_greater Greater h = absurd (h refl)

-- a text doesn't come after itself
text_cmp-itself : (a : List ℕ) → text_cmp a a ≢ Greater
text_cmp-itself a e =
    let turned : text_cmp a a ≡ ordering_reverse (text_cmp a a) = text_cmp_total.antisymm a a in
    go (text_cmp a a) turned e
  where
    go : (o : Ordering) → o ≡ ordering_reverse o → o ≢ Greater
    go Less is e = cc
    go Equal is e = cc
    go Greater is e = cc

-- if a doesn't come after b, and b doesn't come after c, then a doesn't come after c
pub text_cmp-onward : (a b c : List ℕ) → text_cmp a b ≢ Greater → text_cmp b c ≢ Greater → text_cmp a c ≢ Greater
text_cmp-onward a b c first second = go (text_cmp b c) refl
  where
    go : (o : Ordering) → text_cmp b c ≡ o → text_cmp a c ≢ Greater
    go Less is e =
        let less : text_cmp a c ≡ Less = le_lt_trans text_cmp_total a b c (not_greater (text_cmp a b) first) is in
        cc
    go Equal is e =
        let same : text_cmp a b ≡ text_cmp a c = text_cmp_total.antisymm a b ∙ ap ordering_reverse (text_cmp_total.congr b c a is)
        ∙ sym (text_cmp_total.antisymm a c) in
        first (same ∙ e)
    go Greater is e = second is

-- if there is at most one text, it is the least
pub least_of_one : (o : Option (List ℕ)) → IsLeastOf (λ (t : List ℕ). o ≡ Some t) o
least_of_one None = λ t one. cc
least_of_one (Some a) = (refl, λ t one. alone t cc)
  where
    alone : (t : List ℕ) → a ≡ t → text_cmp a t ≢ Greater
    alone t is = subst (λ (u : List ℕ). text_cmp a u ≢ Greater) is (text_cmp-itself a)

-- the least text depends only on which texts there are
pub least_of_same : (P Q : List ℕ → Type 0) (o : Option (List ℕ)) → ((t : List ℕ) → P t → Q t) → ((t : List ℕ) → Q t → P t) → IsLeastOf P o → IsLeastOf Q o
least_of_same P Q None there back h = λ t q. h t (back t q)
least_of_same P Q (Some a) there back h = (there a h.0, λ t q. h.1 t (back t q))

among_cases : (IsIn : ℕ → List ℕ → Type 0) (n : ℕ) (t : List ℕ) → Among IsIn (n + 1) t → Among IsIn n t ⊎ IsIn n t
among_cases IsIn n t (k, low, is) =
    elim (eq-or-lt_of_le (below k n low)) [ inl e ↦ inr (subst (λ (j : ℕ). IsIn j t) e is) | inr less ↦ inl (k, less, is) ]
  where
    below : (k n : ℕ) → k < n + 1 → k ≤ n
    below k n low = omega arith

-- the least text of a union is the earlier of the two least texts
first_of_two : (P Q R : List ℕ → Type 0) (a b : Option (List ℕ)) → ((t : List ℕ) → P t → R t) → ((t : List ℕ) → Q t → R t) → ((t : List ℕ) → R t → P t ⊎ Q t)
    → IsLeastOf P a → IsLeastOf Q b → IsLeastOf R (earlier_text a b)
first_of_two P Q R None None left right split p q = λ t r. elim (split t r) [ inl is ↦ p t is | inr is ↦ q t is ]
first_of_two P Q R None (Some b) left right split p q = (right b q.0, λ t r. elim (split t r) [ inl is ↦ absurd (p t is) | inr is ↦ q.1 t is ])
first_of_two P Q R (Some a) None left right split p q = (left a p.0, λ t r. elim (split t r) [ inl is ↦ p.1 t is | inr is ↦ absurd (q t is) ])
first_of_two P Q R (Some a) (Some b) left right split p q = go (text_cmp a b) refl
  where
    stays : text_cmp a b ≢ Greater → IsLeastOf R (Some a)
    stays low = (left a p.0, λ t r. elim (split t r) [ inl is ↦ p.1 t is | inr is ↦ text_cmp-onward a b t low (q.1 t is) ])

    turned : text_cmp a b ≡ Greater → text_cmp b a ≢ Greater
    turned is e =
        let back : text_cmp a b ≡ ordering_reverse (text_cmp b a) = text_cmp_total.antisymm a b in
        let less : text_cmp a b ≡ Less = back ∙ ap ordering_reverse e in
        cc

    changes : text_cmp a b ≡ Greater → IsLeastOf R (Some b)
    changes is = (right b q.0, λ t r. elim (split t r) [ inl one ↦ text_cmp-onward b a t (turned is) (p.1 t one) | inr other ↦ q.1 t other ])

    go : (o : Ordering) → text_cmp a b ≡ o → IsLeastOf R (match_ordering o (Some a) (Some a) (Some b))
    go Less is = stays (λ e. cc)
    go Equal is = stays (λ e. cc)
    go Greater is = changes is

-- the least text of n + 1 groups is the earlier of two texts: the least text of the first n groups, and the least text
-- of the last group
pub least_of_more : (IsIn : ℕ → List ℕ → Type 0) (n : ℕ) (a b : Option (List ℕ)) → IsLeastOf (Among IsIn n) a → IsLeastOf (IsIn n) b
    → IsLeastOf (Among IsIn (n + 1)) (earlier_text a b)
least_of_more IsIn n a b p q = first_of_two (Among IsIn n) (IsIn n) (Among IsIn (n + 1)) a b (λ t one. (one.0, omega (arith, one.1), one.2))
    (λ t one. (n, omega arith, one)) (among_cases IsIn n) p q

-- the image texts of a pattern are those in the eight listed orientations
pub images_listed : (cells : List Cell) (t : List ℕ) → Among (IsImageAt orientations cells) 8 t → IsImage cells t
images_listed cells t (k, low, is) = (get_or orientations k Same, is)

pub images_reached : (cells : List Cell) (t : List ℕ) → IsImage cells t → Among (IsImageAt orientations cells) 8 t
images_reached cells t (Same, is) = (0, omega arith, is)
images_reached cells t (Quarter, is) = (1, omega arith, is)
images_reached cells t (Half, is) = (2, omega arith, is)
images_reached cells t (ThreeQuarter, is) = (3, omega arith, is)
images_reached cells t (Mirror, is) = (4, omega arith, is)
images_reached cells t (Flip, is) = (5, omega arith, is)
images_reached cells t (Diagonal, is) = (6, omega arith, is)
images_reached cells t (AntiDiagonal, is) = (7, omega arith, is)

-- the least image text in the eight listed orientations is the least of all image texts
pub least_of_all : (cells : List Cell) (o : Option (List ℕ)) → IsLeastOf (Among (IsImageAt orientations cells) 8) o → IsLeastOf (IsImage cells) o
least_of_all cells o h = least_of_same (Among (IsImageAt orientations cells) 8) (IsImage cells) o (images_listed cells) (images_reached cells) h

-- the image texts of the listed phases are the image texts of the pattern's first n generations
phase_images : (rule : Numbers) (cells : List Cell) (n : ℕ) (t : List ℕ) → Among (IsImageOf (phases rule cells n)) n t → IsImageText rule cells n t
unfolding phases
phase_images rule cells n t (k, low, (o, is)) =
    record {
      phase = k;
      orientation = o;
      within = low;
      is = subst (λ (S : List Cell). text (turned o S) ≡ Some t)
          (get_or-map-range_with_len (after rule cells) 0 n k k [] low (omega arith)) is;
    }

image_phases : (rule : Numbers) (cells : List Cell) (n : ℕ) (t : List ℕ) → IsImageText rule cells n t → Among (IsImageOf (phases rule cells n)) n t
unfolding phases
image_phases rule cells n t one = (
  one.phase,
  one.within,
  (
    one.orientation,
    subst (λ (S : List Cell). text (turned one.orientation S) ≡ Some t)
        (sym (get_or-map-range_with_len (after rule cells) 0 n one.phase one.phase [] one.within (omega arith))) one.is,
  ),
)

-- the phase at place g is generation g, and there are n phases
pub phase_at : (rule : Numbers) (cells : List Cell) (n g : ℕ) (d : List Cell) → g < n → get_or (phases rule cells n) g d ≡ after rule cells g
unfolding phases
phase_at rule cells n g d low = get_or-map-range_with_len (after rule cells) 0 n g g d low (omega arith)

pub phase_count : (rule : Numbers) (cells : List Cell) (n : ℕ) → length (phases rule cells n) ≡ n
unfolding phases
phase_count rule cells n = length-map-range_with_len (after rule cells) 0 n

-- the least image text of the listed phases is the least image text of the pattern
pub least_of_phases : (rule : Numbers) (cells : List Cell) (n : ℕ) (o : Option (List ℕ))
    → IsLeastOf (Among (IsImageOf (phases rule cells n)) (length (phases rule cells n))) o → IsLeastOf (IsImageText rule cells n) o
least_of_phases rule cells n o h =
    least_of_same (Among (IsImageOf (phases rule cells n)) n) (IsImageText rule cells n) o (phase_images rule cells n) (image_phases rule cells n)
    (subst (λ (m : ℕ). IsLeastOf (Among (IsImageOf (phases rule cells n)) m) o) (phase_count rule cells n) h)

-- the least image text of the phases has the shape of texts
pub shape_of_least : (phases : List (List Cell)) (o : Option (List ℕ)) → IsLeastOf (Among (IsImageOf phases) (length phases)) o → IfSome o HasTextShape
shape_of_least phases None h = tt
shape_of_least phases (Some t) ((k, low, (o, is)), first) = texts_have_their_shape (turned o (get_or phases k [])) t is

-- the apgcode made from the phases is the apgcode of the pattern
pub named_by : (rule : Numbers) (cells : List Cell) (limit : ℕ) (found : List (List Cell)) (r : Recurrence) (code : List ℕ) → IsCycle rule cells limit found r
    → IsNameBy cells found r code → IsCode rule cells limit code
named_by rule cells limit found r code is told = record {
  recurrence = r;
  recurs = is.recurs;
  least = told.least;
  is_least = least_of_phases rule cells r.period told.least
      (subst (λ (each : List (List Cell)). IsLeastOf (Among (IsImageOf each) (length each)) told.least) is.phases told.is_least);
  spelled = told.spelled;
}
