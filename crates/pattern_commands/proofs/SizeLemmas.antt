-- The box of two appended lists of cells, and the lines that `run --sizes` writes.
use Rattle.std.proofs.Common.{◌≡◌, ◌∙◌, ◌+◌, ◌-◌, ◌≤◌, ◌++◌, ℕ, ℤ, zero, suc, List, [], ◌∷◌, Option, None, Some, append-nil, append_assoc, ap, arith, refl, sym}
use Rattle.std.proofs.lemmas.Int.{clamps, ints}
use Rattle.std.specs.Int.{int_max, int_min}
use Rattle.plane_core.specs.declared.plane.bounds.Bounds.{Bounds}
use Rattle.plane_core.specs.declared.plane.cell.Cell.{Cell}
use Rattle.plane_core.specs.plane.Bounds.{IsRoundBoth, box_of, grown}
use Rattle.plane_core.specs.plane.Generations.{after}
use Rattle.plane_core.specs.plane.Rules.{Numbers}
use Rattle.plane_core.proofs.lemmas.plane.RunLemmas.{after-plus}
use Rattle.pattern_commands.specs.SizeSteps.{later_sizes}
use Rattle.pattern_commands.specs.Sizes.{size_line, sizes_text}

-- ---- boxes

min_assoc : (a b c : ℤ) → int_min a (int_min b c) ≡ int_min (int_min a b) c
min_assoc a b c = omega (arith, ints, clamps)

max_assoc : (a b c : ℤ) → int_max a (int_max b c) ≡ int_max (int_max a b) c
max_assoc a b c = omega (arith, ints, clamps)

-- the smallest box around both boxes
abbrev pub both : Bounds → Bounds → Bounds
both a b = record {
  left = int_min a.left b.left;
  top = int_min a.top b.top;
  right = int_max a.right b.right;
  bottom = int_max a.bottom b.bottom;
}

abbrev pub joined_box : Option Bounds → Option Bounds → Option Bounds
joined_box None other = other
joined_box (Some a) None = Some a
joined_box (Some a) (Some b) = Some (both a b)

pub round_both : (a b r : Bounds) → IsRoundBoth a b r → r ≡ both a b
round_both a b r is i = record { left = is.left i; top = is.top i; right = is.right i; bottom = is.bottom i }

grown_joined : (c : Cell) (one other : Option Bounds) → Some (grown c (joined_box one other)) ≡ joined_box (Some (grown c one)) other
grown_joined c None None = refl
grown_joined c None (Some b) = refl
grown_joined c (Some a) None = refl
grown_joined c (Some a) (Some b) = λ i. Some (record {
  left = min_assoc c.x a.left b.left i;
  top = min_assoc c.y a.top b.top i;
  right = max_assoc c.x a.right b.right i;
  bottom = max_assoc c.y a.bottom b.bottom i;
})

box_of-append : (cs ds : List Cell) → box_of (cs ++ ds) ≡ joined_box (box_of cs) (box_of ds)
box_of-append [] ds = refl
box_of-append (c ∷ cs) ds = ap (λ (b : Option Bounds). Some (grown c b)) (box_of-append cs ds) ∙ grown_joined c (box_of cs) (box_of ds)

-- the box of two appended lists of cells is the box around their boxes
pub box_together : (one other : Option Bounds) (cs ds : List Cell) → one ≡ box_of cs → other ≡ box_of ds → joined_box one other ≡ box_of (cs ++ ds)
box_together one other cs ds is so = (λ i. joined_box (is i) (so i)) ∙ sym (box_of-append cs ds)

-- ---- lines

pub later_none : (rule : Numbers) (cells : List Cell) (g : ℕ) → later_sizes rule cells g 0 ≡ []
unfolding later_sizes
later_none rule cells g = refl

pub later_more : (rule : Numbers) (cells : List Cell) (g n : ℕ)
    → later_sizes rule cells g (suc n) ≡ later_sizes rule cells g n ++ size_line (g + suc n) (after rule cells (suc n))
unfolding later_sizes
later_more rule cells g n = refl

-- the lines of k + m generations are those of the first k, followed by those of the next m
pub later_then : (rule : Numbers) (cells : List Cell) (g k m : ℕ)
    → later_sizes rule cells g (k + m) ≡ later_sizes rule cells g k ++ later_sizes rule (after rule cells k) (g + k) m
later_then rule cells g k zero =
    let none : k + 0 ≡ k = omega arith in
    ap (later_sizes rule cells g) none ∙ sym (append-nil (later_sizes rule cells g k))
    ∙ ap (λ (text : List ℕ). later_sizes rule cells g k ++ text) (sym (later_none rule (after rule cells k) (g + k)))
later_then rule cells g k (suc m) =
    let next : k + suc m ≡ suc (k + m) = omega arith in
    let here : g + suc (k + m) ≡ g + k + suc m = omega arith in
    ap (later_sizes rule cells g) next
    ∙ later_more rule cells g (k + m)
    ∙ (λ i. later_then rule cells g k m i
    ++ size_line (here i) (((ap (λ (n : ℕ). after rule cells n) (sym next)) ∙ sym (after-plus rule cells k (suc m))) i))
    ∙ append_assoc (later_sizes rule cells g k) (later_sizes rule (after rule cells k) (g + k) m)
    (size_line (g + k + suc m) (after rule (after rule cells k) (suc m)))
    ∙ ap (λ (text : List ℕ). later_sizes rule cells g k ++ text) (sym (later_more rule (after rule cells k) (g + k) m))

-- the lines of the first k generations are a prefix of the lines of n generations
pub later_rest : (rule : Numbers) (cells : List Cell) (g k n : ℕ) → k ≤ n
    → later_sizes rule cells g n ≡ later_sizes rule cells g k ++ later_sizes rule (after rule cells k) (g + k) (n - k)
later_rest rule cells g k n low =
    let parts : n ≡ k + (n - k) = omega arith in
    ap (later_sizes rule cells g) parts ∙ later_then rule cells g k (n - k)

text_more : (rule : Numbers) (cells : List Cell) (from n : ℕ)
    → sizes_text rule cells from (suc n) ≡ sizes_text rule cells from n ++ size_line (from + n) (after rule cells (from + n))
unfolding sizes_text
text_more rule cells from n = refl

text_none : (rule : Numbers) (cells : List Cell) (from : ℕ) → sizes_text rule cells from 0 ≡ []
unfolding sizes_text
text_none rule cells from = refl

-- the text of `n + 1` generations is the line of the first, followed by the lines of the `n` generations after it
pub text_later : (rule : Numbers) (cells : List Cell) (from n : ℕ)
    → sizes_text rule cells from (suc n) ≡ size_line from (after rule cells from) ++ later_sizes rule (after rule cells from) from n
text_later rule cells from zero =
    let here : from + 0 ≡ from = omega arith in
    text_more rule cells from 0 ∙ (λ i. text_none rule cells from i ++ size_line (here i) (after rule cells (here i)))
    ∙ sym (append-nil (size_line from (after rule cells from)))
    ∙ ap (λ (text : List ℕ). size_line from (after rule cells from) ++ text) (sym (later_none rule (after rule cells from) from))
text_later rule cells from (suc n) =
    text_more rule cells from (suc n)
    ∙ (λ i. text_later rule cells from n i ++ size_line (from + suc n) (sym (after-plus rule cells from (suc n)) i))
    ∙ append_assoc (size_line from (after rule cells from)) (later_sizes rule (after rule cells from) from n)
    (size_line (from + suc n) (after rule (after rule cells from) (suc n)))
    ∙ ap (λ (text : List ℕ). size_line from (after rule cells from) ++ text) (sym (later_more rule (after rule cells from) from n))
