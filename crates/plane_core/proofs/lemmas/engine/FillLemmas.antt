-- Cells that are put on a board, one after another.
use Rattle.std.proofs.Common.{◌≡◌, ◌≢◌, ◌==◌, ◌+◌, ◌*◌, ◌/◌, ◌%◌, ◌^◌, ◌<◌, ℕ}
use Rattle.std.proofs.Common.{pos, ◌-ℤ◌, zero, suc, Bool, true, false, ◌||◌, List, [], ◌∷◌, ◌++◌}
use Rattle.std.proofs.Common.{arith, refl, ap, ◌∙◌, sym, subst, inl, inr, ◌⊎◌}
use Rattle.std.proofs.Common.{slice_index, get_or, set, get_or-set_same, get_or-set_other, length, bit_or, w64, take, replicate}
use Rattle.std.specs.Int.{bit_at}
use Rattle.std.proofs.lemmas.List.{take_more}
use Rattle.std.proofs.lemmas.Nat.Bits.{bit_at-zero, bit_at_set_same, bit_at_set_other}
use Rattle.plane_core.specs.declared.engine.frame.Frame.{Frame}
use Rattle.plane_core.specs.declared.plane.cell.Cell.{Cell}
use Rattle.plane_core.specs.plane.Bounds.{IsWithin}
use Rattle.plane_core.specs.plane.Cells.{has, same_cell}
use Rattle.plane_core.specs.engine.Frames.{Shows, bounds_of, board_cell, word_of}
use Rattle.plane_core.proofs.lemmas.plane.CaseLemmas.{same_or_not}
use Rattle.plane_core.proofs.lemmas.plane.CellLemmas.{same_cell-itself, same_cell-same}
use Rattle.plane_core.proofs.lemmas.engine.FrameLemmas.{one_spot, one_word, spot_inside, spot_of, word-inside}
use Rattle.plane_core.proofs.lemmas.plane.SetLemmas.{has-append, has-head, or_right}

-- ---- one more cell

or_none : (a : Bool) → (a || (false || false)) ≡ a
or_none true = refl
or_none false = refl

or_one : (a : Bool) → (a || (true || false)) ≡ true
or_one true = refl
or_one false = refl

pub shown_more : (at : Frame) (ws : List ℕ) (S : List Cell) (c : Cell) (s d i : ℕ) → s < at.word_columns → d < at.rows → i < 64 → c ≡ board_cell at s d i
    → word_of at s d < length ws → Shows at ws S
    → Shows at (set ws (word_of at s d) (bit_or (get_or ws (word_of at s d) 0) (1 * 2 ^ i % 2 ^ 64))) (S ++ c ∷ [])
shown_more at ws S c s d i hs hd hi is low shown t y k ht hy hk = has-append S (c ∷ []) p ∙ row (same_or_not (word_of at t y) (word_of at s d))
  where
    p : Cell
    p = board_cell at t y k

    m : ℕ
    m = word_of at s d

    new : ℕ
    new = bit_or (get_or ws m 0) (1 * 2 ^ i % 2 ^ 64)

    hit : (b : Bool) → same_cell p c ≡ b → b ≡ true → (t ≡ s) × (y ≡ d) × (k ≡ i)
    hit b e true_is = one_spot at t y k s d i hk hi (same_cell-same p c (e ∙ true_is) ∙ is)

    missed : (b : Bool) → same_cell p c ≡ b → ((t ≡ s) × (y ≡ d) × (k ≡ i) → ⊥) → (has S p || (b || false)) ≡ has S p
    missed false e apart = or_none (has S p)
    missed true e apart = absurd (apart (hit true e refl))

    kept : (w : ℕ) → w ≡ slice_index ws (word_of at t y) → ((t ≡ s) × (y ≡ d) × (k ≡ i) → ⊥) → (has S p || (same_cell p c || false)) ≡ (bit_at w k == 1)
    kept w same apart = missed (same_cell p c) refl apart ∙ shown t y k ht hy hk ∙ ap (λ (n : ℕ). bit_at n k == 1) (sym same)

    bit : (word_of at t y ≡ m) → (t ≡ s) × (y ≡ d) → (k ≡ i) ⊎ (k ≢ i) → (has S p || (same_cell p c || false)) ≡ (bit_at new k == 1)
    bit here (a, b) (inl same) =
        let cell : p ≡ c = (λ j. board_cell at (a j) (b j) (same j)) ∙ sym is in
        let one : bit_at new k ≡ 1 = ap (λ (n : ℕ). bit_at new n) same ∙ bit_at_set_same w64 (get_or ws m 0) i hi in
        ap (λ (b : Bool). has S p || (b || false)) (ap (λ (e : Cell). same_cell p e) (sym cell) ∙ same_cell-itself p) ∙ or_one (has S p)
        ∙ ap (λ (n : ℕ). n == 1) (sym one)
    bit here (a, b) (inr apart) =
        missed (same_cell p c) refl (λ (u, v, w). apart w) ∙ shown t y k ht hy hk ∙ ap (λ (n : ℕ). bit_at (slice_index ws n) k == 1) here
        ∙ ap (λ (n : ℕ). n == 1) (sym (bit_at_set_other w64 (get_or ws m 0) i hi k apart))

    row : (word_of at t y ≡ m) ⊎ (word_of at t y ≢ m)
        → (has S p || (same_cell p c || false)) ≡ (bit_at (slice_index (set ws m new) (word_of at t y)) k == 1)
    row (inl here) =
        bit here (one_word at.rows t y s d here hy hd) (same_or_not k i)
        ∙ ap (λ (w : ℕ). bit_at w k == 1) (sym (ap (λ (n : ℕ). slice_index (set ws m new) n) here ∙ get_or-set_same ws m new 0 low))
    row (inr apart) = kept (slice_index (set ws m new) (word_of at t y)) (get_or-set_other ws m (word_of at t y) new 0 apart)
        (λ (u, v, w). apart (λ j. word_of at (u j) (v j)))

-- ---- the cells of a list

pub has-at : (cs : List Cell) (i : ℕ) (d : Cell) → i < length cs → has cs (get_or cs i d) ≡ true
has-at [] i d low = absurd (omega arith)
has-at (c ∷ cs) zero d low = has-head c cs
has-at (c ∷ cs) (suc i) d low = or_right (same_cell (get_or cs i d) c) (has cs (get_or cs i d)) (has-at cs i d (omega arith))

pub shown-empty : (at : Frame) (ws : List ℕ) → ((i : ℕ) → slice_index ws i ≡ 0) → Shows at ws []
shown-empty at ws none s r i hs hr hi = ap (λ (n : ℕ). n == 1) (sym (ap (λ (w : ℕ). bit_at w i) (none (word_of at s r)) ∙ bit_at-zero i))

pub put_shown : (at : Frame) (ws : List ℕ) (S : List Cell) (c : Cell) (a d m : ℕ) → length ws ≡ at.word_columns * at.rows → IsWithin (bounds_of at) c
    → pos a ≡ c.x -ℤ at.left → pos d ≡ c.y -ℤ at.top → m ≡ word_of at (a / 64) d → Shows at ws S
    → Shows at (set ws m (bit_or (get_or ws m 0) (1 * 2 ^ (a % 64) % 2 ^ 64))) (S ++ c ∷ [])
put_shown at ws S c a d m long within p q is shown =
    let hs : a / 64 < at.word_columns = (spot_inside at c a d within p q).0 in
    let hd : d < at.rows = (spot_inside at c a d within p q).1 in
    let low : word_of at (a / 64) d < length ws = omega (arith, word-inside at (a / 64) d hs hd) in
    subst (λ (n : ℕ). Shows at (set ws n (bit_or (get_or ws n 0) (1 * 2 ^ (a % 64) % 2 ^ 64))) (S ++ c ∷ [])) (sym is)
    (shown_more at ws S c (a / 64) d (a % 64) hs hd (omega arith) (spot_of at c a d p q) low shown)

-- if a board shows the first i cells of a list together with cell i, it shows the first i + 1 cells
pub shown_taken : (at : Frame) (ws : List ℕ) (cs : List Cell) (i : ℕ) (d : Cell) → i < length cs → Shows at ws (take i cs ++ get_or cs i d ∷ [])
    → Shows at ws (take (i + 1) cs)
shown_taken at ws cs i d low shown = subst (λ (S : List Cell). Shows at ws S) (sym (take_more cs i d low)) shown

pub zeros : (n i : ℕ) → slice_index (replicate n 0) i ≡ 0
zeros zero i = refl
zeros (suc n) zero = refl
zeros (suc n) (suc i) = zeros n i
