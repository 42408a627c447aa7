-- Windows that are read from a board and put back.
use Rattle.std.proofs.Common.{◌≡◌, ◌≢◌, ◌==◌, ◌+◌, ◌-◌, ◌*◌, ◌/◌, ◌%◌, ◌<◌, ◌≤◌, ℕ, List, cond, length, set, slice_index}
use Rattle.std.proofs.Common.{Fits, w64, arith, refl, ap, subst, ◌∙◌, sym, inl, inr, ◌⊎◌}
use Rattle.std.specs.Int.{bit_at}
use Rattle.std.proofs.lemmas.Bool.{cases_eq, cases_lt}
use Rattle.std.proofs.lemmas.List.{get_or-set_same, get_or-set_other}
use Rattle.std.proofs.lemmas.Nat.Bits.{bit_at_mask_above, bit_at_mask_below, bit_at_mask_inside}
use Rattle.plane_core.specs.declared.engine.frame.Frame.{Frame}
use Rattle.plane_core.specs.engine.Frames.{FillsFrame, word_of}
use Rattle.plane_core.specs.engine.WindowIo.{bit_on, inner_mask, AreRowsRead, IsInnerColumn, IsInner, IsOneOfFour, AreRowsPut, IsRowPut, IsPutBack}
use Rattle.plane_core.specs.windows.Windows.{row_at}
use Rattle.plane_core.proofs.lemmas.engine.FrameLemmas.{one_word as same_spot, word-inside}
use Rattle.plane_core.proofs.lemmas.Between.{IsReadAt}

-- ---- reading

-- the list has the words of the n rows from row y on, for the word column of column x and for the next word column
pub rows_inside : (at : Frame) (words : List ℕ) (x y n : ℕ) → FillsFrame at words → x / 64 + 1 < at.word_columns → y + n ≤ at.rows
    → x / 64 * at.rows + y + at.rows + n ≤ length words
rows_inside at words x y n long low few =
    let many : at.word_columns ≡ x / 64 + 2 + (at.word_columns - (x / 64 + 2)) = omega (arith, low) in
    let whole : at.word_columns * at.rows ≡ (x / 64 + 2 + (at.word_columns - (x / 64 + 2))) * at.rows = ap (λ (m : ℕ). m * at.rows) many in
    omega (arith, long, whole, few)

-- a word that is joined from two words of the board has the bits of the board from column x on, in row y + r
pub read_word : (at : Frame) (words : List ℕ) (x y r i word : ℕ) → i < 64
    → (i + x % 64 < 64 → bit_at word i ≡ bit_at (slice_index words (x / 64 * at.rows + y + r)) (i + x % 64))
    → (64 ≤ i + x % 64 → bit_at word i ≡ bit_at (slice_index words (x / 64 * at.rows + y + at.rows + r)) (i + x % 64 - 64))
    → bit_at word i ≡ bit_on at words (x + i) (y + r)
read_word at words x y r i word low left right = split (cases_lt (i + x % 64) 64)
  where
    split : (i + x % 64 < 64) ⊎ (64 ≤ i + x % 64) → bit_at word i ≡ bit_on at words (x + i) (y + r)
    split (inl first) =
        let word_column : x / 64 ≡ (x + i) / 64 = omega arith in
        let rows : x / 64 * at.rows ≡ (x + i) / 64 * at.rows = ap (λ (m : ℕ). m * at.rows) word_column in
        let place : x / 64 * at.rows + y + r ≡ (x + i) / 64 * at.rows + (y + r) = omega arith in
        let bit : i + x % 64 ≡ (x + i) % 64 = omega arith in
        left first ∙ (λ t. bit_at (slice_index words (place t)) (bit t))
    split (inr second) =
        let word_column : x / 64 + 1 ≡ (x + i) / 64 = omega arith in
        let rows : (x / 64 + 1) * at.rows ≡ (x + i) / 64 * at.rows = ap (λ (m : ℕ). m * at.rows) word_column in
        let place : x / 64 * at.rows + y + at.rows + r ≡ (x + i) / 64 * at.rows + (y + r) = omega arith in
        let bit : i + x % 64 - 64 ≡ (x + i) % 64 = omega arith in
        right second ∙ (λ t. bit_at (slice_index words (place t)) (bit t))

-- once row r is set to the bits of the board, the first r + 1 rows have been read
pub rows_more : (at : Frame) (words : List ℕ) (x y r word : ℕ) (rows : List ℕ) → r < length rows → AreRowsRead at words x y r rows
    → ((i : ℕ) → i < 64 → bit_at word i ≡ bit_on at words (x + i) (y + r)) → AreRowsRead at words x y (r + 1) (set rows r word)
rows_more at words x y r word rows within read new q i low inside = split (cases_eq q r)
  where
    split : (q ≡ r) ⊎ (q ≡ r → ⊥) → bit_at (slice_index (set rows r word) q) i ≡ bit_on at words (x + i) (y + q)
    split (inl e) =
        ap (λ (p : ℕ). bit_at (slice_index (set rows r word) p) i) e
        ∙ ap (λ (w : ℕ). bit_at w i) (get_or-set_same rows r word 0 within)
        ∙ new i inside
        ∙ ap (λ (p : ℕ). bit_on at words (x + i) (y + p)) (sym e)
    split (inr apart) = ap (λ (w : ℕ). bit_at w i) (get_or-set_other rows r q word 0 apart) ∙ read q i (omega arith) inside

-- once rows r to r + 3 are set to the bits of the board, the first r + 4 rows have been read
pub four_rows_read : (at : Frame) (words : List ℕ) (x y r : ℕ) (rows new : List ℕ) → AreRowsRead at words x y r rows
    → ((m : ℕ) → (m < r) ⊎ (r + 4 ≤ m) → slice_index new m ≡ slice_index rows m)
    → ((j i : ℕ) → j < 4 → i < 64 → bit_at (slice_index new (r + j)) i ≡ bit_on at words (x + i) (y + (r + j))) → AreRowsRead at words x y (r + 4) new
four_rows_read at words x y r rows new read others made q i low inside = split (cases_lt q r)
  where
    split : (q < r) ⊎ (r ≤ q) → bit_at (slice_index new q) i ≡ bit_on at words (x + i) (y + q)
    split (inl less) = ap (λ (w : ℕ). bit_at w i) (others q (inl less)) ∙ read q i less inside
    split (inr least) =
        let is : r + (q - r) ≡ q = omega arith in
        subst (λ (m : ℕ). bit_at (slice_index new m) i ≡ bit_on at words (x + i) (y + m)) is (made (q - r) i (omega arith) inside)

-- a window that is packed from rows that were read has the bits of the board
pub read_packed : (at : Frame) (words : List ℕ) (x y n : ℕ) (rows : List ℕ) (window : List (List ℕ)) → AreRowsRead at words x y (4 * n) rows
    → ((r : ℕ) → r < 4 * n → row_at n window r ≡ slice_index rows r) → IsReadAt at words x y n window
read_packed at words x y n rows window read packed r i low inside = ap (λ (w : ℕ). bit_at w i) (packed r low) ∙ read r i low inside

-- ---- putting back

-- bit i of the mask is 1 if column i is an inner column, and otherwise 0
pub inner_bit : (i : ℕ) → ((bit_at inner_mask i ≡ 1) × (4 ≤ i) × (i < 60)) ⊎ ((bit_at inner_mask i ≡ 0) × (4 ≤ i → i < 60 → ⊥))
inner_bit i = split (cases_lt i 4) (cases_lt i 60)
  where
    split : (i < 4) ⊎ (4 ≤ i) → (i < 60) ⊎ (60 ≤ i) → ((bit_at inner_mask i ≡ 1) × (4 ≤ i) × (i < 60)) ⊎ ((bit_at inner_mask i ≡ 0) × (4 ≤ i → i < 60 → ⊥))
    split (inl left) v = inr (bit_at_mask_below 4 60 i left, λ a b. absurd (omega arith))
    split (inr low) (inl high) = inl (bit_at_mask_inside 4 60 i low high, low, high)
    split (inr low) (inr right) = inr (bit_at_mask_above 4 60 i right, λ a b. absurd (omega arith))

chosen_yes : (t y n : ℕ) → t ≡ 1 → cond (t == 1) y n ≡ y
chosen_yes t y n e = ap (λ (m : ℕ). cond (m == 1) y n) e

chosen_no : (t y n : ℕ) → t ≡ 0 → cond (t == 1) y n ≡ n
chosen_no t y n e = ap (λ (m : ℕ). cond (m == 1) y n) e

-- one bit of the board is replaced by an inner bit of the word, or it is unchanged
abbrev IsOnePut : ℕ → ℕ → ℕ → ℕ → ℕ → ℕ → ℕ → Type 0
IsOnePut x y word old new u v =
    ((c : IsInnerColumn x u) × (v ≡ y) × (new ≡ bit_at word c.i)) ⊎ ((IsInnerColumn x u → v ≢ y) × (new ≡ old))

-- a bit of the board in column i of the window, in the row that is put back, is replaced by bit i of the word if i is
-- an inner column, and is otherwise unchanged
put_there : (x y word old new u v i mask value : ℕ) → v ≡ y → (i < 64 → u ≡ x + i) → (IsInnerColumn x u → u ≡ x + i)
    → mask ≡ bit_at inner_mask i → value ≡ bit_at word i → new ≡ cond (mask == 1) value old → IsOnePut x y word old new u v
put_there x y word old new u v i mask value row there back m w is = split (inner_bit i)
  where
    split : ((bit_at inner_mask i ≡ 1) × (4 ≤ i) × (i < 60)) ⊎ ((bit_at inner_mask i ≡ 0) × (4 ≤ i → i < 60 → ⊥)) → IsOnePut x y word old new u v
    split (inl (one, low, high)) =
        inl (record { i = i; low = low; high = high; is = there (omega arith) }, row, is ∙ chosen_yes mask value old (m ∙ one) ∙ w)
    split (inr (none, outside)) =
        inr (
          (λ c e. let at : u ≡ x + i = back c in let a = c.is in let b = c.low in let d = c.high in
              outside (omega arith) (omega arith)),
          is ∙ chosen_no mask value old (m ∙ none),
        )

-- putting a row back into two words replaces a bit of the board by an inner bit of the row, or leaves it unchanged
pub place_put : (at : Frame) (x y word m1 v1 m2 v2 u v old new : ℕ) → y < at.rows → v < at.rows
    → ((i : ℕ) → i < x % 64 → bit_at m1 i ≡ 0) → ((i : ℕ) → x % 64 ≤ i → i < 64 → bit_at m1 i ≡ bit_at inner_mask (i - x % 64))
    → ((i : ℕ) → x % 64 ≤ i → i < 64 → bit_at v1 i ≡ bit_at word (i - x % 64))
    → ((i : ℕ) → bit_at m2 i ≡ bit_at inner_mask (i + 64 - x % 64)) → ((i : ℕ) → bit_at v2 i ≡ bit_at word (i + 64 - x % 64))
    → (word_of at (u / 64) v ≡ x / 64 * at.rows + y → new ≡ cond (bit_at m1 (u % 64) == 1) (bit_at v1 (u % 64)) old)
    → (word_of at (u / 64) v ≡ x / 64 * at.rows + y + at.rows → new ≡ cond (bit_at m2 (u % 64) == 1) (bit_at v2 (u % 64)) old)
    → (word_of at (u / 64) v ≢ x / 64 * at.rows + y → word_of at (u / 64) v ≢ x / 64 * at.rows + y + at.rows → new ≡ old)
    → IsOnePut x y word old new u v
place_put at x y word m1 v1 m2 v2 u v old new inside hv m1low m1high v1high m2is v2is new_first new_second kept =
    split (cases_eq spot a) (cases_eq spot b)
  where
    a : ℕ
    a = x / 64 * at.rows + y

    b : ℕ
    b = x / 64 * at.rows + y + at.rows

    spot : ℕ
    spot = word_of at (u / 64) v

    in_first : spot ≡ a → (u / 64 ≡ x / 64) × (v ≡ y) → (u % 64 < x % 64) ⊎ (x % 64 ≤ u % 64) → IsOnePut x y word old new u v
    in_first e (word_column, row) (inl left) =
        inr (
          λ c same. let is = c.is in absurd (omega arith),
          new_first e ∙ chosen_no (bit_at m1 (u % 64)) (bit_at v1 (u % 64)) old (m1low (u % 64) left),
        )
    in_first e (word_column, row) (inr right) =
        put_there x y word old new u v (u % 64 - x % 64) (bit_at m1 (u % 64)) (bit_at v1 (u % 64)) row
        (λ less. omega arith) (λ c. omega arith) (m1high (u % 64) right (omega arith)) (v1high (u % 64) right (omega arith)) (new_first e)

    in_second : spot ≡ b → (u / 64 ≡ x / 64 + 1) × (v ≡ y) → IsOnePut x y word old new u v
    in_second e (word_column, row) =
        put_there x y word old new u v (u % 64 + 64 - x % 64) (bit_at m2 (u % 64)) (bit_at v2 (u % 64)) row
        (λ less. omega arith) (λ c. omega arith) (m2is (u % 64)) (v2is (u % 64)) (new_second e)

    outside : (spot ≡ a → ⊥) → (spot ≡ b → ⊥) → IsInnerColumn x u → v ≢ y
    outside apart further c row = word_columns (cases_eq (u / 64) (x / 64))
      where
        word_columns : (u / 64 ≡ x / 64) ⊎ (u / 64 ≡ x / 64 → ⊥) → ⊥
        word_columns (inl same) = apart (λ t. same t * at.rows + row t)
        word_columns (inr other) =
            let is = c.is in
            let high = c.high in
            let word_column : u / 64 ≡ x / 64 + 1 = omega arith in
            let rows : u / 64 * at.rows ≡ (x / 64 + 1) * at.rows = ap (λ (m : ℕ). m * at.rows) word_column in
            further (omega arith)

    split : (spot ≡ a) ⊎ (spot ≡ a → ⊥) → (spot ≡ b) ⊎ (spot ≡ b → ⊥) → IsOnePut x y word old new u v
    split (inl e) other = in_first e (same_spot at.rows (u / 64) v (x / 64) y e hv inside) (cases_lt (u % 64) (x % 64))
    split (inr apart) (inl e) = in_second e (same_spot at.rows (u / 64) v (x / 64 + 1) y (omega arith) hv inside)
    split (inr apart) (inr further) = inr (outside apart further, kept apart further)

-- writing the inner bits of a row into two words puts the row back on the board
pub row_put : (at : Frame) (old mid new : List ℕ) (x y word m1 v1 m2 v2 : ℕ) → y < at.rows
    → ((i : ℕ) → i < x % 64 → bit_at m1 i ≡ 0) → ((i : ℕ) → x % 64 ≤ i → i < 64 → bit_at m1 i ≡ bit_at inner_mask (i - x % 64))
    → ((i : ℕ) → x % 64 ≤ i → i < 64 → bit_at v1 i ≡ bit_at word (i - x % 64))
    → ((i : ℕ) → bit_at m2 i ≡ bit_at inner_mask (i + 64 - x % 64)) → ((i : ℕ) → bit_at v2 i ≡ bit_at word (i + 64 - x % 64))
    → ((b : ℕ) → bit_at (slice_index mid (x / 64 * at.rows + y)) b ≡ cond (bit_at m1 b == 1) (bit_at v1 b) (bit_at (slice_index old (x / 64 * at.rows + y)) b))
    → ((m : ℕ) → m ≢ x / 64 * at.rows + y → slice_index mid m ≡ slice_index old m)
    → ((b : ℕ) → bit_at (slice_index new (x / 64 * at.rows + y + at.rows)) b
    ≡ cond (bit_at m2 b == 1) (bit_at v2 b) (bit_at (slice_index mid (x / 64 * at.rows + y + at.rows)) b))
    → ((m : ℕ) → m ≢ x / 64 * at.rows + y + at.rows → slice_index new m ≡ slice_index mid m) → IsRowPut at x y word old new
row_put at old mid new x y word m1 v1 m2 v2 inside m1low m1high v1high m2is v2is first first_others second second_others u v hu hv =
    place_put at x y word m1 v1 m2 v2 u v (bit_on at old u v) (bit_on at new u v) inside hv m1low m1high v1high m2is v2is
    new_first new_second
    (λ apart further. ap (λ (w : ℕ). bit_at w (u % 64)) (second_others spot further ∙ first_others spot apart))
  where
    a : ℕ
    a = x / 64 * at.rows + y

    b : ℕ
    b = x / 64 * at.rows + y + at.rows

    spot : ℕ
    spot = word_of at (u / 64) v

    later : a ≢ b
    later e = absurd (omega arith)

    new_first : spot ≡ a → bit_on at new u v ≡ cond (bit_at m1 (u % 64) == 1) (bit_at v1 (u % 64)) (bit_on at old u v)
    new_first e =
        ap (λ (w : ℕ). bit_at w (u % 64)) (second_others spot (λ f. later (sym e ∙ f)))
        ∙ ap (λ (m : ℕ). bit_at (slice_index mid m) (u % 64)) e
        ∙ first (u % 64)
        ∙ ap (λ (m : ℕ). cond (bit_at m1 (u % 64) == 1) (bit_at v1 (u % 64)) (bit_at (slice_index old m) (u % 64))) (sym e)

    new_second : spot ≡ b → bit_on at new u v ≡ cond (bit_at m2 (u % 64) == 1) (bit_at v2 (u % 64)) (bit_on at old u v)
    new_second e =
        ap (λ (m : ℕ). bit_at (slice_index new m) (u % 64)) e
        ∙ second (u % 64)
        ∙ ap (λ (w : ℕ). cond (bit_at m2 (u % 64) == 1) (bit_at v2 (u % 64)) (bit_at w (u % 64))) (first_others b (λ f. later (sym f)))
        ∙ ap (λ (m : ℕ). cond (bit_at m2 (u % 64) == 1) (bit_at v2 (u % 64)) (bit_at (slice_index old m) (u % 64))) (sym e)

-- a number that is none of `a` to `a + 3` is below or above them
out_of_four : (n a : ℕ) → ((j : ℕ) → j < 4 → n ≡ a + j → ⊥) → (n < a) ⊎ (a + 4 ≤ n)
out_of_four n a none = split (cases_lt n a) (cases_lt n (a + 4))
  where
    split : (n < a) ⊎ (a ≤ n) → (n < a + 4) ⊎ (a + 4 ≤ n) → (n < a) ⊎ (a + 4 ≤ n)
    split (inl low) other = inl low
    split (inr least) (inr high) = inr high
    split (inr least) (inl low) = absurd (none (n - a) (omega arith) (omega arith))

-- writing the inner bits of four rows into two word columns, four words in each, puts the rows back on the board
pub rows_put : (at : Frame) (old mid new rows first second : List ℕ) (x y r m1 m2 : ℕ) → y + 4 ≤ at.rows
    → ((i : ℕ) → i < x % 64 → bit_at m1 i ≡ 0) → ((i : ℕ) → x % 64 ≤ i → i < 64 → bit_at m1 i ≡ bit_at inner_mask (i - x % 64))
    → ((j i : ℕ) → j < 4 → x % 64 ≤ i → i < 64 → bit_at (slice_index first j) i ≡ bit_at (slice_index rows (r + j)) (i - x % 64))
    → ((i : ℕ) → bit_at m2 i ≡ bit_at inner_mask (i + 64 - x % 64))
    → ((j i : ℕ) → j < 4 → bit_at (slice_index second j) i ≡ bit_at (slice_index rows (r + j)) (i + 64 - x % 64))
    → ((j b : ℕ) → j < 4 → bit_at (slice_index mid (x / 64 * at.rows + y + j)) b
    ≡ cond (bit_at m1 b == 1) (bit_at (slice_index first j) b) (bit_at (slice_index old (x / 64 * at.rows + y + j)) b))
    → ((m : ℕ) → (m < x / 64 * at.rows + y) ⊎ (x / 64 * at.rows + y + 4 ≤ m) → slice_index mid m ≡ slice_index old m)
    → ((j b : ℕ) → j < 4 → bit_at (slice_index new (x / 64 * at.rows + y + at.rows + j)) b
    ≡ cond (bit_at m2 b == 1) (bit_at (slice_index second j) b) (bit_at (slice_index mid (x / 64 * at.rows + y + at.rows + j)) b))
    → ((m : ℕ) → (m < x / 64 * at.rows + y + at.rows) ⊎ (x / 64 * at.rows + y + at.rows + 4 ≤ m) → slice_index new m ≡ slice_index mid m)
    → AreRowsPut at x y r rows old new
rows_put at old mid new rows first second x y r m1 m2 inside m1low m1high v1high m2is v2is put1 put1_others put2 put2_others u v hu hv =
    split (cases_lt v y) (cases_lt v (y + 4))
  where
    a : ℕ
    a = x / 64 * at.rows + y

    b : ℕ
    b = x / 64 * at.rows + y + at.rows

    spot : ℕ
    spot = word_of at (u / 64) v

    row_first : (j : ℕ) → j < 4 → spot ≡ a + j → v ≡ y + j
    row_first j low e = (same_spot at.rows (u / 64) v (x / 64) (y + j) (omega arith) hv (omega arith)).1

    row_second : (j : ℕ) → j < 4 → spot ≡ b + j → v ≡ y + j
    row_second j low e = (same_spot at.rows (u / 64) v (x / 64 + 1) (y + j) (omega arith) hv (omega arith)).1

    same : ((j : ℕ) → j < 4 → spot ≡ a + j → ⊥) → ((j : ℕ) → j < 4 → spot ≡ b + j → ⊥) → bit_on at new u v ≡ bit_on at old u v
    same apart further =
        ap (λ (w : ℕ). bit_at w (u % 64)) (put2_others spot (out_of_four spot b further) ∙ put1_others spot (out_of_four spot a apart))

    off : ((j : ℕ) → j < 4 → v ≡ y + j → ⊥)
        → ((c : IsInnerColumn x u) × (k : IsOneOfFour y v) × (bit_on at new u v ≡ bit_at (slice_index rows (r + k.j)) c.i))
        ⊎ ((IsInnerColumn x u → IsOneOfFour y v → ⊥) × (bit_on at new u v ≡ bit_on at old u v))
    off none =
        inr (
          λ c k. none k.j k.low k.is,
          same (λ j low e. none j low (row_first j low e)) (λ j low e. none j low (row_second j low e)),
        )

    new_first : (j : ℕ) → j < 4 → spot ≡ a + j → bit_on at new u v ≡ cond (bit_at m1 (u % 64) == 1) (bit_at (slice_index first j) (u % 64)) (bit_on at old u v)
    new_first j low e =
        ap (λ (w : ℕ). bit_at w (u % 64)) (put2_others spot (inl (omega arith)))
        ∙ ap (λ (m : ℕ). bit_at (slice_index mid m) (u % 64)) e
        ∙ put1 j (u % 64) low
        ∙ ap (λ (m : ℕ). cond (bit_at m1 (u % 64) == 1) (bit_at (slice_index first j) (u % 64)) (bit_at (slice_index old m) (u % 64))) (sym e)

    new_second : (j : ℕ) → j < 4 → spot ≡ b + j → bit_on at new u v ≡ cond (bit_at m2 (u % 64) == 1) (bit_at (slice_index second j) (u % 64)) (bit_on at old u v)
    new_second j low e =
        ap (λ (m : ℕ). bit_at (slice_index new m) (u % 64)) e
        ∙ put2 j (u % 64) low
        ∙ ap (λ (w : ℕ). cond (bit_at m2 (u % 64) == 1) (bit_at (slice_index second j) (u % 64)) (bit_at w (u % 64))) (put1_others (b + j) (inr (omega arith)))
        ∙ ap (λ (m : ℕ). cond (bit_at m2 (u % 64) == 1) (bit_at (slice_index second j) (u % 64)) (bit_at (slice_index old m) (u % 64))) (sym e)

    on : (j : ℕ) → j < 4 → v ≡ y + j
        → ((c : IsInnerColumn x u) × (k : IsOneOfFour y v) × (bit_on at new u v ≡ bit_at (slice_index rows (r + k.j)) c.i))
        ⊎ ((IsInnerColumn x u → IsOneOfFour y v → ⊥) × (bit_on at new u v ≡ bit_on at old u v))
    on j low row =
        told (place_put at x (y + j) (slice_index rows (r + j)) m1 (slice_index first j) m2 (slice_index second j) u v (bit_on at old u v) (bit_on at new u v)
        (omega arith) hv m1low m1high (λ i least high. v1high j i low least high) m2is (λ i. v2is j i low)
        (λ e. new_first j low (omega arith)) (λ e. new_second j low (omega arith))
        (λ apart further. same
        (λ k less e. let same_row = row_first k less e in apart (omega arith))
        (λ k less e. let same_row = row_second k less e in further (omega arith))))
      where
        told : IsOnePut x (y + j) (slice_index rows (r + j)) (bit_on at old u v) (bit_on at new u v) u v
            → ((c : IsInnerColumn x u) × (k : IsOneOfFour y v) × (bit_on at new u v ≡ bit_at (slice_index rows (r + k.j)) c.i))
            ⊎ ((IsInnerColumn x u → IsOneOfFour y v → ⊥) × (bit_on at new u v ≡ bit_on at old u v))
        told (inl (c, same_row, is)) = inl (c, record { j = j; low = low; is = row }, is)
        told (inr (none, kept)) = inr (λ c k. none c row, kept)

    split : (v < y) ⊎ (y ≤ v) → (v < y + 4) ⊎ (y + 4 ≤ v)
        → ((c : IsInnerColumn x u) × (k : IsOneOfFour y v) × (bit_on at new u v ≡ bit_at (slice_index rows (r + k.j)) c.i))
        ⊎ ((IsInnerColumn x u → IsOneOfFour y v → ⊥) × (bit_on at new u v ≡ bit_on at old u v))
    split (inl left) other = off (λ j low e. absurd (omega arith))
    split (inr least) (inr high) = off (λ j low e. absurd (omega arith))
    split (inr least) (inl low) = on (v - y) (omega arith) (omega arith)

-- once the four rows from row `end` on are put back, all inner rows before row `end + 4` are put back
pub four_more : (at : Frame) (x y end : ℕ) (rows old mid new : List ℕ) → 4 ≤ end → IsPutBack at x y end rows old mid
    → AreRowsPut at x (y + end) end rows mid new → IsPutBack at x y (end + 4) rows old new
four_more at x y end rows old mid new least put four u v hu hv = split (four u v hu hv) (put u v hu hv)
  where
    split : ((c : IsInnerColumn x u) × (k : IsOneOfFour (y + end) v) × (bit_on at new u v ≡ bit_at (slice_index rows (end + k.j)) c.i))
        ⊎ ((IsInnerColumn x u → IsOneOfFour (y + end) v → ⊥) × (bit_on at new u v ≡ bit_on at mid u v))
        → ((c : IsInner x y end u v) × (bit_on at mid u v ≡ bit_at (slice_index rows c.row.r) c.column.i))
        ⊎ ((IsInner x y end u v → ⊥) × (bit_on at mid u v ≡ bit_on at old u v))
        → ((c : IsInner x y (end + 4) u v) × (bit_on at new u v ≡ bit_at (slice_index rows c.row.r) c.column.i))
        ⊎ ((IsInner x y (end + 4) u v → ⊥) × (bit_on at new u v ≡ bit_on at old u v))
    split (inl (c, k, is)) before =
        let low = k.low in
        let row = k.is in
        inl (record { column = c; row = record { r = end + k.j; low = omega arith; high = omega arith; is = omega arith } }, is)
    split (inr (off, kept)) (inl (c, is)) =
        let high = c.row.high in
        inl (record { column = c.column; row = record { r = c.row.r; low = c.row.low; high = omega arith; is = c.row.is } }, kept ∙ is)
    split (inr (off, kept)) (inr (outside, same)) = inr (none, kept ∙ same)
      where
        none : IsInner x y (end + 4) u v → ⊥
        none c = rows_of (cases_lt c.row.r end)
          where
            rows_of : (c.row.r < end) ⊎ (end ≤ c.row.r) → ⊥
            rows_of (inl before) = outside (record { column = c.column; row = record { r = c.row.r; low = c.row.low; high = before; is = c.row.is } })
            rows_of (inr from) =
                let high = c.row.high in
                let row = c.row.is in
                off c.column (record { j = c.row.r - end; low = omega arith; is = omega arith })

-- once row `end` is put back, all inner rows before row `end + 1` are put back
pub put_more : (at : Frame) (x y end : ℕ) (rows old mid new : List ℕ) → 4 ≤ end → IsPutBack at x y end rows old mid
    → IsRowPut at x (y + end) (slice_index rows end) mid new → IsPutBack at x y (end + 1) rows old new
put_more at x y end rows old mid new least put row u v hu hv = split (row u v hu hv) (put u v hu hv)
  where
    split : IsOnePut x (y + end) (slice_index rows end) (bit_on at mid u v) (bit_on at new u v) u v
        → ((c : IsInner x y end u v) × (bit_on at mid u v ≡ bit_at (slice_index rows c.row.r) c.column.i))
        ⊎ ((IsInner x y end u v → ⊥) × (bit_on at mid u v ≡ bit_on at old u v))
        → ((c : IsInner x y (end + 1) u v) × (bit_on at new u v ≡ bit_at (slice_index rows c.row.r) c.column.i))
        ⊎ ((IsInner x y (end + 1) u v → ⊥) × (bit_on at new u v ≡ bit_on at old u v))
    split (inl (c, same, is)) before =
        inl (record { column = c; row = record { r = end; low = least; high = omega arith; is = same } }, is)
    split (inr (off, kept)) (inl (c, is)) =
        let high = c.row.high in
        inl (record { column = c.column; row = record { r = c.row.r; low = c.row.low; high = omega arith; is = c.row.is } }, kept ∙ is)
    split (inr (off, kept)) (inr (outside, same)) = inr (none, kept ∙ same)
      where
        none : IsInner x y (end + 1) u v → ⊥
        none c = rows_of (cases_eq c.row.r end)
          where
            rows_of : (c.row.r ≡ end) ⊎ (c.row.r ≡ end → ⊥) → ⊥
            rows_of (inl last) = off c.column (c.row.is ∙ ap (λ (m : ℕ). y + m) last)
            rows_of (inr apart) =
                let high = c.row.high in
                outside (record { column = c.column; row = record { r = c.row.r; low = c.row.low; high = omega arith; is = c.row.is } })

pub none_put : (at : Frame) (x y : ℕ) (rows old : List ℕ) → IsPutBack at x y 4 rows old old
none_put at x y rows old u v hu hv = inr (λ c. let low = c.row.low in let high = c.row.high in absurd (omega arith), refl)

-- ---- the indices of words

pub column_low : (x : ℕ) → x % 64 < 64
column_low x = omega arith

-- `words` has the two words that hold the cells of a window's row, which begins in column x and row y of the board
pub words_in : (at : Frame) (words : List ℕ) (x y : ℕ) → FillsFrame at words → x / 64 + 1 < at.word_columns → y < at.rows
    → (x / 64 * at.rows + y < length words) × (x / 64 * at.rows + y + at.rows < length words)
words_in at words x y long word_column row =
    let first : x / 64 * at.rows + y < at.word_columns * at.rows = word-inside at (x / 64) y (omega (arith, word_column)) row in
    let second : (x / 64 + 1) * at.rows + y < at.word_columns * at.rows = word-inside at (x / 64 + 1) y word_column row in
    (omega (arith, long, first), omega (arith, long, second))

-- the indices of the two words that hold the cells of a window's row, which begins in column x and row y of the board,
-- fit in 64 bits, as `words` has fewer than 2^60 items
pub fits_begin : (at : Frame) (words : List ℕ) (x y most : ℕ) → length words * 8 < 9223372036854775808 → FillsFrame at words → x / 64 + 1 < at.word_columns
    → y + most ≤ at.rows → Fits w64 (x / 64 * at.rows) × Fits w64 (x / 64 * at.rows + y) × Fits w64 (x / 64 * at.rows + y + at.rows)
fits_begin at words x y most small long word_column row =
    let many : at.word_columns ≡ x / 64 + 2 + (at.word_columns - (x / 64 + 2)) = omega (arith, word_column) in
    let whole : at.word_columns * at.rows ≡ (x / 64 + 2 + (at.word_columns - (x / 64 + 2))) * at.rows = ap (λ (m : ℕ). m * at.rows) many in
    let inside : x / 64 * at.rows + y + at.rows ≤ length words = omega (arith, long, row, whole) in
    fits_places (x / 64 * at.rows) y at.rows (length words) small inside
  where
    fits_places : (a b c n : ℕ) → n * 8 < 9223372036854775808 → a + b + c ≤ n → Fits w64 a × Fits w64 (a + b) × Fits w64 (a + b + c)
    fits_places a b c n few low = (record { fits = omega arith }, record { fits = omega arith }, record { fits = omega arith })

pub fits_row : (at : Frame) (words : List ℕ) (x y : ℕ) → length words * 8 < 9223372036854775808 → FillsFrame at words → x / 64 + 1 < at.word_columns
    → y < at.rows → Fits w64 (x / 64 * at.rows) × Fits w64 (x / 64 * at.rows + y) × Fits w64 (x / 64 * at.rows + y + at.rows)
fits_row at words x y small long word_column row = fits_begin at words x y 1 small long word_column (omega (arith, row))

-- the list has the word of row r of word column s, at index n
pub index_in : (at : Frame) (words : List ℕ) (s r n : ℕ) → FillsFrame at words → s < at.word_columns → r < at.rows → n ≡ word_of at s r → n < length words
index_in at words s r n long word_column row is = let inside = word-inside at s r word_column row in omega (arith, long, is, inside)
