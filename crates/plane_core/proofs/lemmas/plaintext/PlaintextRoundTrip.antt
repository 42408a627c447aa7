-- The plaintext of a pattern is read back as the pattern, moved to the corner.
use Rattle.std.proofs.Common.{◌≡◌, ◌==◌, ℕ, zero, suc, ℤ, pos, neg_ℤ, ◌+ℤ◌, ◌≤ℤ◌, ◌<ℤ◌, ◌+◌, ◌-◌, ◌<◌, ◌≤◌, eqb, Bool, true, false, ◌&&◌, ◌||◌, cond}
use Rattle.std.proofs.Common.{List, [], ◌∷◌, ◌++◌, Some, None, Ok, IfSome, length, map, filter, get_or, refl, sym, ap, subst, ◌∙◌, arith, ⊎_elim}
use Rattle.std.specs.Option.{option_or}
use Rattle.std.specs.List.{All, AllByRecursion, flat_map}
use Rattle.std.specs.Str.Lines.{strip_carriage_return}
use Rattle.std.specs.declared.cmp.Ordering.TheVariants.{Less}
use Rattle.std.proofs.lemmas.Int.{ints}
use Rattle.std.proofs.lemmas.Bool.{cases_Bool, lt-ltb}
use Rattle.std.proofs.lemmas.List.{append_assoc, map-append}
use Rattle.std.proofs.lemmas.List.Elements.{filter-append}
use Rattle.std.proofs.lemmas.List.Splits.{slice_split_at}
use lib.Signed.{lt_z}
use Rattle.plane_core.specs.declared.plane.cell.Cell.{Cell}
use Rattle.plane_core.specs.declared.plane.bounds.Bounds.{Bounds}
use Rattle.plane_core.specs.plane.Bounds.{box_of, grown, IsWithin, at_corner}
use Rattle.plane_core.specs.plane.Cells.{cell_at, cell_cmp, same_cell, moved_by, distance, has, InOrder, IsPattern}
use Rattle.plane_core.specs.PlaintextPlaces.{line_feed, side_limit, Place, is_comment, lines_of, rows_of, places}
use Rattle.plane_core.specs.Plaintext.{byte_of, is_live, fault_at, first_fault, live_cells, cells_unless}
use Rattle.plane_core.specs.Plaintext.{pattern, run, span, row_text, box_text, plain, FitsThousandSquare}
use Rattle.plane_core.proofs.lemmas.plane.SetLemmas.{same_lists, has-append, has-filter, has-head, has-all, in_order-filter, in_order-nil, in_order-cons}
use Rattle.plane_core.proofs.lemmas.plaintext.PlaintextBox.{IsBox-box_of, within-box_of}
use Rattle.plane_core.proofs.lemmas.plaintext.PlaintextLines.{parts_of, places_after, places_are, places_after-cons_row, first_fault-append, live_cells-append}
use Rattle.plane_core.proofs.lemmas.plaintext.PlaintextOrder.{AllByRecursion-weaker, AllByRecursion-append, IsStrictlySortedBy-append}
use Rattle.plane_core.proofs.lemmas.plaintext.PlaintextRows.{places_from, first_fault-cons_none, live_cells-cons_live, live_cells-cons_dead}
use Rattle.plane_core.proofs.lemmas.plaintext.PlaintextWalks.{left_of, above, lt_z-true, lt_z-false}

-- the bytes that are written for the columns `xs` of a row, where f says which cells are live
abbrev bytes : (ℤ → Bool) → List ℤ → List ℕ
bytes f xs = map (λ x. byte_of (f x)) xs

no_return : (f : ℤ → Bool) (xs : List ℤ) (k : ℕ) → eqb (get_or (bytes f xs) k 0) 13 ≡ false
no_return f [] k = refl
no_return f (x ∷ xs) zero = elim (f x) as (λ v. eqb (byte_of v) 13 ≡ false) [ true ↦ refl | false ↦ refl ]
no_return f (x ∷ xs) (suc k) = no_return f xs k

stripped : (f : ℤ → Bool) (xs : List ℤ) → strip_carriage_return (bytes f xs) ≡ bytes f xs
stripped f xs = rw (no_return f xs (length (bytes f xs) - 1)) refl

no_comment : (f : ℤ → Bool) (x : ℤ) (xs : List ℤ) → is_comment (bytes f (x ∷ xs)) ≡ false
no_comment f x xs = elim (f x) as (λ v. eqb (byte_of v) 33 ≡ false) [ true ↦ refl | false ↦ refl ]

no_feed : (f : ℤ → Bool) (xs : List ℤ) → All (λ b. eqb b line_feed ≡ false) (bytes f xs)
no_feed f [] k d l = absurd (omega arith)
no_feed f (x ∷ xs) zero d l = elim (f x) as (λ v. eqb (byte_of v) line_feed ≡ false) [ true ↦ refl | false ↦ refl ]
no_feed f (x ∷ xs) (suc k) d l = no_feed f xs k d (omega arith)

-- the bytes of one row of a box
abbrev row_bytes : List Cell → Bounds → ℤ → List ℕ
row_bytes cells b z = bytes (λ x. has cells (cell_at x z)) (span b.left b.right)

-- the lines of the text are the rows, and an empty line after the last line feed
split_rows : (cells : List Cell) (b : Bounds) (zs : List ℤ) → parts_of (flat_map (row_text cells b) zs) ≡ map (row_bytes cells b) zs ++ [] ∷ []
unfolding row_text
split_rows cells b [] = refl
split_rows cells b (z ∷ zs) =
    let row = row_bytes cells b z in
    let remainder = flat_map (row_text cells b) zs in
    ap parts_of (append_assoc row (line_feed ∷ []) remainder)
    ∙ slice_split_at (λ b. b == line_feed) row line_feed remainder (no_feed (λ x. has cells (cell_at x z)) (span b.left b.right)) refl
    ∙ ap (λ ps. row ∷ ps) (split_rows cells b zs)

-- the places that the rows `zs` of a box have in the text; the first of these rows is line n and row y of the text
abbrev grid_places : List Cell → Bounds → ℕ → ℕ → List ℤ → List Place
grid_places cells b n y [] = []
grid_places cells b n y (z ∷ zs) = places_from n y 0 (row_bytes cells b z) ++ grid_places cells b (n + 1) (y + 1) zs

places_of_rows : (cells : List Cell) (b : Bounds) (n y : ℕ) (zs : List ℤ)
    → places_after n y (map (row_bytes cells b) zs ++ [] ∷ []) ≡ grid_places cells b n y zs
unfolding places_after
places_of_rows cells b n y [] = refl
places_of_rows cells b n y (z ∷ zs) =
    let f : ℤ → Bool = λ x. has cells (cell_at x z) in
    let row = row_bytes cells b z in
    let remainder = map (row_bytes cells b) zs ++ [] ∷ [] in
    let same = stripped f (span b.left b.right) in
    places_after-cons_row n y row remainder (ap is_comment same ∙ no_comment f b.left (run (b.left +ℤ pos 1) (distance b.left b.right)))
    ∙ ap (λ r. places_from n y 0 r ++ places_after (n + 1) (y + 1) remainder) same
    ∙ ap (λ ps. places_from n y 0 row ++ ps) (places_of_rows cells b (n + 1) (y + 1) zs)

no_fault_at : (line y x : ℕ) (v : Bool) → x < side_limit → y < side_limit → fault_at (record { line = line; y = y; x = x; byte = byte_of v }) ≡ None
unfolding fault_at
no_fault_at line y x true h k = rw (lt-ltb x side_limit h, lt-ltb y side_limit k) refl
no_fault_at line y x false h k = rw (lt-ltb x side_limit h, lt-ltb y side_limit k) refl

row_no_fault : (f : ℤ → Bool) (line y x : ℕ) (xs : List ℤ) → x + length xs ≤ side_limit → y < side_limit
    → first_fault (places_from line y x (bytes f xs)) ≡ None
unfolding first_fault
row_no_fault f line y x [] h k = refl
row_no_fault f line y x (u ∷ xs) h k =
    first_fault-cons_none (record { line = line; y = y; x = x; byte = byte_of (f u) }) (places_from line y (x + 1) (bytes f xs))
    (no_fault_at line y x (f u) (omega arith) k) ∙ row_no_fault f line y (x + 1) xs (omega arith) k

rows_no_fault : (cells : List Cell) (b : Bounds) (n y : ℕ) (zs : List ℤ) → length (span b.left b.right) ≤ side_limit → y + length zs ≤ side_limit
    → first_fault (grid_places cells b n y zs) ≡ None
unfolding first_fault
rows_no_fault cells b n y [] w h = refl
rows_no_fault cells b n y (z ∷ zs) w h =
    first_fault-append (places_from n y 0 (row_bytes cells b z)) (grid_places cells b (n + 1) (y + 1) zs)
    ∙ ap (λ o. option_or o (first_fault (grid_places cells b (n + 1) (y + 1) zs)))
    (row_no_fault (λ x. has cells (cell_at x z)) n y 0 (span b.left b.right) (omega arith) (omega arith))
    ∙ rows_no_fault cells b (n + 1) (y + 1) zs w (omega arith)

length-run : (a : ℤ) (n : ℕ) → length (run a n) ≡ n
length-run a zero = refl
length-run a (suc n) = ap suc (length-run (a +ℤ pos 1) n)

-- the cells of row z in the columns `xs`
abbrev row_cells : ℤ → List ℤ → List Cell
row_cells z xs = map (λ u. cell_at u z) xs

abbrev grid : Bounds → List ℤ → List Cell
grid b zs = flat_map (λ z. row_cells z (span b.left b.right)) zs

live_byte : (v : Bool) → is_live (byte_of v) ≡ v
live_byte true = refl
live_byte false = refl

row_live : (cells : List Cell) (dx dy : ℤ) (line y x : ℕ) (z a : ℤ) (m : ℕ) → a +ℤ dx ≡ pos x → z +ℤ dy ≡ pos y
    → live_cells (places_from line y x (bytes (λ u. has cells (cell_at u z)) (run a m))) ≡ map (moved_by dx dy) (filter (has cells) (row_cells z (run a m)))
unfolding live_cells
row_live cells dx dy line y x z a zero ex ey = refl
row_live cells dx dy line y x z a (suc m) ex ey =
    let v = has cells (cell_at a z) in
    let p : Place = record { line = line; y = y; x = x; byte = byte_of v } in
    let ps = places_from line y (x + 1) (bytes (λ u. has cells (cell_at u z)) (run (a +ℤ pos 1) m)) in
    let kept = filter (has cells) (row_cells z (run (a +ℤ pos 1) m)) in
    let more = row_live cells dx dy line y (x + 1) z (a +ℤ pos 1) m (omega (arith, ints)) ey in
    let here : cell_at (pos x) (pos y) ≡ moved_by dx dy (cell_at a z) = ap (λ w. cell_at w (pos y)) (sym ex) ∙ ap (λ w. cell_at (a +ℤ dx) w) (sym ey) in
    ⊎_elim
    (λ e. live_cells-cons_live p ps (live_byte v ∙ e) ∙ ap (λ c. c ∷ live_cells ps) here ∙ ap (λ cs. moved_by dx dy (cell_at a z) ∷ cs) more
    ∙ ap (λ w. map (moved_by dx dy) (cond w (cell_at a z ∷ kept) kept)) (sym e))
    (λ e. live_cells-cons_dead p ps (live_byte v ∙ e) ∙ more ∙ ap (λ w. map (moved_by dx dy) (cond w (cell_at a z ∷ kept) kept)) (sym e))
    (cases_Bool v)

rows_live : (cells : List Cell) (b : Bounds) (dx dy : ℤ) (n y : ℕ) (z : ℤ) (h : ℕ) → b.left +ℤ dx ≡ pos 0 → z +ℤ dy ≡ pos y
    → live_cells (grid_places cells b n y (run z h)) ≡ map (moved_by dx dy) (filter (has cells) (grid b (run z h)))
unfolding live_cells
rows_live cells b dx dy n y z zero ex ey = refl
rows_live cells b dx dy n y z (suc h) ex ey =
    let row = row_cells z (span b.left b.right) in
    let remainder = grid b (run (z +ℤ pos 1) h) in
    live_cells-append (places_from n y 0 (row_bytes cells b z)) (grid_places cells b (n + 1) (y + 1) (run (z +ℤ pos 1) h))
    ∙ ap (λ cs. cs ++ live_cells (grid_places cells b (n + 1) (y + 1) (run (z +ℤ pos 1) h)))
    (row_live cells dx dy n y 0 z b.left (suc (distance b.left b.right)) ex ey)
    ∙ ap (λ cs. map (moved_by dx dy) (filter (has cells) row) ++ cs) (rows_live cells b dx dy (n + 1) (y + 1) (z +ℤ pos 1) h ex (omega (arith, ints)))
    ∙ sym (map-append (moved_by dx dy) (filter (has cells) row) (filter (has cells) remainder))
    ∙ ap (map (moved_by dx dy)) (sym (filter-append (has cells) row remainder))

row_in_row : (z a : ℤ) (m : ℕ) → AllByRecursion (λ c. (c.y ≡ z) × (a ≤ℤ c.x)) (row_cells z (run a m))
row_in_row z a zero = tt
row_in_row z a (suc m) = (
  (refl, omega (arith, ints)),
  AllByRecursion-weaker (λ c. (c.y ≡ z) × ((a +ℤ pos 1) ≤ℤ c.x)) (λ c. (c.y ≡ z)
      × (a ≤ℤ c.x)) (row_cells z (run (a +ℤ pos 1) m)) (λ c h. let l = h.1 in (h.0, omega (arith, ints))) (row_in_row z (a +ℤ pos 1) m),
)

row_in_order : (z a : ℤ) (m : ℕ) → InOrder (row_cells z (run a m))
row_in_order z a zero = in_order-nil
row_in_order z a (suc m) = in_order-cons (cell_at a z) (row_cells z (run (a +ℤ pos 1) m))
    (AllByRecursion-weaker (λ c. (c.y ≡ z) × ((a +ℤ pos 1) ≤ℤ c.x)) (λ c. cell_cmp (cell_at a z) c ≡ Less) (row_cells z (run (a +ℤ pos 1) m))
    (λ c h. let l = h.1 in left_of (cell_at a z) c (sym h.0) (omega (arith, ints))) (row_in_row z (a +ℤ pos 1) m))
    (row_in_order z (a +ℤ pos 1) m)

grid_below : (b : Bounds) (z : ℤ) (h : ℕ) → AllByRecursion (λ c. z ≤ℤ c.y) (grid b (run z h))
grid_below b z zero = tt
grid_below b z (suc h) =
    AllByRecursion-append (λ c. z ≤ℤ c.y) (row_cells z (span b.left b.right)) (grid b (run (z +ℤ pos 1) h))
    (AllByRecursion-weaker (λ c. (c.y ≡ z) × (b.left ≤ℤ c.x)) (λ c. z ≤ℤ c.y) (row_cells z (span b.left b.right)) (λ c k. let e =
    k.0 in omega (arith, ints)) (row_in_row z b.left (suc (distance b.left b.right))))
    (AllByRecursion-weaker (λ c. (z +ℤ pos 1) ≤ℤ c.y) (λ c. z ≤ℤ c.y) (grid b (run (z +ℤ pos 1) h)) (λ c k. omega (arith, ints)) (grid_below b (z +ℤ pos 1) h))

grid_in_order : (b : Bounds) (z : ℤ) (h : ℕ) → InOrder (grid b (run z h))
grid_in_order b z zero = in_order-nil
grid_in_order b z (suc h) =
    let row = row_cells z (span b.left b.right) in
    let remainder = grid b (run (z +ℤ pos 1) h) in
    IsStrictlySortedBy-append cell_cmp row remainder (row_in_order z b.left (suc (distance b.left b.right))) (grid_in_order b (z +ℤ pos 1) h)
    (AllByRecursion-weaker (λ c. (c.y ≡ z) × (b.left ≤ℤ c.x)) (λ c. AllByRecursion (λ d. cell_cmp c d ≡ Less) remainder) row
    (λ c k. let e = k.0 in AllByRecursion-weaker (λ d. (z +ℤ pos 1) ≤ℤ d.y) (λ d. cell_cmp c d ≡ Less) remainder (λ d l. above c d (omega (arith, ints)))
    (grid_below b (z +ℤ pos 1) h))
    (row_in_row z b.left (suc (distance b.left b.right))))

or_right : (a b : Bool) → b ≡ true → (a || b) ≡ true
or_right true b e = refl
or_right false b e = e

has_row : (d : Cell) (z a : ℤ) (m : ℕ) → d.y ≡ z → a ≤ℤ d.x → d.x <ℤ (a +ℤ pos m) → has (row_cells z (run a m)) d ≡ true
has_row d z a zero e l u = absurd (omega (arith, ints))
has_row d z a (suc m) e l u =
    let remainder = row_cells z (run (a +ℤ pos 1) m) in
    ⊎_elim
    (λ t. let past : a <ℤ d.x = lt_z-true a d.x t in or_right (same_cell d (cell_at a z)) (has remainder d)
    (has_row d z (a +ℤ pos 1) m e (omega (arith, ints)) (omega (arith, ints))))
    (λ t. let not_past : d.x ≤ℤ a = lt_z-false a d.x t in
    let ex : d.x ≡ a = omega (arith, ints) in
    let here : d ≡ cell_at a z = ap (λ w. cell_at d.x w) e ∙ ap (λ w. cell_at w z) ex in
    subst (λ k. has (k ∷ remainder) d ≡ true) here (has-head d remainder))
    (cases_Bool (lt_z a d.x))

has_grid : (d : Cell) (b : Bounds) (z : ℤ) (h : ℕ) → IsWithin b d → b.left ≤ℤ b.right → z ≤ℤ d.y → d.y <ℤ (z +ℤ pos h) → has (grid b (run z h)) d ≡ true
has_grid d b z zero w wide l u = absurd (omega (arith, ints))
has_grid d b z (suc h) w wide l u =
    let row = row_cells z (span b.left b.right) in
    let remainder = grid b (run (z +ℤ pos 1) h) in
    let left = w.left in
    let right = w.right in
    has-append row remainder d ∙
    ⊎_elim
    (λ t. let past : z <ℤ d.y = lt_z-true z d.y t in or_right (has row d) (has remainder d)
    (has_grid d b (z +ℤ pos 1) h w wide (omega (arith, ints)) (omega (arith, ints))))
    (λ t. let not_past : d.y ≤ℤ z = lt_z-false z d.y t in
    let ey : d.y ≡ z = omega (arith, ints) in
    ap (λ v. v || has remainder d) (has_row d z b.left (suc (distance b.left b.right)) ey left (omega (arith, ints))))
    (cases_Bool (lt_z z d.y))

absorb : (g k : Bool) → (k ≡ true → g ≡ true) → (g && k) ≡ k
absorb g true h = rw (h refl) refl
absorb true false h = refl
absorb false false h = refl

-- filtering the cells of a pattern's smallest box by whether the pattern has them gives the pattern
kept : (cells : List Cell) (b : Bounds) → IsPattern cells → box_of cells ≡ Some b → filter (has cells) (grid b (span b.top b.bottom)) ≡ cells
kept cells b p e =
    let box = IsBox-box_of cells b p e in
    let all = grid b (span b.top b.bottom) in
    same_lists (filter (has cells) all) cells (in_order-filter (has cells) all (grid_in_order b b.top (suc (distance b.top b.bottom)))) p.in_order
    (λ d. has-filter (has cells) all d ∙ absorb (has all d) (has cells d) (λ h.
    let w : IsWithin b d = has-all (IsWithin b) cells d (within-box_of cells b e) h in
    let top = w.top in
    let bottom = w.bottom in
    let high = box.high in
    has_grid d b b.top (suc (distance b.top b.bottom)) w box.wide top (omega (arith, ints))))

-- the text of a pattern whose box is at most 1,000 by 1,000 is read as the pattern, moved to the corner
box_text_read : (cells : List Cell) (b : Bounds) → IsPattern cells → box_of cells ≡ Some b → FitsThousandSquare b
    → pattern (box_text (Some b) cells) ≡ Ok (map (moved_by (neg_ℤ b.left) (neg_ℤ b.top)) cells)
unfolding box_text
box_text_read cells b p e small =
    let zs = span b.top b.bottom in
    let text = flat_map (row_text cells b) zs in
    let width : length (span b.left b.right) ≤ side_limit = omega (arith, length-run b.left (suc (distance b.left b.right)), small.width) in
    let height : 0 + length zs ≤ side_limit = omega (arith, length-run b.top (suc (distance b.top b.bottom)), small.height) in
    let same : places text ≡ grid_places cells b 1 0 zs = places_are text ∙ ap (places_after 1 0) (split_rows cells b zs) ∙ places_of_rows cells b 1 0 zs in
    let none : first_fault (places text) ≡ None = ap first_fault same ∙ rows_no_fault cells b 1 0 zs width height in
    let live : live_cells (places text) ≡ map (moved_by (neg_ℤ b.left) (neg_ℤ b.top)) cells =
    ap live_cells same ∙ rows_live cells b (neg_ℤ b.left) (neg_ℤ b.top) 1 0 b.top (suc (distance b.top b.bottom)) (omega (arith, ints))
    (omega (arith, ints)) ∙ ap (map (moved_by (neg_ℤ b.left) (neg_ℤ b.top))) (kept cells b p e) in
    ap (λ o. cells_unless o (live_cells (places text))) none ∙ ap Ok live

nothing_read : pattern [] ≡ Ok []
unfolding places rows_of lines_of first_fault live_cells
nothing_read = refl

no_text : plain [] ≡ []
unfolding plain box_text
no_text = refl

pub round_trip : (cells : List Cell) → IsPattern cells → IfSome (box_of cells) FitsThousandSquare → pattern (plain cells) ≡ Ok (at_corner cells)
unfolding plain
round_trip [] p small = ap pattern no_text ∙ nothing_read
round_trip (c ∷ cs) p small = box_text_read (c ∷ cs) (grown c (box_of cs)) p refl small
