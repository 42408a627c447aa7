-- The places of a text, line by line, with their first fault and their cells.
use Rattle.std.proofs.Common.{◌≡◌, ◌==◌, ℕ, pos, ◌+◌, ◌*◌, ◌<◌, ◌≤◌, Fits, w64, true, false, not, List, [], ◌∷◌, ◌++◌, Option}
use Rattle.std.proofs.Common.{Some, None, length, get_or, drop, map, filter, refl, sym, ap, ◌∙◌, arith}
use Rattle.std.specs.Option.{option_or}
use Rattle.std.specs.List.{slice_get, slice_split, filter_map, flat_map, enumerate_from}
use Rattle.std.specs.Str.Lines.{strip_carriage_return}
use Rattle.std.proofs.lemmas.List.Elements.{filter-append, filter_map-append}
use Rattle.std.proofs.lemmas.List.Splits.{length-slice_split}
use Rattle.std.proofs.lemmas.List.Sums.{count_by-le-length}
use Rattle.std.proofs.lemmas.List.{drop_more, drop_all, append_assoc, append-nil, map-append}
use Rattle.plane_core.specs.declared.plane.cell.Cell.{Cell}
use Rattle.plane_core.specs.declared.plaintext.PlaintextFault.{PlaintextFault}
use Rattle.plane_core.specs.plane.Cells.{cell_at}
use Rattle.plane_core.specs.Plaintext.{is_live, fault_at, first_fault, live_cells}
use Rattle.plane_core.specs.PlaintextPlaces.{line_feed, side_limit, Place, is_comment, lines_of, rows_of, places_of_row, places}
use Rattle.plane_core.proofs.lemmas.plaintext.PlaintextRows.{row_in_limits, live_cells-line}

-- the parts of a text between its line feeds
abbrev pub parts_of : List ℕ → List (List ℕ)
parts_of text = slice_split (λ b. b == line_feed) text

-- the places of some lines; the first line is line n, and the first row is row y
unfoldable pub places_after : ℕ → ℕ → List (List ℕ) → List Place
places_after n y parts = flat_map places_of_row
    (enumerate_from y (filter (λ line. not (is_comment line.1)) (enumerate_from n (map strip_carriage_return parts))))

pub places_are : (text : List ℕ) → places text ≡ places_after 1 0 (parts_of text)
unfolding places rows_of lines_of places_after
places_are text = refl

pub places_after-cons_comment : (n y : ℕ) (line : List ℕ) (parts : List (List ℕ)) → is_comment (strip_carriage_return line) ≡ true
    → places_after n y (line ∷ parts) ≡ places_after (n + 1) y parts
unfolding places_after
places_after-cons_comment n y line parts h = rw h refl

pub places_after-cons_row : (n y : ℕ) (line : List ℕ) (parts : List (List ℕ)) → is_comment (strip_carriage_return line) ≡ false
    → places_after n y (line ∷ parts) ≡ places_of_row (y, (n, strip_carriage_return line)) ++ places_after (n + 1) (y + 1) parts
unfolding places_after
places_after-cons_row n y line parts h = rw h refl

slice_get-append_first : {X : Type 0} (xs ys : List X) → slice_get (xs ++ ys) 0 ≡ option_or (slice_get xs 0) (slice_get ys 0)
slice_get-append_first [] ys = refl
slice_get-append_first (x ∷ xs) ys = refl

pub first_fault-append : (ps qs : List Place) → first_fault (ps ++ qs) ≡ option_or (first_fault ps) (first_fault qs)
unfolding first_fault
first_fault-append ps qs = ap (λ fs. slice_get fs 0) (filter_map-append fault_at ps qs)
    ∙ slice_get-append_first (filter_map fault_at ps) (filter_map fault_at qs)

pub live_cells-append : (ps qs : List Place) → live_cells (ps ++ qs) ≡ live_cells ps ++ live_cells qs
unfolding live_cells
live_cells-append ps qs = ap (map (λ p. cell_at (pos p.x) (pos p.y))) (filter-append (λ p. is_live p.byte) ps qs)
    ∙ map-append _ (filter (λ p. is_live p.byte) ps) (filter (λ p. is_live p.byte) qs)

-- after the first n parts, `line` is the next part
abbrev pub IsNext : List (List ℕ) → ℕ → List ℕ → Type 0
IsNext parts n line = (n < length parts) × (line ≡ get_or parts n line)

IsNext-drop : (parts : List (List ℕ)) (n : ℕ) (line : List ℕ) → IsNext parts n line → drop n parts ≡ line ∷ drop (n + 1) parts
IsNext-drop parts n line t = drop_more parts n line t.0 ∙ ap (λ l. l ∷ drop (n + 1) parts) (sym t.1)

pub comment_here : (n y : ℕ) (parts : List (List ℕ)) (line : List ℕ) → IsNext parts n line → is_comment (strip_carriage_return line) ≡ true
    → places_after (n + 1) y (drop n parts) ≡ places_after (n + 1 + 1) y (drop (n + 1) parts)
comment_here n y parts line t e = ap (places_after (n + 1) y) (IsNext-drop parts n line t) ∙ places_after-cons_comment (n + 1) y _ _ e

pub row_here : (n y : ℕ) (parts : List (List ℕ)) (line : List ℕ) → IsNext parts n line → is_comment (strip_carriage_return line) ≡ false
    → places_after (n + 1) y (drop n parts) ≡ places_of_row (y, (n + 1, strip_carriage_return line)) ++ places_after (n + 1 + 1) (y + 1) (drop (n + 1) parts)
row_here n y parts line t e = ap (places_after (n + 1) y) (IsNext-drop parts n line t) ∙ places_after-cons_row (n + 1) y _ _ e

pub no_place_past : (n y : ℕ) (parts : List (List ℕ)) → n ≡ length parts → places_after (n + 1) y (drop n parts) ≡ []
unfolding places_after
no_place_past n y parts h = rw (drop_all n parts (omega arith)) refl

-- if line n + 1 is a comment, the first fault from this line on is the first fault of the later lines
pub no_fault_in_comment : (n y : ℕ) (parts : List (List ℕ)) (line : List ℕ) → IsNext parts n line → is_comment (strip_carriage_return line) ≡ true
    → first_fault (places_after (n + 1) y (drop n parts)) ≡ first_fault (places_after (n + 1 + 1) y (drop (n + 1) parts))
no_fault_in_comment n y parts line t e = ap first_fault (comment_here n y parts line t e)

fault_of_rows : (n y : ℕ) (parts : List (List ℕ)) (line : List ℕ) → IsNext parts n line → is_comment (strip_carriage_return line) ≡ false
    → first_fault (places_after (n + 1) y (drop n parts)) ≡ option_or (first_fault (places_of_row (y, (n + 1, strip_carriage_return line))))
    (first_fault (places_after (n + 1 + 1) (y + 1) (drop (n + 1) parts)))
fault_of_rows n y parts line t e = ap first_fault (row_here n y parts line t e) ∙ first_fault-append (places_of_row (y, (n + 1, strip_carriage_return line))) _

pub fault_in_row_here : (n y : ℕ) (parts : List (List ℕ)) (line : List ℕ) (f : PlaintextFault) → IsNext parts n line
    → is_comment (strip_carriage_return line) ≡ false → first_fault (places_of_row (y, (n + 1, strip_carriage_return line))) ≡ Some f
    → first_fault (places_after (n + 1) y (drop n parts)) ≡ Some f
fault_in_row_here n y parts line f t e h =
    fault_of_rows n y parts line t e ∙ ap (λ o. option_or o (first_fault (places_after (n + 1 + 1) (y + 1) (drop (n + 1) parts)))) h

pub no_fault_in_row_here : (n y : ℕ) (parts : List (List ℕ)) (line : List ℕ) → IsNext parts n line → is_comment (strip_carriage_return line) ≡ false
    → first_fault (places_of_row (y, (n + 1, strip_carriage_return line))) ≡ None
    → first_fault (places_after (n + 1) y (drop n parts)) ≡ first_fault (places_after (n + 1 + 1) (y + 1) (drop (n + 1) parts))
no_fault_in_row_here n y parts line t e h =
    fault_of_rows n y parts line t e ∙ ap (λ o. option_or o (first_fault (places_after (n + 1 + 1) (y + 1) (drop (n + 1) parts)))) h

pub no_fault_past_lines : (n y : ℕ) (parts : List (List ℕ)) → n ≡ length parts → first_fault (places_after (n + 1) y (drop n parts)) ≡ None
unfolding first_fault
no_fault_past_lines n y parts h = rw (no_place_past n y parts h) refl

neither : {X : Type 0} (a b : Option X) → option_or a b ≡ None → (a ≡ None) × (b ≡ None)
neither None b h = (refl, h)
neither (Some x) b h = absurd (cc)

-- if line n + 1 is a row, and there is no fault from this line on, then the row has no fault, and the later lines have
-- no fault
no_fault_both : (n y : ℕ) (parts : List (List ℕ)) (line : List ℕ) → IsNext parts n line → is_comment (strip_carriage_return line) ≡ false
    → first_fault (places_after (n + 1) y (drop n parts)) ≡ None → (first_fault (places_of_row (y, (n + 1, strip_carriage_return line))) ≡ None)
    × (first_fault (places_after (n + 1 + 1) (y + 1) (drop (n + 1) parts)) ≡ None)
no_fault_both n y parts line t e h = neither _ _ (sym (fault_of_rows n y parts line t e) ∙ h)

pub no_fault_later : (n y : ℕ) (parts : List (List ℕ)) (line : List ℕ) → IsNext parts n line → is_comment (strip_carriage_return line) ≡ false
    → first_fault (places_after (n + 1) y (drop n parts)) ≡ None → first_fault (places_after (n + 1 + 1) (y + 1) (drop (n + 1) parts)) ≡ None
no_fault_later n y parts line t e h = (no_fault_both n y parts line t e h).1

pub row_is_small : (n y : ℕ) (parts : List (List ℕ)) (line : List ℕ) → IsNext parts n line → is_comment (strip_carriage_return line) ≡ false
    → first_fault (places_after (n + 1) y (drop n parts)) ≡ None → (k : ℕ) → k < length (strip_carriage_return line) → (k < side_limit) × (y < side_limit)
row_is_small n y parts line t e h k l =
    let s = row_in_limits (n + 1) y 0 (strip_carriage_return line) (no_fault_both n y parts line t e h).0 k l in
    (omega arith, s.1)

-- if line n + 1 is a row, the live cells from this line on are the row's live cells, followed by the live cells of the
-- later lines
pub cells_of_row : (n y : ℕ) (parts : List (List ℕ)) (line : List ℕ) → IsNext parts n line → is_comment (strip_carriage_return line) ≡ false
    → live_cells (places_after (n + 1) y (drop n parts)) ≡ live_cells (places_of_row (y, (0, strip_carriage_return line))) ++ live_cells
    (places_after (n + 1 + 1) (y + 1) (drop (n + 1) parts))
cells_of_row n y parts line t e =
    ap live_cells (row_here n y parts line t e)
    ∙ live_cells-append (places_of_row (y, (n + 1, strip_carriage_return line))) (places_after (n + 1 + 1) (y + 1) (drop (n + 1) parts))
    ∙ ap (λ cs. cs ++ live_cells (places_after (n + 1 + 1) (y + 1) (drop (n + 1) parts))) (live_cells-line (n + 1) y 0 (strip_carriage_return line))

pub no_cell_in_comment : (n y : ℕ) (parts : List (List ℕ)) (line : List ℕ) → IsNext parts n line → is_comment (strip_carriage_return line) ≡ true
    → live_cells (places_after (n + 1) y (drop n parts)) ≡ live_cells (places_after (n + 1 + 1) y (drop (n + 1) parts))
no_cell_in_comment n y parts line t e = ap live_cells (comment_here n y parts line t e)

pub no_cell_past_lines : (n y : ℕ) (parts : List (List ℕ)) (cells : List Cell) → n ≡ length parts
    → cells ++ live_cells (places_after (n + 1) y (drop n parts)) ≡ cells
unfolding live_cells
no_cell_past_lines n y parts cells h = rw (no_place_past n y parts h) (append-nil cells)

-- if cells move from the front of the remainder to the end of the list, list and remainder together are still `all`
pub moved_over : (done more new remainder later all : List Cell) → new ≡ done ++ more → remainder ≡ more ++ later → done ++ remainder ≡ all → new ++ later ≡ all
moved_over done more new remainder later all g e h = ap (λ cs. cs ++ later) g ∙ append_assoc done more later ∙ ap (λ cs. done ++ cs) (sym e) ∙ h

-- after one more row, there are still at most as many rows as lines
pub one_row_more : (y n : ℕ) → y ≤ n → y + 1 ≤ n + 1
one_row_more y n h = omega arith

pub one_line_more : (y n : ℕ) → y ≤ n → y ≤ n + 1
one_line_more y n h = omega arith

-- the number of the next line or row fits in 64 bits, since a text has at most one more line than it has bytes
pub fits_one_more : (text : List ℕ) (n k : ℕ) → length text * 1 < 9223372036854775808 → n < length (parts_of text) → k ≤ n → Fits w64 (k + 1)
fits_one_more text n k small low few =
    omega (arith, length-slice_split (λ b. b == line_feed) text, count_by-le-length (λ b. b == line_feed) text, small, low, few)
