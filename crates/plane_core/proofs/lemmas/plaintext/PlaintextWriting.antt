-- The text of the rows of a pattern, as a walk along its cells writes it.
use Rattle.std.proofs.Common.{◌≡◌, ℕ, zero, suc, ℤ, pos, ◌+ℤ◌, ◌≤ℤ◌, ◌<ℤ◌, ◌+◌, ◌<◌, ◌≤◌, true, List, [], ◌∷◌, ◌++◌, Option}
use Rattle.std.proofs.Common.{Some, Result, length, map, take, drop, get_or, replicate, refl, sym, ap, subst, ◌∙◌, arith}
use Rattle.std.proofs.lemmas.Int.{ints}
use Rattle.std.proofs.lemmas.List.{append_assoc, append-nil, drop_more, drop_all, replicate-append-replicate}
use Rattle.std.proofs.lemmas.List.{map-append}
use Rattle.std.specs.List.{flat_map}
use Rattle.plane_core.specs.declared.plane.cell.Cell.{Cell}
use Rattle.plane_core.specs.declared.plane.bounds.Bounds.{Bounds}
use Rattle.plane_core.specs.plane.Cells.{cell_at, distance, has}
use Rattle.plane_core.specs.Outputs.{Output, Writes}
use Rattle.plane_core.specs.Plaintext.{run, byte_of, row_text, box_text}
use Rattle.plane_core.specs.PlaintextWalk.{IsAhead}
use Rattle.plane_core.proofs.lemmas.plane.SetLemmas.{has-head}
use Rattle.plane_core.proofs.lemmas.plaintext.PlaintextWalks.{IsRowAhead, IsRowAhead-at, has-gap, has-past, has-taken, has-left, len_in_row}
use Rattle.plane_core.specs.PlaintextPlaces.{dot, letter_o, line_feed}

-- a text that was written can be replaced by an equal text
pub Writes_as : {V E : Type 0} {contents : V → Option (List ℕ)} {x y : Output V} {r : Result (Unit {0}) E} {a b : List ℕ} → a ≡ b
    → Writes contents x y r a → Writes contents x y r b
Writes_as {E} {contents} {x} {y} {r} e h = subst (λ t. Writes {E = E} contents x y r t) e h

pub replicate_more : (m n k : ℕ) (b : ℕ) → m + n ≡ k → replicate m b ++ replicate n b ≡ replicate k b
replicate_more m n k b e = replicate-append-replicate m n b ∙ ap (λ j. replicate j b) e

pub replicate_more_remainder : (m n k l : ℕ) (b : ℕ) (text : List ℕ) → m + n + k ≡ l
    → (replicate m b ++ replicate n b) ++ (replicate k b ++ text) ≡ replicate l b ++ text
replicate_more_remainder m n k l b text e =
    ap (λ s. s ++ (replicate k b ++ text)) (replicate-append-replicate m n b) ∙ sym (append_assoc (replicate (m + n) b) (replicate k b) text)
    ∙ ap (λ s. s ++ text) (replicate_more (m + n) k l b e)

run-append : (a : ℤ) (m n k : ℕ) → k ≡ m + n → run a k ≡ run a m ++ run (a +ℤ pos m) n
run-append a zero n k e =
    let same : k ≡ n = omega arith in
    let start : a ≡ a +ℤ pos 0 = omega (arith, ints) in
    ap (λ j. run a j) same ∙ ap (λ b. run b n) start
run-append a (suc m) n zero e = absurd (omega arith)
run-append a (suc m) n (suc k) e =
    let start : (a +ℤ pos 1) +ℤ pos m ≡ a +ℤ pos (suc m) = omega (arith, ints) in
    ap (λ zs. a ∷ zs) (run-append (a +ℤ pos 1) m n k (omega arith) ∙ ap (λ b. run (a +ℤ pos 1) m ++ run b n) start)

-- two functions that agree on a run of numbers map the run to the same list
pub map-run : {X : Type 0} (f h : ℤ → X) (a : ℤ) (n : ℕ) → ((z : ℤ) → a ≤ℤ z → z <ℤ (a +ℤ pos n) → f z ≡ h z) → map f (run a n) ≡ map h (run a n)
map-run f h a zero e = refl
map-run f h a (suc n) e =
    let first : f a ≡ h a = e a (omega (arith, ints)) (omega (arith, ints)) in
    let remainder = map-run f h (a +ℤ pos 1) n (λ z l m. e z (omega (arith, ints)) (omega (arith, ints))) in
    cc

map-run-same : (b : ℕ) (a : ℤ) (n : ℕ) → map (λ _. b) (run a n) ≡ replicate n b
map-run-same b a zero = refl
map-run-same b a (suc n) = ap (λ bs. b ∷ bs) (map-run-same b (a +ℤ pos 1) n)

-- the bytes of row y in the columns `xs`
abbrev pub bytes_at : List Cell → ℤ → List ℤ → List ℕ
bytes_at cells y xs = map (λ x. byte_of (has cells (cell_at x y))) xs

-- the remaining text of row y from column x on, if the box ends before column e
unfoldable pub row_remainder : List Cell → ℤ → ℤ → ℤ → List ℕ
row_remainder cells y x e = bytes_at cells y (run x (distance x e)) ++ line_feed ∷ []

pub row_text_is : (cells : List Cell) (b : Bounds) (y : ℤ) → b.left ≤ℤ b.right → row_text cells b y ≡ row_remainder cells y b.left (b.right +ℤ pos 1)
unfolding row_text row_remainder
row_text_is cells b y l =
    let n : suc (distance b.left b.right) ≡ distance b.left (b.right +ℤ pos 1) = omega (arith, ints) in
    ap (λ k. bytes_at cells y (run b.left k) ++ line_feed ∷ []) n

pub row_remainder-nil : (y x e : ℤ) → row_remainder [] y x e ≡ replicate (distance x e) dot ++ line_feed ∷ []
unfolding row_remainder
row_remainder-nil y x e = ap (λ bs. bs ++ line_feed ∷ []) (map-run-same dot x (distance x e))

pub row_remainder-cons : (y x e : ℤ) (c : Cell) (cs : List Cell) → IsRowAhead y x e (c ∷ cs)
    → row_remainder (c ∷ cs) y x e ≡ (replicate (distance x c.x) dot ++ letter_o ∷ []) ++ row_remainder cs y (c.x +ℤ pos 1) e
unfolding row_remainder
row_remainder-cons y x e c cs h =
    let here = h.here.0 in
    let gap = distance x c.x in
    let remainder = distance (c.x +ℤ pos 1) e in
    let all : distance x e ≡ gap + suc remainder = omega (arith, ints) in
    let at_cell : x +ℤ pos gap ≡ c.x = omega (arith, ints) in
    let split : run x (distance x e) ≡ run x gap ++ (c.x ∷ run (c.x +ℤ pos 1) remainder) =
    run-append x gap (suc remainder) (distance x e) all ∙ ap (λ b. run x gap ++ run b (suc remainder)) at_cell in
    let dead : bytes_at (c ∷ cs) y (run x gap) ≡ replicate gap dot =
    map-run (λ z. byte_of (has (c ∷ cs) (cell_at z y))) (λ _. dot) x gap (λ z l m. ap byte_of (has-gap y x e z c cs h (omega (arith, ints))))
    ∙ map-run-same dot x gap in
    let live : byte_of (has (c ∷ cs) (cell_at c.x y)) ≡ letter_o =
    ap byte_of (subst (λ w. has (c ∷ cs) (cell_at c.x w) ≡ true) here.0 (has-head c cs)) in
    let past : bytes_at (c ∷ cs) y (run (c.x +ℤ pos 1) remainder) ≡ bytes_at cs y (run (c.x +ℤ pos 1) remainder) =
    map-run (λ z. byte_of (has (c ∷ cs) (cell_at z y))) (λ z. byte_of (has cs (cell_at z y))) (c.x +ℤ pos 1) remainder
    (λ z l m. ap byte_of (has-past y z c cs here.0 (omega (arith, ints)))) in
    let columns : bytes_at (c ∷ cs) y (run x (distance x e)) ≡ replicate gap dot ++ (letter_o ∷ bytes_at cs y (run (c.x +ℤ pos 1) remainder)) =
    ap (λ zs. bytes_at (c ∷ cs) y zs) split ∙ map-append (λ z. byte_of (has (c ∷ cs) (cell_at z y))) (run x gap) (c.x ∷ run (c.x +ℤ pos 1) remainder) ∙ cc in
    ap (λ bs. bs ++ line_feed ∷ []) columns ∙ append_assoc (replicate gap dot) (letter_o ∷ bytes_at cs y (run (c.x +ℤ pos 1) remainder)) (line_feed ∷ [])
    ∙ sym (append_assoc (replicate gap dot) (letter_o ∷ []) (bytes_at cs y (run (c.x +ℤ pos 1) remainder) ++ line_feed ∷ []))

-- the text of a row is the text so far, the dead cells before cell i, cell i itself, and the remaining text after it
pub row_remainder-at : (y x e : ℤ) (row : List Cell) (i : ℕ) (d : Cell) (prefix whole : List ℕ) → i < length row → IsRowAhead y x e (drop i row)
    → whole ≡ prefix ++ row_remainder (drop i row) y x e
    → whole ≡ (prefix ++ (replicate (distance x (get_or row i d).x) dot ++ letter_o ∷ [])) ++ row_remainder (drop (i + 1) row) y ((get_or row i d).x +ℤ pos 1) e
row_remainder-at y x e row i d prefix whole l h w =
    let c = get_or row i d in
    let cs = drop (i + 1) row in
    w ∙ ap (λ ds. prefix ++ row_remainder ds y x e) (drop_more row i d l) ∙ ap (λ t. prefix ++ t) (row_remainder-cons y x e c cs (IsRowAhead-at y x e row i d l h))
    ∙ sym (append_assoc prefix (replicate (distance x c.x) dot ++ letter_o ∷ []) (row_remainder cs y (c.x +ℤ pos 1) e))

pub row_remainder-end : (y x e : ℤ) (row : List Cell) (i : ℕ) (prefix whole : List ℕ) → length row ≤ i → whole ≡ prefix ++ row_remainder (drop i row) y x e
    → whole ≡ prefix ++ (replicate (distance x e) dot ++ line_feed ∷ [])
row_remainder-end y x e row i prefix whole l w = w ∙ ap (λ ds. prefix ++ row_remainder ds y x e) (drop_all i row l) ∙ ap (λ t. prefix ++ t) (row_remainder-nil y x e)

-- lists with the same cells in row y have the same text for that row
pub row_text-same : (cs ds : List Cell) (b : Bounds) (y : ℤ) → ((x : ℤ) → has cs (cell_at x y) ≡ has ds (cell_at x y)) → row_text cs b y ≡ row_text ds b y
unfolding row_text
row_text-same cs ds b y h = ap (λ bs. bs ++ line_feed ∷ [])
    (map-run (λ x. byte_of (has cs (cell_at x y))) (λ x. byte_of (has ds (cell_at x y))) b.left (suc (distance b.left b.right)) (λ z l m. ap byte_of (h z)))

pub row_text-taken : (y : ℤ) (b : Bounds) (cs : List Cell) → IsAhead y b cs → row_text cs b y ≡ row_text (take (len_in_row y cs) cs) b y
row_text-taken y b cs h = row_text-same cs (take (len_in_row y cs) cs) b y (has-taken y b cs h)

-- the remaining text of the rows of a box from row y on
unfoldable pub rows_remainder : List Cell → Bounds → ℤ → List ℕ
rows_remainder cells b y = flat_map (row_text cells b) (run y (distance y (b.bottom +ℤ pos 1)))

pub box_text_is : (cells : List Cell) (b : Bounds) → b.top ≤ℤ b.bottom → box_text (Some b) cells ≡ rows_remainder cells b b.top
unfolding rows_remainder box_text
box_text_is cells b l =
    let n : suc (distance b.top b.bottom) ≡ distance b.top (b.bottom +ℤ pos 1) = omega (arith, ints) in
    ap (λ k. flat_map (row_text cells b) (run b.top k)) n

-- the pattern and the remaining cells have the same cells in row y and in the rows below it
abbrev pub SameFrom : ℤ → List Cell → List Cell → Type 0
SameFrom y cells remainder = (x z : ℤ) → y ≤ℤ z → has cells (cell_at x z) ≡ has remainder (cell_at x z)

pub SameFrom-next : (y : ℤ) (cells remainder : List Cell) → SameFrom y cells remainder → SameFrom (y +ℤ pos 1) cells (drop (len_in_row y remainder) remainder)
SameFrom-next y cells remainder h x z l = h x z (omega (arith, ints)) ∙ has-left y remainder x z (omega (arith, ints))

pub rows_remainder-at : (cells remainder : List Cell) (b : Bounds) (y : ℤ) (prefix whole : List ℕ) → y <ℤ (b.bottom +ℤ pos 1) → SameFrom y cells remainder
    → whole ≡ prefix ++ rows_remainder cells b y → whole ≡ (prefix ++ row_text remainder b y) ++ rows_remainder cells b (y +ℤ pos 1)
unfolding rows_remainder
rows_remainder-at cells remainder b y prefix whole l h w =
    let later = flat_map (row_text cells b) (run (y +ℤ pos 1) (distance (y +ℤ pos 1) (b.bottom +ℤ pos 1))) in
    let n : distance y (b.bottom +ℤ pos 1) ≡ suc (distance (y +ℤ pos 1) (b.bottom +ℤ pos 1)) = omega (arith, ints) in
    let same : row_text cells b y ≡ row_text remainder b y = row_text-same cells remainder b y (λ x. h x y (omega (arith, ints))) in
    w ∙ ap (λ k. prefix ++ flat_map (row_text cells b) (run y k)) n ∙ ap (λ t. prefix ++ (t ++ later)) same ∙ sym (append_assoc prefix (row_text remainder b y) later)

pub rows_remainder-end : (cells : List Cell) (b : Bounds) (y : ℤ) (prefix whole : List ℕ) → (b.bottom +ℤ pos 1) ≤ℤ y → y ≤ℤ (b.bottom +ℤ pos 1)
    → whole ≡ prefix ++ rows_remainder cells b y → whole ≡ prefix
unfolding rows_remainder
rows_remainder-end cells b y prefix whole l m w =
    let n : distance y (b.bottom +ℤ pos 1) ≡ 0 = omega (arith, ints) in
    w ∙ ap (λ k. prefix ++ flat_map (row_text cells b) (run y k)) n ∙ append-nil prefix
