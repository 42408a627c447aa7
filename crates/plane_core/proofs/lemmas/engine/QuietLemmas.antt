-- What a leap leaves unchanged, and the boxes for the next leap. A pattern is quiet outside of some boxes if each cell
-- that isn't within 2 of a box is the same two generations later.
use Rattle.std.proofs.Common.{◌≡◌, ◌≢◌, ◌+◌, ◌-◌, ◌%◌, ◌≤◌, ℕ, zero, suc, Bool, true, false, cond, List, [], ◌⊎◌}
use Rattle.std.proofs.Common.{arith, refl, ap, ◌∙◌, sym, subst, inl, inr}
use Rattle.std.proofs.lemmas.Bool.{eq-eqb, false≢true, ne_eqb}
use Rattle.plane_core.specs.declared.plane.bounds.Bounds.{Bounds}
use Rattle.plane_core.specs.declared.plane.cell.Cell.{Cell}
use Rattle.plane_core.specs.declared.engine.leap_window.LeapWindow.{LeapWindow}
use Rattle.plane_core.specs.engine.ActiveBoxes.{AreCovered, HoldAll, HoldDifferences, IsInOne, IsNearOne, IsQuiet}
use Rattle.plane_core.specs.plane.Cells.{InOrder, has, king_distance}
use Rattle.plane_core.specs.plane.Generations.{after}
use Rattle.plane_core.specs.engine.LeapWindows.{compared_with}
use Rattle.plane_core.specs.plane.Rules.{Numbers}
use Rattle.plane_core.proofs.lemmas.plane.CaseLemmas.{same_or_not}
use Rattle.plane_core.proofs.lemmas.engine.ActiveBoxLemmas.{near_further, near_itself, near_wider}
use Rattle.plane_core.proofs.lemmas.plane.GenerationLemmas.{after-none, distance_itself, has-next}
use Rattle.plane_core.proofs.lemmas.plane.PartLemmas.{false_unless, lives-local, near-after, triangle}
use Rattle.plane_core.proofs.lemmas.plane.RunLemmas.{after-plus, in_order-after}
use Rattle.plane_core.proofs.lemmas.plane.SpeedLemmas.{after-suc}
use Rattle.plane_core.proofs.lemmas.Between.{IsStillOutside}

-- the state of a cell after n generations depends only on the cells within n of it
pub after-local : (rule : Numbers) (S T : List Cell) (n : ℕ) (c : Cell) → InOrder S → InOrder T
    → ((d : Cell) → king_distance c d ≤ n → has S d ≡ has T d) → has (after rule S n) c ≡ has (after rule T n) c
after-local rule S T zero c o u same =
    ap (λ (V : List Cell). has V c) (after-none rule S) ∙ same c (omega (arith, distance_itself c.x, distance_itself c.y))
    ∙ sym (ap (λ (V : List Cell). has V c) (after-none rule T))
after-local rule S T (suc n) c o u same =
    ap (λ (V : List Cell). has V c) (after-suc rule S n) ∙ has-next rule (after rule S n) c
    ∙ lives-local rule (after rule S n) (after rule T n) c (in_order-after rule S n o) (in_order-after rule T n u)
    (λ d near. after-local rule S T n d o u (λ e further. same e (omega (arith, triangle c d e 1 n near further))))
    ∙ sym (ap (λ (V : List Cell). has V c) (after-suc rule T n) ∙ has-next rule (after rule T n) c)

-- if no cell within n of c is alive, c is dead after n generations
pub none-after : (rule : Numbers) (S : List Cell) (n : ℕ) (c : Cell) → ((d : Cell) → king_distance c d ≤ n → ¬ (has S d ≡ true))
    → has (after rule S n) c ≡ false
none-after rule S n c none =
    false_unless (has (after rule S n) c) (λ h. let d = near-after rule S n c h in none d.0 d.2 d.1)

-- two Booleans that don't differ are equal
pub same_unless : (a b : Bool) → ¬ (a ≢ b) → a ≡ b
same_unless true true h = refl
same_unless true false h = absurd (h (λ e. false≢true (sym e)))
same_unless false true h = absurd (h (λ e. false≢true e))
same_unless false false h = refl

-- a cell within n of a cell in a box is within n of the box
near_in : (boxes : List Bounds) (n : ℕ) (c d : Cell) → king_distance c d ≤ n → IsInOne boxes d → IsNearOne n boxes c
near_in boxes n c d near h = near_wider boxes (0 + n) n c (omega arith) (near_further boxes 0 n c d near (near_itself boxes d h))

-- ---- while the boxes hold all live cells

pub still-early : (rule : Numbers) (S : List Cell) (boxes : List Bounds) (m n : ℕ) (c : Cell) → HoldAll boxes S → n ≤ m
    → ¬ IsNearOne m boxes c → has (after rule S n) c ≡ has S c
still-early rule S boxes m n c all le far =
    none-after rule S n c (λ d near h. far (near_in boxes m c d (omega arith) (all d h)))
    ∙ sym (false_unless (has S c)
    (λ h. far (near_in boxes m c c (omega (arith, distance_itself c.x, distance_itself c.y)) (all c h))))

-- if the boxes hold all live cells, each cell that isn't within 2 of a box is the same two generations later
pub quiet-start : (rule : Numbers) (S : List Cell) (boxes : List Bounds) → HoldAll boxes S → IsQuiet rule S boxes
quiet-start rule S boxes all c far = still-early rule S boxes 2 2 c all (omega arith) far

-- if the windows cover boxes that hold all live cells, each cell outside the inner parts of the windows is unchanged
-- after up to four generations
pub still_outside-held : (rule : Numbers) (S : List Cell) (boxes : List Bounds) (places : List LeapWindow) (n : ℕ) → HoldAll boxes S
    → AreCovered places boxes → n ≤ 4 → IsStillOutside rule places S n
still_outside-held rule S boxes places n all covered le c out =
    still-early rule S boxes 4 n c all le (λ near. out (covered c near))

-- ---- while the boxes hold what changes

still-two : (rule : Numbers) (S : List Cell) (boxes : List Bounds) (c : Cell) → IsQuiet rule S boxes → ¬ IsNearOne 4 boxes c
    → has (after rule S 2) c ≡ has S c
still-two rule S boxes c quiet far = quiet c (λ near. far (near_wider boxes 2 4 c (omega arith) near))

still-four : (rule : Numbers) (S : List Cell) (boxes : List Bounds) (c : Cell) → InOrder S → IsQuiet rule S boxes → ¬ IsNearOne 4 boxes c
    → has (after rule S 4) c ≡ has S c
still-four rule S boxes c o quiet far =
    ap (λ (T : List Cell). has T c) (sym (after-plus rule S 2 2))
    ∙ after-local rule (after rule S 2) S 2 c (in_order-after rule S 2 o) o
    (λ d near. quiet d (λ close. far (near_further boxes 2 2 c d near close)))
    ∙ still-two rule S boxes c quiet far

-- an even number from 1 to 4 is 2 or 4
even_leap : (n : ℕ) → 1 ≤ n → n ≤ 4 → n % 2 ≡ 0 → (n ≡ 2) ⊎ (n ≡ 4)
even_leap n low high even = either (same_or_not n 2)
  where
    either : (n ≡ 2) ⊎ (n ≢ 2) → (n ≡ 2) ⊎ (n ≡ 4)
    either (inl two) = inl two
    either (inr other) = inr (omega arith)

still-even : (rule : Numbers) (S : List Cell) (boxes : List Bounds) (n : ℕ) (c : Cell) → InOrder S → IsQuiet rule S boxes
    → (n ≡ 2) ⊎ (n ≡ 4) → ¬ IsNearOne 4 boxes c → has (after rule S n) c ≡ has S c
still-even rule S boxes n c o quiet (inl two) far =
    ap (λ (m : ℕ). has (after rule S m) c) two ∙ still-two rule S boxes c quiet far
still-even rule S boxes n c o quiet (inr four) far =
    ap (λ (m : ℕ). has (after rule S m) c) four ∙ still-four rule S boxes c o quiet far

pub still_outside-quiet : (rule : Numbers) (S : List Cell) (boxes : List Bounds) (places : List LeapWindow) (n : ℕ) → InOrder S
    → IsQuiet rule S boxes → AreCovered places boxes → 1 ≤ n → n ≤ 4 → n % 2 ≡ 0 → IsStillOutside rule places S n
still_outside-quiet rule S boxes places n o quiet covered low high even c out =
    still-even rule S boxes n c o quiet (even_leap n low high even) (λ near. out (covered c near))

-- if a pattern differs from the one two generations earlier only in the boxes, each cell that isn't within 2 of a box
-- is the same two generations later
quiet_by_last : (rule : Numbers) (S last : List Cell) (new : List Bounds) → InOrder S → InOrder last → S ≡ after rule last 2
    → ((d : Cell) → ¬ IsInOne new d → has S d ≡ has last d) → IsQuiet rule S new
quiet_by_last rule S last new o u is same c far =
    after-local rule S last 2 c o u
    (λ d near. same d (λ in_one. far (near_in new 2 c d near in_one)))
    ∙ ap (λ (T : List Cell). has T c) (sym is)

-- after an even number of generations, the last one is compared with the generation two earlier
pub compared-even : (rule : Numbers) (S : List Cell) (n : ℕ) → n % 2 ≡ 0 → compared_with rule S n ≡ after rule S (n - 2)
compared-even rule S n even = ap (λ (b : Bool). cond {A = List Cell} b (after rule S (n - 2)) []) (eq-eqb (n % 2) 0 even)

pub compared-odd : (rule : Numbers) (S : List Cell) (n : ℕ) → n % 2 ≡ 1 → compared_with rule S n ≡ []
compared-odd rule S n odd =
    ap (λ (b : Bool). cond {A = List Cell} b (after rule S (n - 2)) []) (ne_eqb (n % 2) 0 (λ e. absurd (omega arith)))

pub quiet-next : (rule : Numbers) (S : List Cell) (boxes new : List Bounds) (places : List LeapWindow) (n : ℕ) → InOrder S
    → IsQuiet rule S boxes → AreCovered places boxes → 1 ≤ n → n ≤ 4 → n % 2 ≡ 0
    → HoldDifferences places (after rule S n) (compared_with rule S n) new → IsQuiet rule (after rule S n) new
quiet-next rule S boxes new places n o quiet covered low high even differ =
    quiet_by_last rule (after rule S n) (after rule S (n - 2)) new (in_order-after rule S n o) (in_order-after rule S (n - 2) o)
    (ap (λ (m : ℕ). after rule S m) (two_more which) ∙ sym (after-plus rule S (n - 2) 2))
    (λ d out. same_unless (has (after rule S n) d) (has (after rule S (n - 2)) d) (λ ne. ne (both d (off d out ne))))
  where
    which : (n ≡ 2) ⊎ (n ≡ 4)
    which = even_leap n low high even

    two_more : (n ≡ 2) ⊎ (n ≡ 4) → n ≡ n - 2 + 2
    two_more (inl two) = omega arith
    two_more (inr four) = omega arith

    compared : HoldDifferences places (after rule S n) (after rule S (n - 2)) new
    compared = subst (λ (T : List Cell). HoldDifferences places (after rule S n) T new) (compared-even rule S n even) differ

    off : (d : Cell) → ¬ IsInOne new d → has (after rule S n) d ≢ has (after rule S (n - 2)) d → ¬ IsNearOne 4 boxes d
    off d out ne near = out (compared d (covered d near) ne)

    before : (d : Cell) → (n ≡ 2) ⊎ (n ≡ 4) → ¬ IsNearOne 4 boxes d → has (after rule S (n - 2)) d ≡ has S d
    before d (inl two) far = ap (λ (m : ℕ). has (after rule S (m - 2)) d) two ∙ ap (λ (T : List Cell). has T d) (after-none rule S)
    before d (inr four) far = ap (λ (m : ℕ). has (after rule S (m - 2)) d) four ∙ still-two rule S boxes d quiet far

    both : (d : Cell) → ¬ IsNearOne 4 boxes d → has (after rule S n) d ≡ has (after rule S (n - 2)) d
    both d far = still-even rule S boxes n d o quiet which far ∙ sym (before d which far)

-- if the boxes hold all live cells, the new boxes hold all cells that are alive after an odd number of generations
pub boxed-next : (rule : Numbers) (S : List Cell) (boxes new : List Bounds) (places : List LeapWindow) (n : ℕ) → HoldAll boxes S
    → AreCovered places boxes → n ≤ 4 → n % 2 ≡ 1 → HoldDifferences places (after rule S n) (compared_with rule S n) new
    → HoldAll new (after rule S n)
boxed-next rule S boxes new places n all covered le odd differ c h =
    let d = near-after rule S n c h in
    let compared : HoldDifferences places (after rule S n) [] new =
    subst (λ (T : List Cell). HoldDifferences places (after rule S n) T new) (compared-odd rule S n odd) differ in
    compared c (covered c (near_in boxes 4 c d.0 (omega (arith, d.2)) (all d.0 d.1))) (λ e. false≢true (sym e ∙ h))

-- ---- when cells are taken out or put in

-- if S is quiet outside `boxes`, and T differs from S only in the boxes of `more`, then T is quiet outside `new`,
-- provided that each cell within 2 of a box of `boxes` or of `more` is also within 2 of a box of `new`
pub quiet-changed : (rule : Numbers) (S T : List Cell) (boxes more new : List Bounds) → InOrder S → InOrder T → IsQuiet rule S boxes
    → ((c : Cell) → has T c ≢ has S c → IsInOne more c) → ((c : Cell) → IsNearOne 2 boxes c → IsNearOne 2 new c)
    → ((c : Cell) → IsNearOne 2 more c → IsNearOne 2 new c) → IsQuiet rule T new
quiet-changed rule S T boxes more new o u quiet differ old added c far =
    after-local rule T S 2 c u o same ∙ quiet c (λ near. far (old c near))
    ∙ sym (same c (omega (arith, distance_itself c.x, distance_itself c.y)))
  where
    same : (d : Cell) → king_distance c d ≤ 2 → has T d ≡ has S d
    same d near = same_unless (has T d) (has S d) (λ ne. far (added c (near_in more 2 c d near (differ d ne))))
