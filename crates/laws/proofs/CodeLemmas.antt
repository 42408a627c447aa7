-- Two patterns with the same apgcode are one object, if the apgcode contains a Wechsler text.
use Rattle.std.proofs.Common.{◌≡◌, ◌∙◌, sym, ap, refl, subst, ℕ, zero, suc, ◌+◌, ◌-◌, ◌/◌, ◌%◌, ◌<◌, ◌==◌, Bool, true, false, not, cond, List, [], ◌∷◌, ◌++◌}
use Rattle.std.proofs.Common.{Option, None, Some, Ok, decimal, get_or, arith, neg_ℤ}
use Rattle.std.specs.Fmt.{digit_glyph, digits, digits_onto}
use Rattle.std.specs.List.{list_all}
use Rattle.std.proofs.lemmas.Bool.{and_from, and_parts}
use Rattle.std.proofs.lemmas.Bool.Decides.{nat_tests}
use Rattle.plane_core.specs.declared.plane.cell.Cell.{Cell}
use Rattle.plane_core.specs.declared.plane.orientation.Orientation.{Orientation}
use Rattle.plane_core.specs.declared.plane.orientation.Orientation.TheVariants.{Same}
use Rattle.plane_core.specs.plane.Bounds.{at_corner, box_of, grown, shifted}
use Rattle.plane_core.specs.plane.Cells.{InOrder}
use Rattle.plane_core.specs.plane.Generations.{after}
use Rattle.plane_core.specs.plane.OrientationLaws.{product}
use Rattle.plane_core.specs.plane.Orientations.{image, turned}
use Rattle.plane_core.specs.plane.Rules.{Numbers}
use Rattle.plane_core.proofs.lemmas.plane.TransformLemmas.{in_order-shifted}
use Rattle.plane_core.proofs.lemmas.plane.OrientationLemmas.{at_corner-shifted, same_is_identity, turned-turned, turning_back, turning_moved}
use Rattle.code_core.specs.declared.apgcode.Kind.{Kind}
use Rattle.code_core.specs.declared.apgcode.Kind.TheVariants.{Still, Oscillator, Ship}
use Rattle.code_core.specs.Apgcodes.{code_text}
use Rattle.code_core.specs.Names.{IsImageText, IsLeastOf, kind_of, number_of}
use Rattle.code_core.specs.Reading.{wechsler_read}
use Rattle.code_core.specs.Texts.{text}
use Rattle.code_core.proofs.ImageLemmas.{image-same}
use Rattle.code_core.proofs.MovedCodes.{after-shifted, in_order-after}
use Rattle.code_core.proofs.RoundTrip.{texts_are_read}
use Rattle.laws.specs.Codes.{CodesAreFaithful}
use Rattle.laws.proofs.LaterCodes.{after-after}
use Rattle.laws.proofs.TurnedCodes.{after-image, in_order-image}

-- ---- the text in a code

-- the bytes after the first `_` (95)
abbrev past_mark : List ℕ → List ℕ
past_mark [] = []
past_mark (b ∷ bs) = cond (b == 95) bs (past_mark bs)

-- a byte that isn't `_`
abbrev is_plain : ℕ → Bool
is_plain b = not (b == 95)

past_mark-plain : (bs t : List ℕ) → list_all is_plain bs ≡ true → past_mark (bs ++ 95 ∷ t) ≡ t
past_mark-plain [] t all = refl
past_mark-plain (b ∷ bs) t all =
    let parts = and_parts (is_plain b) (list_all is_plain bs) all in
    go (b == 95) parts.0 (past_mark-plain bs t parts.1)
  where
    go : (mark : Bool) → not mark ≡ true → past_mark (bs ++ 95 ∷ t) ≡ t → cond mark (bs ++ 95 ∷ t) (past_mark (bs ++ 95 ∷ t)) ≡ t
    go true plain h = absurd cc
    go false plain h = h

digit_plain : (n : ℕ) → n < 10 → is_plain (digit_glyph false n) ≡ true
digit_plain n low = grind (arith, nat_tests)

-- the digits of a number have no `_`
digits_plain : (k n : ℕ) (others : List ℕ) → list_all is_plain others ≡ true → list_all is_plain (digits_onto k 10 false n others) ≡ true
digits_plain zero n others all = all
digits_plain (suc k) n others all =
    let more = and_from (is_plain (digit_glyph false (n % 10))) (list_all is_plain others) (digit_plain (n % 10) (omega arith)) all in
    go (n / 10 == 0) more (digits_plain k (n / 10) (digit_glyph false (n % 10) ∷ others) more)
  where
    go : (last : Bool) → list_all is_plain (digit_glyph false (n % 10) ∷ others) ≡ true
        → list_all is_plain (digits_onto k 10 false (n / 10) (digit_glyph false (n % 10) ∷ others)) ≡ true
        → list_all is_plain (cond last (digit_glyph false (n % 10) ∷ others) (digits_onto k 10 false (n / 10) (digit_glyph false (n % 10) ∷ others))) ≡ true
    go true one more = one
    go false one more = more

decimal_plain : (n : ℕ) → list_all is_plain (decimal n) ≡ true
unfolding digits
decimal_plain n = digits_plain 64 n [] refl

-- the text in a code is the part after the code's first `_`
text_of_code : (kind : Kind) (number : ℕ) (t : List ℕ) → past_mark (code_text kind number (Some t)) ≡ t
unfolding code_text
text_of_code Still number t = past_mark-plain (decimal number) t (decimal_plain number)
text_of_code Oscillator number t = past_mark-plain (decimal number) t (decimal_plain number)
text_of_code Ship number t = past_mark-plain (decimal number) t (decimal_plain number)

first_byte : (kind : Kind) (number : ℕ) (t : List ℕ) → get_or (code_text kind number (Some t)) 0 0 ≡ 120
unfolding code_text
first_byte kind number t = refl

first_byte-large : (kind : Kind) (number : ℕ) → get_or (code_text kind number None) 0 0 ≡ 111
unfolding code_text
first_byte-large kind number = refl

-- if two codes are equal and one of them is made with the text `t`, so is the other
same_text : (kind other : Kind) (number n : ℕ) (t : List ℕ) (least : Option (List ℕ)) → code_text kind number (Some t) ≡ code_text other n least
    → least ≡ Some t
same_text kind other number n t None same =
    let first : 120 ≡ 111 = sym (first_byte kind number t) ∙ ap (λ (code : List ℕ). get_or code 0 0) same ∙ first_byte-large other n in
    absurd (omega (arith, first))
same_text kind other number n t (Some u) same =
    ap Some (sym (text_of_code other n u) ∙ ap past_mark (sym same) ∙ text_of_code kind number t)

-- ---- images of patterns, and of their generations

in_order-corner : (S : List Cell) → InOrder S → InOrder (at_corner S)
in_order-corner [] order = order
in_order-corner (c ∷ cs) order =
    let b = grown c (box_of cs) in
    in_order-shifted (neg_ℤ b.left) (neg_ℤ b.top) (c ∷ cs) order

in_order-turned : (o : Orientation) (S : List Cell) → InOrder (turned o S)
unfolding turned
in_order-turned o S = in_order-corner (image o S) (in_order-image o S)

-- turning a pattern by the identity only moves the pattern to the corner
turned-same : (S : List Cell) → InOrder S → at_corner S ≡ turned Same S
unfolding turned
turned-same S order = ap at_corner (sym (image-same S order))

corner-turned : (o : Orientation) (S : List Cell) → InOrder (turned o S) → at_corner (turned o S) ≡ turned o S
corner-turned o S order =
    turned-same (turned o S) order ∙ turned-turned o Same S ∙ ap (λ (p : Orientation). turned p S) (same_is_identity o).1

-- two turned patterns that have the same text are equal
same_image : (o p : Orientation) (S T : List Cell) (t : List ℕ) → text (turned o S) ≡ Some t → text (turned p T) ≡ Some t → turned o S ≡ turned p T
same_image o p S T t one other =
    let here : wechsler_read t ≡ Ok (at_corner (turned o S)) = texts_are_read (turned o S) t (in_order-turned o S) one in
    let there : wechsler_read t ≡ Ok (at_corner (turned p T)) = texts_are_read (turned p T) t (in_order-turned p T) other in
    let same : at_corner (turned o S) ≡ at_corner (turned p T) = cc in
    sym (corner-turned o S (in_order-turned o S)) ∙ same ∙ corner-turned p T (in_order-turned p T)

-- a pattern that is moved to the corner has the same generations as before, up to a move
corner-after : (rule : Numbers) (S : List Cell) (n : ℕ) → InOrder S → at_corner (after rule (at_corner S) n) ≡ at_corner (after rule S n)
corner-after rule [] n order = refl
corner-after rule (c ∷ cs) n order =
    let b = grown c (box_of cs) in
    ap at_corner (after-shifted (neg_ℤ b.left) (neg_ℤ b.top) rule (c ∷ cs) n order)
    ∙ at_corner-shifted (neg_ℤ b.left) (neg_ℤ b.top) (after rule (c ∷ cs) n)

turned-after : (o : Orientation) (rule : Numbers) (S : List Cell) (n : ℕ) → InOrder S
    → at_corner (after rule (turned o S) n) ≡ turned o (after rule S n)
unfolding turned
turned-after o rule S n order =
    corner-after rule (image o S) n (in_order-image o S) ∙ ap at_corner (after-image o rule S n order)

-- Suppose that generation `g` of `cells` and generation `h` of `others` are equal up to orientation and place, and that
-- `others` recurs after `h + n` generations. Then generation `g + n` of `cells` equals `others` in the same way.
reached : (o p : Orientation) (rule : Numbers) (cells others : List Cell) (g h n period : ℕ) (dx dy : _) → InOrder cells → InOrder others → h + n ≡ period
    → after rule others period ≡ shifted dx dy others → turned o (after rule cells g) ≡ turned p (after rule others h)
    → turned o (after rule cells (g + n)) ≡ turned p others
reached o p rule cells others g h n period dx dy order sorted whole back same =
    ap (turned o) (sym (after-after rule cells g n)) ∙ sym (turned-after o rule (after rule cells g) n (in_order-after rule cells g order))
    ∙ ap (λ (S : List Cell). at_corner (after rule S n)) same
    ∙ turned-after p rule (after rule others h) n (in_order-after rule others h sorted)
    ∙ ap (turned p) (after-after rule others h n ∙ ap (after rule others) whole ∙ back)
    ∙ turning_moved p dx dy others

pub codes_are_faithful : CodesAreFaithful
codes_are_faithful rule cells others limit more code t order sorted named is other =
    let same : other.least ≡ Some t = same_text (kind_of named.recurrence) (kind_of other.recurrence)
    (number_of (kind_of named.recurrence) cells named.recurrence) (number_of (kind_of other.recurrence) others other.recurrence) t other.least
    (ap (code_text (kind_of named.recurrence) (number_of (kind_of named.recurrence) cells named.recurrence)) (sym is) ∙ sym named.spelled ∙ other.spelled) in
    let one = found rule cells named.recurrence.period named.least t is named.is_least in
    let two = found rule others other.recurrence.period other.least t same other.is_least in
    let n = other.recurrence.period - two.phase in
    let back = turning_back two.orientation in
    let here : turned one.orientation (after rule cells (one.phase + (other.recurrence.period - two.phase))) ≡ turned two.orientation others =
    reached one.orientation two.orientation rule cells others one.phase two.phase (other.recurrence.period - two.phase) other.recurrence.period
    other.recurrence.dx other.recurrence.dy order sorted (omega (arith, two.within)) other.recurs.back
    (same_image one.orientation two.orientation (after rule cells one.phase) (after rule others two.phase) t one.is two.is) in
    record {
      generation = one.phase + (other.recurrence.period - two.phase);
      orientation = product one.orientation (turning_back two.orientation).0;
      is = sym (turned-turned one.orientation (turning_back two.orientation).0 _) ∙ ap (turned (turning_back two.orientation).0) here
          ∙ turned-turned two.orientation (turning_back two.orientation).0 others
          ∙ ap (λ (p : Orientation). turned p others) (turning_back two.orientation).1 ∙ sym (turned-same others sorted);
    }
  where
    found : (rule : Numbers) (cells : List Cell) (period : ℕ) (least : Option (List ℕ)) (t : List ℕ) → least ≡ Some t
        → IsLeastOf (IsImageText rule cells period) least → IsImageText rule cells period t
    found rule cells period None t is h = absurd cc
    found rule cells period (Some u) t is h =
        let same : u ≡ t = cc in
        subst (IsImageText rule cells period) same h.0
