-- Numbers that are read from the beginning of a text, digit by digit.
use Rattle.std.proofs.Common.{◌≡◌, ◌<◌, ◌≤◌, ◌+◌, ◌-◌, ℕ, suc, Bool, true, false, List, [], ◌∷◌, ◌++◌, length, take, drop, get_or}
use Rattle.std.proofs.Common.{set, refl, sym, ◌∙◌, ap, arith, append_assoc, append-nil, get_or-set_other, length-set}
use Rattle.std.proofs.lemmas.List.{take_more_set}
use Rattle.std.proofs.lemmas.Grind.{take_at_read}
use Rattle.std.proofs.Math.Seq.{take-length}
use Rattle.plane_core.specs.plane.Rules.{Reading, with_answer, numbers_at, begins}

-- the reading with the answers of `prefix` in front
abbrev pub in_prefix : List Bool → Reading → Reading
in_prefix prefix read = record { logic = prefix ++ read.logic; remainder = read.remainder }

-- if the text begins with the digit n, the answer for n is true, and reading continues after the digit
pub numbers_at-hit : (more n : ℕ) (text : List ℕ) → begins text ((48 + n) ∷ []) ≡ true
    → numbers_at (suc more) n text ≡ with_answer true (numbers_at more (n + 1) (drop 1 text))
unfolding numbers_at
numbers_at-hit more n text h = rw h refl

-- if the text doesn't begin with the digit n, the answer for n is false, and reading continues with the same text
pub numbers_at-miss : (more n : ℕ) (text : List ℕ) → begins text ((48 + n) ∷ []) ≡ false
    → numbers_at (suc more) n text ≡ with_answer false (numbers_at more (n + 1) text)
unfolding numbers_at
numbers_at-miss more n text h = rw h refl

pub numbers_at-none : (n : ℕ) (text : List ℕ) → numbers_at 0 n text ≡ record { logic = []; remainder = text }
unfolding numbers_at
numbers_at-none n text = refl

pub in_prefix-with_answer : (prefix : List Bool) (answer : Bool) (read : Reading)
    → in_prefix prefix (with_answer answer read) ≡ in_prefix (prefix ++ answer ∷ []) read
in_prefix-with_answer prefix answer read =
    ap (λ (xs : List Bool). let r : Reading = record { logic = xs; remainder = read.remainder } in r) (sym (append_assoc prefix (answer ∷ []) read.logic))

-- the loop of `read_numbers` is at place i: the answers before place i are read, and all others are still false
pub record ReadUpTo (count n : ℕ) (text : List ℕ) (i : ℕ) (logic : List Bool) (remainder : List ℕ) : Type 0 where
  pub whole : in_prefix (take i logic) (numbers_at (count - i) (n + i) remainder) ≡ numbers_at count n text
  pub clear : (k : ℕ) → i ≤ k → k < count → get_or logic k false ≡ false
  pub sized : length logic ≡ count

pub ReadUpTo_hit : (count n : ℕ) (text : List ℕ) (i : ℕ) (logic : List Bool) (remainder : List ℕ) → i < count → begins remainder ((48 + n + i) ∷ []) ≡ true
    → ReadUpTo count n text i logic remainder → ReadUpTo count n text (i + 1) (set logic i true) (drop 1 remainder)
ReadUpTo_hit count n text i logic remainder h e up =
    let len : length logic ≡ count = up.sized in
    let left : count - i ≡ suc (count - (i + 1)) = omega arith in
    let next : n + i + 1 ≡ n + (i + 1) = omega arith in
    let here : 48 + n + i ≡ 48 + (n + i) = omega arith in
    let room : i < length logic = omega arith in
    let read = numbers_at (count - (i + 1)) (n + (i + 1)) (drop 1 remainder) in
    let hit : numbers_at (count - i) (n + i) remainder ≡ with_answer true read =
    ap (λ (k : ℕ). numbers_at k (n + i) remainder) left ∙ numbers_at-hit (count - (i + 1)) (n + i) remainder (ap (λ (d : ℕ). begins remainder (d ∷ [])) (sym here) ∙ e)
    ∙ ap (λ (k : ℕ). with_answer true (numbers_at (count - (i + 1)) k (drop 1 remainder))) next in
    record {
      whole = ap (λ (xs : List Bool). in_prefix xs read) (take_more_set logic i true room) ∙ sym (in_prefix-with_answer (take i logic) true read)
          ∙ ap (λ (r : Reading). in_prefix (take i logic) r) (sym hit) ∙ up.whole;
      clear = λ k from below. get_or-set_other logic i k true false (omega arith) ∙ up.clear k (omega arith) below;
      sized = length-set logic i true ∙ len;
    }

pub ReadUpTo_miss : (count n : ℕ) (text : List ℕ) (i : ℕ) (logic : List Bool) (remainder : List ℕ) → i < count → begins remainder ((48 + n + i) ∷ []) ≡ false
    → ReadUpTo count n text i logic remainder → ReadUpTo count n text (i + 1) logic remainder
ReadUpTo_miss count n text i logic remainder h e up =
    let len : length logic ≡ count = up.sized in
    let left : count - i ≡ suc (count - (i + 1)) = omega arith in
    let next : n + i + 1 ≡ n + (i + 1) = omega arith in
    let here : 48 + n + i ≡ 48 + (n + i) = omega arith in
    let room : i < length logic = omega arith in
    let read = numbers_at (count - (i + 1)) (n + (i + 1)) remainder in
    let miss : numbers_at (count - i) (n + i) remainder ≡ with_answer false read =
    ap (λ (k : ℕ). numbers_at k (n + i) remainder) left ∙ numbers_at-miss (count - (i + 1)) (n + i) remainder (ap (λ (d : ℕ). begins remainder (d ∷ [])) (sym here) ∙ e)
    ∙ ap (λ (k : ℕ). with_answer false (numbers_at (count - (i + 1)) k remainder)) next in
    let more : take (i + 1) logic ≡ take i logic ++ false ∷ [] =
    (take_at_read logic i false room).1 ∙ ap (λ (b : Bool). take i logic ++ b ∷ []) (up.clear i (omega arith) h) in
    record {
      whole = ap (λ (xs : List Bool). in_prefix xs read) more ∙ sym (in_prefix-with_answer (take i logic) false read)
          ∙ ap (λ (r : Reading). in_prefix (take i logic) r) (sym miss) ∙ up.whole;
      clear = λ k from below. up.clear k (omega arith) below;
      sized = len;
    }

-- after the last place, all answers are read
pub ReadUpTo_done : (count n : ℕ) (text : List ℕ) (i : ℕ) (logic : List Bool) (remainder : List ℕ) → count ≤ i → i ≤ count → ReadUpTo count n text i logic remainder
    → numbers_at count n text ≡ record { logic = logic; remainder = remainder }
ReadUpTo_done count n text i logic remainder h k up =
    let len : length logic ≡ count = up.sized in
    let all : i ≡ length logic = omega arith in
    let none : count - i ≡ 0 = omega arith in
    sym up.whole ∙ ap (λ (k : ℕ). in_prefix (take i logic) (numbers_at k (n + i) remainder)) none
    ∙ ap (λ (r : Reading). in_prefix (take i logic) r) (numbers_at-none (n + i) remainder)
    ∙ ap (λ (xs : List Bool). let r : Reading = record { logic = xs; remainder = remainder } in r) (append-nil (take i logic)
    ∙ ap (λ (k : ℕ). take k logic) all ∙ take-length logic)
