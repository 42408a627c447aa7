-- Rules and their texts.
use Rattle.std.proofs.Common.{◌≡◌, ◌<◌, ◌≤◌, ◌+◌, ℕ, suc, Bool, true, false, List, [], ◌∷◌, ◌++◌, length, drop, take}
use Rattle.std.proofs.Common.{◌-◌, ◌⊎◌, inl, inr, zero, refl, slice_get, unwrap_or, get_or, sym, ◌∙◌, ap, arith, drop-cons, add-one, set, append_assoc, append-nil}
use Rattle.std.proofs.lemmas.List.{take_more_set, drop_all}
use Rattle.plane_core.specs.plane.Rules.{Numbers, digits, is_birth, is_survival}

-- if the answer at place i is true, the digits from place i on begin with the digit of place i
pub digits-drop-true : (n i : ℕ) (logic : List Bool) → i < length logic → get_or logic i false ≡ true
    → digits (n + i) (drop i logic) ≡ (48 + n + i) ∷ digits (n + (i + 1)) (drop (i + 1) logic)
unfolding digits
digits-drop-true n i logic h e =
    let next : n + i + 1 ≡ n + (i + 1) = omega arith in
    let here : 48 + (n + i) ≡ 48 + n + i = omega arith in
    rw (add-one i, drop-cons logic i false, e, here) (ap (λ (k : ℕ). (48 + n + i) ∷ digits k (drop (suc i) logic)) (omega arith))

pub digits-drop-false : (n i : ℕ) (logic : List Bool) → i < length logic → get_or logic i false ≡ false
    → digits (n + i) (drop i logic) ≡ digits (n + (i + 1)) (drop (i + 1) logic)
unfolding digits
digits-drop-false n i logic h e =
    rw (add-one i, drop-cons logic i false, e) (ap (λ (k : ℕ). digits k (drop (suc i) logic)) (omega arith))

-- if the answer at place i is true, its digit can be moved to the end of the prefix
pub digits-prefix-true : (n i : ℕ) (logic : List Bool) (prefix text : List ℕ) → i < length logic → get_or logic i false ≡ true
    → text ≡ prefix ++ digits (n + i) (drop i logic)
    → text ≡ (prefix ++ (48 + n + i) ∷ []) ++ digits (n + (i + 1)) (drop (i + 1) logic)
digits-prefix-true n i logic prefix text h e p =
    p ∙ ap (λ (xs : List ℕ). prefix ++ xs) (digits-drop-true n i logic h e)
    ∙ sym (append_assoc prefix ((48 + n + i) ∷ []) (digits (n + (i + 1)) (drop (i + 1) logic)))

pub digits-prefix-false : (n i : ℕ) (logic : List Bool) (prefix text : List ℕ) → i < length logic → get_or logic i false ≡ false
    → text ≡ prefix ++ digits (n + i) (drop i logic) → text ≡ prefix ++ digits (n + (i + 1)) (drop (i + 1) logic)
digits-prefix-false n i logic prefix text h e p = p ∙ ap (λ (xs : List ℕ). prefix ++ xs) (digits-drop-false n i logic h e)

-- at the start, the prefix is just `letter`, and all digits are left
pub digits-prefix-start : (n letter : ℕ) (logic : List Bool) → letter ∷ digits n logic ≡ (letter ∷ []) ++ digits (n + 0) (drop 0 logic)
digits-prefix-start n letter logic = ap (λ (k : ℕ). letter ∷ digits k logic) (omega arith)

-- past the last place, no digits are left
pub digits-prefix-end : (n i : ℕ) (logic : List Bool) (prefix text : List ℕ) → length logic ≤ i
    → text ≡ prefix ++ digits (n + i) (drop i logic) → text ≡ prefix
unfolding digits
digits-prefix-end n i logic prefix text h p = p ∙ ap (λ (xs : List Bool). prefix ++ digits (n + i) xs) (drop_all i logic h) ∙ append-nil prefix

-- if the answer at place i is true and its digit is put at place `end`, then the text up to and including `end`,
-- followed by the later digits, is still `whole`
pub digits-put : (n i end : ℕ) (logic : List Bool) (text whole : List ℕ) → i < length logic → get_or logic i false ≡ true
    → end < length text → whole ≡ take end text ++ digits (n + i) (drop i logic)
    → whole ≡ take (end + 1) (set text end (48 + n + i)) ++ digits (n + (i + 1)) (drop (i + 1) logic)
digits-put n i end logic text whole h e low p =
    digits-prefix-true n i logic (take end text) whole h e p
    ∙ ap (λ (prefix : List ℕ). prefix ++ digits (n + (i + 1)) (drop (i + 1) logic)) (sym (take_more_set text end (48 + n + i) low))

-- putting the letter at `place` is like prepending it to the digits
pub digits-begun : (n place letter : ℕ) (logic : List Bool) (text : List ℕ) → place < length text
    → take place text ++ letter ∷ digits n logic ≡ take (place + 1) (set text place letter) ++ digits (n + 0) (drop 0 logic)
digits-begun n place letter logic text low =
    ap (λ (more : List ℕ). take place text ++ more) (digits-prefix-start n letter logic)
    ∙ sym (append_assoc (take place text) (letter ∷ []) (digits (n + 0) (drop 0 logic)))
    ∙ ap (λ (prefix : List ℕ). prefix ++ digits (n + 0) (drop 0 logic)) (sym (take_more_set text place letter low))

-- ---- what a table answers for a number

answer_at : (logic : List Bool) (n : ℕ) → n < length logic → get_or logic n false ≡ unwrap_or (slice_get logic n) false
answer_at [] n low = absurd (omega arith)
answer_at (a ∷ logic) zero low = refl
answer_at (a ∷ logic) (suc n) low = answer_at logic n (omega arith)

past_answers : (logic : List Bool) (n : ℕ) → length logic ≤ n → false ≡ unwrap_or (slice_get logic n) false
past_answers [] n high = refl
past_answers (a ∷ logic) zero high = absurd (omega arith)
past_answers (a ∷ logic) (suc n) high = past_answers logic n (omega arith)

pub birth_at : (rule : Numbers) (n : ℕ) → length rule.births ≡ 8 → 1 ≤ n → n < 9 → get_or rule.births (n - 1) false ≡ is_birth rule n
birth_at rule zero size low high = absurd (omega arith)
birth_at rule (suc n) size low high =
    let here : n < length rule.births = omega (arith, size, high) in
    let same : suc n - 1 ≡ n = omega arith in
    ap (λ k. get_or rule.births k false) same ∙ answer_at rule.births n here

pub no_birth : (rule : Numbers) (n : ℕ) → length rule.births ≡ 8 → (n < 1) ⊎ (9 ≤ n) → false ≡ is_birth rule n
no_birth rule zero size out = refl
no_birth rule (suc n) size (inl low) = absurd (omega (arith, low))
no_birth rule (suc n) size (inr high) = past_answers rule.births n (omega (arith, size, high))

pub survival_at : (rule : Numbers) (n : ℕ) → length rule.survivals ≡ 9 → n < 9 → get_or rule.survivals n false ≡ is_survival rule n
survival_at rule n size high = answer_at rule.survivals n (omega (arith, size, high))

pub no_survival : (rule : Numbers) (n : ℕ) → length rule.survivals ≡ 9 → 9 ≤ n → false ≡ is_survival rule n
no_survival rule n size high = past_answers rule.survivals n (omega (arith, size, high))
