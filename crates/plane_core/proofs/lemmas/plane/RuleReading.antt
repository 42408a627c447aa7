-- Reading a rule. If a text is read as a rule, it is the text of that rule. Each rule's text is read as that rule. If a
-- place is reported, it is the place of the first fault.
use Rattle.std.proofs.Common.{◌≡◌, ◌≢◌, ◌<◌, ◌≤◌, ◌+◌, ◌-◌, ◌==◌, ℕ, zero, suc, Bool, true, false, List, [], ◌∷◌, ◌++◌, length, take, drop, refl}
use Rattle.std.proofs.Common.{sym, ◌∙◌, ap, subst, arith, append_assoc, append-nil, length-append, length-drop, codes, Result, Ok, Err, IfOk, IsTrue, ◌↔◌}
use Rattle.std.proofs.lemmas.List.{take_at}
use Rattle.std.proofs.Math.Seq.{take-length}
use Rattle.std.proofs.lemmas.Slice.Eq.{starts_is}
use Rattle.std.proofs.lemmas.Bool.{false≢true}
use Rattle.std.proofs.lemmas.Bool.Decides.{Decides-eqb, nat_tests}
use Rattle.plane_core.specs.declared.plane.rule.RuleFault.{RuleFault}
use Rattle.plane_core.specs.declared.plane.rule.RuleFault.TheVariants.{BadRule, BirthZero}
use Rattle.plane_core.specs.plane.Rules.{Numbers, IsRule, BeginsRule, IsFirstFault, Reading, with_answer, digits, rule_text, numbers_at, begins, rule_fault_at, rule_read}
use Rattle.plane_core.proofs.lemmas.OutputLemmas.{take-drop-remainder}
use Rattle.plane_core.proofs.lemmas.plane.RuleNumbers.{numbers_at-hit, numbers_at-miss}

-- a text that begins with a byte is that byte followed by the rest
pub begins-true : (text : List ℕ) (d : ℕ) → begins text (d ∷ []) ≡ true → text ≡ d ∷ drop 1 text
begins-true text d h = (starts_is Decides-eqb text (d ∷ []) (begins text (d ∷ [])) refl).0 h

pub begins-same : (d : ℕ) (more : List ℕ) → begins (d ∷ more) (d ∷ []) ≡ true
begins-same d more = (starts_is Decides-eqb (d ∷ more) (d ∷ []) (begins (d ∷ more) (d ∷ [])) refl).1 more refl

pub begins-other : (c d : ℕ) (more : List ℕ) → c ≢ d → begins (c ∷ more) (d ∷ []) ≡ false
begins-other c d more ne = grind (arith, nat_tests)

-- whether a text begins with the byte d depends only on its first byte
pub begins-same_prefix : (prefix : List ℕ) (c d : ℕ) (x y : List ℕ) → begins (prefix ++ c ∷ x) (d ∷ []) ≡ begins (prefix ++ c ∷ y) (d ∷ [])
begins-same_prefix [] c d x y = refl
begins-same_prefix (b ∷ prefix) c d x y = refl

-- a property of readings holds if it holds in both cases: the text begins with the digit n, or it doesn't
pub numbers_at-cases : (P : Reading → Type 0) (k n : ℕ) (text : List ℕ)
    → (begins text ((48 + n) ∷ []) ≡ true → P (with_answer true (numbers_at k (n + 1) (drop 1 text))))
    → (begins text ((48 + n) ∷ []) ≡ false → P (with_answer false (numbers_at k (n + 1) text)))
    → P (numbers_at (suc k) n text)
numbers_at-cases P k n text hit miss = go (begins text ((48 + n) ∷ [])) refl where
  go : (b : Bool) → begins text ((48 + n) ∷ []) ≡ b → P (numbers_at (suc k) n text)
  go true h = subst P (sym (numbers_at-hit k n text h)) (hit h)
  go false h = subst P (sym (numbers_at-miss k n text h)) (miss h)

-- the digits of the numbers that are read, followed by the remainder, are the text
pub digits-numbers_at : (k n : ℕ) (text : List ℕ) → digits n (numbers_at k n text).logic ++ (numbers_at k n text).remainder ≡ text
unfolding digits numbers_at
digits-numbers_at zero n text = refl
digits-numbers_at (suc k) n text =
    numbers_at-cases (λ read. digits n read.logic ++ read.remainder ≡ text) k n text
    (λ h. ap (λ (xs : List ℕ). (48 + n) ∷ xs) (digits-numbers_at k (n + 1) (drop 1 text)) ∙ sym (begins-true text (48 + n) h))
    (λ h. digits-numbers_at k (n + 1) text)

pub length-numbers_at : (k n : ℕ) (text : List ℕ) → length (numbers_at k n text).logic ≡ k
unfolding numbers_at
length-numbers_at zero n text = refl
length-numbers_at (suc k) n text =
    numbers_at-cases (λ read. length read.logic ≡ suc k) k n text
    (λ h. ap (λ (m : ℕ). suc m) (length-numbers_at k (n + 1) (drop 1 text))) (λ h. ap (λ (m : ℕ). suc m) (length-numbers_at k (n + 1) text))

-- how far numbers are read doesn't depend on the text after the first byte of the remainder
pub numbers_at-other_remainder : (k n : ℕ) (text : List ℕ) (c : ℕ) (cs more : List ℕ) → (numbers_at k n text).remainder ≡ c ∷ cs
    → numbers_at k n (digits n (numbers_at k n text).logic ++ c ∷ more) ≡ record { logic = (numbers_at k n text).logic; remainder = c ∷ more }
unfolding digits numbers_at
numbers_at-other_remainder zero n text c cs more = λ e. refl
numbers_at-other_remainder (suc k) n text c cs more =
    numbers_at-cases (λ read. read.remainder ≡ c ∷ cs
    → numbers_at (suc k) n (digits n read.logic ++ c ∷ more) ≡ record { logic = read.logic; remainder = c ∷ more }) k n text
    (λ h remainder.
    let prefix = digits (n + 1) (numbers_at k (n + 1) (drop 1 text)).logic in
    numbers_at-hit k n ((48 + n) ∷ (prefix ++ c ∷ more)) (begins-same (48 + n) (prefix ++ c ∷ more))
    ∙ ap (λ (r : Reading). with_answer true r) (numbers_at-other_remainder k (n + 1) (drop 1 text) c cs more remainder))
    (λ h remainder.
    let read = numbers_at k (n + 1) text in
    let prefix = digits (n + 1) read.logic in
    let whole : prefix ++ c ∷ cs ≡ text = ap (λ (xs : List ℕ). prefix ++ xs) (sym remainder) ∙ digits-numbers_at k (n + 1) text in
    let miss : begins (prefix ++ c ∷ more) ((48 + n) ∷ []) ≡ false =
    begins-same_prefix prefix c (48 + n) more cs ∙ ap (λ (xs : List ℕ). begins xs ((48 + n) ∷ [])) whole ∙ h in
    numbers_at-miss k n (prefix ++ c ∷ more) miss ∙ ap (λ (r : Reading). with_answer false r) (numbers_at-other_remainder k (n + 1) text c cs more remainder))

-- the text doesn't begin with a digit
pub record IsPastDigits (remainder : List ℕ) : Type 0 where
  pub past : (n : ℕ) → n < 10 → begins remainder ((48 + n) ∷ []) ≡ false

pub IsPastDigits-nil : IsPastDigits []
IsPastDigits-nil = record { past = λ n h. refl }

pub IsPastDigits-s : (more : List ℕ) → IsPastDigits (115 ∷ more)
IsPastDigits-s more = record { past = λ n h. let ne : 115 ≢ 48 + n = omega arith in begins-other 115 (48 + n) more ne }

-- if all digits at the beginning of a text are greater than n, the text doesn't begin with the digit n
pub begins-digits : (n m : ℕ) (logic : List Bool) (remainder : List ℕ) → n < m → n < 10 → IsPastDigits remainder
    → begins (digits m logic ++ remainder) ((48 + n) ∷ []) ≡ false
unfolding digits
begins-digits n m [] remainder h small past = past.past n small
begins-digits n m (true ∷ logic) remainder h small past = let ne : 48 + m ≢ 48 + n =
    omega arith in begins-other (48 + m) (48 + n) (digits (m + 1) logic ++ remainder) ne
begins-digits n m (false ∷ logic) remainder h small past = begins-digits n (m + 1) logic remainder (omega arith) small past

-- the digits of a table are read as that table, if no digit follows them
pub numbers_at-digits : (k n : ℕ) (logic : List Bool) (remainder : List ℕ) → length logic ≡ k → k + n ≤ 10 → IsPastDigits remainder
    → numbers_at k n (digits n logic ++ remainder) ≡ record { logic = logic; remainder = remainder }
unfolding digits numbers_at
numbers_at-digits zero n [] remainder len room past = refl
numbers_at-digits zero n (a ∷ logic) remainder len room past = absurd (omega arith)
numbers_at-digits (suc k) n [] remainder len room past = absurd (omega arith)
numbers_at-digits (suc k) n (true ∷ logic) remainder len room past =
    numbers_at-hit k n ((48 + n) ∷ (digits (n + 1) logic ++ remainder)) (begins-same (48 + n) (digits (n + 1) logic ++ remainder))
    ∙ ap (λ (r : Reading). with_answer true r) (numbers_at-digits k (n + 1) logic remainder (omega arith) (omega arith) past)
numbers_at-digits (suc k) n (false ∷ logic) remainder len room past =
    numbers_at-miss k n (digits (n + 1) logic ++ remainder) (begins-digits n (n + 1) logic remainder (omega arith) (omega arith) past)
    ∙ ap (λ (r : Reading). with_answer false r) (numbers_at-digits k (n + 1) logic remainder (omega arith) (omega arith) past)

pub length-remainder : (k n : ℕ) (text : List ℕ) → length (numbers_at k n text).remainder ≤ length text
length-remainder k n text =
    let e : length (digits n (numbers_at k n text).logic ++ (numbers_at k n text).remainder) ≡ length text = ap length (digits-numbers_at k n text) in
    omega (arith, e, length-append (digits n (numbers_at k n text).logic) (numbers_at k n text).remainder)

-- the birth numbers of a text, which come after its first byte, the `b`
abbrev pub births_in : List ℕ → Reading
births_in text = numbers_at 8 1 (drop 1 text)

abbrev pub survivals_in : List ℕ → Reading
survivals_in text = numbers_at 9 0 (drop 1 (births_in text).remainder)

-- a text that doesn't begin with b has its fault at place 0
pub rule_read-no_b : (text : List ℕ) → begins text (codes "b") ≡ false → rule_read text ≡ Err (BadRule 0)
unfolding rule_read
rule_read-no_b text b = rw b refl

pub rule_read-zero : (text : List ℕ) → begins text (codes "b") ≡ true → begins text (codes "b0") ≡ true → rule_read text ≡ Err BirthZero
unfolding rule_read
rule_read-zero text b no_zero = rw (b, no_zero) refl

pub rule_read-no_s : (text : List ℕ) → begins text (codes "b") ≡ true → begins text (codes "b0") ≡ false → begins (births_in text).remainder (codes "s") ≡ false
    → rule_read text ≡ rule_fault_at text (births_in text).remainder
unfolding rule_read
rule_read-no_s text b no_zero s = rw (b, no_zero, s) refl

pub rule_read-more : (text : List ℕ) → begins text (codes "b") ≡ true → begins text (codes "b0") ≡ false → begins (births_in text).remainder (codes "s") ≡ true
    → (length (survivals_in text).remainder == 0) ≡ false → rule_read text ≡ rule_fault_at text (survivals_in text).remainder
unfolding rule_read
rule_read-more text b no_zero s end = rw (b, no_zero, s, end) refl

pub rule_read-all : (text : List ℕ) → begins text (codes "b") ≡ true → begins text (codes "b0") ≡ false → begins (births_in text).remainder (codes "s") ≡ true
    → (length (survivals_in text).remainder == 0) ≡ true
    → rule_read text ≡ Ok (record { births = (births_in text).logic; survivals = (survivals_in text).logic })
unfolding rule_read
rule_read-all text b no_zero s end = rw (b, no_zero, s, end) refl

-- the slice after the first byte, from which the code reads numbers, gives the same reading as `drop 1 text`
pub sliced : (k n : ℕ) (text : List ℕ) → numbers_at k n (take (length text - 1) (drop 1 text)) ≡ numbers_at k n (drop 1 text)
sliced k n text = ap (numbers_at k n) (take-drop-remainder 1 text)

-- if the births are read from this slice, the remainder is the same as the remainder of `births_in`
pub births_sliced : (text remainder : List ℕ) → remainder ≡ (numbers_at 8 1 (take (length text - 1) (drop 1 text))).remainder → remainder ≡ (births_in text).remainder
births_sliced text remainder e = e ∙ ap (λ (r : Reading). r.remainder) (sliced 8 1 text)

pub survivals_sliced : (text remainder : List ℕ) → remainder ≡ (births_in text).remainder → numbers_at 9 0 (take (length remainder - 1) (drop 1 remainder)) ≡ survivals_in text
survivals_sliced text remainder e = sliced 9 0 remainder ∙ ap (λ (xs : List ℕ). numbers_at 9 0 (drop 1 xs)) e

pub length-births : (text : List ℕ) → length (births_in text).remainder ≤ length text
length-births text = omega (arith, length-remainder 8 1 (drop 1 text), length-drop 1 text)

pub length-survivals : (text : List ℕ) → length (survivals_in text).remainder ≤ length text
length-survivals text = omega (arith, length-births text, length-remainder 9 0 (drop 1 (births_in text).remainder), length-drop 1 (births_in text).remainder)

-- what the outcome of a reading implies for the text
abbrev pub Says : List ℕ → Result Numbers RuleFault → Type 0
Says text (Ok rule) = IsRule rule × (rule_text rule ≡ text)
Says text (Err (BadRule place)) = IsFirstFault text place × (begins text (codes "b0") ≡ false)
Says text (Err BirthZero) = begins text (codes "b0") ≡ true

-- no rule's text begins with b0
zero-rule_text : (rule : Numbers) → begins (rule_text rule) (codes "b0") ≡ false
unfolding rule_text
zero-rule_text rule =
    let after_s = digits 0 rule.survivals in
    begins-digits 0 1 rule.births (115 ∷ after_s) (omega arith) (omega arith) (IsPastDigits-s after_s)

-- each rule's text is read as that rule
pub rule_read-rule_text : (rule : Numbers) → IsRule rule → rule_read (rule_text rule) ≡ Ok rule
unfolding rule_text
rule_read-rule_text rule whole =
    let text = rule_text rule in
    let after_s = digits 0 rule.survivals in
    let births : births_in text ≡ record { logic = rule.births; remainder = 115 ∷ after_s } =
    numbers_at-digits 8 1 rule.births (115 ∷ after_s) whole.births (omega arith) (IsPastDigits-s after_s) in
    let survivals : survivals_in text ≡ record { logic = rule.survivals; remainder = [] } =
    ap (λ (r : Reading). numbers_at 9 0 (drop 1 r.remainder)) births ∙ ap (numbers_at 9 0) (sym (append-nil after_s))
    ∙ numbers_at-digits 9 0 rule.survivals [] whole.survivals (omega arith) IsPastDigits-nil in
    let no_zero = zero-rule_text rule in
    let s : begins (births_in text).remainder (codes "s") ≡ true = ap (λ (r : Reading). begins r.remainder (codes "s")) births ∙ begins-same 115 after_s in
    let end : (length (survivals_in text).remainder == 0) ≡ true = ap (λ (r : Reading). length r.remainder == 0) survivals in
    rule_read-all text (begins-same 98 (digits 1 rule.births ++ 115 ∷ after_s)) no_zero s end ∙ rw (survivals, births) refl

-- if a rule's text begins with `prefix`, but none begins with `prefix` and the next byte, the first fault is at the
-- place just after `prefix`
pub IsFirstFault-after : (prefix remainder : List ℕ) → BeginsRule prefix → ((c : ℕ) (cs : List ℕ) → remainder ≡ c ∷ cs → BeginsRule (prefix ++ c ∷ []) → ⊥)
    → IsFirstFault (prefix ++ remainder) (length (prefix ++ remainder) - length remainder)
IsFirstFault-after prefix [] begun stops =
    let here : length (prefix ++ []) - 0 ≡ length (prefix ++ []) = omega arith in
    let all : take (length (prefix ++ [])) (prefix ++ []) ≡ prefix = take-length (prefix ++ []) ∙ append-nil prefix in
    rw here (record {
      within = omega arith;
      before = let P : List ℕ → Type 0 = λ xs. BeginsRule xs in subst P (sym all) begun;
      there = λ less. absurd (omega arith);
    })
IsFirstFault-after prefix (c ∷ cs) begun stops =
    let place = length (prefix ++ c ∷ cs) - length (c ∷ cs) in
    let P : List ℕ → Type 0 = λ xs. BeginsRule xs in
    let at : length prefix ≡ place = omega (arith, length-append prefix (c ∷ cs)) in
    let regrouped : prefix ++ c ∷ cs ≡ (prefix ++ c ∷ []) ++ cs = sym (append_assoc prefix (c ∷ []) cs) in
    let next : length (prefix ++ c ∷ []) ≡ place + 1 = omega (arith, length-append prefix (c ∷ []), at) in
    let longer : take (place + 1) (prefix ++ c ∷ cs) ≡ prefix ++ c ∷ [] = ap (take (place + 1)) regrouped ∙ take_at (prefix ++ c ∷ []) cs (place + 1) next in
    record {
      within = omega arith;
      before = subst P (sym (take_at prefix (c ∷ cs) place at)) begun;
      there = λ less further. stops c cs refl (subst P longer further);
    }

-- the table of a rule without survivals
abbrev pub no_survivals : List Bool
no_survivals = false ∷ false ∷ false ∷ false ∷ false ∷ false ∷ false ∷ false ∷ false ∷ []

pub BeginsRule-nil : BeginsRule []
BeginsRule-nil =
    let rule : Numbers = record { births = false ∷ false ∷ false ∷ false ∷ false ∷ false ∷ false ∷ false ∷ []; survivals = no_survivals } in
    record { rule = rule; remainder = rule_text rule; is_rule = record { births = refl; survivals = refl }; spelled = refl }

pub BeginsRule-births : (births : List Bool) → length births ≡ 8 → BeginsRule (98 ∷ digits 1 births)
unfolding rule_text digits
BeginsRule-births births len =
    record {
      rule = record { births = births; survivals = no_survivals };
      remainder = codes "s";
      is_rule = record { births = len; survivals = refl };
      spelled = refl;
    }

pub BeginsRule-rule_text : (rule : Numbers) → IsRule rule → BeginsRule (rule_text rule)
BeginsRule-rule_text rule whole = record { rule = rule; remainder = []; is_rule = whole; spelled = sym (append-nil (rule_text rule)) }

-- Let c be the byte after the digits of the birth numbers in `text`. If a rule's text begins with `b`, these digits and
-- c, then c is its `s`, and the digits of the rule's survival numbers follow.
pub births-shared : (text : List ℕ) (c : ℕ) (cs more : List ℕ) (rule : Numbers) → IsRule rule → (births_in text).remainder ≡ c ∷ cs
    → rule_text rule ≡ 98 ∷ (digits 1 (births_in text).logic ++ c ∷ more) → 115 ∷ digits 0 rule.survivals ≡ c ∷ more
unfolding rule_text
births-shared text c cs more rule whole remainder spelled =
    let after_s = 115 ∷ digits 0 rule.survivals in
    let same : digits 1 rule.births ++ after_s ≡ digits 1 (births_in text).logic ++ c ∷ more = ap (drop 1) spelled in
    ap (λ (r : Reading). r.remainder)
    (sym (numbers_at-digits 8 1 rule.births after_s whole.births (omega arith) (IsPastDigits-s (digits 0 rule.survivals)))
    ∙ ap (numbers_at 8 1) same ∙ numbers_at-other_remainder 8 1 (drop 1 text) c cs more remainder)

-- if c is the byte after the survivals' digits of `text`, no rule has survivals' digits that begin with these digits
-- and c
pub survivals-shared : (text : List ℕ) (c : ℕ) (cs more : List ℕ) (rule : Numbers) → IsRule rule → (survivals_in text).remainder ≡ c ∷ cs
    → digits 0 rule.survivals ≡ digits 0 (survivals_in text).logic ++ c ∷ more → [] ≡ c ∷ more
survivals-shared text c cs more rule whole remainder same =
    ap (λ (r : Reading). r.remainder)
    (sym (numbers_at-digits 9 0 rule.survivals [] whole.survivals (omega arith) IsPastDigits-nil)
    ∙ ap (numbers_at 9 0) (append-nil (digits 0 rule.survivals) ∙ same) ∙ numbers_at-other_remainder 9 0 (drop 1 (births_in text).remainder) c cs more remainder)

-- a text that doesn't begin with b doesn't begin with b0
pub no_b : (text : List ℕ) → begins text (codes "b") ≡ false → begins text (codes "b0") ≡ false
no_b [] h = refl
no_b (c ∷ cs) h = grind (arith, nat_tests)

pub Says_no_b : (text : List ℕ) → begins text (codes "b") ≡ false → Says text (Err (BadRule 0))
unfolding rule_text
Says_no_b text h = (
  record {
    within = omega arith;
    before = BeginsRule-nil;
    there = λ less further. go text h less further.rule further.remainder further.spelled;
  },
  no_b text h,
)
  where
    go : (text : List ℕ) → begins text (codes "b") ≡ false → 0 < length text → (rule : Numbers) (more : List ℕ) → rule_text rule ≡ take 1 text ++ more → ⊥
    go [] h less rule more e = omega arith
    go (c ∷ cs) h less rule more e =
        let same : begins (rule_text rule) (codes "b") ≡ begins (c ∷ cs) (codes "b") =
        ap (λ (xs : List ℕ). begins xs (codes "b")) e ∙ begins-same_prefix [] c 98 more cs in
        let yes : begins (rule_text rule) (codes "b") ≡ true = begins-same 98 (digits 1 rule.births ++ (115 ∷ digits 0 rule.survivals)) in
        let wrong : true ≡ false = sym yes ∙ same ∙ h in
        cc

pub Says_no_s : (text : List ℕ) → begins text (codes "b") ≡ true → begins text (codes "b0") ≡ false → begins (births_in text).remainder (codes "s") ≡ false
    → Says text (rule_fault_at text (births_in text).remainder)
unfolding rule_text
Says_no_s text b no_zero no_s =
    let births = births_in text in
    let prefix = 98 ∷ digits 1 births.logic in
    let whole : prefix ++ births.remainder ≡ text = ap (λ (xs : List ℕ). 98 ∷ xs) (digits-numbers_at 8 1 (drop 1 text)) ∙ sym (begins-true text 98 b) in
    let P : List ℕ → Type 0 = λ xs. IsFirstFault xs (length xs - length births.remainder) in (
      subst P whole
          (IsFirstFault-after prefix births.remainder (BeginsRule-births births.logic (length-numbers_at 8 1 (drop 1 text)))
          (λ c cs remainder further.
          let more = further.remainder in
          let spelled : rule_text further.rule ≡ 98 ∷ (digits 1 births.logic ++ c ∷ more) = further.spelled ∙ append_assoc prefix (c ∷ []) more in
          let shared = births-shared text c cs more further.rule further.is_rule remainder spelled in
          let yes : begins (c ∷ more) (codes "s") ≡ true = ap (λ (xs : List ℕ). begins xs (codes "s")) (sym shared)
          ∙ begins-same 115 (digits 0 further.rule.survivals) in
          let no : begins (c ∷ more) (codes "s") ≡ false = begins-same_prefix [] c 115 more cs ∙ ap (λ (xs : List ℕ). begins xs (codes "s")) (sym remainder) ∙ no_s in
          let wrong : true ≡ false = sym yes ∙ no in
          cc)),
      no_zero,
    )

-- the rule with the birth and survival numbers that are read from the text
abbrev pub rule_in : List ℕ → Numbers
rule_in text = record { births = (births_in text).logic; survivals = (survivals_in text).logic }

pub rule_text-rule_in : (text : List ℕ) → begins text (codes "b") ≡ true → begins (births_in text).remainder (codes "s") ≡ true
    → rule_text (rule_in text) ++ (survivals_in text).remainder ≡ text
unfolding rule_text
rule_text-rule_in text b s =
    let births = births_in text in
    let survivals = survivals_in text in
    let d = digits 1 births.logic in
    let tail : 115 ∷ (digits 0 survivals.logic ++ survivals.remainder) ≡ births.remainder =
    ap (λ (xs : List ℕ). 115 ∷ xs) (digits-numbers_at 9 0 (drop 1 births.remainder)) ∙ sym (begins-true births.remainder 115 s) in
    ap (λ (xs : List ℕ). 98 ∷ xs) (append_assoc d (115 ∷ digits 0 survivals.logic) survivals.remainder ∙ ap (λ (xs : List ℕ). d ++ xs) tail
    ∙ digits-numbers_at 8 1 (drop 1 text))
    ∙ sym (begins-true text 98 b)

pub IsRule-rule_in : (text : List ℕ) → IsRule (rule_in text)
IsRule-rule_in text = record { births = length-numbers_at 8 1 (drop 1 text); survivals = length-numbers_at 9 0 (drop 1 (births_in text).remainder) }

pub Says_more : (text : List ℕ) → begins text (codes "b") ≡ true → begins text (codes "b0") ≡ false → begins (births_in text).remainder (codes "s") ≡ true
    → Says text (rule_fault_at text (survivals_in text).remainder)
unfolding rule_text
Says_more text b no_zero s =
    let births = births_in text in
    let survivals = survivals_in text in
    let rule = rule_in text in
    let P : List ℕ → Type 0 = λ xs. IsFirstFault xs (length xs - length survivals.remainder) in (
      subst P (rule_text-rule_in text b s)
          (IsFirstFault-after (rule_text rule) survivals.remainder (BeginsRule-rule_text rule (IsRule-rule_in text))
          (λ c cs remainder further.
          let more = further.remainder in
          let d = digits 1 births.logic in
          let t = digits 0 survivals.logic in
          let spelled : rule_text further.rule ≡ 98 ∷ (d ++ 115 ∷ (t ++ c ∷ more)) =
          further.spelled ∙ append_assoc (rule_text rule) (c ∷ []) more ∙ ap (λ (xs : List ℕ). 98 ∷ xs) (append_assoc d (115 ∷ t) (c ∷ more)) in
          let after_s : births.remainder ≡ 115 ∷ drop 1 births.remainder = begins-true births.remainder 115 s in
          let shared : 115 ∷ digits 0 further.rule.survivals ≡ 115 ∷ (t ++ c ∷ more) =
          births-shared text 115 (drop 1 births.remainder) (t ++ c ∷ more) further.rule further.is_rule after_s spelled in
          let none = survivals-shared text c cs more further.rule further.is_rule remainder (ap (drop 1) shared) in
          cc)),
      no_zero,
    )

pub Says_all : (text : List ℕ) → begins text (codes "b") ≡ true → begins (births_in text).remainder (codes "s") ≡ true
    → (length (survivals_in text).remainder == 0) ≡ true → Says text (Ok (rule_in text))
Says_all text b s end =
    let none : (survivals_in text).remainder ≡ [] = empty (survivals_in text).remainder end in (
      IsRule-rule_in text,
      sym (append-nil (rule_text (rule_in text))) ∙ ap (λ (xs : List ℕ). rule_text (rule_in text) ++ xs) (sym none)
          ∙ rule_text-rule_in text b s,
    )
  where
    empty : (xs : List ℕ) → (length xs == 0) ≡ true → xs ≡ []
    empty [] h = refl
    empty (x ∷ xs) h = grind (arith, nat_tests)

-- `Says` holds for each text and the outcome of reading it
pub Says_rule_read : (text : List ℕ) → Says text (rule_read text)
Says_rule_read text =
    go (begins text (codes "b")) (begins text (codes "b0")) (begins (births_in text).remainder (codes "s")) (length (survivals_in text).remainder == 0) refl
    refl refl refl
  where
    go : (b zero_first s end : Bool) → begins text (codes "b") ≡ b → begins text (codes "b0") ≡ zero_first → begins (births_in text).remainder (codes "s") ≡ s
        → (length (survivals_in text).remainder == 0) ≡ end → Says text (rule_read text)
    go false _ _ _ h1 h2 h3 h4 = subst (Says text) (sym (rule_read-no_b text h1)) (Says_no_b text h1)
    go true true _ _ h1 h2 h3 h4 = subst (Says text) (sym (rule_read-zero text h1 h2)) h2
    go true false false _ h1 h2 h3 h4 = subst (Says text) (sym (rule_read-no_s text h1 h2 h3)) (Says_no_s text h1 h2 h3)
    go true false true false h1 h2 h3 h4 = subst (Says text) (sym (rule_read-more text h1 h2 h3 h4)) (Says_more text h1 h2 h3)
    go true false true true h1 h2 h3 h4 = subst (Says text) (sym (rule_read-all text h1 h2 h3 h4)) (Says_all text h1 h3 h4)

pub rule_text-rule_read : (text : List ℕ) → IfOk (rule_read text) (λ rule. rule_text rule ≡ text)
rule_text-rule_read text = spelled (rule_read text) (Says_rule_read text) where
  spelled : (r : Result Numbers RuleFault) → Says text r → IfOk r (λ rule. rule_text rule ≡ text)
  spelled (Ok rule) h = h.1
  spelled (Err e) h = tt

pub IsFirstFault-rule_read : (text : List ℕ) (place : ℕ) → rule_read text ≡ Err (BadRule place) → IsFirstFault text place
IsFirstFault-rule_read text place e = let says = subst (Says text) e (Says_rule_read text) in says.0

-- ---- laws of a result that equals `rule_read` of the text

pub reads_complete : (text : List ℕ) (read : Result Numbers RuleFault) → read ≡ rule_read text → (rule : Numbers) → IsRule rule → rule_text rule ≡ text
    → read ≡ Ok rule
reads_complete text read exact rule whole spelled = exact ∙ ap rule_read (sym spelled) ∙ rule_read-rule_text rule whole

pub reads_first : (text : List ℕ) (read : Result Numbers RuleFault) → read ≡ rule_read text → (place : ℕ) → read ≡ Err (BadRule place)
    → IsFirstFault text place
reads_first text read exact place is = IsFirstFault-rule_read text place (sym exact ∙ is)

pub reads_text : (text : List ℕ) (rule : Numbers) → Ok rule ≡ rule_read text → rule_text rule ≡ text
reads_text text rule exact =
    let P : Result Numbers RuleFault → Type 0 = λ r. IfOk r (λ read. rule_text read ≡ text) in
    subst P (sym exact) (rule_text-rule_read text)

pub reads_rule : (text : List ℕ) (rule : Numbers) → Ok rule ≡ rule_read text → IsRule rule
reads_rule text rule exact = let says = subst (Says text) (sym exact) (Says_rule_read text) in says.0

pub reads_zero : (text : List ℕ) (read : Result Numbers RuleFault) → read ≡ rule_read text → (read ≡ Err BirthZero) ↔ IsTrue (begins text (codes "b0"))
reads_zero text read exact = told read (subst (Says text) (sym exact) (Says_rule_read text)) where
  told : (r : Result Numbers RuleFault) → Says text r → (r ≡ Err BirthZero) ↔ IsTrue (begins text (codes "b0"))
  told (Ok rule) h =
      let not_zero : begins text (codes "b0") ≡ false = subst (λ (xs : List ℕ). begins xs (codes "b0") ≡ false) h.1 (zero-rule_text rule) in
      (λ is. cc, λ zero_first. absurd (false≢true (sym not_zero ∙ zero_first)))
  told (Err (BadRule place)) h = (λ is. cc, λ zero_first. absurd (false≢true (sym h.1 ∙ zero_first)))
  told (Err BirthZero) h = (λ is. h, λ zero_first. refl)
