-- A rule's text is UTF-8, because all its bytes are ASCII.
use Rattle.std.proofs.Common.{◌≤◌, ◌+◌, ℕ, Bool, true, false, List, [], ◌∷◌, ◌++◌, arith, length}
use Rattle.std.specs.Str.{IsAscii, IsUtf8}
use Rattle.std.proofs.lemmas.Str.{IsAscii-append, IsUtf8-from_ascii}
use Rattle.std.proofs.lemmas.Str.Ascii.{IsAscii-cons, IsAscii-nil}
use Rattle.plane_core.specs.plane.Rules.{IsRule, Numbers, digits, rule_text}

digits_ascii : (n : ℕ) (answers : List Bool) → n + length answers ≤ 10 → IsAscii (digits n answers)
unfolding digits
digits_ascii n [] few = IsAscii-nil
digits_ascii n (true ∷ more) few = IsAscii-cons (48 + n) (digits (n + 1) more) (omega arith) (digits_ascii (n + 1) more (omega arith))
digits_ascii n (false ∷ more) few = digits_ascii (n + 1) more (omega arith)

pub rule_text_utf8 : (rule : Numbers) → IsRule rule → IsUtf8 (rule_text rule)
unfolding rule_text
rule_text_utf8 rule is =
    let births = is.births in
    let survivals = is.survivals in
    IsUtf8-from_ascii (98 ∷ digits 1 rule.births ++ (115 ∷ digits 0 rule.survivals))
    (IsAscii-cons 98 (digits 1 rule.births ++ (115 ∷ digits 0 rule.survivals)) (omega arith)
    (IsAscii-append (digits 1 rule.births) (115 ∷ digits 0 rule.survivals) (digits_ascii 1 rule.births (omega arith))
    (IsAscii-cons 115 (digits 0 rule.survivals) (omega arith) (digits_ascii 0 rule.survivals (omega arith)))))
