-- Calls that write one after another have the same effect as one call that writes everything.
use Rattle.std.proofs.Common.{◌≡◌, ℕ, ◌-◌, ◌≤◌, false, List, [], ◌++◌, length, take, drop, Option, None, Some, Result}
use Rattle.std.proofs.Common.{Ok, Err, IsErr, sym, subst, ◌∙◌, ap, append_assoc, append-nil, length-drop}
use Rattle.std.proofs.lemmas.List.{take-append-drop}
use Rattle.std.proofs.Math.Seq.{take-length}
use Rattle.std.specs.Io.KnownBytes.{Appends, Keeps}
use Rattle.plane_core.specs.Outputs.{Output, Writes, AppendsPrefix}

-- known bytes that don't change grow by the empty text
pub Appends-nil : (known : Option (List ℕ)) → Appends known known []
Appends-nil None = tt
Appends-nil (Some xs) = sym (append-nil xs)

-- bytes that grow by one text and then by another grow by the concatenation
pub Appends-append : (x y z : Option (List ℕ)) (a b : List ℕ) → Appends x y a → Appends y z b → Appends x z (a ++ b)
Appends-append None y z a b p q = tt
Appends-append (Some xs) None z a b p q = absurd p
Appends-append (Some xs) (Some ys) None a b p q = absurd q
Appends-append (Some xs) (Some ys) (Some zs) a b p q = q ∙ ap (λ (w : List ℕ). w ++ b) p ∙ append_assoc xs a b

-- a slice from place n on is the list without its first n elements
pub take-drop-remainder : {A : Type 0} (n : ℕ) (xs : List A) → take (length xs - n) (drop n xs) ≡ drop n xs
take-drop-remainder {A} n xs = ap (λ (k : ℕ). take k (drop n xs)) (sym (length-drop n xs)) ∙ take-length (drop n xs)

-- moving the first n bytes of the remainder to the end of the prefix doesn't change the piece
pub cut : (piece prefix remainder : List ℕ) (n : ℕ) → piece ≡ prefix ++ remainder → n ≤ length remainder → piece ≡ (prefix ++ take n remainder) ++ take (length remainder - n) (drop n remainder)
cut piece prefix remainder n e h =
    e ∙ ap (λ (xs : List ℕ). prefix ++ xs) (sym (take-append-drop n remainder)) ∙ sym (append_assoc prefix (take n remainder) (drop n remainder))
    ∙ ap (λ (xs : List ℕ). (prefix ++ take n remainder) ++ xs) (sym (take-drop-remainder n remainder))

-- bytes that grow by `a` and then by a prefix of `b` grow by a prefix of `a ++ b`
pub AppendsPrefix-append : (x y z : Option (List ℕ)) (a b : List ℕ) → Appends x y a → AppendsPrefix y z b → AppendsPrefix x z (a ++ b)
AppendsPrefix-append x y z a b p q =
    (a ++ q.0, q.1, ap (λ (w : List ℕ). a ++ w) q.2 ∙ sym (append_assoc a q.0 q.1), Appends-append x y z a q.0 p q.3)

-- bytes that grow by a prefix of `a` grow by a prefix of `a ++ b`
pub AppendsPrefix-longer : (x y : Option (List ℕ)) (a b : List ℕ) → AppendsPrefix x y a → AppendsPrefix x y (a ++ b)
AppendsPrefix-longer x y a b p = (p.0, p.1 ++ b, ap (λ (w : List ℕ). w ++ b) p.2 ∙ append_assoc p.0 p.1 b, p.3)

module _ {V : Type 0} {contents : V → Option (List ℕ)} where
  -- a call that does nothing writes the empty text, if writing hadn't failed before
  pub Writes_nothing : {E : Type 0} (x : Output V) → x.failed ≡ false → Writes {E = E} contents x x (Ok tt) []
  Writes_nothing x e = record { remembers = e; whole = Appends-nil (contents x.writer); prefix = tt }

  -- writing one text and then another writes the concatenation
  pub Writes_then : {E F : Type 0} {x y z : Output V} {r : Result (Unit {0}) F} {a b : List ℕ} → Writes {E = E} contents x y (Ok tt) a
      → Writes contents y z r b → Writes contents x z r (a ++ b)
  Writes_then {r = Ok _} {a} {b} p q = record { remembers = q.remembers; whole = Appends-append _ _ _ a b p.whole q.whole; prefix = tt }
  Writes_then {r = Err _} {a} {b} p q = record { remembers = q.remembers; whole = tt; prefix = AppendsPrefix-append _ _ _ a b p.whole q.prefix }

  -- a call that fails to write `a` also fails to write `a ++ b`, and its error can be replaced by another error
  pub Writes_stops : {E F : Type 0} {x y : Output V} {e : E} {r : Result (Unit {0}) F} {a : List ℕ} (b : List ℕ) → IsErr r
      → Writes contents x y (Err e) a → Writes contents x y r (a ++ b)
  Writes_stops {r = Ok _} b h p = cc
  Writes_stops {r = Err _} {a} b h p = record { remembers = p.remembers; whole = tt; prefix = AppendsPrefix-longer _ _ a b p.prefix }

  -- the error of a call that fails to write a text can be replaced by another error
  pub Writes_fails : {E F : Type 0} {x y : Output V} {e : E} {r : Result (Unit {0}) F} {a : List ℕ} → IsErr r → Writes contents x y (Err e) a
      → Writes contents x y r a
  Writes_fails {r = Ok _} h p = cc
  Writes_fails {r = Err _} h p = record { remembers = p.remembers; whole = tt; prefix = p.prefix }

  -- a call that fails to write `a` also fails to write `a ++ b`, with the same error
  pub Writes_longer : {E : Type 0} {x y : Output V} {r : Result (Unit {0}) E} {a : List ℕ} (b : List ℕ) → IsErr r → Writes contents x y r a
      → Writes contents x y r (a ++ b)
  Writes_longer {r = Ok _} b h p = cc
  Writes_longer {r = Err _} b h p = Writes_stops b h p

  -- the text that was written can be replaced by an equal one
  pub Writes_same : {E : Type 0} {x y : Output V} {r : Result (Unit {0}) E} {a b : List ℕ} → a ≡ b → Writes contents x y r a → Writes contents x y r b
  Writes_same {x} {y} {r} e p = let P : List ℕ → Type 0 = λ text. Writes contents x y r text in subst P e p
