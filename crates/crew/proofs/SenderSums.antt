-- Sums over the notes that were received, taken worker by worker.
use Rattle.std.proofs.Common.{◌≡◌, ◌∙◌, ◌≤◌, ◌+◌, ℕ, suc, All, Bool, List, [], ◌∷◌, ap, arith, cond, nat_le, refl, sym}
use Rattle.std.specs.Prelude.{sum_by}
use Rattle.std.proofs.lemmas.Bool.{le-leb, lt-leb}
use Rattle.std.proofs.lemmas.List.Elements.{All-head, All-tail}
use Rattle.std.proofs.lemmas.List.Sums.{sum_by-cons}
use mathlib.Core.Logic.{dite}
use native.Mathlib.Decide.{dec_le, ℕ_discrete}
use Rattle.handover.specs.Belts.{notes_of}
use Rattle.handover.proofs.BeltLemmas.{notes_first, notes_other}
use Rattle.crew.specs.declared.note.Note.{Note}

-- the sum of `of` over the notes from workers whose number is at most `worker`
abbrev pub up_to : (Note → ℕ) → ℕ → List (ℕ × Note) → ℕ
up_to of worker [] = 0
up_to of worker (m ∷ ms) = cond {A = ℕ} (nat_le m.0 worker) (of m.1) 0 + up_to of worker ms

-- one more worker adds the sum over its notes
pub up_to_more : (of : Note → ℕ) (worker : ℕ) (got : List (ℕ × Note))
    → up_to of (suc worker) got ≡ up_to of worker got + sum_by of (notes_of (suc worker) got)
up_to_more of worker [] = refl
up_to_more of worker (m ∷ ms) =
    let more = up_to_more of worker ms in
    let one : ℕ = of m.1 in
    dite (ℕ_discrete (suc worker) m.0)
    (λ same.
    let now : cond {A = ℕ} (nat_le m.0 (suc worker)) one 0 ≡ one = ap (λ (b : Bool). cond {A = ℕ} b one 0) (le-leb m.0 (suc worker) (omega (arith, same))) in
    let before : cond {A = ℕ} (nat_le m.0 worker) one 0 ≡ 0 = ap (λ (b : Bool). cond {A = ℕ} b one 0) (lt-leb m.0 worker (omega (arith, same))) in
    let notes : sum_by of (notes_of (suc worker) (m ∷ ms)) ≡ one + sum_by of (notes_of (suc worker) ms) =
    ap (sum_by of) (notes_first m.0 (suc worker) m.1 ms same) ∙ sum_by-cons of m.1 (notes_of (suc worker) ms) in
    omega (arith, more, now, before, notes))
    (λ apart.
    let notes : sum_by of (notes_of (suc worker) (m ∷ ms)) ≡ sum_by of (notes_of (suc worker) ms) =
    ap (sum_by of) (notes_other m.0 (suc worker) m.1 ms apart) in
    let both : cond {A = ℕ} (nat_le m.0 (suc worker)) one 0 ≡ cond {A = ℕ} (nat_le m.0 worker) one 0 =
    ap (λ (b : Bool). cond {A = ℕ} b one 0)
    (elim (dec_le m.0 worker) [
      | yes le ↦ le-leb m.0 (suc worker) (omega (arith, le)) ∙ sym (le-leb m.0 worker le)
      | no not_le ↦ lt-leb m.0 (suc worker) (omega (arith, not_le, apart)) ∙ sym (lt-leb m.0 worker (omega (arith, not_le)))
    ]) in
    omega (arith, more, notes, both))

pub up_to_none : (of : Note → ℕ) (got : List (ℕ × Note)) → All (λ m. 1 ≤ m.0) got → up_to of 0 got ≡ 0
up_to_none of [] some = refl
up_to_none of (m ∷ ms) some =
    let here : cond {A = ℕ} (nat_le m.0 0) (of m.1) 0 ≡ 0 =
    ap (λ (b : Bool). cond {A = ℕ} b (of m.1) 0) (lt-leb m.0 0 (omega (arith, All-head (λ n. 1 ≤ n.0) m ms some))) in
    let more = up_to_none of ms (All-tail (λ n. 1 ≤ n.0) m ms some) in
    omega (arith, here, more)

pub up_to_all : (of : Note → ℕ) (workers : ℕ) (got : List (ℕ × Note)) → All (λ m. m.0 ≤ workers) got
    → up_to of workers got ≡ sum_by (λ m. of m.1) got
up_to_all of workers [] few = refl
up_to_all of workers (m ∷ ms) few =
    let one : ℕ = of m.1 in
    let here : cond {A = ℕ} (nat_le m.0 workers) one 0 ≡ one =
    ap (λ (b : Bool). cond {A = ℕ} b one 0) (le-leb m.0 workers (All-head (λ n. n.0 ≤ workers) m ms few)) in
    let more = up_to_all of workers ms (All-tail (λ n. n.0 ≤ workers) m ms few) in
    let both : sum_by (λ n. of n.1) (m ∷ ms) ≡ one + sum_by (λ n. of n.1) ms = sum_by-cons (λ (n : ℕ × Note). of n.1) m ms in
    omega (arith, here, more, both)
