use Rattle.std.proofs.Common.{◌≡◌, ◌∙◌, ◌++◌, ℕ, List, true, false, ap, sym, is_some, nat_eq}
use Rattle.std.specs.Map.{lookup}
use Rattle.ranges.specs.Ranges.{end_of}
use Rattle.haul_core.proofs.MissingLemmas.{adds_no, adds_yes}
use Rattle.haul_core.proofs.book.missing.add_missing.Goals as goal
use Rattle.haul_core.proofs.book.missing.add_missing.Goals.{then-not-contains_key+in_ok-push, else-not-contains_key}

pub loop-number-preserved : goal.loop-number-preserved
loop-number-preserved c =
    let workers = c.args.worker_of.now.entries in
    let items : List ℕ = c.loop-number.missing.items in
    let n : ℕ = c.loop-number.number-counter in
    let end : ℕ = end_of c.args.range.now in
    elim c.if-not-contains_key.branch [
      | then-not-contains_key+in_ok-push w ↦
          let none : is_some (lookup (nat_eq n) workers) ≡ false = sym c.contains_key.ensures ∙ w.if-not-contains_key.true in
          rw (w.missing-is, w.in_ok-push.ensures.items) (adds_yes workers items n end c.loop-number-test.true none ∙ c.loop-number.invariant)
      | else-not-contains_key w ↦
          let some : is_some (lookup (nat_eq n) workers) ≡ true = sym c.contains_key.ensures ∙ w.if-not-contains_key.false in
          rw w.missing-is (ap (λ (xs : List ℕ). items ++ xs) (adds_no workers n end c.loop-number-test.true some) ∙ c.loop-number.invariant)
    ]
