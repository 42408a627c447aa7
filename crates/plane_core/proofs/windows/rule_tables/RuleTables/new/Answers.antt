use Rattle.std.proofs.Common.{◌≡◌, Bool, true, false, not, ◌+◌, ◌-◌, ◌%◌, ◌<◌, ℕ, ◌∙◌, ap, arith, length-set, refl, subst, sym}
use mathlib.Core.Bool.{beq}
use Rattle.plane_core.specs.plane.Rules.{is_birth, is_survival}
use Rattle.plane_core.specs.windows.Words.{one_if}
use Rattle.plane_core.proofs.lemmas.windows.RuleLogicLemmas.{words_more}
use Rattle.plane_core.proofs.windows.rule_tables.RuleTables.new.Goals as goal

differ : (b s : Bool) → one_if (not (beq b s)) ≡ (one_if b + one_if s) % 2
differ true true = refl
differ true false = refl
differ false true = refl
differ false false = refl

pub bounds-dead-n : goal.bounds-dead-n
bounds-dead-n c = c.loop-n-test.true

pub bounds-change-n : goal.bounds-change-n
bounds-change-n c = c.loop-n-test.true

pub loop-n-preserved : goal.loop-n-preserved
loop-n-preserved c =
    let rule = c.args.rule.now in
    let n = c.loop-n.n in
    let inv = c.loop-n.invariant in
    record {
      dead_long = length-set c.loop-n.dead n _ ∙ inv.dead_long;
      change_long = length-set c.loop-n.change n _ ∙ inv.change_long;
      dead = words_more (λ (m : ℕ). one_if (is_birth rule m)) c.loop-n.dead n _ (subst (λ (k : ℕ). n < k) (sym inv.dead_long) c.loop-n-test.true) inv.dead
          (λ i low. c.word_of.ensures i low ∙ ap one_if c.births-born.ensures.birth);
      change = words_more (λ (m : ℕ). (one_if (is_birth rule m) + one_if (is_survival rule (m - 1))) % 2) c.loop-n.change n _
          (subst (λ (k : ℕ). n < k) (sym inv.change_long) c.loop-n-test.true) inv.change
          (λ i low. c.word_of-in-loop-n.ensures i low ∙ differ c.births-born.result c.survives.result
          ∙ (λ t. (one_if (c.births-born.ensures.birth t) + one_if ((c.survives.ensures.survival ∙ ap (is_survival rule) c.saturating_sub.ensures) t)) % 2));
    }

pub invariant_of-result : goal.invariant_of-result
invariant_of-result c =
    let last : c.loop-n.n ≡ 10 = omega arith in
    let inv = c.loop-n.invariant in
    record { dead_right = λ n i low inside. inv.dead n i (omega (arith, low, last)) inside; change_right = λ n i low inside. inv.change n i (omega (arith, low, last)) inside }

pub returns : goal.returns
returns c = refl
