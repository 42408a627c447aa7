use Rattle.std.proofs.Common.{◌≡◌, ◌+◌, ◌-◌, ◌%◌, ◌<◌, ℕ, length, get_or}
use Rattle.std.specs.Int.{bit_at}
use Rattle.plane_core.specs.plane.Rules.{is_birth, is_survival}
use Rattle.plane_core.specs.windows.Words.{one_if}
use Rattle.plane_core.proofs.windows.rule_tables.RuleTables.new.Given as goal

abbrev pub invariant-loop-n : goal.invariant-loop-n
invariant-loop-n l = record {
  dead_long : length l.dead ≡ 10;
  change_long : length l.change ≡ 10;
  dead : (n i : ℕ) → n < l.n → i < 64 → bit_at (get_or l.dead n 0) i ≡ one_if (is_birth l.rule n);
  change : (n i : ℕ) → n < l.n → i < 64 → bit_at (get_or l.change n 0) i ≡ (one_if (is_birth l.rule n) + one_if (is_survival l.rule (n - 1))) % 2;
}
