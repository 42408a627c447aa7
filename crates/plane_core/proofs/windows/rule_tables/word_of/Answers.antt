use Rattle.std.proofs.lemmas.Nat.Bits.{bit_at_ones, bit_at-zero}
use Rattle.plane_core.proofs.windows.rule_tables.word_of.Goals as goal

pub returns-then-bit : goal.returns-then-bit
returns-then-bit c i low = rw c.if-bit.true (bit_at_ones 64 i low)

pub returns-else-bit : goal.returns-else-bit
returns-else-bit c i low = rw c.if-bit.false (bit_at-zero i)
