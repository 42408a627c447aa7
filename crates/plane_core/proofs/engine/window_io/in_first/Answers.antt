use Rattle.std.proofs.Common.{arith}
use Rattle.plane_core.proofs.lemmas.windows.ShiftLemmas.{bit_left_low, bit_left_high}
use Rattle.plane_core.proofs.engine.window_io.in_first.Goals as goal

pub returns-clause-low : goal.returns-clause-low
returns-clause-low c i less = bit_left_low c.args.word c.args.shift i less (omega arith)

pub returns-clause-high : goal.returns-clause-high
returns-clause-high c i least low = bit_left_high c.args.word c.args.shift i least low
