use Rattle.haul_core.proofs.book.samples.Samples.with_number.Goals as goal

pub put-left-requires-clause-few : goal.put-left-requires-clause-few
put-left-requires-clause-few c = c.self.invariant.0

pub put-left-requires-clause-ascending : goal.put-left-requires-clause-ascending
put-left-requires-clause-ascending c = c.self.invariant.1
