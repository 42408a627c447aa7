use Rattle.std.proofs.Common.{◌≡◌, ◌≤◌, ◌+◌, ◌-◌, ◌^◌, List, ℕ, length, take}
use Rattle.std.specs.Io.KnownBytes.{Consumes, prepend_known}
use Rattle.commands.specs.Lines.{IsOneLine}
use Rattle.commands.proofs.lines.Lines.next.Given as goal

-- a prefix of the line, without a line feed, was read
abbrev pub invariant-loop-piece : goal.invariant-loop-piece
invariant-loop-piece g l = record {
  short : l.size ≤ l.fn.room;
  read : (prefix : List ℕ) × (l.self.line.items ≡ take (2 ^ 24 + 1) prefix) × IsOneLine prefix
      × Consumes (prepend_known l.fn.self.ahead (g.R.Read.remaining l.fn.input)) (prepend_known l.self.ahead (g.R.Read.remaining l.input)) prefix
      × (l.size ≡ length prefix);
}

abbrev pub decreases-loop-piece : goal.decreases-loop-piece
decreases-loop-piece g l = l.fn.room + 1 - l.size
