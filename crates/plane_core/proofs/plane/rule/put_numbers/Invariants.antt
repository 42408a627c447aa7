use Rattle.std.proofs.Common.{◌≡◌, ◌+◌, ◌≤◌, ◌∷◌, ◌++◌, drop, take}
use Rattle.plane_core.specs.plane.Rules.{digits}
use Rattle.plane_core.proofs.plane.rule.put_numbers.Given as goal

-- the final text is the bytes written so far, followed by the digits of the remaining answers
abbrev pub invariant-loop-i : goal.invariant-loop-i
invariant-loop-i l = record {
  end : l.end ≤ l.place + 1 + l.i;
  text : take l.place l.fn.text ++ l.letter ∷ digits l.least l.answers ≡ take l.end l.text ++ digits (l.least + l.i) (drop l.i l.answers);
}
