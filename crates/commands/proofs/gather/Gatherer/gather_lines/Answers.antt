use Rattle.std.proofs.Common.{◌≤◌, ◌∙◌, ◌+◌, ◌-◌, ◌^◌, ℕ, [], ap, arith, length, refl}
use Rattle.std.proofs.KnownBytes.{Appends-nil, Consumes-nil}
use Rattle.pattern_commands.specs.Streams.{stream}
use Rattle.pattern_commands.proofs.AnswerLemmas.{err_of}
use Rattle.commands.proofs.GatherLemmas.{begun, goes_further, goes_no_further, lines_ended_by, many_lines, none_gathered, read_further, read_so_far}
use Rattle.commands.proofs.gather.Gatherer.gather_lines.Goals as goal

-- ---- arithmetic with the limit of 2^32 bytes

within : (size more : ℕ) → size ≤ 2 ^ 32 → more ≤ 2 ^ 32 - size → size + more ≤ 2 ^ 32
within size more short few = omega arith

room_left : (size : ℕ) → size ≤ 2 ^ 32 → 2 ^ 32 ≤ size + (2 ^ 32 - size)
room_left size short = omega arith

room_and_more : (size : ℕ) → size ≤ 2 ^ 32 → size + (2 ^ 32 - size + 2 ^ 16) ≤ 2 ^ 32 + 2 ^ 16
room_and_more size short = omega arith

both_few : (size ahead : ℕ) → size ≤ 2 ^ 32 → ahead ≤ 2 ^ 16 → size + ahead ≤ 2 ^ 32 + 2 ^ 16
both_few size ahead short few = omega arith

-- ---- the goals

pub returns-in_err-lines-clause-ended : goal.returns-in_err-lines-clause-ended
returns-in_err-lines-clause-ended g c =
    let errors = stream g.E.Write.contents c.args.errors.now c.args.errors.now in
    rw (err_of _ _ c.from_residual.ensures.1)
    (record {
      ahead = [];
      few = omega arith;
      ends = (begun _ _ _ (none_gathered (g.R.Read.remaining c.args.input.now) [] errors _ refl (Appends-nil _) c.requires.haul) refl, c.requires.errors);
    })

pub loop-before-init : goal.loop-before-init
loop-before-init g c = record {
  terms = refl;
  fine = c.requires.errors;
  short = omega arith;
  few = let empty = ap length c.in_ok-lines.ensures in omega (arith, empty);
  gathered = none_gathered _ c.in_ok-lines.lines.ahead (stream g.E.Write.contents c.args.errors.now c.args.errors.now) _ c.in_ok-lines.ensures (Appends-nil _)
      c.requires.haul;
}

pub returns-in_err-read-clause-ended : goal.returns-in_err-read-clause-ended
returns-in_err-read-clause-ended g c =
    rw (err_of _ _ c.from_residual-in_err-read.ensures.1)
    (record {
      ahead = c.gather_next.new.lines.ahead;
      few = c.in_err-read.ensures.most;
      ends = lines_ended_by g.E.Write.contents _ _ _ _ c.args.errors.now _ _ _ _ c.loop-before.errors c.gather_next.new.errors
          c.in_err-read.field-0.0
          c.loop-before.invariant.gathered c.loop-before.invariant.terms c.loop-before.invariant.fine (room_left _ c.loop-before.invariant.short)
          c.in_err-read.ensures.ended c.in_err-read.ensures.part;
    })

pub returns-in-Input-clause-gathered : goal.returns-in-Input-clause-gathered
returns-in-Input-clause-gathered g c = record {
  size = _;
  short = within c.loop-before.size c.in_ok-read.read.size c.loop-before.invariant.short c.in_ok-read.ensures.short;
  ahead = c.gather_next.new.lines.ahead;
  few = c.gather_next.ensures.few;
  all = goes_no_further _ _ c.in_ok-read.read.end c.in-Input.is
      (c.in_ok-read.ensures.going _ c.args.errors.now _ c.loop-before.invariant.gathered);
}

pub loop-before-preserved : goal.loop-before-preserved
loop-before-preserved g c = record {
  terms = c.gather_next.ensures.terms ∙ c.loop-before.invariant.terms;
  fine = c.in_ok-read.ensures.fine;
  short = within c.loop-before.size c.in_ok-read.read.size c.loop-before.invariant.short c.in_ok-read.ensures.short;
  few = c.gather_next.ensures.few;
  gathered = goes_further _ _ c.in_ok-read.read.end (λ end. c.in_default.not-Input end)
      (c.in_ok-read.ensures.going _ c.args.errors.now _ c.loop-before.invariant.gathered);
}

pub returns-clause-ended : goal.returns-clause-ended
returns-clause-ended g c = record {
  ahead = c.loop-before.lines.ahead;
  few = c.loop-before.invariant.few;
  ends = (
    begun _ _ _ c.loop-before.invariant.gathered c.loop-before.invariant.terms,
    c.loop-before.invariant.fine,
    many_lines _ _ c.loop-before.invariant.gathered (omega arith),
  );
}

pub returns-in_err-lines-clause-little : goal.returns-in_err-lines-clause-little
returns-in_err-lines-clause-little g c = ([], Consumes-nil (g.R.Read.remaining c.args.input.now), omega arith)

pub returns-in_err-read-clause-little : goal.returns-in_err-read-clause-little
returns-in_err-read-clause-little g c =
    read_further _ (2 ^ 32 + 2 ^ 16) _ _ _ _ _ _ _ c.loop-before.invariant.gathered (room_and_more _ c.loop-before.invariant.short) c.in_err-read.ensures.little

pub returns-in-Input-clause-little : goal.returns-in-Input-clause-little
returns-in-Input-clause-little g c =
    read_further _ (2 ^ 32 + 2 ^ 16) _ _ _ _ _ _ _ c.loop-before.invariant.gathered (room_and_more _ c.loop-before.invariant.short) c.in_ok-read.ensures.little

pub returns-clause-little : goal.returns-clause-little
returns-clause-little g c =
    read_so_far (2 ^ 32 + 2 ^ 16) _ _ _ _ _ _ _ c.loop-before.invariant.gathered (both_few _ _ c.loop-before.invariant.short c.loop-before.invariant.few)
