use Rattle.std.proofs.Common.{◌≡◌, ◌<◌, ◌↔◌, List, ℕ, [], Ok, Err, length, subst}
use Rattle.std.specs.Prelude.{IfOk, IsErrOf}
use Rattle.std.proofs.lemmas.Result.{IfOk-weaker}
use Rattle.code_core.specs.declared.reader.WechslerError.TheVariants.{Fault}
use Rattle.code_core.specs.declared.reader.WechslerFault.TheVariants.{TooLong, BadByte, ShortRun, Empty}
use Rattle.code_core.specs.Reading.{wechsler_read, Says}
use Rattle.code_core.specs.ReadingFaults.{IsBadByte, IsShortRun}
use Rattle.code_core.proofs.ReadingLaws.{Says-read, wechsler_read-Says, read_as, too_long, no_cell, bad_byte, short_run, told}
use Rattle.code_core.proofs.reader.read_wechsler.Goals as goal

pub returns-clause-fault : goal.returns-clause-fault
returns-clause-fault c = λ fault. subst (λ (t : List ℕ). IsErrOf c.read.result (Fault fault) ↔ (wechsler_read t ≡ Err fault))
    c.as_bytes.ensures.value (c.read.ensures.fault fault)

pub returns-clause-says : goal.returns-clause-says
returns-clause-says c =
    let ok = subst (λ (t : List ℕ). IfOk c.read.result (λ read. wechsler_read t ≡ Ok read)) c.as_bytes.ensures.value c.read.ensures.pattern in
    IfOk-weaker c.read.result _ _ (λ read e. Says-read c.args.text.now read e) ok

pub returns-clause-complete : goal.returns-clause-complete
returns-clause-complete c = λ cells s some short.
    let ok = subst (λ (t : List ℕ). IfOk c.read.result (λ read. wechsler_read t ≡ Ok read)) c.as_bytes.ensures.value c.read.ensures.pattern in
    read_as c.args.text.now c.read.result cells ok (returns-clause-fault c) (wechsler_read-Says c.args.text.now cells s some short)

pub returns-clause-too_long : goal.returns-clause-too_long
returns-clause-too_long c = told (10000 < length c.args.text.now) c.args.text.now c.read.result TooLong (returns-clause-fault c TooLong)
    (too_long c.args.text.now)

pub returns-clause-bad_byte : goal.returns-clause-bad_byte
returns-clause-bad_byte c = λ place short. told (IsBadByte c.args.text.now place) c.args.text.now c.read.result (BadByte place)
    (returns-clause-fault c (BadByte place)) (bad_byte c.args.text.now place short)

pub returns-clause-short_run : goal.returns-clause-short_run
returns-clause-short_run c = λ place short. told (IsShortRun c.args.text.now place) c.args.text.now c.read.result (ShortRun place)
    (returns-clause-fault c (ShortRun place)) (short_run c.args.text.now place short)

pub returns-clause-empty : goal.returns-clause-empty
returns-clause-empty c = λ short. told (Says c.args.text.now []) c.args.text.now c.read.result Empty (returns-clause-fault c Empty)
    (no_cell c.args.text.now short)
