-- Lemmas on what commands read and answer.
use Rattle.std.proofs.Common.{◌≡◌, ◌<◌, ◌≤◌, ◌^◌, ◌↔◌, ℕ, List, [], length, Bool, true, false, Option, None, Some, Result, Ok, Err, nat_le, refl}
use Rattle.std.proofs.Common.{IfSome, ◌+◌, ◌++◌, append-nil, arith, length-append, length-take, subst, sym, ap, take, ◌∙◌, rules}
use Rattle.std.specs.List.{range_with_len}
use Rattle.std.specs.Io.KnownBytes.{Consumes, IsAtEnd}
use Rattle.std.proofs.KnownBytes.{Consumes-nil, Consumes-trans}
use Rattle.std.proofs.lemmas.List.FromFn.{length-range_with_len}
use Rattle.std.specs.Result.{IsErrAnd, IsErrOf, result_map_both}
use Rattle.plane_core.specs.declared.plane.cell.Cell.{Cell}
use Rattle.plane_core.specs.declared.plaintext.PlaintextError.{PlaintextError}
use Rattle.plane_core.specs.declared.plaintext.PlaintextError.TheVariants as plaintext_error
use Rattle.plane_core.specs.declared.plaintext.PlaintextFault.{PlaintextFault}
use Rattle.plane_core.specs.declared.plaintext.PlaintextFault.TheVariants as plaintext_fault
use Rattle.plane_core.specs.Plaintext.{pattern}
use Rattle.pattern_commands.specs.declared.ending.complaint.Complaint.{Complaint}
use Rattle.pattern_commands.specs.declared.ending.complaint.Complaint.TheVariants.{Refused, Memory, ReadFailed, TooLong, WriteFailed}
use Rattle.pattern_commands.specs.declared.input.InputError.{InputError}
use Rattle.pattern_commands.specs.declared.input.InputError.TheVariants as input_error
use Rattle.pattern_commands.specs.Answers.{IsInput}
use Rattle.pattern_commands.specs.Inputs.{HasReadAtMost, Reads, input_complaint, plaintext_complaint, pattern_complaint, pattern_of}

-- if a result is an error, and the error equals `e`, the result is `Err e`
pub err_of : {A E : Type 0} (r : Result A E) (e : E) → IsErrAnd r (λ x. x ≡ e) → r ≡ Err e
err_of (Ok a) e h = absurd h
err_of (Err x) e h = ap Err h

-- for each reader, there are bytes that may be its input
pub some_input : (reader : Option (List ℕ)) → (bytes : List ℕ) × IsInput reader bytes
some_input None = ([], tt)
some_input (Some left) = (left, refl)

-- reading no bytes leaves a reader as it was
pub none_read : (reader : Option (List ℕ)) (bytes : List ℕ) → bytes ≡ [] → Consumes reader reader bytes
none_read reader bytes none = subst (Consumes reader reader) (sym none) (Consumes-nil reader)

pub none_short : (most : ℕ) (bytes : List ℕ) → bytes ≡ [] → length bytes ≤ most
none_short most bytes none = let empty = ap length none in omega (arith, empty)

-- if a read gives no bytes at the end of an input, the bytes read before are the whole input
pub whole_input : (old mid new : Option (List ℕ)) (bytes buffer : List ℕ) (n : ℕ) → Consumes old mid bytes → Consumes mid new (take n buffer)
    → n ≡ 0 → IsAtEnd new → IfSome old (λ left. bytes ≡ left)
whole_input None mid new bytes buffer n before now none end = tt
whole_input (Some xs) None new bytes buffer n before now none end = absurd before
whole_input (Some xs) (Some ys) None bytes buffer n before now none end = absurd now
whole_input (Some xs) (Some ys) (Some zs) bytes buffer n before now none end =
    let rest : ys ≡ [] = now ∙ ap (λ k. take k buffer ++ zs) none ∙ end in
    sym (before ∙ ap (λ l. bytes ++ l) rest ∙ append-nil bytes)

-- if more bytes than a limit were read, the input is longer than the limit
pub long_input : (limit : ℕ) (old mid : Option (List ℕ)) (bytes : List ℕ) → Consumes old mid bytes → limit < length bytes
    → IfSome old (λ left. limit < length left)
long_input limit None mid bytes before long = tt
long_input limit (Some xs) None bytes before long = absurd before
long_input limit (Some xs) (Some ys) bytes before long = let all = ap length before ∙ length-append bytes ys in omega (arith, all, long)

-- after one more read, the bytes read so far are the earlier bytes, followed by the bytes of this read
pub read_more : (old mid new : Option (List ℕ)) (bytes buffer later : List ℕ) (n : ℕ) → Consumes old mid bytes → Consumes mid new (take n buffer)
    → later ≡ bytes ++ take n buffer → Consumes old new later
read_more old mid new bytes buffer later n before now is = subst (Consumes old new) (sym is) (Consumes-trans old mid new bytes (take n buffer) before now)

pub short_more : (limit once : ℕ) (bytes buffer later : List ℕ) (n : ℕ) → length bytes ≤ limit → length buffer ≡ once
    → later ≡ bytes ++ take n buffer → length later ≤ limit + once
short_more limit once bytes buffer later n short room is =
    let long = ap length is ∙ length-append bytes (take n buffer) in
    let more = length-take n buffer in
    omega (arith, long, more, short, room)

pub little_more : (limit once : ℕ) (old mid new : Option (List ℕ)) (bytes buffer : List ℕ) (n : ℕ) → Consumes old mid bytes
    → Consumes mid new (take n buffer) → length bytes ≤ limit → length buffer ≡ once → HasReadAtMost (limit + once) old new
little_more limit once old mid new bytes buffer n before now short room = (
  bytes ++ take n buffer,
  read_more old mid new bytes buffer (bytes ++ take n buffer) n before now refl,
  short_more limit once bytes buffer (bytes ++ take n buffer) n short room refl,
)

-- an input of more than 2^24 bytes is too long, whatever its bytes are
pub pattern_of-long : (bytes : List ℕ) → 2 ^ 24 < length bytes → pattern_of bytes ≡ Err TooLong
pattern_of-long bytes long =
    let unlooked : nat_le (length bytes) (2 ^ 24) ≡ false = search rules in
    rw unlooked refl

-- if an input wasn't read to its end, the complaint is right for some bytes that may be the input
pub Reads_unread : (reader : Option (List ℕ)) (fault : InputError)
    → (fault ≡ input_error.TooLong → IfSome reader (λ left. 2 ^ 24 < length left))
    → (bytes : List ℕ) × IsInput reader bytes × Reads (pattern_of bytes) (Err (input_complaint fault))
Reads_unread reader (input_error.Unreadable failed) long = let some = some_input reader in (some.0, some.1, tt)
Reads_unread reader (input_error.Memory refused) long = let some = some_input reader in (some.0, some.1, tt)
Reads_unread None input_error.TooLong long =
    let bytes = range_with_len 0 (2 ^ 24 + 1) in
    (bytes, tt, pattern_of-long bytes (subst (λ n. 2 ^ 24 < n) (sym (length-range_with_len 0 (2 ^ 24 + 1))) (omega arith)))
Reads_unread (Some left) input_error.TooLong long = (left, refl, pattern_of-long left (long refl))

-- an input of at most 2^24 bytes is parsed
pub pattern_of-short : (bytes : List ℕ) (answer : Result (List Cell) PlaintextFault) → length bytes ≤ 2 ^ 24 → pattern bytes ≡ answer
    → pattern_of bytes ≡ result_map_both (λ (cells : List Cell). cells) pattern_complaint answer
pattern_of-short bytes answer short is =
    let looked : nat_le (length bytes) (2 ^ 24) ≡ true = search rules in
    rw (looked, is)

-- the complaint about a refused pattern is a right result of reading the pattern
pub Reads_refused : (bytes : List ℕ) (fault : PlaintextFault) → length bytes ≤ 2 ^ 24 → pattern bytes ≡ Err fault
    → Reads (pattern_of bytes) (Err (pattern_complaint fault))
Reads_refused bytes (plaintext_fault.BadByte line column) short is = pattern_of-short bytes _ short is
Reads_refused bytes plaintext_fault.TooLarge short is = pattern_of-short bytes _ short is

pub Reads_error : (bytes : List ℕ) (error : PlaintextError) → length bytes ≤ 2 ^ 24
    → ((fault : PlaintextFault) → IsErrOf {T = List Cell} (Err error) (plaintext_error.Fault fault) ↔ (pattern bytes ≡ Err fault))
    → Reads (pattern_of bytes) (Err (plaintext_complaint error))
Reads_error bytes (plaintext_error.Fault fault) short faults = Reads_refused bytes fault short ((faults fault).0 refl)
Reads_error bytes (plaintext_error.Memory refused) short faults = tt
