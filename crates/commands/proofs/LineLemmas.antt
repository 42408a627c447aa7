-- Lemmas about reading an input line by line.
use Rattle.std.proofs.Common.{◌≡◌, ◌≢◌, ◌<◌, ◌≤◌, ◌+◌, ◌-◌, ◌^◌, ◌∙◌, ◌++◌, ℕ, zero, suc, ne_eqb}
use Rattle.std.proofs.Common.{List, [], ◌∷◌, All, Option, None, Some, IfSome, ap, ap₂, append-nil, append_assoc, arith, cond, drop, drop_of_length-le, flat_map, length, length-append, length-drop, length-take, length-take-le, refl, subst, sym, take, take-append-drop}
use Rattle.std.proofs.lemmas.Grind.{flat_map-append}
use Rattle.std.proofs.lemmas.List.Elements.{All-append, All-head, All-push, All-tail}
use Rattle.std.proofs.KnownBytes.{Consumes-kept, Consumes-trans, prepend_known-read}
use Rattle.std.specs.Io.KnownBytes.{Consumes, IsAtEnd, Keeps, prepend_known}
use Rattle.pattern_commands.specs.Answers.{IsInput}
use Rattle.pattern_commands.specs.declared.ending.complaint.Complaint.{Complaint}
use Rattle.pattern_commands.specs.declared.ending.complaint.Complaint.TheVariants.{Refused, Memory, ReadFailed, TooLong, WriteFailed}
use Rattle.pattern_commands.specs.Inputs.{HasReadAtMost}
use Rattle.commands.specs.declared.lines.LineEnd.{LineEnd}
use Rattle.commands.specs.declared.lines.LineEnd.TheVariants.{Feed, Input}
use Rattle.commands.specs.declared.lines.LineRead.{LineRead}
use Rattle.commands.specs.declared.lines.Piece.{Piece}
use Rattle.commands.specs.LinesSoFar.{AreEnded}
use Rattle.commands.specs.Lines.{HasPiece, HasReadLine, HasReadPart, IsLongerThan, IsOneLine, IsPieceOf, MayEnd, IsSpent, begun_with, input_lines, piece_end, with_end}

abbrev IsNotFeed : ℕ → Type 0
IsNotFeed byte = byte ≢ 10

-- the first `n` bytes of `prefix ++ piece` depend only on the first `n` bytes of `prefix`, and on `piece`
pub kept_more : (n : ℕ) (prefix piece : List ℕ) → take n (take n prefix ++ piece) ≡ take n (prefix ++ piece)
kept_more zero prefix piece = refl
kept_more (suc n) [] piece = refl
kept_more (suc n) (x ∷ xs) piece = ap (λ l. x ∷ l) (kept_more n xs piece)

-- at most n bytes are kept
pub kept_short : (n : ℕ) (kept prefix : List ℕ) → kept ≡ take n prefix → length kept ≤ n
kept_short n kept prefix is = subst (λ (l : List ℕ). length l ≤ n) (sym is) (omega (arith, length-take n prefix))

-- what holds after a prefix of a line was read also holds after one more piece of the line was read
pub read_more : (start old new : Option (List ℕ)) (kept after prefix more : List ℕ) (size : ℕ) (piece : Piece)
    → kept ≡ take (2 ^ 24 + 1) prefix
    → IsOneLine prefix → Consumes start old prefix → size ≡ length prefix → after ≡ take (2 ^ 24 + 1) (kept ++ more)
    → HasPiece old new more piece
    → (after ≡ take (2 ^ 24 + 1) (prefix ++ more)) × IsOneLine (prefix ++ more)
    × Consumes start new ((prefix ++ more) ++ piece_end piece.end)
    × (size + piece.size ≡ length ((prefix ++ more) ++ piece_end piece.end))
read_more start old new kept after prefix more size piece kept_is one consumed size_is after_is read =
    let n : ℕ = 2 ^ 24 + 1 in
    let bytes = more ++ piece_end piece.end in
    let flat : prefix ++ bytes ≡ (prefix ++ more) ++ piece_end piece.end =
    sym (append_assoc prefix more (piece_end piece.end)) in (
      after_is ∙ ap (λ l. take n (l ++ more)) kept_is ∙ kept_more n prefix more,
      All-append IsNotFeed prefix more one read.one,
      subst (Consumes start new) flat (Consumes-trans start old new prefix bytes consumed read.consumed),
      ap₂ (λ a b. a + b) size_is read.size_is ∙ sym (length-append prefix bytes) ∙ ap length flat,
    )

-- an input from which more than `most` bytes were read is longer than `most`
pub long_read : (most : ℕ) (reader left : Option (List ℕ)) (read : List ℕ) → Consumes reader left read → most < length read
    → IsLongerThan most reader
long_read most None left read consumed long = tt
long_read most (Some xs) None read consumed long = absurd consumed
long_read most (Some xs) (Some ys) read consumed long = let all = ap length consumed ∙ length-append read ys in omega (arith, all, long)

-- if reading `prefix` from `start` left `old`, and then all of `old` was read, all of `start` was read
pub spent_from : (start old new : Option (List ℕ)) (prefix : List ℕ) → Consumes start old prefix → IsSpent old new → IsSpent start new
spent_from None old new prefix consumed spent = tt
spent_from (Some all) None new prefix consumed spent = absurd consumed
spent_from (Some all) (Some left) new prefix consumed spent = spent

-- if `read` and then `line` were read, and the input is at its end, `read ++ line` is the whole input
pub all_read : (start old new : Option (List ℕ)) (read line : List ℕ) → Consumes start old read → Consumes old new line → IfSome old (λ _. IsAtEnd new)
    → IsInput start (read ++ line)
all_read None old new read line before now end = tt
all_read (Some all) None new read line before now end = absurd before
all_read (Some all) (Some left) None read line before now end = absurd now
all_read (Some all) (Some left) (Some remainder) read line before now end =
    let whole : all ≡ read ++ (line ++ []) = before ∙ ap (λ l. read ++ l) (now ∙ ap (λ l. line ++ l) end) in
    sym (whole ∙ ap (λ l. read ++ l) (append-nil line))

-- `AreEnded` holds after one more line and its line feed
pub ended_more : (read : List ℕ) (lines : List (List ℕ)) (line : List ℕ) → AreEnded read lines → IsOneLine line
    → AreEnded (read ++ (line ++ 10 ∷ [])) (lines ++ line ∷ [])
ended_more read lines line before one = record {
  spelled =
      ap (λ l. l ++ (line ++ 10 ∷ [])) before.spelled ∙ ap (λ l. flat_map (with_end Feed) lines ++ l) (sym (append-nil (line ++ 10 ∷ [])))
      ∙ sym (flat_map-append (with_end Feed) lines (line ∷ []));
  whole = All-push IsOneLine lines line before.whole one;
}

-- `input_lines` splits `line`, a line feed and `more` into `line` and the lines of `more`
first_line : (line more : List ℕ) → IsOneLine line → input_lines ((line ++ 10 ∷ []) ++ more) ≡ line ∷ input_lines more
first_line [] more one = refl
first_line (x ∷ xs) more one =
    let miss = ne_eqb x 10 (All-head IsNotFeed x xs one) in
    let remainder = input_lines ((xs ++ 10 ∷ []) ++ more) in
    ap (λ b. cond b ([] ∷ remainder) (begun_with x remainder)) miss ∙ ap (begun_with x) (first_line xs more (All-tail IsNotFeed x xs one))

-- the lemma `first_line` for several lines
ended_lines : (lines : List (List ℕ)) (more : List ℕ) → All IsOneLine lines → input_lines (flat_map (with_end Feed) lines ++ more) ≡ lines ++ input_lines more
ended_lines [] more whole = refl
ended_lines (line ∷ lines) more whole =
    let remainder = flat_map (with_end Feed) lines in
    ap input_lines (append_assoc (line ++ 10 ∷ []) remainder more) ∙ first_line line (remainder ++ more) (All-head IsOneLine line lines whole)
    ∙ ap (λ l. line ∷ l) (ended_lines lines more (All-tail IsOneLine line lines whole))

-- one or more bytes without a line feed are one line
bare_line : (x : ℕ) (xs : List ℕ) → IsOneLine (x ∷ xs) → input_lines (x ∷ xs) ≡ (x ∷ xs) ∷ []
bare_line x [] one = ap (λ b. cond b ([] ∷ []) (begun_with x [])) (ne_eqb x 10 (All-head IsNotFeed x [] one))
bare_line x (y ∷ ys) one =
    let remainder = input_lines (y ∷ ys) in
    ap (λ b. cond b ([] ∷ remainder) (begun_with x remainder)) (ne_eqb x 10 (All-head IsNotFeed x (y ∷ ys) one))
    ∙ ap (begun_with x) (bare_line y ys (All-tail IsNotFeed x (y ∷ ys) one))

-- if the bytes that were read are `lines`, each ended by a line feed, `input_lines` splits them into exactly `lines`
pub lines_ended : (read : List ℕ) (lines : List (List ℕ)) → AreEnded read lines → input_lines (read ++ []) ≡ lines
lines_ended read lines ended =
    ap (λ l. input_lines (l ++ [])) ended.spelled ∙ ended_lines lines [] ended.whole ∙ append-nil lines

-- if lines that end with a line feed were read, and then bytes without a line feed, these bytes are the last line
pub lines_bare : (read : List ℕ) (lines : List (List ℕ)) (line : List ℕ) → AreEnded read lines → IsOneLine line → 0 < length line
    → input_lines (read ++ line) ≡ lines ++ line ∷ []
lines_bare read lines [] ended one some = absurd (omega (arith, some))
lines_bare read lines (x ∷ xs) ended one some =
    ap (λ l. input_lines (l ++ x ∷ xs)) ended.spelled ∙ ended_lines lines (x ∷ xs) ended.whole ∙ ap (λ l. lines ++ l) (bare_line x xs one)

-- the ended lines that were read are the first lines of the input
pub first_lines : (reader left : Option (List ℕ)) (read : List ℕ) (lines : List (List ℕ)) → Consumes reader left read → AreEnded read lines
    → IfSome reader (λ bytes. (more : List (List ℕ)) × (input_lines bytes ≡ lines ++ more))
first_lines None left read lines consumed ended = tt
first_lines (Some bytes) None read lines consumed ended = absurd consumed
first_lines (Some bytes) (Some more) read lines consumed ended =
    (input_lines more, ap input_lines (consumed ∙ ap (λ l. l ++ more) ended.spelled) ∙ ended_lines lines more ended.whole)

-- if `bytes` is the whole input, and all of it was used, nothing is left to read
pub all_spent : (reader left : Option (List ℕ)) (ahead bytes : List ℕ) → IsInput reader bytes
    → Consumes reader (prepend_known ahead left) bytes → IsSpent reader left
all_spent None left ahead bytes input consumed = tt
all_spent (Some all) None ahead bytes input consumed = absurd consumed
all_spent (Some all) (Some ys) ahead bytes input consumed = none ys (omega (arith, total, long))
  where
    total : length bytes ≡ length bytes + length (ahead ++ ys)
    total = ap length (input ∙ consumed) ∙ length-append bytes (ahead ++ ys)

    long : length (ahead ++ ys) ≡ length ahead + length ys
    long = length-append ahead ys

    none : (xs : List ℕ) → length xs ≡ 0 → xs ≡ []
    none [] is = refl
    none (x ∷ xs) is = absurd (omega (arith, is))

-- if the whole input was read, the lines of the bytes read are all lines of the input
pub all_lines : (reader : Option (List ℕ)) (read : List ℕ) → IsInput reader read
    → IfSome reader (λ bytes. (more : List (List ℕ)) × (input_lines bytes ≡ input_lines read ++ more))
all_lines None read input = tt
all_lines (Some bytes) read input = ([], ap input_lines (sym input) ∙ sym (append-nil (input_lines read)))

-- bytes without a line feed are one line, or none if there are no bytes
pub bare_part : (line : List ℕ) → IsOneLine line → length (input_lines line) ≤ 1
bare_part [] one = omega arith
bare_part (x ∷ xs) one = let is = ap length (bare_line x xs one) in omega (arith, is)

pub part_lines : (line : List ℕ) (end : Option LineEnd) → IsOneLine line → length (input_lines (line ++ piece_end end)) ≤ 1
part_lines line None one = subst (λ (l : List ℕ). length (input_lines l) ≤ 1) (sym (append-nil line)) (bare_part line one)
part_lines line (Some Input) one = subst (λ (l : List ℕ). length (input_lines l) ≤ 1) (sym (append-nil line)) (bare_part line one)
part_lines line (Some Feed) one =
    let is = ap length (ap input_lines (sym (append-nil (line ++ 10 ∷ []))) ∙ first_line line [] one) in omega (arith, is)

-- if `read` consists of ended lines, the lines of `read ++ more` are these lines, followed by the lines of `more`
pub lines_and : (read : List ℕ) (lines : List (List ℕ)) (more : List ℕ) → AreEnded read lines
    → input_lines (read ++ more) ≡ lines ++ input_lines more
lines_and read lines more ended = ap (λ l. input_lines (l ++ more)) ended.spelled ∙ ended_lines lines more ended.whole

-- a part that was read before a complaint may lack a line end
no_end : (complaint : Complaint) → MayEnd complaint None
no_end (Refused refusal) = tt
no_end (Memory error) = tt
no_end (ReadFailed error) = refl
no_end TooLong = tt
no_end (WriteFailed error) = tt

-- `HasReadPart` holds if a prefix of a line was read, and then nothing more before the complaint
pub part_kept : (start old new : Option (List ℕ)) (complaint : Complaint) (prefix : List ℕ) → IsOneLine prefix → Consumes start old prefix
    → Keeps old new → HasReadPart start new complaint
part_kept start old new complaint prefix one consumed same = record {
  line = prefix;
  end = None;
  one = one;
  consumed = subst (Consumes start new) (sym (append-nil prefix)) (Consumes-kept start old new prefix consumed same);
  cut = no_end complaint;
}

-- `HasReadPart` holds if a whole line was read before the complaint, and the complaint allows the line's end (`MayEnd`)
pub part_of_line : (room : ℕ) (old new : Option (List ℕ)) (kept : List ℕ) (read : LineRead) (complaint : Complaint) → HasReadLine room old new kept read
    → MayEnd complaint (Some read.end) → HasReadPart old new complaint
part_of_line room old new kept read complaint is cut =
    record { line = is.line; end = Some read.end; one = is.one; consumed = is.consumed; cut = cut }

-- ---- the bytes that were read ahead, and the bytes that are left in the input

-- an input at its end has nothing left, whatever was known before
spent : (old new : Option (List ℕ)) → IsAtEnd new → IsSpent old new
spent None new end = tt
spent (Some xs) new end = end

-- a piece of the bytes that are ahead is a piece of the input
pub piece_taken : (old left : Option (List ℕ)) (ahead shown next : List ℕ) (read : Piece) → shown ≡ ahead → IsPieceOf shown read
    → Keeps old (prepend_known ahead left) → next ≡ drop read.size ahead → (ahead ≡ [] → IsAtEnd left)
    → HasPiece old (prepend_known next left) (take read.length shown) read
piece_taken old left ahead shown next read same piece kept is end =
    let prefix = take read.size shown in
    let split : ahead ≡ prefix ++ next =
    sym same ∙ sym (take-append-drop read.size shown) ∙ ap (λ l. prefix ++ l) (ap (drop read.size) same ∙ sym is) in
    let none : ahead ≡ [] → next ≡ [] = λ e. is ∙ ap (drop read.size) e ∙ drop_of_length-le [] {i = read.size} (omega arith) in
    let moved = prepend_known-read old left ahead next prefix (ahead ≡ []) kept split (λ e. (none e, end e)) in record {
      one = piece.one;
      consumed = subst (Consumes old (prepend_known next left)) piece.ended moved.0;
      size_is = sym (length-take-le read.size shown piece.bound) ∙ ap length piece.ended;
      last = λ is. spent old (prepend_known next left) (moved.1 (sym same ∙ piece.last is));
      some = piece.some;
    }

-- a piece and the bytes that are ahead after it are as many as the bytes that were ahead before it
pub piece_few : (most : ℕ) (ahead shown next : List ℕ) (read : Piece) → shown ≡ ahead → IsPieceOf shown read → next ≡ drop read.size ahead
    → length ahead ≤ most → read.size + length next ≤ most
piece_few most ahead shown next read same piece is few =
    let within = piece.bound in
    let long = ap length same in
    let left = ap length is ∙ length-drop read.size ahead in
    omega (arith, within, long, left, few)

pub piece_left : (most : ℕ) (ahead next : List ℕ) (read : Piece) → next ≡ drop read.size ahead → length ahead ≤ most → length next ≤ most
piece_left most ahead next read is few =
    let left = ap length is ∙ length-drop read.size ahead in
    omega (arith, left, few)

-- ---- how much was read

-- if the bytes used and the bytes ahead are at most `most` together, at most `most` bytes were read
pub with_ahead : (most : ℕ) (old left : Option (List ℕ)) (read ahead : List ℕ) → Consumes old (prepend_known ahead left) read
    → length read + length ahead ≤ most → HasReadAtMost most old left
with_ahead most old left read ahead consumed few =
    let long = length-append read ahead in (read ++ ahead, go old left consumed, omega (arith, few, long))
  where
    go : (old left : Option (List ℕ)) → Consumes old (prepend_known ahead left) read → Consumes old left (read ++ ahead)
    go None left consumed = tt
    go (Some xs) None consumed = absurd consumed
    go (Some xs) (Some ys) consumed = consumed ∙ sym (append_assoc read ahead ys)

-- if at most `room` bytes were used and at most `once` are ahead, at most `room + once` bytes were read
pub little : (room once size : ℕ) (old left : Option (List ℕ)) (read ahead : List ℕ) → Consumes old (prepend_known ahead left) read
    → size ≡ length read → size ≤ room → length ahead ≤ once → HasReadAtMost (room + once) old left
little room once size old left read ahead consumed is short few =
    with_ahead (room + once) old left read ahead consumed (omega (arith, is, short, few))

-- the lemma `little` after a piece of `more` bytes was taken from the bytes that were ahead
pub little_more : (room once size more : ℕ) (old left : Option (List ℕ)) (read ahead : List ℕ) → Consumes old (prepend_known ahead left) read
    → size + more ≡ length read → size ≤ room → more + length ahead ≤ once → HasReadAtMost (room + once) old left
little_more room once size more old left read ahead consumed is short few =
    with_ahead (room + once) old left read ahead consumed (omega (arith, is, short, few))

-- each piece leaves less room
pub less_room : (room size more : ℕ) → 0 < more → size + more ≤ room → room + 1 - (size + more) < room + 1 - size
less_room room size more some within = omega arith

-- After the bytes `read`, up to `room` more bytes were read. If `length read + room ≤ most`, no more than `most` bytes
-- were read in all.
pub after_read : (room most : ℕ) (reader old new : Option (List ℕ)) (read : List ℕ) → Consumes reader old read → length read + room ≤ most
    → HasReadAtMost room old new → HasReadAtMost most reader new
after_read room most reader old new read consumed few (more, next, short) =
    let long = length-append read more in
    (read ++ more, Consumes-trans reader old new read more consumed next, omega (arith, few, short, long))
