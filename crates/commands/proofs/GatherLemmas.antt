-- Lemmas about `gather`: the effect of each line on the haul, and what holds when gathering ends.
use Rattle.std.proofs.Common.{◌≡◌, ◌≢◌, ◌+◌, ◌∙◌, ◌++◌, ◌<◌, ◌≤◌, ◌^◌, ℕ, suc, inl, inr, false, length-append, length-take, List, [], ◌∷◌, Option, None, Some, Result, Ok, Err, IfOk, ap, ap₂, append-nil, arith, flat_map, length, refl, subst, sym, take, take-take, take_all}
use Rattle.survey_core.specs.FindingLaws.{FindingsAreDetermined}
use Rattle.survey_core.specs.Soups.{soup}
use Rattle.survey_core.specs.declared.finding.Finding.{Finding}
use Rattle.haul_core.specs.declared.book.arrival.Arrival.{Arrival}
use Rattle.haul_core.specs.declared.book.arrival.Arrival.TheVariants.{Offer}
use Rattle.haul_core.specs.declared.book.refused.OfferError.{OfferError}
use Rattle.haul_core.specs.declared.book.refused.OfferError.TheVariants as offer_error
use Rattle.haul_core.specs.Books.{Held, StandsFor, Terms}
use Rattle.haul_core.specs.Refusals.{IsReply, refusal_of}
use Rattle.haul_core.specs.declared.report.claim.check.CheckError.TheVariants as check_error
use Rattle.haul_core.specs.ClaimChecks.{Agrees, Fails, IsFoundFor}
use Rattle.haul_core.specs.ReportLines.{said_of}
use Rattle.haul_core.specs.LawfulClaims.{Claimed}
use Rattle.haul_core.specs.Reports.{Reported}
use Rattle.commands.specs.declared.line_fault.LineFault.{LineFault}
use Rattle.commands.specs.declared.line_fault.LineFault.TheVariants.{BadLine, Disagrees}
use Rattle.survey_core.specs.declared.job.Job.{Job}
use Rattle.std.proofs.KnownBytes.{Consumes-nil, Consumes-trans, prepend_known-nil}
use Rattle.std.proofs.lemmas.List.Elements.{All-nil}
use Rattle.std.specs.Io.KnownBytes.{Consumes, prepend_known}
use Rattle.memory.specs.Witness.{out_of_memory}
use Rattle.plane_core.proofs.lemmas.OutputLemmas.{Appends-append}
use Rattle.plane_core.specs.Outputs.{Output}
use Rattle.pattern_commands.specs.declared.ending.complaint.Complaint.{Complaint}
use Rattle.pattern_commands.specs.declared.read_error.ReadError.{ReadError}
use Rattle.pattern_commands.specs.declared.ending.complaint.Complaint.TheVariants.{Refused, Memory, ReadFailed, TooLong, WriteFailed}
use Rattle.commands.specs.declared.lines.LineEnd.{LineEnd}
use Rattle.commands.specs.declared.lines.LineEnd.TheVariants.{Feed, Input}
use Rattle.commands.specs.declared.lines.LineRead.{LineRead}
use Rattle.pattern_commands.specs.Inputs.{HasReadAtMost, input_complaint}
use Rattle.pattern_commands.specs.Streams.{Stream, Has, stream}
use Rattle.pattern_commands.specs.declared.input.InputError.{InputError}
use Rattle.pattern_commands.specs.declared.input.InputError.TheVariants as input_error
use Rattle.commands.specs.GatherSteps.{EndsLine, EndsLines, EndsNext, HasGatheredTo, HasGatheredLines, HasGatheredAll, IsTooLong, Passage}
use Rattle.commands.specs.LinesSoFar.{AreAllEnded, HasBegunUpTo, HasCome, HasComeBy, most_ahead}
use Rattle.commands.specs.Lines.{HasReadLine, HasReadPart, IsLongerThan, IsOneLine, MayEnd, input_lines, piece_end, with_end}
use Rattle.commands.proofs.LineLemmas.{after_read, all_lines, all_read, bare_part, ended_more, first_lines, lines_and, lines_bare, lines_ended, long_read, part_lines, with_ahead}
use Rattle.commands.specs.GatheredLines.{Faulty, Prefix, Gathered, IsChecked, IsPrefixFault, IsExamined, IsWrong, ComesOf, Claims, Next, Offered, Start, Whole, offer_fault, fault_lines}

-- a line causes no arrival if it is bad, is of another job, or disagrees with the finding of its soup
pub faulty : {terms : Terms} {line : List ℕ} {fault : LineFault} {held : Held} (arrivals : List Arrival) → IsExamined terms.job line (Err fault)
    → StandsFor arrivals held → (arrived : List Arrival) × ComesOf terms arrivals line arrived (Some fault) × StandsFor (arrivals ++ arrived) held
faulty {fault} {held} arrivals is stands =
    let P : List Arrival → Type 0 = λ l. StandsFor l held in
    ([], Faulty fault is, subst P (sym (append-nil arrivals)) stands)

-- a report that the haul takes is the arrival of its line, which has no fault
pub taken : {terms : Terms} {line : List ℕ} {held : Held} (arrivals : List Arrival) (report : Reported) → IsExamined terms.job line (Ok report)
    → IsReply None (refusal_of terms arrivals report) → StandsFor (arrivals ++ Offer report ∷ []) held
    → (arrived : List Arrival) × ComesOf terms arrivals line arrived None × StandsFor (arrivals ++ arrived) held
taken {terms} {line} arrivals report is (inl reply) stands =
    let P : Option LineFault → Type 0 = λ fault. ComesOf terms arrivals line (Offer report ∷ []) fault in
    (Offer report ∷ [], subst P (sym (ap (offer_fault report) reply)) (Offered report is), stands)
taken arrivals report is (inr reply) stands = absurd (cc (reply.0))

-- if the haul refuses a report, and not because memory ran out, the report is also the arrival of its line, and
-- `offer_fault` gives the line's fault
pub refused : {terms : Terms} {line : List ℕ} {held : Held} (arrivals : List Arrival) (report : Reported) (reason : OfferError) (fault : Option LineFault)
    → IsExamined terms.job line (Ok report) → IsReply (Some reason) (refusal_of terms arrivals report) → reason ≢ offer_error.Memory out_of_memory
    → fault ≡ offer_fault report (Some reason) → StandsFor (arrivals ++ Offer report ∷ []) held
    → (arrived : List Arrival) × ComesOf terms arrivals line arrived fault × StandsFor (arrivals ++ arrived) held
refused {terms} {line} arrivals report reason fault is (inl reply) memory fault_is stands =
    let P : Option LineFault → Type 0 = λ fault. ComesOf terms arrivals line (Offer report ∷ []) fault in
    (Offer report ∷ [], subst P (sym (fault_is ∙ ap (offer_fault report) reply)) (Offered report is), stands)
refused arrivals report reason fault is (inr reply) memory fault_is stands = absurd (memory cc)

-- the lemma `refused` for the result of a call that returns the fault or fails
pub refused_told : {E : Type 0} (terms : Terms) (line : List ℕ) (held : Held) (arrivals : List Arrival) (report : Reported) (reason : OfferError)
    (result : Result (Option LineFault) E) → IsExamined terms.job line (Ok report) → IsReply (Some reason) (refusal_of terms arrivals report)
    → IfOk result (λ _. reason ≢ offer_error.Memory out_of_memory) → IfOk result (λ fault. fault ≡ offer_fault report (Some reason))
    → (reason ≢ offer_error.Memory out_of_memory → StandsFor (arrivals ++ Offer report ∷ []) held)
    → IfOk result (λ fault. (arrived : List Arrival) × ComesOf terms arrivals line arrived fault × StandsFor (arrivals ++ arrived) held)
refused_told terms line held arrivals report reason (Ok fault) is reply memory fault_is stands = refused arrivals report reason fault is reply memory fault_is (stands memory)
refused_told terms line held arrivals report reason (Err e) is reply memory fault_is stands = tt

-- if a claim disagrees with a finding of its soup, the claim is wrong, since a soup has only one finding
wrong : FindingsAreDetermined → (claim : Claimed) (found : Finding) → IsFoundFor claim found → ¬ Agrees claim found → IsWrong claim
wrong unique claim found is differs finding right agrees =
    let same = unique claim.job.rule claim.job.profile (soup claim.job.seed claim.number) found finding is right in
    differs (ap (said_of claim.version) same ∙ agrees)

pub disagreeing : FindingsAreDetermined → (job : Job) (line : List ℕ) (claim : Claimed) (found : Finding) → Claims line claim
    → Fails claim job (check_error.Disagrees found) → IsChecked job line (Err Disagrees)
disagreeing unique job line claim found claims fails = (claim, claims, fails.0, wrong unique claim found fails.1.0 fails.1.1)

-- gathering one more line adds its arrival, if any, to the haul, and its fault, if any, to the diagnostics
pub come_more : (lines : List (List ℕ)) (line diagnostics : List ℕ) (old new : Held) (before : ℕ) (fault : Option LineFault)
    → before ≡ length lines → (come : HasCome lines old diagnostics) → new.terms ≡ old.terms
    → (arrived : List Arrival) × ComesOf old.terms come.arrivals line arrived fault
    × StandsFor (come.arrivals ++ arrived) new
    → HasCome (lines ++ line ∷ []) new (diagnostics ++ fault_lines (before + 1) fault)
come_more lines line diagnostics old new before fault count come same step = record {
  arrivals = come.arrivals ++ step.0;
  gathered =
      let P : ℕ → Type 0 = λ n. Gathered new.terms (lines ++ line ∷ []) (come.arrivals ++ step.0)
      (diagnostics ++ fault_lines n fault) in
      let Q : Terms → Type 0 = λ t. Gathered t (lines ++ line ∷ []) (come.arrivals ++ step.0)
      (diagnostics ++ fault_lines (suc (length lines)) fault) in
      let number : before + 1 ≡ suc (length lines) = omega (arith, count) in
      subst P (sym number) (subst Q (sym same) (Next lines come.arrivals diagnostics line step.0 fault come.gathered step.1));
  stands = step.2;
}

abbrev passage : (reader left : Option (List ℕ)) → Stream → ℕ → ℕ → Passage
passage reader left errors count size =
    record { reader = reader; left = left; errors = errors; count = count; size = size }

-- `HasGatheredLines` holds at the start: the haul is empty, no bytes are ahead, and nothing was written
pub none_gathered : (reader : Option (List ℕ)) (ahead : List ℕ) (errors : Stream) (held : Held) → ahead ≡ [] → Has errors []
    → StandsFor [] held → HasGatheredLines (passage reader (prepend_known ahead reader) errors 0 0) held
none_gathered reader ahead errors held none silent stands = record {
  read = [];
  lines = [];
  diagnostics = [];
  consumed =
      let same : prepend_known ahead reader ≡ reader = ap (λ l. prepend_known l reader) none ∙ prepend_known-nil reader in
      subst (λ (left : Option (List ℕ)). Consumes reader left []) (sym same) (Consumes-nil reader);
  ended = record { spelled = refl; whole = All-nil IsOneLine };
  count_is = refl;
  size_is = refl;
  come = record { arrivals = []; gathered = Start; stands = stands };
  written = silent;
}

-- if reading the next line gives no bytes, all lines of the input were gathered
pub no_more : (room : ℕ) (reader left new : Option (List ℕ)) (errors : Stream) (count size : ℕ) (held : Held) (kept : List ℕ)
    (line : LineRead)
    → HasGatheredLines (passage reader left errors count size) held → (read : HasReadLine room left new kept line) → line.size ≡ 0
    → HasGatheredTo (passage reader new errors (count + 1) (size + line.size)) held line.end
no_more room reader left new errors count size held kept line gathered read none = go line.end refl
  where
    short : length (with_end line.end read.line) ≡ 0
    short = sym read.size_is ∙ none

    bare : (bytes : List ℕ) → length bytes ≡ 0 → bytes ≡ []
    bare [] e = refl
    bare (x ∷ xs) e = absurd (omega (arith, e))

    go : (end : LineEnd) → line.end ≡ end → HasGatheredTo (passage reader new errors (count + 1) (size + line.size)) held end
    go Feed is = absurd (omega (arith, rw is at short, length-append read.line (10 ∷ [])))
    go Input is =
        let P : List ℕ → Type 0 = λ l. Consumes left new l in
        let Q : List (List ℕ) → Type 0 = λ lines. HasCome lines held gathered.diagnostics in record {
          bytes = gathered.read ++ [];
          input = all_read reader left new gathered.read [] gathered.consumed (subst P (bare (with_end line.end read.line) short) read.consumed) (read.last is);
          consumed = Consumes-trans reader left new gathered.read [] gathered.consumed (subst P (bare (with_end line.end read.line) short) read.consumed);
          size_is = ap (λ n. size + n) none ∙ omega (arith, gathered.size_is, ap length (append-nil gathered.read));
          diagnostics = gathered.diagnostics;
          come = subst Q (sym (lines_ended gathered.read gathered.lines gathered.ended)) gathered.come;
          written = gathered.written;
        }

-- if one more line was gathered, all lines up to its line end were gathered
pub goes_on : {V : Type 0} (contents : V → Option (List ℕ)) (room : ℕ) (reader left new : Option (List ℕ))
    (first old later : Output V) (count size : ℕ) (held next : Held) (kept : List ℕ) (line : LineRead)
    → (gathered : HasGatheredLines (passage reader left (stream contents first old) count size) held)
    → (read : HasReadLine room left new kept line) → 0 < line.size
    → HasComeBy (gathered.lines ++ read.line ∷ []) next gathered.diagnostics (stream contents old later)
    → HasGatheredTo (passage reader new (stream contents first later) (count + 1) (size + line.size)) next line.end
goes_on contents room reader left new first old later count size held next kept line gathered read some by = go line.end refl
  where
    whole : List ℕ
    whole = with_end line.end read.line

    total : size + line.size ≡ length (gathered.read ++ whole)
    total = ap₂ (λ a b. a + b) gathered.size_is read.size_is ∙ sym (length-append gathered.read whole)

    written : Has (stream contents first later) (gathered.diagnostics ++ by.more)
    written = Appends-append (contents first.writer) (contents old.writer) (contents later.writer) gathered.diagnostics by.more
        gathered.written by.written

    go : (end : LineEnd) → line.end ≡ end
        → HasGatheredTo (passage reader new (stream contents first later) (count + 1) (size + line.size)) next end
    go Feed is = record {
      read = gathered.read ++ (read.line ++ 10 ∷ []);
      lines = gathered.lines ++ read.line ∷ [];
      diagnostics = gathered.diagnostics ++ by.more;
      consumed = Consumes-trans reader left new gathered.read (read.line ++ 10 ∷ []) gathered.consumed (rw is at read.consumed);
      ended = ended_more gathered.read gathered.lines read.line gathered.ended read.one;
      count_is = ap (λ n. n + 1) gathered.count_is ∙ sym (length-append gathered.lines (read.line ∷ []));
      size_is = rw is at total;
      come = by.come;
      written = written;
    }
    go Input is =
        let bare : with_end line.end read.line ≡ read.line = ap (λ e. with_end e read.line) is ∙ append-nil read.line in
        let Q : List (List ℕ) → Type 0 = λ lines. HasCome lines next (gathered.diagnostics ++ by.more) in
        let there : 0 < length read.line = omega (arith, some, read.size_is, ap length bare) in record {
          bytes = gathered.read ++ read.line;
          input = all_read reader left new gathered.read read.line gathered.consumed (subst (Consumes left new) bare read.consumed) (read.last is);
          consumed = Consumes-trans reader left new gathered.read read.line gathered.consumed (subst (Consumes left new) bare read.consumed);
          size_is = total ∙ ap (λ l. length (gathered.read ++ l)) bare;
          diagnostics = gathered.diagnostics ++ by.more;
          come = subst Q (sym (lines_bare gathered.read gathered.lines read.line gathered.ended read.one there))
              by.come;
          written = written;
        }

-- a fault that isn't `Some` is `None`
pub no_fault : (fault : Option LineFault) → ((x : LineFault) → fault ≢ Some x) → fault ≡ None
no_fault None not = refl
no_fault (Some x) not = absurd (not x refl)

-- If at most one line (`more`) was read after the gathered lines, `HasBegunUpTo` holds. If `more` has no line feed, all
-- lines with a line feed were gathered.
begun_and : (way : Passage) (held : Held) (terms : Terms) (new : Option (List ℕ)) (more : List ℕ) → HasGatheredLines way held
    → held.terms ≡ terms → Consumes way.left new more → length (input_lines more) ≤ 1
    → (begun : HasBegunUpTo terms way.reader new way.errors.before way.errors.after)
    × (IsOneLine more → AreAllEnded begun.read begun.lines)
begun_and way held terms new more gathered same consumed few = (
  record {
    read = gathered.read ++ more;
    consumed = Consumes-trans way.reader way.left new gathered.read more gathered.consumed consumed;
    lines = gathered.lines;
    last = input_lines more;
    all = lines_and gathered.read gathered.lines more gathered.ended;
    one = few;
    first = first_lines way.reader way.left gathered.read gathered.lines gathered.consumed gathered.ended;
    arrivals = gathered.come.arrivals;
    diagnostics = gathered.diagnostics;
    gathered =
        let P : Terms → Type 0 = λ t. Gathered t gathered.lines gathered.come.arrivals gathered.diagnostics in
        subst P same gathered.come.gathered;
    written = gathered.written;
  },
  λ one. record { prefix = gathered.read; part = more; split = refl; ended = gathered.ended; one = one },
)

pub begun : (way : Passage) (held : Held) (terms : Terms) → HasGatheredLines way held → held.terms ≡ terms
    → HasBegunUpTo terms way.reader way.left way.errors.before way.errors.after
begun way held terms gathered same = (begun_and way held terms way.left [] gathered same (Consumes-nil way.left) (omega arith)).0

begun_part : (way : Passage) (held : Held) (terms : Terms) (new : Option (List ℕ)) (complaint : Complaint) → HasGatheredLines way held
    → held.terms ≡ terms → HasReadPart way.left new complaint
    → HasBegunUpTo terms way.reader new way.errors.before way.errors.after
begun_part way held terms new complaint gathered same part =
    (begun_and way held terms new (part.line ++ piece_end part.end) gathered same part.consumed
    (part_lines part.line part.end part.one)).0

-- after a failed read, `HasBegunUpTo` holds, and all lines with a line feed were gathered
begun_cut : (way : Passage) (held : Held) (terms : Terms) (new : Option (List ℕ)) (error : ReadError) → HasGatheredLines way held
    → held.terms ≡ terms → HasReadPart way.left new (ReadFailed error)
    → (begun : HasBegunUpTo terms way.reader new way.errors.before way.errors.after) × AreAllEnded begun.read begun.lines
begun_cut way held terms new error gathered same part =
    let bare : part.line ++ piece_end part.end ≡ part.line =
    ap (λ e. part.line ++ piece_end e) part.cut ∙ append-nil part.line in
    let is = begun_and way held terms new part.line gathered same (subst (Consumes way.left new) bare part.consumed)
    (bare_part part.line part.one) in
    (is.0, is.1 part.one)

-- if all lines of the input were gathered, `HasBegunUpTo` holds
pub all_begun : (reader left : Option (List ℕ)) (errors : Stream) (size : ℕ) (held : Held) (terms : Terms)
    → HasGatheredAll reader left errors size held
    → held.terms ≡ terms → HasBegunUpTo terms reader left errors.before errors.after
all_begun reader left errors size held terms all same = record {
  read = all.bytes;
  consumed = all.consumed;
  lines = input_lines all.bytes;
  last = [];
  all = sym (append-nil (input_lines all.bytes));
  one = omega arith;
  first = all_lines reader all.bytes all.input;
  arrivals = all.come.arrivals;
  diagnostics = all.diagnostics;
  gathered =
      let P : Terms → Type 0 = λ t. Gathered t (input_lines all.bytes) all.come.arrivals all.diagnostics in
      subst P same all.come.gathered;
  written = all.written;
}

-- if the line end isn't the end of the input, the lines that were read were gathered, and more lines may follow
pub goes_further : (way : Passage) (held : Held) (end : LineEnd) → (end ≡ Input → ⊥) → HasGatheredTo way held end → HasGatheredLines way held
goes_further way held Feed more gathered = gathered
goes_further way held Input more all = absurd (more refl)

-- if the line end is the end of the input, all lines were gathered
pub goes_no_further : (way : Passage) (held : Held) (end : LineEnd) → end ≡ Input → HasGatheredTo way held end
    → HasGatheredAll way.reader way.left way.errors way.size held
goes_no_further way held Feed is gathered = let bad : Feed ≡ Input = is in cc
goes_no_further way held Input is all = all

-- if the number of bytes read plus `room` is at least 2^32, and more than `room` bytes are left, the input is too long
longer : (room : ℕ) (reader left : Option (List ℕ)) (read : List ℕ) → Consumes reader left read → 2 ^ 32 ≤ length read + room
    → IsLongerThan room left → IsTooLong reader
longer room None left read consumed whole long = tt
longer room (Some xs) None read consumed whole long = absurd consumed
longer room (Some xs) (Some ys) read consumed whole long = let all = ap length consumed ∙ length-append read ys in omega (arith, all, whole, long)

-- there are at most as many lines as bytes, since each line ends with a line feed
bytes_of_lines : (lines : List (List ℕ)) → length lines ≤ length (flat_map (with_end Feed) lines)
bytes_of_lines [] = omega arith
bytes_of_lines (line ∷ lines) =
    let more = bytes_of_lines lines in
    let one = length-append line (10 ∷ []) in
    let all = length-append (line ++ 10 ∷ []) (flat_map (with_end Feed) lines) in
    omega (arith, more, one, all)

pub many_lines : (way : Passage) (held : Held) → HasGatheredLines way held → 2 ^ 32 < way.count → IsTooLong way.reader
many_lines way held gathered many =
    let spelled = ap length gathered.ended.spelled in
    let count = gathered.count_is in
    long_read (2 ^ 32) way.reader way.left gathered.read gathered.consumed
    (omega (arith, spelled, count, many, bytes_of_lines gathered.lines))

-- if the gathered lines and the bytes ahead are at most `most` bytes together, at most `most` bytes were read
pub read_so_far : (most : ℕ) (reader left : Option (List ℕ)) (ahead : List ℕ) (errors : Stream) (count size : ℕ) (held : Held)
    → HasGatheredLines (passage reader (prepend_known ahead left) errors count size) held → size + length ahead ≤ most
    → HasReadAtMost most reader left
read_so_far most reader left ahead errors count size held gathered few =
    let size_is = gathered.size_is in with_ahead most reader left gathered.read ahead gathered.consumed (omega (arith, size_is, few))

-- The gathered lines have `size` bytes, and then up to `room` more bytes were read. If `size + room ≤ most`, no more
-- than `most` bytes were read in all.
pub read_further : (room most : ℕ) (reader left new : Option (List ℕ)) (errors : Stream) (count size : ℕ) (held : Held)
    → HasGatheredLines (passage reader left errors count size) held → size + room ≤ most → HasReadAtMost room left new
    → HasReadAtMost most reader new
read_further room most reader left new errors count size held gathered few more =
    let size_is = gathered.size_is in after_read room most reader left new gathered.read gathered.consumed (omega (arith, size_is, few)) more

-- if reading a line fails, and nothing is written, `EndsNext` holds
pub next_unread : {V : Type 0} (room : ℕ) (left : Option (List ℕ)) (old : Output V) (fault : InputError)
    → (fault ≡ input_error.TooLong → IsLongerThan room left) → EndsNext room left old old (input_complaint fault)
next_unread room left old (input_error.Unreadable failed) long = refl
next_unread room left old input_error.TooLong long = (refl, long refl)
next_unread room left old (input_error.Memory refused) long = refl

-- if gathering a line that was read ends with a complaint, `EndsNext` holds
pub next_read : {V : Type 0} (room : ℕ) (left : Option (List ℕ)) (old new : Output V) (complaint : Complaint) → EndsLine old new complaint
    → EndsNext room left old new complaint
next_read room left old new (Refused refusal) ends = ends
next_read room left old new (Memory error) ends = ends
next_read room left old new (ReadFailed error) ends = absurd ends
next_read room left old new TooLong ends = absurd ends
next_read room left old new (WriteFailed error) ends = ends

-- after a complaint about gathering a line that was read, up to 2^16 bytes may be ahead, since no read failed
pub line_most : {V : Type 0} (old new : Output V) (complaint : Complaint) (ahead : List ℕ) → EndsLine old new complaint
    → length ahead ≤ 2 ^ 16 → length ahead ≤ most_ahead complaint
line_most old new (Refused refusal) ahead ends few = few
line_most old new (Memory error) ahead ends few = few
line_most old new (ReadFailed error) ahead ends few = absurd ends
line_most old new TooLong ahead ends few = few
line_most old new (WriteFailed error) ahead ends few = few

-- after a complaint about gathering a line that was read, the line may have any end, since no read failed
pub line_may_end : {V : Type 0} (old new : Output V) (complaint : Complaint) (end : Option LineEnd) → EndsLine old new complaint
    → MayEnd complaint end
line_may_end old new (Refused refusal) end ends = tt
line_may_end old new (Memory error) end ends = tt
line_may_end old new (ReadFailed error) end ends = absurd ends
line_may_end old new TooLong end ends = tt
line_may_end old new (WriteFailed error) end ends = tt

-- if reading or gathering the next line ends with a complaint, `EndsLines` holds
pub lines_ended_by : {V : Type 0} (contents : V → Option (List ℕ)) (room : ℕ) (reader left now : Option (List ℕ)) (first : Output V)
    (count size : ℕ) (held : Held) (terms : Terms) (old new : Output V) (complaint : Complaint)
    → HasGatheredLines (passage reader left (stream contents first old) count size) held
    → held.terms ≡ terms → old.failed ≡ false → 2 ^ 32 ≤ size + room → EndsNext room left old new complaint → HasReadPart left now complaint
    → EndsLines terms reader now (stream contents first new) complaint
lines_ended_by contents room reader left now first count size held terms old new (Memory error) gathered same fine whole kept part =
    rw kept (begun_part (passage reader left (stream contents first old) count size) held terms now (Memory error) gathered same part, fine)
lines_ended_by contents room reader left now first count size held terms old new (ReadFailed error) gathered same fine whole kept part =
    let is = begun_cut (passage reader left (stream contents first old) count size) held terms now error gathered same part in
    rw kept (is.0, fine, is.1)
lines_ended_by contents room reader left now first count size held terms old new TooLong gathered same fine whole (kept, long) part =
    rw kept (
      begun_part (passage reader left (stream contents first old) count size) held terms now TooLong gathered same part,
      fine,
      longer room reader left gathered.read gathered.consumed (let size_is = gathered.size_is in omega (arith, size_is, whole)) long,
    )
lines_ended_by contents room reader left now first count size held terms old new (WriteFailed error) gathered same fine whole failed part = failed
lines_ended_by contents room reader left now first count size held terms old new (Refused refusal) gathered same fine whole none part =
    absurd none

-- ---- how much of a line is examined

-- The first 2^24 + 1 bytes of a line are kept. If these are at most 2^24 bytes, they are the whole line, and it is
-- examined completely.
pub looked_whole : {outcome : Result Reported LineFault} (job : Job) (kept line : List ℕ) → kept ≡ take (2 ^ 24 + 1) line → length kept ≤ 2 ^ 24
    → IsChecked job kept outcome → IsExamined job line outcome
looked_whole {outcome} job kept line is short checked =
    let long = ap length is ∙ length-take (2 ^ 24 + 1) line in
    let fits : length line ≤ 2 ^ 24 = omega (arith, long, short) in
    let same : kept ≡ line = is ∙ take_all (2 ^ 24 + 1) line (omega (arith, fits)) in
    Whole fits (subst (λ (l : List ℕ). IsChecked job l outcome) same checked)

-- the lemma `looked_whole` for the result of a call that returns the outcome or fails
pub ok_whole : {E : Type 0} (job : Job) (kept line : List ℕ) (result : Result (Result Reported LineFault) E) → kept ≡ take (2 ^ 24 + 1) line
    → length kept ≤ 2 ^ 24 → IfOk result (IsChecked job kept) → IfOk result (IsExamined job line)
ok_whole job kept line (Ok outcome) is short checked = looked_whole job kept line is short checked
ok_whole job kept line (Err e) is short checked = tt

-- if more than 2^24 bytes of a line are kept, only the first 2^24 are examined, and the line is bad
pub looked_prefix : (job : Job) (kept line : List ℕ) (place : ℕ) → kept ≡ take (2 ^ 24 + 1) line → 2 ^ 24 < length kept
    → IsPrefixFault (take (2 ^ 24) kept) place → IsExamined job line (Err (BadLine place))
looked_prefix job kept line place is long fault =
    let size = ap length is ∙ length-take (2 ^ 24 + 1) line in
    let same : take (2 ^ 24) kept ≡ take (2 ^ 24) line = ap (take (2 ^ 24)) is ∙ take-take (2 ^ 24) (2 ^ 24 + 1) line (omega arith) in
    Prefix place (omega (arith, size, long)) (subst (λ (l : List ℕ). IsPrefixFault l place) same fault)
