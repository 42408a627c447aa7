-- Proves how the program ends: with which status, what the writer below the buffer has received, and what is left
-- unchanged.
use Rattle.std.proofs.Common.{◌≡◌, ◌∙◌, ℕ, zero, suc, List, [], true, false, Option, None, Some, Ok, Err, IsSomeAnd, IfSome}
use Rattle.std.proofs.Common.{◌≢◌, ◌⊎◌, Bool, arith, cond, inl, inr, refl, rules, sym, ap, subst, append-nil}
use Rattle.std.specs.Io.KnownBytes.{Appends, Keeps, append_known}
use Rattle.std.specs.Prelude.{MatchBool, ⊤}
use Rattle.arguments.specs.Requests.{Text, asked_by, asks_version, called_by}
use Rattle.arguments.specs.declared.request.Request.{Request}
use Rattle.arguments.specs.declared.request.Request.TheVariants.{Version}
use Rattle.memory.specs.Witness.{out_of_memory}
use Rattle.pattern_commands.specs.declared.ending.complaint.Complaint.{Complaint}
use Rattle.pattern_commands.specs.declared.ending.complaint.Complaint.TheVariants as complaint
use Rattle.pattern_commands.specs.declared.ending.status.Status.{Status}
use Rattle.pattern_commands.specs.declared.ending.status.Status.TheVariants as statuses
use Rattle.pattern_commands.specs.Complaints.{complaint_line, status_of}
use Rattle.pattern_commands.specs.Ends.{Ends, HasLast, Outcome, Reaches, last_line, status_after}
use Rattle.pattern_commands.specs.Status.{exit_code, has_printed}
use Rattle.pattern_commands.specs.Streams.{Stream, Has, HasPrefix, HasLine}
use Rattle.pattern_commands.specs.Behaviours.{Made}
use Rattle.pattern_commands.specs.Version.{version_behaviour}
use Rattle.census.specs.Program.{Complains, IsDone, IsPrefixOf, since}
use Rattle.census.specs.ProgramEnds.{LeavesAlone, ProgramEnds}
use Rattle.census.specs.Requests.{DoesRequest, DoesArguments, Spares, TellsUsage, right_for, behaviour_of, is_whole, reads_input, writes_lines}
use Rattle.census.proofs.RequestLemmas.{does, never_usage}

-- ---- the status of an exit code

pub is_done : (status : Status) → exit_code status ≡ 0 → status ≡ statuses.Done
is_done status code = search rules

pub is_usage : (status : Status) → exit_code status ≡ 2 → status ≡ statuses.Usage
is_usage status code = search rules

pub is_refused : (status : Status) → exit_code status ≡ 3 → status ≡ statuses.Refused
is_refused status code = search rules

pub is_out_of_memory : (status : Status) → exit_code status ≡ 4 → status ≡ statuses.Memory
is_out_of_memory status code = search rules

pub is_incomplete : (status : Status) → exit_code status ≡ 6 → status ≡ statuses.Incomplete
is_incomplete status code = search rules

-- ---- the bytes that were written, and those that are below the buffer

-- if a buffer is empty, the writer below it has all that was written
whole_sent : (before written below : Option (List ℕ)) (text : List ℕ) → Appends before written text → Keeps written (append_known below [])
    → Appends before below text
whole_sent None written below text wrote kept = tt
whole_sent (Some xs) None below text wrote kept = absurd wrote
whole_sent (Some xs) (Some ys) None text wrote kept = absurd kept
whole_sent (Some xs) (Some ys) (Some zs) text wrote kept = sym (append-nil zs) ∙ kept ∙ wrote

-- the bytes below a buffer are a prefix of those that were written to it
pub prefix_sent : (written below : Option (List ℕ)) (held : List ℕ) → Keeps written (append_known below held) → IsPrefixOf written below
prefix_sent None below held kept = tt
prefix_sent (Some ys) None held kept = absurd kept
prefix_sent (Some ys) (Some zs) held kept = (held, kept)

pub append_nothing : (reader : Option (List ℕ)) → append_known reader [] ≡ reader
append_nothing None = refl
append_nothing (Some xs) = ap Some (append-nil xs)

-- if nothing was written, nothing was appended, and the bytes are a prefix of themselves
pub nothing_written : (before : Option (List ℕ)) → Appends before before [] × IsPrefixOf before before
nothing_written None = (tt, tt)
nothing_written (Some xs) = (sym (append-nil xs), ([], append-nil xs))

-- if nothing was appended, and then again nothing, nothing was appended in all
nothing_more : (before so_far after : Option (List ℕ)) → Appends before so_far [] → Appends so_far after [] → Appends before after []
nothing_more None so_far after first second = tt
nothing_more (Some xs) None after first second = absurd first
nothing_more (Some xs) (Some ys) None first second = absurd second
nothing_more (Some xs) (Some ys) (Some zs) first second = second ∙ append-nil ys ∙ first

-- ---- the end of a command that has printed its whole text

-- `has_printed` is false for the status of a complaint
unprinted : (complaint : Complaint) → has_printed (status_of complaint) ≡ false
unprinted complaint = search rules

-- a request for which `writes_lines` is false makes no diagnostics
quiet : (request : Request) (bytes : List ℕ) (made : Made) → writes_lines request ≡ false → right_for request bytes (Ok made) → made.diagnostics ≡ []
quiet request bytes made mute is = search rules

-- `HasLast` implies `HasLine` for the last line, which is empty if no soup is missing
told_last : (missing : ℕ) (s : Stream) → HasLast (Ok missing) s → HasLine s (last_line (Ok missing))
told_last zero s last = subst (λ b. MatchBool b (HasPrefix s []) (Has s [])) (sym last.1) last.0
told_last (suc n) s last = last

told_none : (missing : ℕ) (s : Stream) → missing ≡ 0 → HasLast (Ok missing) s → Has s []
told_none zero s none last = last.0
told_none (suc n) s none last = cc

-- A command has printed its whole text, and the writer below the buffer has received this text. The status says whether
-- soups are missing. If none is missing, and `writes_lines` is false for the request, standard error has received
-- nothing.
pub record Prints (arguments : List Text) (reader before below : Option (List ℕ)) (status : Status) (errors : Stream) : Type 0 where
  pub missing : ℕ
  pub status_is : status ≡ status_after (Ok missing)
  pub done : IsDone arguments reader before below errors missing
  pub silent : missing ≡ 0 → IfSome (asked_by arguments) (λ request. writes_lines request ≡ false → Has errors [])

some_and : {X : Type 0} {P : X → Type 0} (o : Option X) → IsSomeAnd o P → (x : X) × (o ≡ Some x) × P x
some_and None h = absurd h
some_and (Some x) h = (x, refl, h)

module _ (arguments : List Text) (reader below : Option (List ℕ)) (status : Status) (written errors : Stream) (printed : has_printed status ≡ true)
    (kept : Keeps written.after (append_known below [])) where
  abbrev PrintsBelow : Type 0
  PrintsBelow = Prints arguments reader written.before below status errors

  request_prints : (request : Request) → asked_by arguments ≡ Some request → DoesRequest reader status written errors request → PrintsBelow
  request_prints request asked does = go does.ends.outcome does.ends.reached does.ends.last does.ends.status_is
    where
      go : (outcome : Outcome) → Reaches (behaviour_of request) reader does.bytes outcome written does.ends.so_far
          → HasLast outcome (since does.ends.so_far errors) → status ≡ status_after outcome → PrintsBelow
      go (Err complaint) reached last same = let bad : true ≡ false = sym printed ∙ ap has_printed same ∙ unprinted complaint in cc
      go (Ok missing) reached last same =
          let so_far = does.ends.so_far in
          let diagnostics = subst (λ b. Appends b so_far.after reached.made.diagnostics) does.ends.from reached.diagnostics in
          record {
            missing = missing;
            status_is = same;
            done = record {
              request = request;
              asked = asked;
              bytes = does.bytes;
              input = does.input;
              made = reached.made;
              right = reached.is;
              missing_is = reached.missing_is;
              written = whole_sent written.before written.after below reached.made.text reached.text kept;
              diagnostics = record { so_far = so_far.after; whole = diagnostics; last = told_last missing (since so_far errors) last };
            };
            silent = λ none. subst (λ o. IfSome o (λ request. writes_lines request ≡ false → Has errors [])) (sym asked)
                (λ mute. nothing_more errors.before so_far.after errors.after
                (subst (Appends errors.before so_far.after) (quiet request does.bytes reached.made mute reached.is) diagnostics)
                (told_none missing (since so_far errors) none last));
          }

  pub prints : DoesArguments arguments reader status written errors → PrintsBelow
  prints (inr lacks) = let bad : true ≡ false = sym printed ∙ ap has_printed lacks.status_is in cc
  prints (inl does) =
      let (request, asked, done) = some_and (asked_by arguments) does in
      request_prints request asked done

-- if the status is `Done`, no soup is missing
at_done : (P : ℕ → Type 0) (missing : ℕ) → status_after (Ok missing) ≡ statuses.Done → P missing → P 0
at_done P zero is p = p
at_done P (suc n) is p = cc

at_incomplete : (P : ℕ → Type 0) (missing : ℕ) → status_after (Ok missing) ≡ statuses.Incomplete → P missing → (less : ℕ) × P (suc less)
at_incomplete P zero is p = cc
at_incomplete P (suc n) is p = (n, p)

module _ (arguments : List Text) (reader before below : Option (List ℕ)) (status : Status) (errors : Stream) where
  pub done_with : Prints arguments reader before below status errors → status ≡ statuses.Done → IsDone arguments reader before below errors 0
  done_with p is = at_done (IsDone arguments reader before below errors) p.missing (sym p.status_is ∙ is) p.done

  pub incomplete_with : Prints arguments reader before below status errors → status ≡ statuses.Incomplete
      → (less : ℕ) × IsDone arguments reader before below errors (suc less)
  incomplete_with p is = at_incomplete (IsDone arguments reader before below errors) p.missing (sym p.status_is ∙ is) p.done

  pub silent_with : Prints arguments reader before below status errors → status ≡ statuses.Done
      → IfSome (asked_by arguments) (λ request. writes_lines request ≡ false → Has errors [])
  silent_with p is = p.silent (at_done (λ n. p.missing ≡ n) p.missing (sym p.status_is ∙ is) refl)

pub unlike : (P : Status → Type 0) (status : Status) → has_printed status ≡ true → P statuses.Done → P statuses.Incomplete → P status
unlike P status printed done less = search rules

-- ---- what is left unchanged

-- what holds anyway holds if the arguments ask for a request that passes a test
if_asked : {P : Type 0} (test : Request → Bool) (expected : Bool) (asked : Option Request) → P → IfSome asked (λ request. test request ≡ expected → P)
if_asked test expected None holds = tt
if_asked test expected (Some request) holds = λ _. holds

-- what is left unchanged if the command of a request has ended
pub request_leaves : (arguments : List Text) (reader : Option (List ℕ)) (request : Request) (status : Status) (written errors : Stream)
    (input output : Type 0) → asked_by arguments ≡ Some request → DoesRequest reader status written errors request
    → Spares request status input output → LeavesAlone arguments (exit_code status) errors input output output
request_leaves arguments reader request status written errors input output asked does spares = record {
  usage = λ code. absurd (never_usage does (is_usage status code));
  tells_usage = λ code. absurd (never_usage does (is_usage status code));
  untouched = λ code. absurd (never_usage does (is_usage status code));
  refused = λ code. spares.untouched (is_refused status code);
  unread_refused = λ code. rw asked (spares.unread_refused (is_refused status code));
  nothing_left = λ code. rw asked (spares.no_memory (is_out_of_memory status code));
  unread = rw asked spares.unread;
}

-- `LeavesAlone` holds if the arguments ask for nothing, standard error says why, and nothing was read or printed
usage_leaves : (arguments : List Text) (code : ℕ) (errors : Stream) (input output : Type 0) → asked_by arguments ≡ None → TellsUsage errors → input
    → output → LeavesAlone arguments code errors input output output
usage_leaves arguments code errors input output nothing tells same unchanged = record {
  usage = λ _. nothing;
  tells_usage = λ _. tells;
  untouched = λ _. (same, unchanged);
  refused = λ _. unchanged;
  unread_refused = λ _. rw nothing tt;
  nothing_left = λ _. rw nothing tt;
  unread = rw nothing tt;
}

-- `LeavesAlone` holds with exit code 4 if the reader is unchanged and the writer, if it is returned, is unchanged too
memory_leaves : (arguments : List Text) (status : Status) (errors : Stream) (input output unprinted : Type 0) → status ≡ statuses.Memory → input
    → unprinted → LeavesAlone arguments (exit_code status) errors input output unprinted
memory_leaves arguments status errors input output unprinted is same unchanged =
    let four = ap exit_code is in record {
      usage = λ code. absurd (omega (arith, code, four));
      tells_usage = λ code. absurd (omega (arith, code, four));
      untouched = λ code. absurd (omega (arith, code, four));
      refused = λ code. absurd (omega (arith, code, four));
      unread_refused = λ code. absurd (omega (arith, code, four));
      nothing_left = λ _. if_asked is_whole true (asked_by arguments) unchanged;
      unread = if_asked reads_input false (asked_by arguments) same;
    }

-- ---- the version

-- arguments for which `asks_version` is true ask for the version
pub asks_for_version : (arguments : List Text) → asks_version arguments ≡ true → asked_by arguments ≡ Some Version
asks_for_version arguments is = ap (λ (b : Bool). cond b (Some Version) (called_by arguments)) is

keeps_all : (sent : Option (List ℕ)) → Keeps sent (append_known sent [])
keeps_all None = tt
keeps_all (Some xs) = append-nil xs

-- how the program ends if it prints the version without a buffer
record EndsVersion (arguments : List Text) (reader before after : Option (List ℕ)) (status : Status) (errors : Stream) : Type 0 where
  done : status ≡ statuses.Done → IsDone arguments reader before after errors 0
  silent : status ≡ statuses.Done → IfSome (asked_by arguments) (λ request. writes_lines request ≡ false → Has errors [])
  complains : status ≢ statuses.Done → Complains arguments reader (exit_code status) before after errors

ends_version_with : (arguments : List Text) (reader before after : Option (List ℕ)) (status : Status) (written errors : Stream)
    → asks_version arguments ≡ true → (status ≢ statuses.Done → status ≡ statuses.Failed) → written.before ≡ before → written.after ≡ after
    → ((reader : Option (List ℕ)) (bytes : List ℕ) → Ends version_behaviour reader bytes status written errors)
    → EndsVersion arguments reader before after status errors
ends_version_with arguments reader before after status written errors asks failed starts stops ends =
    subst (λ b. EndsVersion arguments reader b after status errors) starts
    (subst (λ a. EndsVersion arguments reader written.before a status errors) stops whole)
  where
    does_version : DoesArguments arguments reader status written errors
    does_version = inl (rw (asks_for_version arguments asks) (does Version version_behaviour refl ends))

    printed : status ≡ statuses.Done → Prints arguments reader written.before written.after status errors
    printed is = prints arguments reader written.after status written errors (ap has_printed is) (keeps_all written.after) does_version

    whole : EndsVersion arguments reader written.before written.after status errors
    whole = record {
      done = λ is. done_with arguments reader written.before written.after status errors (printed is) is;
      silent = λ is. silent_with arguments reader written.before written.after status errors (printed is) is;
      complains = λ undone. record {
        status = status;
        written = written;
        diagnostics = errors;
        does = does_version;
        from = refl;
        sent = prefix_sent written.after written.after [] (keeps_all written.after);
        ends = inl (ap has_printed (failed undone), refl, refl);
      };
    }

-- if a status is `Done` or `Failed`, its exit code is 0 or 5
prints_or_fails : (status : Status) → (status ≢ statuses.Done → status ≡ statuses.Failed) → (exit_code status ≡ 0) ⊎ (exit_code status ≡ 5)
prints_or_fails statuses.Done failed = inl refl
prints_or_fails statuses.Failed failed = inr refl
prints_or_fails statuses.Usage failed = inr (ap exit_code (failed (λ is. cc)))
prints_or_fails statuses.Refused failed = inr (ap exit_code (failed (λ is. cc)))
prints_or_fails statuses.Memory failed = inr (ap exit_code (failed (λ is. cc)))
prints_or_fails statuses.Incomplete failed = inr (ap exit_code (failed (λ is. cc)))

-- `LeavesAlone` holds with exit code 0 or 5 if the reader is unchanged, whatever was printed
printing_leaves : (arguments : List Text) (code : ℕ) (errors : Stream) (input output unprinted : Type 0) → (code ≡ 0) ⊎ (code ≡ 5) → input
    → LeavesAlone arguments code errors input output unprinted
printing_leaves arguments code errors input output unprinted either same = record {
  usage = λ is. absurd (omega (arith, is, either));
  tells_usage = λ is. absurd (omega (arith, is, either));
  untouched = λ is. absurd (omega (arith, is, either));
  refused = λ is. absurd (omega (arith, is, either));
  unread_refused = λ is. absurd (omega (arith, is, either));
  nothing_left = λ is. absurd (omega (arith, is, either));
  unread = if_asked reads_input false (asked_by arguments) same;
}

-- how the program ends if it prints the version without a buffer
pub ends_version : {V : Type 0} (contents : V → Option (List ℕ)) (arguments : List Text) (reader : Option (List ℕ)) (status : Status)
    (given back : V) (written errors : Stream) (input : Type 0) → asks_version arguments ≡ true
    → (status ≢ statuses.Done → status ≡ statuses.Failed) → written.before ≡ contents given → written.after ≡ contents back
    → ((reader : Option (List ℕ)) (bytes : List ℕ) → Ends version_behaviour reader bytes status written errors) → input
    → ProgramEnds contents arguments reader (exit_code status) given (Some back) errors input
ends_version contents arguments reader status given back written errors input asks failed starts stops ends same =
    let ends = ends_version_with arguments reader (contents given) (contents back) status written errors asks failed starts stops ends in
    let code = prints_or_fails status failed in
    record {
      done = λ is. ends.done (is_done status is);
      silent = λ is. ends.silent (is_done status is);
      incomplete = λ is. absurd (omega (arith, is, code));
      complains = λ undone _ _. ends.complains (λ is. undone (ap exit_code is));
      leaves = printing_leaves arguments (exit_code status) errors input (Some back ≡ Some given) (back ≡ given) code same;
    }

-- ---- too little memory

-- if there was no memory to read the arguments or for a buffer, the arguments' command hasn't begun
lacks_memory : (arguments : List Text) (reader before : Option (List ℕ)) (failed : Bool) (status : Status) (errors : Stream)
    → asks_version arguments ≡ false → status ≡ statuses.Memory → HasLine errors (complaint_line (complaint.Memory out_of_memory))
    → DoesArguments arguments reader status (record { before = before; after = before; failed = failed }) errors
lacks_memory arguments reader before failed status errors no_version is line =
    inr (record { no_version = no_version; status_is = is; nothing = (nothing_written before).0; line = line })

-- if the arguments gave no request, and the status isn't `Usage`, there was no memory to read them
pub unasked_does : (arguments : List Text) (reader before : Option (List ℕ)) (failed : Bool) (status : Status) (errors : Stream) {U : Type 0}
    → asks_version arguments ≡ false → (U × (status ≡ statuses.Usage) × TellsUsage errors)
    ⊎ ((status ≡ statuses.Memory) × HasLine errors (complaint_line (complaint.Memory out_of_memory))) → status ≢ statuses.Usage
    → DoesArguments arguments reader status (record { before = before; after = before; failed = failed }) errors
unasked_does arguments reader before failed status errors no_version (inl told) asked = absurd (asked told.1)
unasked_does arguments reader before failed status errors no_version (inr memory) asked =
    lacks_memory arguments reader before failed status errors no_version memory.0 memory.1

-- `LeavesAlone` holds if the arguments gave no request, and nothing was read or printed
pub unasked_leaves : (arguments : List Text) (status : Status) (errors : Stream) (input output : Type 0) {U : Type 0} → (U → asked_by arguments ≡ None)
    → (U × (status ≡ statuses.Usage) × TellsUsage errors)
    ⊎ ((status ≡ statuses.Memory) × HasLine errors (complaint_line (complaint.Memory out_of_memory))) → input → output
    → LeavesAlone arguments (exit_code status) errors input output output
unasked_leaves arguments status errors input output nothing (inl told) same unchanged =
    usage_leaves arguments (exit_code status) errors input output (nothing told.0) told.2 same unchanged
unasked_leaves arguments status errors input output nothing (inr memory) same unchanged =
    memory_leaves arguments status errors input output output memory.0 same unchanged

-- how the program ends if there is no memory for a buffer
pub ends_without_buffer : {V : Type 0} (contents : V → Option (List ℕ)) (arguments : List Text) (reader : Option (List ℕ)) (status : Status) (given : V)
    (errors : Stream) (input : Type 0) → asks_version arguments ≡ false → status ≡ statuses.Memory
    → HasLine errors (complaint_line (complaint.Memory out_of_memory)) → input
    → ProgramEnds contents arguments reader (exit_code status) given None errors input
ends_without_buffer contents arguments reader status given errors input no_version is line same =
    let four = ap exit_code is in record {
      done = λ code. absurd (omega (arith, code, four));
      silent = λ code. absurd (omega (arith, code, four));
      incomplete = λ code. absurd (omega (arith, code, four));
      complains = λ _ _ _. record {
        status = status;
        written = record { before = contents given; after = contents given; failed = false };
        diagnostics = errors;
        does = lacks_memory arguments reader (contents given) false status errors no_version is line;
        from = refl;
        sent = (nothing_written (contents given)).1;
        ends = inl (ap has_printed is, refl, refl);
      };
      leaves = memory_leaves arguments status errors input (None ≡ Some given) ⊤ is same tt;
    }

-- ---- arguments that couldn't be read

-- if `has_printed` is false for a status, its exit code is neither 0 nor 6
pub code_of_unprinted : (status : Status) → has_printed status ≡ false → (exit_code status ≢ 0) × (exit_code status ≢ 6)
code_of_unprinted status unprinted = (
  λ code. let bad : false ≡ true = sym unprinted ∙ ap has_printed (is_done status code) in cc,
  λ code. let bad : false ≡ true = sym unprinted ∙ ap has_printed (is_incomplete status code) in cc,
)

-- ---- the flush

-- if `has_printed` is true for a status, the status isn't `Usage`
pub printed_is_no_usage : (status : Status) → has_printed status ≡ true → status ≢ statuses.Usage
printed_is_no_usage status printed usage = let bad : true ≡ false = sym printed ∙ ap has_printed usage in cc

-- if the status after the flush is neither `Done`, `Incomplete` nor `Failed`, the status before the flush was the same
still : (status result own : Status) → (has_printed status ≡ false → result ≡ status) → (result ≢ status → result ≡ statuses.Failed)
    → has_printed own ≡ false → own ≢ statuses.Failed → result ≡ own → status ≡ own
still status result own kept failed unprinted unfailed is = go (has_printed status) refl
  where
    go : (printed : Bool) → has_printed status ≡ printed → status ≡ own
    go false isnt = sym (kept isnt) ∙ is
    go true printed =
        absurd (unfailed (sym is ∙ failed (λ same. let bad : true ≡ false = sym printed ∙ ap has_printed (sym same ∙ is) ∙ unprinted in cc)))

if_asked_more : {P Q : Type 0} (test : Request → Bool) (expected : Bool) (asked : Option Request) → (P → Q)
    → IfSome asked (λ request. test request ≡ expected → P) → IfSome asked (λ request. test request ≡ expected → Q)
if_asked_more test expected None more holds = tt
if_asked_more test expected (Some request) more holds = λ is. more (holds is)

-- what is left unchanged after the flush, if the writer below the buffer is unchanged whenever the command wrote
-- nothing to the buffer and ended with a status other than `Done` and `Incomplete`
pub sent_leaves : {V : Type 0} (arguments : List Text) (status result : Status) (errors later : Stream) (input output : Type 0) (given back : V)
    → LeavesAlone arguments (exit_code status) errors input output output → (has_printed status ≡ false → result ≡ status)
    → (result ≢ status → result ≡ statuses.Failed) → (result ≡ status → later ≡ errors) → (has_printed status ≡ false → output → back ≡ given)
    → LeavesAlone arguments (exit_code result) later input (Some back ≡ Some given) (back ≡ given)
sent_leaves arguments status result errors later input output given back left kept failed silent unchanged = record {
  usage = λ code. left.usage (ap exit_code (usage code));
  tells_usage = λ code. subst TellsUsage (sym (silent (is_usage result code ∙ sym (usage code)))) (left.tells_usage (ap exit_code (usage code)));
  untouched = λ code. let same = left.untouched (ap exit_code (usage code)) in
      (same.0, ap Some (unchanged (ap has_printed (usage code)) same.1));
  refused = λ code. ap Some (unchanged (ap has_printed (refused code)) (left.refused (ap exit_code (refused code))));
  unread_refused = λ code. left.unread_refused (ap exit_code (refused code));
  nothing_left = λ code. if_asked_more is_whole true (asked_by arguments) (unchanged (ap has_printed (memory code)))
      (left.nothing_left (ap exit_code (memory code)));
  unread = left.unread;
}
  where
    usage : exit_code result ≡ 2 → status ≡ statuses.Usage
    usage code = still status result statuses.Usage kept failed refl (λ e. cc) (is_usage result code)

    refused : exit_code result ≡ 3 → status ≡ statuses.Refused
    refused code = still status result statuses.Refused kept failed refl (λ e. cc) (is_refused result code)

    memory : exit_code result ≡ 4 → status ≡ statuses.Memory
    memory code = still status result statuses.Memory kept failed refl (λ e. cc) (is_out_of_memory result code)
