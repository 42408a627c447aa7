-- Proves how the command of a request ends (`DoesRequest`), and what it leaves unchanged (`Spares`).
use Rattle.std.proofs.Common.{◌≡◌, ◌≢◌, ◌∙◌, ◌&&◌, ℕ, zero, suc, Bool, true, false, List, Option, Result, Ok, Err, is_ok, refl, rules, sym, subst}
use Rattle.std.specs.Prelude.{IsErr}
use Rattle.pattern_commands.specs.declared.ending.complaint.Complaint.{Complaint}
use Rattle.pattern_commands.specs.declared.ending.status.Status.{Status}
use Rattle.pattern_commands.specs.declared.ending.status.Status.TheVariants as statuses
use Rattle.pattern_commands.specs.Complaints.{status_of}
use Rattle.pattern_commands.specs.Ends.{Ends, Outcome, status_after}
use Rattle.pattern_commands.specs.Streams.{Stream}
use Rattle.pattern_commands.specs.Behaviours.{Behaviour}
use Rattle.pattern_commands.proofs.AnswerLemmas.{some_input}
use Rattle.arguments.specs.declared.request.Request.{Request}
use Rattle.census.specs.Requests.{DoesRequest, Spares, behaviour_of, is_whole, reads_input, refuses_input}

-- `DoesRequest` holds if, for every input, the command ended as the behaviour of the request allows
pub does : {reader : Option (List ℕ)} {status : Status} {output errors : Stream} (request : Request) (behaviour : Behaviour)
    → behaviour ≡ behaviour_of request → ((reader : Option (List ℕ)) (bytes : List ℕ) → Ends behaviour reader bytes status output errors)
    → DoesRequest reader status output errors request
does {reader} {status} {output} {errors} request behaviour is ends =
    let some = some_input reader in
    record { bytes = some.0; input = some.1; ends = subst (λ (t : Behaviour). Ends t reader some.0 status output errors) is (ends reader some.0) }

-- what is left unchanged by a command that didn't read its input
pub spares_unread : (request : Request) (status : Status) (input output : Type 0) → input → (status ≡ statuses.Refused → output)
    → (status ≡ statuses.Memory → output) → Spares request status input output
spares_unread request status input output same untouched no_memory = record {
  unread = λ _. same;
  unread_refused = λ _ _. same;
  untouched = untouched;
  no_memory = λ is _. no_memory is;
}

-- what a command leaves unchanged that reads its input only if its arguments (its rule, for example) are valid, and
-- may then refuse the input
pub spares_unless_valid : (request : Request) (status : Status) (input output : Type 0) (valid : Bool) → reads_input request ≡ valid
    → refuses_input request ≡ valid → (valid ≡ false → input) → (status ≡ statuses.Refused → output)
    → (status ≡ statuses.Memory → is_whole request ≡ true → output) → Spares request status input output
spares_unless_valid request status input output valid reads refuses invalid untouched no_memory = record {
  unread = λ unread. invalid (sym reads ∙ unread);
  unread_refused = λ _ unrefused. invalid (sym refuses ∙ unrefused);
  untouched = untouched;
  no_memory = no_memory;
}

pub error_unless_ok : {A E : Type 0} (r : Result A E) → is_ok r ≡ false → IsErr r
error_unless_ok (Ok a) is = cc
error_unless_ok (Err e) is = refl

-- if not both results are `Ok`, what follows from an error of either holds
pub by_either_error : {A B E : Type 0} {P : Type 0} (a : Result A E) (b : Result B E) → (IsErr a → P) → (IsErr b → P)
    → (is_ok a && is_ok b) ≡ false → P
by_either_error (Err e) b first second is = first refl
by_either_error (Ok x) b first second is = second (error_unless_ok b is)

-- a request doesn't end with the status `Usage`
pub never_usage : {reader : Option (List ℕ)} {status : Status} {output errors : Stream} {request : Request}
    → DoesRequest reader status output errors request → status ≢ statuses.Usage
never_usage {reader} {status} {output} {errors} {request} does = go does.ends.outcome does.ends.status_is
  where
    go : (outcome : Outcome) → status ≡ status_after outcome → status ≢ statuses.Usage
    go (Ok zero) is usage = let bad : statuses.Done ≡ statuses.Usage = sym is ∙ usage in cc
    go (Ok (suc n)) is usage = let bad : statuses.Incomplete ≡ statuses.Usage = sym is ∙ usage in cc
    go (Err complaint) is usage = complains complaint (sym is ∙ usage)
      where
        complains : (complaint : Complaint) → status_of complaint ≢ statuses.Usage
        complains complaint = search rules
