-- The effect of a crew on a haul.
use Rattle.std.proofs.Common.{◌≡◌, ◌∙◌, ◌++◌, ℕ, All, List, [], ap, map, subst, sym}
use Rattle.std.proofs.lemmas.List.Elements.{All-map}
use Rattle.haul_core.specs.Books.{Held, entry}
use Rattle.haul_core.specs.Reports.{Reported}
use Rattle.crew.specs.Crews.{HasAdded}
use Rattle.crew.specs.Takes.{HasTaken}
use Rattle.commands.specs.Stopped.{IsLetIn}
use Rattle.commands.specs.TakeSteps.{HasLetIn, HasTakenMore}

-- a crew only adds to what a haul has taken
pub grown_by_added : {offers : List Reported} (old new : Held) → HasAdded offers old new → HasTakenMore old new
grown_by_added {offers} old new added = record {
  terms = added.terms;
  closed = added.closed;
  more = map entry offers;
  taken = added.taken;
}

pub grown_by : {lets : ℕ → ℕ → Type 0} {workers : ℕ} (old new : Held) → HasTaken lets workers old new → HasTakenMore old new
grown_by old new h = grown_by_added old new h.added

-- each soup that was added comes from a worker that the gate let survey it
pub let_in_by : {lets : ℕ → ℕ → Type 0} {workers : ℕ} (old new : Held) → HasTaken lets workers old new → HasLetIn lets workers old new
let_in_by {lets} {workers} old new h = record {
  more = map entry h.offers;
  taken = h.added.taken;
  let_in = All-map (IsLetIn lets workers) entry h.offers (λ k d low.
      let by = h.by_workers k d low in record { least = by.0; most = by.1; let_in = h.let_in k d low });
}

-- if the haul was empty before, each soup that it has taken comes from a worker that the gate let survey it
pub let_in_all : {lets : ℕ → ℕ → Type 0} {workers : ℕ} (old new : Held) → old.taken ≡ [] → HasLetIn lets workers old new
    → All (IsLetIn lets workers) new.taken
let_in_all {lets} {workers} old new none h =
    subst (All (IsLetIn lets workers)) (sym (h.taken ∙ ap (λ (l : List (ℕ × ℕ)). l ++ h.more) none)) h.let_in
