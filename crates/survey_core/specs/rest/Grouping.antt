-- How groups are made from envelopes.
use Rattle.std.specs.Prelude.{◌≡◌, ◌≢◌, ◌<◌, ℕ, List, All, get_or, length}
use Rattle.survey_core.specs.declared.shapes.envelope_bounds.EnvelopeBounds.{EnvelopeBounds}
use Rattle.survey_core.specs.rest.Groups.{renamed}
use Rattle.survey_core.specs.shapes.Envelopes.{StayApart}

-- each envelope has the number of its group: the place of one of the envelopes
pub record AreNumbers (envelopes : List EnvelopeBounds) (groups : List ℕ) : Type 0 where
  pub count : length groups ≡ length envelopes
  pub below : All (λ k. k < length envelopes) groups

-- envelopes that were in the same group still are
abbrev pub Coarser : List ℕ → List ℕ → Type 0
Coarser old new = (a b : ℕ) → a < length old → b < length old → get_or new a 0 ≢ get_or new b 0 → get_or old a 0 ≢ get_or old b 0

-- the group with the number `from` now has the number `to`, and all other groups keep their numbers
abbrev pub AreRenamed : ℕ → ℕ → List ℕ → List ℕ → Type 0
AreRenamed from to old new = (k : ℕ) → k < length old → get_or new k 0 ≡ renamed from to (get_or old k 0)

-- the envelopes at these two places stay apart if they are in different groups
abbrev pub PairIsRight : ℕ → List EnvelopeBounds → List ℕ → ℕ → ℕ → Type 0
PairIsRight horizon envelopes groups i j = (d : EnvelopeBounds) → get_or groups i 0 ≢ get_or groups j 0 → StayApart horizon (get_or envelopes i d) (get_or envelopes j d)

-- envelopes of different groups stay apart up to the horizon
pub record AreGroups (horizon : ℕ) (envelopes : List EnvelopeBounds) (groups : List ℕ) : Type 0 where
  pub numbers : AreNumbers envelopes groups
  pub apart : (i j : ℕ) → j < i → i < length envelopes → PairIsRight horizon envelopes groups i j
