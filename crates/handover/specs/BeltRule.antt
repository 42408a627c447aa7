-- The rule of the belt's queue. It holds between any two atomic steps, whatever the threads do.
use Rattle.std.specs.Prelude.{◌≡◌, ◌<◌, ◌≤◌, ◌+◌, ◌++◌, ◌⊎◌, ℕ, Bool, true, false, List, [], ◌∷◌, All, count_by, cond, drop, length, map, nat_eq}
use Rattle.std.specs.List.{sum_by}
use mathlib.Core.Option.{some}
use lib.ListN.{get_elem?}
use Rattle.handover.specs.Belts.{Presented, notes_of}
use Rattle.handover.specs.declared.belt.Share.{Share}

module _ {N : Type 0} where
  -- what a pass knows: its senders with their notes, whether it receives, how many senders it made, and what it
  -- received
  abbrev pub share : List (ℕ × List N) → Bool → ℕ → List (ℕ × N) → Share N
  share senders receives made got = record { senders = senders; receives = receives; made = made; got = got }

  -- the first pass: it receives, and has made no senders yet
  abbrev pub first_share : Share N
  first_share = share [] true 0 []

  -- a pass after it was joined to another pass: it stands for no sender, and doesn't receive
  abbrev pub spent_share : Share N
  spent_share = share [] false 0 []

  -- the receiver after it made one more sender
  abbrev pub with_sender : Share N → Share N
  with_sender v = share v.senders v.receives (v.made + 1) v.got

  -- the pass of the sender that the receiver makes next
  abbrev pub new_sender : Share N → Share N
  new_sender v = share ((v.made + 1, []) ∷ []) false 0 []

  -- the pass v after it absorbed the pass w
  abbrev pub both_shares : Share N → Share N → Share N
  both_shares v w = share (w.senders ++ v.senders) v.receives v.made v.got

  -- the number and the notes of a sender's pass
  abbrev pub notes_entry : Presented N → ℕ × List N
  notes_entry pass = (pass.number, pass.notes)

  -- the receiver after it absorbed these passes
  abbrev pub with_senders : List (Presented N) → Share N → Share N
  with_senders passes v = share (map notes_entry passes ++ v.senders) v.receives v.made v.got

  -- the notes of the first sender of a pass; the pass of a sender has only this sender
  abbrev pub first_notes : List (ℕ × List N) → List N
  first_notes [] = []
  first_notes (e ∷ more) = e.1

  -- how often sender p is in a pass
  abbrev pub owns : ℕ → Share N → ℕ
  owns p v = count_by (λ e. nat_eq p e.0) v.senders

  -- how often sender p is in all passes together
  abbrev pub owners : List (Share N) → ℕ → ℕ
  owners views p = sum_by (owns p) views

  -- 1 for a pass that receives, and 0 for any other
  abbrev pub receives : Share N → ℕ
  receives v = cond v.receives 1 0

  -- Each sender of the pass has presented the notes that were received from it, followed by its notes in the queue:
  -- `all` has the received notes and then those in the queue. If the pass receives, it knows all received notes, and a
  -- sender that it hasn't made has presented nothing and is in no pass.
  pub record KnowsItsNotes (all got : List (ℕ × N)) (owned : ℕ → ℕ) (v : Share N) : Type 0 where
    pub senders : All (λ e. e.1 ≡ notes_of e.0 all) v.senders
    pub got_is : v.receives ≡ true → v.got ≡ got
    pub unmade : v.receives ≡ true → (p : ℕ) → (p ≡ 0) ⊎ (v.made < p) → (notes_of p all ≡ []) × (owned p ≡ 0)

  -- Each pass knows its notes. Each sender is in at most one pass, and at most one pass receives.
  pub record Delivers (items : List (ℕ × N)) (views : List (Share N)) : Type 0 where
    pub got : List (ℕ × N)
    pub one_sender : (p : ℕ) → owners views p ≤ 1
    pub one_receiver : sum_by receives views ≤ 1
    pub holds : (seat : ℕ) (v : Share N) → get_elem? views seat ≡ some v → KnowsItsNotes (got ++ items) got (owners views) v

  -- the pass of a sender after it presented a note
  abbrev pub PutsNote : Share N → ℕ × N → Share N → Type 0
  PutsNote v x w = w ≡ share ((x.0, first_notes v.senders ++ x.1 ∷ []) ∷ []) v.receives v.made v.got

  -- the list begins with this prefix
  abbrev pub IsPrefix : List N → List N → Type 0
  IsPrefix prefix whole = (remainder : List N) × (whole ≡ prefix ++ remainder)

  -- The receiver after it received a note of a sender that it made. For each sender of the pass, the notes that were
  -- received from this sender are a prefix of the notes that it presented.
  pub record GetsNote (v : Share N) (x : ℕ × N) (w : Share N) : Type 0 where
    pub got : w ≡ share v.senders v.receives v.made (v.got ++ x ∷ [])
    pub made : (1 ≤ x.0) × (x.0 ≤ v.made)
    pub prefixes : All (λ e. IsPrefix (notes_of e.0 (v.got ++ x ∷ [])) e.1) v.senders

  -- the sender's number, and its notes after those that were received
  abbrev pub left_over : List (ℕ × N) → ℕ × List N → ℕ × List N
  left_over got e = (e.0, drop (length (notes_of e.0 got)) e.1)

  -- each sender of the pass has presented the notes that were received from it, followed by its notes in the queue
  abbrev pub HoldsTheRest : Share N → List (ℕ × N) → Type 0
  HoldsTheRest v items = All (λ e. e.1 ≡ notes_of e.0 (v.got ++ items)) v.senders
