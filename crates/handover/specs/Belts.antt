-- A belt: a queue of notes from several senders to one receiver, which keeps each sender's notes in their order.
use Rattle.std.specs.Prelude.{◌≡◌, ◌≤◌, ℕ, All, List, [], ◌∷◌, ◌++◌, drop, filter, length, map, nat_eq, if◌then◌else◌}
use Rattle.atomic_table.specs.Seated.{TableId}

-- a belt: its identity, and the number of its senders
pub record BeltId : Type 0 where
  pub name : TableId
  pub workers : ℕ

-- the number of notes for which a belt has room
abbrev pub room_of : BeltId → ℕ
room_of belt = belt.name.slots

-- what contracts see of a sender's pass: its belt, its number, and the notes that it presented, in order
pub record Presented (N : Type 0) : Type 0 where
  pub belt : TableId
  pub number : ℕ
  pub notes : List N

-- what contracts see of the receiver's pass: its belt, and the notes that it received, in order, each with its sender's
-- number
pub record Received (N : Type 0) : Type 0 where
  pub belt : BeltId
  pub got : List (ℕ × N)

-- what contracts see of the notes that are left on a belt: the number of the belt's senders, and for each sender whose
-- pass was handed back, the sender's number and its notes that are left
pub record Left (N : Type 0) : Type 0 where
  pub workers : ℕ
  pub lists : List (ℕ × List N)

module _ {N : Type 0} where
  -- the notes of one sender, in order
  abbrev pub notes_of : ℕ → List (ℕ × N) → List N
  notes_of sender got = map (λ m. m.1) (filter (λ m. nat_eq sender m.0) got)

  -- a sender's pass that has presented nothing
  abbrev pub silent : TableId → ℕ → Presented N
  silent name number = record { belt = name; number = number; notes = [] }

  -- the receiver's pass that has received nothing
  abbrev pub deaf : BeltId → Received N
  deaf belt = record { belt = belt; got = [] }

  -- the sender's pass after it presented a note
  abbrev pub with_note : N → Presented N → Presented N
  with_note note pass = record { belt = pass.belt; number = pass.number; notes = pass.notes ++ note ∷ [] }

  -- the receiver's pass after it received this note from one of the belt's senders
  pub record GotOne (old new : Received N) (note : N) : Type 0 where
    pub sender : ℕ
    pub some_worker : (1 ≤ sender) × (sender ≤ old.belt.workers)
    pub belt : new.belt ≡ old.belt
    pub got : new.got ≡ old.got ++ (sender, note) ∷ []

  -- the sender's number, and its notes after those that were received
  abbrev pub left_of : List (ℕ × N) → Presented N → ℕ × List N
  left_of got pass = (pass.number, drop (length (notes_of pass.number got)) pass.notes)

  -- the notes that were received from the sender, followed by those that are left, are the notes that it presented, in
  -- the same order
  abbrev pub IsWhole : List (ℕ × N) → Presented N → Type 0
  IsWhole got pass = notes_of pass.number got ++ drop (length (notes_of pass.number got)) pass.notes ≡ pass.notes

  -- the entry `e`; if `e` is the entry of this sender, the note is put before the other notes in it
  abbrev pub with_first : ℕ → N → ℕ × List N → ℕ × List N
  with_first sender note e = (e.0, if nat_eq e.0 sender then note ∷ e.1 else e.1)

  -- The note was removed: it was the first of a sender's notes that were left. If the sender's pass wasn't handed back,
  -- no list has changed.
  pub record TookFirst (old new : Left N) (note : N) : Type 0 where
    pub sender : ℕ
    pub some_worker : (1 ≤ sender) × (sender ≤ old.workers)
    pub workers : new.workers ≡ old.workers
    pub lists : old.lists ≡ map (with_first sender note) new.lists

  -- no notes are left of the senders whose passes were handed back
  abbrev pub NothingLeft : Left N → Type 0
  NothingLeft remainder = All (λ e. e.1 ≡ []) remainder.lists
