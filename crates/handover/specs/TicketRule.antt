-- The rule of the one counter from which tickets are drawn. It holds between any two atomic steps, whatever the threads
-- do.
use Rattle.std.specs.Prelude.{◌≡◌, ◌<◌, ◌≤◌, ◌+◌, ◌-◌, ◌^◌, ◌++◌, ℕ, List, [], ◌∷◌, All, count_by, length, min, nat_eq}
use Rattle.std.specs.List.{sum_by}
use mathlib.Core.Option.{some}
use lib.ListN.{get_elem?}
use Rattle.atomic_table.specs.Table.{Me, State, Step}
use Rattle.atomic_table.specs.Seated.{TableId}
use Rattle.handover.specs.Tickets.{AreAllBelow, AreSomeBelow, Drawn, Series, how_many_heard, drawn_by_all, once_below}
use Rattle.handover.specs.declared.tickets.Holding.{Holding}
use Rattle.handover.specs.declared.tickets.Issue.{Issue}

-- what a pass knows: the terms, how many of the opened passes it stands for (shares), how many of these got `None`
-- (marks), and the numbers that they drew
abbrev pub holding : Issue → ℕ → ℕ → List ℕ → Holding
holding issue shares marks numbers = record { issue = issue; shares = shares; marks = marks; numbers = numbers }

-- the tickets of the counter with this name
abbrev pub series_of : TableId → Issue → Series
series_of name issue = record { name = name; count = issue.count; passes = issue.passes }

-- the first pass: it has all shares, and has drawn nothing
abbrev pub first_holding : Issue → Holding
first_holding issue = holding issue issue.passes 0 []

-- a pass after it was joined to another pass: it has no shares
abbrev pub spent_holding : Holding
spent_holding = holding (record { count = 0; passes = 0 }) 0 0 []

-- the pass v after one of its shares was cut off for a new pass
abbrev pub kept_part : Holding → Holding
kept_part v = holding v.issue (v.shares - 1) v.marks v.numbers

-- the new pass that is cut off from v: it has one share, and has drawn nothing
abbrev pub new_part : Holding → Holding
new_part v = holding v.issue 1 0 []

-- two passes joined
abbrev pub both_holdings : Holding → Holding → Holding
both_holdings v w = holding v.issue (v.shares + w.shares) (v.marks + w.marks) (w.numbers ++ v.numbers)

-- a pass has no more marks than shares; if it has marks, all numbers are drawn; if it has no shares, it has no numbers
pub record Fits (issue : Issue) (counter : ℕ) (v : Holding) : Type 0 where
  pub marks : v.marks ≤ v.shares
  pub drained : 0 < v.marks → issue.count ≤ counter
  pub spent : v.shares ≡ 0 → v.numbers ≡ []

-- Each number below both the counter and the count is in exactly one pass, and no other number is in a pass. The shares
-- add up to the number of opened passes. The counter exceeds the count by at most the number of marks.
pub record IsLawful (issue : Issue) (s : State (Unit {0}) Holding) : Type 0 where
  pub counter : ℕ
  pub kept : s.words ≡ counter ∷ []
  pub few : issue.count ≤ 2 ^ 24
  pub few_passes : issue.passes ≤ 16
  pub once : (n : ℕ) → sum_by (λ v. count_by (nat_eq n) v.numbers) s.views ≡ once_below (min counter issue.count) n
  pub shares : sum_by (λ v. v.shares) s.views ≡ issue.passes
  pub fits : (seat : ℕ) (v : Holding) → get_elem? s.views seat ≡ some v → Fits issue counter v
  pub past : counter ≤ issue.count + sum_by (λ v. v.marks) s.views

-- the pass after it drew n
abbrev pub holding_with : ℕ → Holding → Holding
holding_with n v = holding v.issue v.shares v.marks (v.numbers ++ n ∷ [])

-- the pass after it got `None`
abbrev pub holding_marked : Holding → Holding
holding_marked v = holding v.issue v.shares (v.marks + 1) v.numbers

-- what a pass knows after a draw that found the counter at n: it drew n if n is below the count, and otherwise got
-- `None`
pub record Draws (s : Step (Unit {0})) (me : Me (Unit {0}) Holding) (n : ℕ) (after : Me (Unit {0}) Holding) : Type 0 where
  pub number : n < me.0.issue.count → after.0 ≡ holding_with n me.0
  pub greater : n < me.0.issue.count → All (λ m. m < n) me.0.numbers
  pub none : me.0.issue.count ≤ n → after.0 ≡ holding_marked me.0
  pub slots : after.1 ≡ me.1

-- what a pass knows before and after the passes at the end of `all` were joined to it; `left` has the other passes
pub record Joining (all left : List Drawn) (before after : Holding) : Type 0 where
  pub issue : after.issue ≡ before.issue
  pub shares : after.shares + length left ≡ before.shares + length all
  pub marks : after.marks + how_many_heard left ≡ before.marks + how_many_heard all
  pub numbers : drawn_by_all left ++ after.numbers ≡ drawn_by_all all ++ before.numbers

-- What a pass knows when the tickets are closed, if m numbers were drawn: its numbers are below m, no number twice. If
-- it stands for all passes, it has all numbers below m. If it has a mark, m is the count.
pub record KnowsAtEnd (issue : Issue) (v : Holding) (m : ℕ) : Type 0 where
  pub once : (n : ℕ) → count_by (nat_eq n) v.numbers ≤ once_below m n
  pub all : v.shares ≡ issue.passes → (n : ℕ) → count_by (nat_eq n) v.numbers ≡ once_below m n
  pub drained : 0 < v.marks → m ≡ issue.count

-- What is known of the passes that were handed back, if m numbers were drawn: their numbers are below m, no number
-- twice. If all passes were handed back, they have all numbers below m. If a draw returned `None`, m is the count.
pub record Gathers (series : Series) (passes : List Drawn) (m : ℕ) : Type 0 where
  pub once : AreSomeBelow m (drawn_by_all passes)
  pub drawn : length (drawn_by_all passes) ≤ m
  pub all : length passes ≡ series.passes → AreAllBelow m (drawn_by_all passes)
  pub drained : 0 < how_many_heard passes → m ≡ series.count
