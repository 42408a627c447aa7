-- Groups of parts that stay apart: all parts keep apart in the whole if and only if they do in each group.
use Rattle.std.proofs.Common.{◌≡◌, ◌≢◌, ◌==◌, ◌∙◌, ◌+◌, ◌<◌, ◌≤◌, ◌||◌, ap, sym, refl, subst, ℕ, zero, suc, Bool, true, false, cond, List, [], ◌∷◌}
use Rattle.std.proofs.Common.{All, AllPairs, arith, filter, flat_map, get_or, eq-or-lt_of_le, inl, inr, ◌⊎◌, length, map, nat_lt, take, ◌++◌}
use Rattle.std.specs.List.{list_any}
use Rattle.std.proofs.lemmas.Bool.{eqb-true, false≢true, ltb-false, ltb-true}
use Rattle.std.proofs.lemmas.Bool.Decides.{Decides-eqb}
use Rattle.std.proofs.lemmas.List.Elements.{All-cons}
use Rattle.std.proofs.lemmas.List.{append-nil, get_or_default, get_or-map, length-map, length-take-le, take_more}
use Rattle.std.proofs.lemmas.List.Kept.{AllPairs-cons}
use Rattle.plane_core.specs.declared.plane.cell.Cell.{Cell}
use Rattle.plane_core.specs.plane.Cells.{InOrder, has, king_distance}
use Rattle.plane_core.specs.clusters.Clusters.{Partition}
use Rattle.plane_core.specs.plane.Generations.{after, lives}
use Rattle.plane_core.specs.plane.Rules.{Numbers}
use Rattle.plane_core.proofs.lemmas.plane.GenerationLemmas.{after-none, distance_itself, has-next}
use Rattle.plane_core.proofs.lemmas.plane.PartLemmas.{IsFar, far-has, far-lives, far_or_near, false_unless, lives-local, triangle, turned}
use Rattle.plane_core.proofs.lemmas.plane.SetLemmas.{has-set_of, in_order-set_of, same_lists}
use Rattle.code_core.proofs.MovedCodes.{after-suc, in_order-after}
use Rattle.survey_core.specs.rest.Groups.{GroupKeeps, GroupsStayApart, ShareNoCell, members, union_of}
use Rattle.survey_core.specs.rest.Rest.{KeepApart}
use Rattle.survey_core.proofs.lemmas.rest.ForGoodLemmas.{after-empty}
use Rattle.survey_core.proofs.lemmas.PartitionLemmas.{has-joined}

-- ---- the parts of a group

pub members-cons : (k g : ℕ) (gs : List ℕ) (part : List Cell) (parts : List (List Cell))
    → members k (g ∷ gs) (part ∷ parts) ≡ cond (g == k) (part ∷ members k gs parts) (members k gs parts)
unfolding members
members-cons k g gs part parts = refl

pub members-nil : (k : ℕ) (gs : List ℕ) → members k gs [] ≡ []
unfolding members
members-nil k [] = refl
members-nil k (g ∷ gs) = refl

pub members-none : (k : ℕ) (parts : List (List Cell)) → members k [] parts ≡ []
unfolding members
members-none k parts = refl

itself : (k : ℕ) → (k == k) ≡ true
itself k = (Decides-eqb k k).1 refl

-- a property of all parts is a property of all parts of a group
pub members_all : (P : List Cell → Type 0) (k : ℕ) (gs : List ℕ) (parts : List (List Cell)) → All P parts → All P (members k gs parts)
members_all P k [] parts all = subst (All P) (sym (members-none k parts)) (λ i d low. absurd (omega arith))
members_all P k (g ∷ gs) [] all = subst (All P) (sym (members-nil k (g ∷ gs))) all
members_all P k (g ∷ gs) (part ∷ parts) all =
    subst (All P) (sym (members-cons k g gs part parts)) (go (g == k) (members_all P k gs parts (λ i d low. all (suc i) d (omega arith))))
  where
    go : (b : Bool) → All P (members k gs parts) → All P (cond b (part ∷ members k gs parts) (members k gs parts))
    go false more = more
    go true more = All-cons P part (members k gs parts) (all 0 part (omega arith)) more

-- the number of parts in group k is at most the number of entries of `gs` that are k
pub members_few : (k : ℕ) (gs : List ℕ) (parts : List (List Cell)) → length (members k gs parts) ≤ length (filter (λ (g : ℕ). g == k) gs)
members_few k [] parts = let none = ap length (members-none k parts) in omega (arith, none)
members_few k (g ∷ gs) [] = let none = ap length (members-nil k (g ∷ gs)) in omega (arith, none)
members_few k (g ∷ gs) (part ∷ parts) =
    subst (λ (all : List (List Cell)). length all ≤ length (filter (λ (q : ℕ). q == k) (g ∷ gs))) (sym (members-cons k g gs part parts))
    (go (g == k) (members_few k gs parts))
  where
    go : (b : Bool) → length (members k gs parts) ≤ length (filter (λ (q : ℕ). q == k) gs)
        → length (cond b (part ∷ members k gs parts) (members k gs parts))
        ≤ length (cond b (g ∷ filter (λ (q : ℕ). q == k) gs) (filter (λ (q : ℕ). q == k) gs))
    go false few = few
    go true few = omega (arith, few)

-- a count that is at most n is at most n + 1 after one more iteration, even if the count grows by 1
pub counted_more : (count n : ℕ) → count ≤ n → (count ≤ n + 1) × (count + 1 ≤ n + 1)
counted_more count n few = (omega arith, omega arith)

-- a property of all parts of a group is a property of each part that has the group's number
pub member_has : (P : List Cell → Type 0) (k : ℕ) (gs : List ℕ) (parts : List (List Cell)) (i : ℕ) (d : List Cell) → All P (members k gs parts)
    → i < length parts → i < length gs → get_or gs i 0 ≡ k → P (get_or parts i d)
member_has P k [] parts i d all low there is = absurd (omega arith)
member_has P k (g ∷ gs) [] i d all low there is = absurd (omega arith)
member_has P k (g ∷ gs) (part ∷ parts) zero d all low there is =
    subst (All P) (members-cons k g gs part parts ∙ ap (λ (b : Bool). cond b (part ∷ members k gs parts) (members k gs parts)) (ap (λ (n : ℕ). n == k) is ∙ itself k))
    all 0 d (omega arith)
member_has P k (g ∷ gs) (part ∷ parts) (suc i) d all low there is =
    member_has P k gs parts i d (go (g == k) (subst (All P) (members-cons k g gs part parts) all)) (omega arith) (omega arith) is
  where
    go : (b : Bool) → All P (cond b (part ∷ members k gs parts) (members k gs parts)) → All P (members k gs parts)
    go false more = more
    go true more = λ j e below. more (suc j) e (omega arith)

-- a relation that holds for all pairs of parts holds for all pairs of parts in a group
pub members_pairs : (R : List Cell → List Cell → Type 0) (k : ℕ) (gs : List ℕ) (parts : List (List Cell)) → AllPairs R parts
    → AllPairs R (members k gs parts)
members_pairs R k [] parts pairs = subst (AllPairs R) (sym (members-none k parts)) (λ i j d lt low. absurd (omega arith))
members_pairs R k (g ∷ gs) [] pairs = subst (AllPairs R) (sym (members-nil k (g ∷ gs))) pairs
members_pairs R k (g ∷ gs) (part ∷ parts) pairs =
    subst (AllPairs R) (sym (members-cons k g gs part parts))
    (go (g == k) (members_pairs R k gs parts (λ i j d lt low. pairs (suc i) (suc j) d (omega arith) (omega arith))))
  where
    go : (b : Bool) → AllPairs R (members k gs parts) → AllPairs R (cond b (part ∷ members k gs parts) (members k gs parts))
    go false more = more
    go true more =
        AllPairs-cons R part (members k gs parts)
        (members_all (R part) k gs parts (λ j d low. pairs 0 (suc j) d (omega arith) (omega arith))) more

pub pairs_of_groups : (R : List Cell → List Cell → Type 0) (gs : List ℕ) (parts : List (List Cell)) → length gs ≡ length parts
    → ((i : ℕ) → i < length parts → AllPairs R (members (get_or gs i 0) gs parts))
    → ((i j : ℕ) (d : List Cell) → i < j → j < length parts → get_or gs i 0 ≢ get_or gs j 0 → R (get_or parts i d) (get_or parts j d))
    → AllPairs R parts
pairs_of_groups R [] [] same each far = λ i j d lt low. absurd (omega arith)
pairs_of_groups R [] (part ∷ parts) same each far = absurd (omega arith)
pairs_of_groups R (g ∷ gs) [] same each far = λ i j d lt low. absurd (omega arith)
pairs_of_groups R (g ∷ gs) (part ∷ parts) same each far =
    AllPairs-cons R part parts first (pairs_of_groups R gs parts (omega arith) (λ i low. go (get_or gs i 0) (g == get_or gs i 0)
    (subst (AllPairs R) (members-cons (get_or gs i 0) g gs part parts) (each (suc i) (omega arith))))
    (λ i j d lt low ne. far (suc i) (suc j) d (omega arith) (omega arith) ne))
  where
    go : (k : ℕ) (b : Bool) → AllPairs R (cond b (part ∷ members k gs parts) (members k gs parts)) → AllPairs R (members k gs parts)
    go k false more = more
    go k true more = λ i j d lt low. more (suc i) (suc j) d (omega arith) (omega arith)

    here : AllPairs R (part ∷ members g gs parts)
    here = subst (AllPairs R)
        (members-cons g g gs part parts ∙ ap (λ (b : Bool). cond b (part ∷ members g gs parts) (members g gs parts)) (itself g)) (each 0 (omega arith))

    head_of : All (R part) (members g gs parts)
    head_of j d low = here 0 (suc j) d (omega arith) (omega arith)

    first : All (R part) parts
    first j d low = split (get_or gs j 0 == g) refl
      where
        split : (b : Bool) → (get_or gs j 0 == g) ≡ b → R part (get_or parts j d)
        split true e = member_has (R part) g gs parts j d head_of low (omega arith) (eqb-true (get_or gs j 0) g e)
        split false e = far 0 (suc j) d (omega arith) (omega arith)
            (λ is. false≢true (sym e ∙ ap (λ (n : ℕ). n == g) (sym is) ∙ itself g))

-- if only parts of group k can pass a test, some part passes if and only if some part of the group passes
pub any_members : (p : List Cell → Bool) (k : ℕ) (gs : List ℕ) (parts : List (List Cell)) → length gs ≡ length parts
    → ((j : ℕ) (d : List Cell) → j < length parts → get_or gs j 0 ≢ k → p (get_or parts j d) ≡ false)
    → list_any p parts ≡ list_any p (members k gs parts)
any_members p k [] [] same none = ap (list_any p) (sym (members-nil k []))
any_members p k [] (part ∷ parts) same none = absurd (omega arith)
any_members p k (g ∷ gs) [] same none = absurd (omega arith)
any_members p k (g ∷ gs) (part ∷ parts) same none =
    go (g == k) refl (any_members p k gs parts (omega arith) (λ j d low ne. none (suc j) d (omega arith) ne))
    ∙ ap (list_any p) (sym (members-cons k g gs part parts))
  where
    go : (b : Bool) → (g == k) ≡ b → list_any p parts ≡ list_any p (members k gs parts)
        → (p part || list_any p parts) ≡ list_any p (cond b (part ∷ members k gs parts) (members k gs parts))
    go true e more = ap (λ (a : Bool). p part || a) more
    go false e more =
        ap (λ (a : Bool). a || list_any p parts) (none 0 part (omega arith) (λ is. false≢true (sym e ∙ ap (λ (n : ℕ). n == k) is ∙ itself k))) ∙ more

-- ---- cells near some part, and cells near none

-- after g generations, no part, run alone, is near the cell
abbrev pub NoneNear : Numbers → List (List Cell) → ℕ → Cell → Type 0
NoneNear rule parts g c = All (λ part. IsFar c (after rule part g)) parts

-- after g generations, some part, run alone, is near the cell
pub record SomeNear (rule : Numbers) (parts : List (List Cell)) (g : ℕ) (c : Cell) : Type 0 where
  pub place : ℕ
  pub within : place < length parts
  pub cell : Cell
  pub alive : has (after rule (get_or parts place []) g) cell ≡ true
  pub near : king_distance c cell ≤ 1

pub none_or_some : (rule : Numbers) (parts : List (List Cell)) (g : ℕ) (c : Cell) → NoneNear rule parts g c ⊎ SomeNear rule parts g c
none_or_some rule [] g c = inl (λ k d low. absurd (omega arith))
none_or_some rule (part ∷ parts) g c = go (far_or_near c (after rule part g)) (none_or_some rule parts g c)
  where
    go : IsFar c (after rule part g) ⊎ ((d : Cell) × (has (after rule part g) d ≡ true) × (king_distance c d ≤ 1))
        → NoneNear rule parts g c ⊎ SomeNear rule parts g c → NoneNear rule (part ∷ parts) g c ⊎ SomeNear rule (part ∷ parts) g c
    go (inr d) more = inr (record { place = 0; within = omega arith; cell = d.0; alive = d.1; near = d.2 })
    go (inl far) (inr s) =
        inr (record { place = suc s.place; within = let low : s.place < length parts = s.within in omega arith; cell = s.cell; alive = s.alive; near = s.near })
    go (inl far) (inl none) = inl (All-cons (λ (p : List Cell). IsFar c (after rule p g)) part parts far none)

-- a part of group k that is near the cell has a place among all parts, and the group number at this place is k
pub member_place : (rule : Numbers) (k : ℕ) (gs : List ℕ) (parts : List (List Cell)) (g : ℕ) (c : Cell) → SomeNear rule (members k gs parts) g c
    → (s : SomeNear rule parts g c) × (get_or gs s.place 0 ≡ k)
member_place rule k [] parts g c m =
    let low : m.place < length (members k [] parts) = m.within in
    absurd (omega (arith, low, ap (λ (ms : List (List Cell)). length ms) (members-none k parts)))
member_place rule k (h ∷ gs) [] g c m =
    let low : m.place < length (members k (h ∷ gs) []) = m.within in
    absurd (omega (arith, low, ap (λ (ms : List (List Cell)). length ms) (members-nil k (h ∷ gs))))
member_place rule k (h ∷ gs) (part ∷ parts) g c m =
    go (h == k) refl (subst (λ (ms : List (List Cell)). SomeNear rule ms g c) (members-cons k h gs part parts) m)
    (λ more. member_place rule k gs parts g c more)
  where
    later : (s : SomeNear rule parts g c) × (get_or gs s.place 0 ≡ k) → (s : SomeNear rule (part ∷ parts) g c) × (get_or (h ∷ gs) s.place 0 ≡ k)
    later (s, is) = (
      record { place = suc s.place; within = let low : s.place < length parts = s.within in omega arith; cell = s.cell; alive = s.alive; near = s.near },
      is,
    )

    first : (h == k) ≡ true → (i : ℕ) (low : i < length (part ∷ members k gs parts)) (d : Cell)
        → has (after rule (get_or (part ∷ members k gs parts) i []) g) d ≡ true → king_distance c d ≤ 1
        → (SomeNear rule (members k gs parts) g c → (s : SomeNear rule parts g c) × (get_or gs s.place 0 ≡ k))
        → (s : SomeNear rule (part ∷ parts) g c) × (get_or (h ∷ gs) s.place 0 ≡ k)
    first e zero low d alive near more = (record { place = 0; within = omega arith; cell = d; alive = alive; near = near }, eqb-true h k e)
    first e (suc i) low d alive near more = later (more (record { place = i; within = omega arith; cell = d; alive = alive; near = near }))

    go : (b : Bool) → (h == k) ≡ b → SomeNear rule (cond b (part ∷ members k gs parts) (members k gs parts)) g c
        → (SomeNear rule (members k gs parts) g c → (s : SomeNear rule parts g c) × (get_or gs s.place 0 ≡ k))
        → (s : SomeNear rule (part ∷ parts) g c) × (get_or (h ∷ gs) s.place 0 ≡ k)
    go false e m more = later (more m)
    go true e m more = first e m.place m.within m.cell m.alive m.near more

-- in generation g the parts, each run alone, are together the whole
abbrev pub AddUp : Numbers → List Cell → List (List Cell) → ℕ → Type 0
AddUp rule whole parts g = (c : Cell) → has (after rule whole g) c ≡ list_any (λ part. has (after rule part g) c) parts

pub list_any-none : (p : List Cell → Bool) (parts : List (List Cell)) → All (λ part. p part ≡ false) parts → list_any p parts ≡ false
list_any-none p [] none = refl
list_any-none p (part ∷ parts) none =
    ap (λ (a : Bool). a || list_any p parts) (none 0 part (omega arith)) ∙ list_any-none p parts (λ k d low. none (suc k) d (omega arith))

pub next_at : (rule : Numbers) (S : List Cell) (g : ℕ) (c : Cell) → has (after rule S (suc g)) c ≡ lives rule (after rule S g) c
next_at rule S g c = ap (λ (T : List Cell). has T c) (after-suc rule S g) ∙ has-next rule (after rule S g) c

-- a cell that no part is near is dead in the next generation, in each part and in the whole
pub none_next : (rule : Numbers) (whole : List Cell) (parts : List (List Cell)) (g : ℕ) (c : Cell) → AddUp rule whole parts g → NoneNear rule parts g c
    → has (after rule whole (suc g)) c ≡ list_any (λ part. has (after rule part (suc g)) c) parts
none_next rule whole parts g c add none =
    next_at rule whole g c ∙ far-lives rule c (after rule whole g) far
    ∙ sym (list_any-none (λ part. has (after rule part (suc g)) c) parts
    (λ k d low. next_at rule (get_or parts k d) g c ∙ far-lives rule c (after rule (get_or parts k d) g) (none k d low)))
  where
    far : IsFar c (after rule whole g)
    far d h = go (nat_lt 1 (king_distance c d)) refl
      where
        go : (b : Bool) → nat_lt 1 (king_distance c d) ≡ b → 1 < king_distance c d
        go true e = ltb-true 1 (king_distance c d) e
        go false e =
            absurd (false≢true (sym (list_any-none (λ part. has (after rule part g) d) parts
            (λ k e low. far-has c (after rule (get_or parts k e) g) (none k e low) d (ltb-false 1 (king_distance c d) e2)))
            ∙ sym (add d) ∙ h))
          where
            e2 : nat_lt 1 (king_distance c d) ≡ false
            e2 = e

-- ---- keeping apart is adding up and sharing no cell

list_any-map : (p : List Cell → Bool) (f : List Cell → List Cell) (parts : List (List Cell)) → list_any p (map f parts) ≡ list_any (λ part. p (f part)) parts
list_any-map p f [] = refl
list_any-map p f (part ∷ parts) = ap (λ (a : Bool). p (f part) || a) (list_any-map p f parts)

-- the two parts, each run alone, share no cell after g generations
abbrev pub LaterOff : Numbers → ℕ → List Cell → List Cell → Type 0
LaterOff rule g a b = (c : Cell) → has (after rule a g) c ≡ true → has (after rule b g) c ≡ false

pub keeps_adds : (rule : Numbers) (whole : List Cell) (parts : List (List Cell)) (g : ℕ) → KeepApart rule whole parts g → AddUp rule whole parts g
keeps_adds rule whole parts g kept c = sym (kept.union c) ∙ list_any-map (λ part. has part c) (λ part. after rule part g) parts

pub keeps_off : (rule : Numbers) (whole : List Cell) (parts : List (List Cell)) (g : ℕ) → KeepApart rule whole parts g → AllPairs (LaterOff rule g) parts
keeps_off rule whole parts g kept i j d lt low c h =
    let later : List Cell → List Cell = λ part. after rule part g in
    let shorter : length (map (λ part. after rule part g) parts) ≡ length parts = length-map parts (λ part. after rule part g) in
    let one = get_or-map (λ part. after rule part g) parts i d [] (omega arith) in
    let other = get_or-map (λ part. after rule part g) parts j d [] low in
    ap (λ (S : List Cell). has S c) (sym other)
    ∙ kept.disjoint i j [] lt (omega arith) c (ap (λ (S : List Cell). has S c) one ∙ h)

pub keeps_from : (rule : Numbers) (whole : List Cell) (parts : List (List Cell)) (g : ℕ) → AddUp rule whole parts g → AllPairs (LaterOff rule g) parts
    → KeepApart rule whole parts g
keeps_from rule whole parts g adds off = record {
  disjoint = λ i j d lt low c h.
      let shorter : length (map (λ part. after rule part g) parts) ≡ length parts = length-map parts (λ part. after rule part g) in
      let one = get_or-map (λ part. after rule part g) parts i [] d (omega arith) in
      let other = get_or-map (λ part. after rule part g) parts j [] d (omega arith) in
      ap (λ (S : List Cell). has S c) other ∙ off i j [] lt (omega arith) c (ap (λ (S : List Cell). has S c) (sym one) ∙ h);
  union = λ c. list_any-map (λ part. has part c) (λ part. after rule part g) parts ∙ sym (adds c);
}

any_at_once : (rule : Numbers) (parts : List (List Cell)) (c : Cell) → list_any (λ part. has (after rule part 0) c) parts ≡ list_any (λ part. has part c) parts
any_at_once rule [] c = refl
any_at_once rule (part ∷ parts) c = λ i. has (after-none rule part i) c || any_at_once rule parts c i

pub adds_at_once : (rule : Numbers) (whole : List Cell) (parts : List (List Cell)) → ((c : Cell) → list_any (λ part. has part c) parts ≡ has whole c)
    → AddUp rule whole parts 0
adds_at_once rule whole parts is c = ap (λ (S : List Cell). has S c) (after-none rule whole) ∙ sym (is c) ∙ sym (any_at_once rule parts c)

pub union_has : (parts : List (List Cell)) (c : Cell) → has (union_of parts) c ≡ list_any (λ part. has part c) parts
union_has parts c = has-set_of (flat_map (λ part. part) parts) c ∙ has-joined parts c

-- ---- groups that stay apart

module _ (rule : Numbers) (cells : List Cell) (groups : List ℕ) (parts : List (List Cell)) (n : ℕ) (order : InOrder cells)
    (same : length groups ≡ length parts) (far : GroupsStayApart rule groups parts n)
  where
    abbrev pub union : ℕ → List Cell
    union k = union_of (members k groups parts)

    in_order : (S : List Cell) (g : ℕ) → InOrder S → InOrder (after rule S g)
    in_order S g o = in_order-after rule S g o

    -- a cell that is near a part is far from the parts of other groups
    others_far : (g : ℕ) (c : Cell) → g ≤ n → (s : SomeNear rule parts g c) → (j : ℕ) (d : List Cell) → j < length parts
        → get_or groups j 0 ≢ get_or groups s.place 0 → (e : Cell) → has (after rule (get_or parts j d) g) e ≡ true → 2 ≤ king_distance c e
    others_far g c low s j d there ne e h =
        let alive : has (after rule (get_or parts s.place d) g) s.cell ≡ true =
        subst (λ (part : List Cell). has (after rule part g) s.cell ≡ true) (get_or_default parts s.place [] d s.within) s.alive in
        let apart : 3 ≤ king_distance s.cell e =
        far s.place j d g s.within there (λ is. ne (sym is)) low s.cell e alive h in
        let back : king_distance s.cell c ≡ king_distance c s.cell = turned s.cell c in
        let near : king_distance c s.cell ≤ 1 = s.near in
        let across : king_distance s.cell e ≤ 1 + king_distance c e = triangle s.cell c e 1 (king_distance c e) (omega arith) (omega arith) in
        omega arith

    -- a cell that is near a part becomes in the whole what it becomes in the group of the part
    as_in_group : (g : ℕ) (c : Cell) → g ≤ n → (s : SomeNear rule parts g c) → AddUp rule cells parts g
        → AddUp rule (union (get_or groups s.place 0)) (members (get_or groups s.place 0) groups parts) g
        → has (after rule cells (suc g)) c ≡ has (after rule (union (get_or groups s.place 0)) (suc g)) c
    as_in_group g c low s add adds =
        let k : ℕ = get_or groups s.place 0 in
        next_at rule cells g c
        ∙ lives-local rule (after rule cells g) (after rule (union (get_or groups s.place 0)) g) c (in_order cells g order)
        (in_order (union (get_or groups s.place 0)) g (in_order-set_of (flat_map (λ part. part) (members (get_or groups s.place 0) groups parts))))
        (λ d near. add d
        ∙ any_members (λ part. has (after rule part g) d) (get_or groups s.place 0) groups parts same
        (λ j e there ne. false_unless (has (after rule (get_or parts j e) g) d) (λ h.
        let out : 2 ≤ king_distance c d = others_far g c low s j e there ne d h in absurd (omega arith)))
        ∙ sym (adds d))
        ∙ sym (next_at rule (union (get_or groups s.place 0)) g c)

    -- at a cell that is near a part, only parts of the same group can be alive in the next generation
    as_in_members : (g : ℕ) (c : Cell) → g ≤ n → (s : SomeNear rule parts g c)
        → list_any (λ part. has (after rule part (suc g)) c) parts
        ≡ list_any (λ part. has (after rule part (suc g)) c) (members (get_or groups s.place 0) groups parts)
    as_in_members g c low s =
        any_members (λ part. has (after rule part (suc g)) c) (get_or groups s.place 0) groups parts same
        (λ j e there ne. next_at rule (get_or parts j e) g c
        ∙ far-lives rule c (after rule (get_or parts j e) g) (λ d h. others_far g c low s j e there ne d h))

    -- if `AddUp` holds for each group and its union up to generation n, it holds for all parts and the whole up to n
    pub whole_adds : AddUp rule cells parts 0
        → ((i g : ℕ) → i < length parts → g ≤ n → AddUp rule (union (get_or groups i 0)) (members (get_or groups i 0) groups parts) g)
        → (g : ℕ) → g ≤ n → AddUp rule cells parts g
    whole_adds start each zero low = start
    whole_adds start each (suc g) low = λ c. go c (none_or_some rule parts g c) (whole_adds start each g (omega arith))
      where
        go : (c : Cell) → NoneNear rule parts g c ⊎ SomeNear rule parts g c → AddUp rule cells parts g
            → has (after rule cells (suc g)) c ≡ list_any (λ part. has (after rule part (suc g)) c) parts
        go c (inl none) add = none_next rule cells parts g c add none
        go c (inr s) add =
            as_in_group g c (omega arith) s add (each s.place g s.within (omega arith))
            ∙ each s.place (suc g) s.within low c
            ∙ sym (as_in_members g c (omega arith) s)

    -- conversely, if `AddUp` holds for all parts and the whole up to n, it holds for each group and its union up to n
    pub group_adds : (k : ℕ) → AddUp rule (union k) (members k groups parts) 0 → ((g : ℕ) → g ≤ n → AddUp rule cells parts g)
        → (g : ℕ) → g ≤ n → AddUp rule (union k) (members k groups parts) g
    group_adds k start whole zero low = start
    group_adds k start whole (suc g) low = λ c. go c (none_or_some rule (members k groups parts) g c) (group_adds k start whole g (omega arith))
      where
        go : (c : Cell) → NoneNear rule (members k groups parts) g c ⊎ SomeNear rule (members k groups parts) g c
            → AddUp rule (union k) (members k groups parts) g
            → has (after rule (union k) (suc g)) c ≡ list_any (λ part. has (after rule part (suc g)) c) (members k groups parts)
        go c (inl none) add = none_next rule (union k) (members k groups parts) g c add none
        go c (inr m) add =
            let found = member_place rule k groups parts g c m in
            let s : SomeNear rule parts g c = found.0 in
            let is : get_or groups s.place 0 ≡ k = found.1 in
            let adds : AddUp rule (union (get_or groups s.place 0)) (members (get_or groups s.place 0) groups parts) g =
            subst (λ (j : ℕ). AddUp rule (union j) (members j groups parts) g) (sym is) add in
            subst (λ (j : ℕ). has (after rule (union j) (suc g)) c ≡ list_any (λ part. has (after rule part (suc g)) c) (members j groups parts)) is
            (sym (as_in_group g c (omega arith) s (whole g (omega arith)) adds)
            ∙ whole (suc g) low c
            ∙ as_in_members g c (omega arith) s)

    -- if the parts of each group keep apart, all parts keep apart, because the groups stay apart from each other
    pub whole_keeps : Partition cells parts → ((i : ℕ) → i < length parts → GroupKeeps rule groups parts n (get_or groups i 0))
        → (g : ℕ) → g ≤ n → KeepApart rule cells parts g
    whole_keeps start each g low =
        keeps_from rule cells parts g
        (whole_adds (adds_at_once rule cells parts start.union) (λ i h there below. keeps_adds rule (union (get_or groups i 0))
        (members (get_or groups i 0) groups parts) h (each i there h below)) g low)
        (pairs_of_groups (LaterOff rule g) groups parts same
        (λ i there. keeps_off rule (union (get_or groups i 0)) (members (get_or groups i 0) groups parts) g (each i there g low))
        (λ i j d lt there ne c h. false_unless (has (after rule (get_or parts j d) g) c)
        (λ k. let out : 3 ≤ king_distance c c = far i j d g (omega arith) there ne low c c h k in
        omega (arith, out, distance_itself c.x, distance_itself c.y))))

    -- if all parts keep apart, the parts of each group keep apart
    pub group_keeps : Partition cells parts → ((g : ℕ) → g ≤ n → KeepApart rule cells parts g) → (k : ℕ) → GroupKeeps rule groups parts n k
    group_keeps start whole k g low =
        keeps_from rule (union k) (members k groups parts) g
        (group_adds k (adds_at_once rule (union k) (members k groups parts) (λ c. sym (union_has (members k groups parts) c)))
        (λ h below. keeps_adds rule cells parts h (whole h below)) g low)
        (members_pairs (LaterOff rule g) k groups parts (keeps_off rule cells parts g (whole g low)))

-- if there are fewer than two parts, they keep apart
pub alone_keeps : (rule : Numbers) (parts : List (List Cell)) (g : ℕ) → length parts < 2 → All InOrder parts → KeepApart rule (union_of parts) parts g
alone_keeps rule [] g low order =
    keeps_from rule (union_of []) [] g (λ c. ap (λ (S : List Cell). has S c) (after-empty rule g)) (λ i j d lt there. absurd (omega arith))
alone_keeps rule (part ∷ []) g low order =
    keeps_from rule (union_of (part ∷ [])) (part ∷ []) g
    (λ c. ap (λ (S : List Cell). has (after rule S g) c) one ∙ or_none (has (after rule part g) c)) (λ i j d lt there. absurd (omega arith))
  where
    or_none : (a : Bool) → a ≡ (a || false)
    or_none true = refl
    or_none false = refl

    one : union_of (part ∷ []) ≡ part
    one = same_lists (union_of (part ∷ [])) part (in_order-set_of (flat_map (λ p. p) (part ∷ []))) (order 0 part (omega arith))
        (λ c. union_has (part ∷ []) c ∙ sym (or_none (has part c)))
alone_keeps rule (part ∷ other ∷ parts) g low order = absurd (omega arith)

-- a property of n and of all numbers below n is a property of all numbers below n + 1
pub below_more : (P : ℕ → Type 0) (n : ℕ) → ((k : ℕ) → k < n → P k) → P n → (k : ℕ) → k < n + 1 → P k
below_more P n before here k low = elim (eq-or-lt_of_le (below k n low)) [
  | inl is ↦ subst P (sym is) here
  | inr less ↦ before k less
]
  where
    below : (k n : ℕ) → k < n + 1 → k ≤ n
    below k n low = omega arith

-- if no two parts share a cell, no two parts of a group do
pub members_off : (k : ℕ) (gs : List ℕ) (parts : List (List Cell)) → ShareNoCell parts → ShareNoCell (members k gs parts)
members_off k gs parts off = members_pairs (λ a b. (c : Cell) → has a c ≡ true → has b c ≡ false) k gs parts off

-- parts that share no cell are a partition of their union
pub union_partition : (parts : List (List Cell)) → ShareNoCell parts → Partition (union_of parts) parts
union_partition parts off = record { disjoint = off; union = λ c. sym (union_has parts c) }

-- ---- the group's parts among the first i + 1 parts

pub members-append : (k : ℕ) (gs : List ℕ) (parts : List (List Cell)) (g : ℕ) (part : List Cell) → length gs ≡ length parts
    → members k (gs ++ g ∷ []) (parts ++ part ∷ []) ≡ members k gs parts ++ cond (g == k) (part ∷ []) []
unfolding members
members-append k [] [] g part same = refl
members-append k [] (p ∷ ps) g part same = absurd (omega arith)
members-append k (h ∷ gs) [] g part same = absurd (omega arith)
members-append k (h ∷ gs) (p ∷ ps) g part same =
    members-cons k h (gs ++ g ∷ []) p (ps ++ part ∷ [])
    ∙ go (h == k) (members-append k gs ps g part (omega arith))
    ∙ ap (λ (ms : List (List Cell)). ms ++ cond (g == k) (part ∷ []) []) (sym (members-cons k h gs p ps))
  where
    go : (b : Bool) → members k (gs ++ g ∷ []) (ps ++ part ∷ []) ≡ members k gs ps ++ cond (g == k) (part ∷ []) []
        → cond b (p ∷ members k (gs ++ g ∷ []) (ps ++ part ∷ [])) (members k (gs ++ g ∷ []) (ps ++ part ∷ []))
        ≡ cond b (p ∷ members k gs ps) (members k gs ps) ++ cond (g == k) (part ∷ []) []
    go true more = ap (λ (ms : List (List Cell)). p ∷ ms) more
    go false more = more

members_more : (k : ℕ) (gs : List ℕ) (parts : List (List Cell)) (i : ℕ) (d : List Cell) → i < length parts → length gs ≡ length parts
    → members k (take (i + 1) gs) (take (i + 1) parts)
    ≡ members k (take i gs) (take i parts) ++ cond (get_or gs i 0 == k) (get_or parts i d ∷ []) []
members_more k gs parts i d low same =
    let there : i < length gs = subst (λ (n : ℕ). i < n) (sym same) low in
    (λ j. members k (take_more gs i 0 there j) (take_more parts i d low j))
    ∙ members-append k (take i gs) (take i parts) (get_or gs i 0) (get_or parts i d)
    (length_take gs i there ∙ sym (length_take parts i low))
  where
    length_take : {X : Type 0} (xs : List X) (i : ℕ) → i < length xs → length (take i xs) ≡ i
    length_take xs i h = length-take-le i xs (omega arith)

-- `members_other`: if part i isn't in group k, the parts of group k among the first i + 1 parts are the same as among
-- the first i parts; `members_one`: if part i is in group k, it is added to them
pub members_other : (k : ℕ) (gs : List ℕ) (parts : List (List Cell)) (i : ℕ) → i < length parts → length gs ≡ length parts → get_or gs i 0 ≢ k
    → members k (take (i + 1) gs) (take (i + 1) parts) ≡ members k (take i gs) (take i parts)
members_other k gs parts i low same ne =
    let other : (get_or gs i 0 == k) ≡ false = false_unless (get_or gs i 0 == k) (λ e. ne (eqb-true _ _ e)) in
    members_more k gs parts i [] low same
    ∙ ap (λ (b : Bool). members k (take i gs) (take i parts) ++ cond b (get_or parts i [] ∷ []) []) other
    ∙ append-nil (members k (take i gs) (take i parts))

pub members_one : (k : ℕ) (gs : List ℕ) (parts : List (List Cell)) (i : ℕ) (d : List Cell) → i < length parts → length gs ≡ length parts
    → get_or gs i 0 ≡ k → members k (take (i + 1) gs) (take (i + 1) parts) ≡ members k (take i gs) (take i parts) ++ get_or parts i d ∷ []
members_one k gs parts i d low same is =
    members_more k gs parts i d low same
    ∙ ap (λ (b : Bool). members k (take i gs) (take i parts) ++ cond b (get_or parts i d ∷ []) []) ((Decides-eqb _ _).1 is)
