-- Parts that lie apart now: the next generation of their union is the union of their next generations.
use Rattle.std.proofs.Common.{◌≡◌, ◌≢◌, ◌∙◌, ◌+◌, ◌<◌, ◌≤◌, ◌⊎◌, ◌||◌, ap, sym, refl, subst, inl, inr, ℕ, zero, suc, Bool, true, false, List, [], ◌∷◌, All, AllPairs, arith, get_or, length, map}
use Rattle.std.specs.List.{list_any}
use Rattle.std.proofs.lemmas.List.{get_or_default, get_or-map, length-map}
use Rattle.std.proofs.lemmas.List.Elements.{recursion_from_All}
use Rattle.plane_core.specs.declared.plane.bounds.Bounds.{Bounds}
use Rattle.plane_core.specs.declared.plane.cell.Cell.{Cell}
use Rattle.plane_core.specs.plane.Bounds.{IsWithin}
use Rattle.plane_core.specs.plane.Cells.{InOrder, has, king_distance}
use Rattle.plane_core.specs.clusters.Clusters.{LieApart, Partition}
use Rattle.plane_core.specs.plane.Generations.{after, next}
use Rattle.plane_core.specs.plane.Rules.{Numbers}
use Rattle.plane_core.proofs.lemmas.plane.CaseLemmas.{less_or_not, same_or_not}
use Rattle.plane_core.proofs.lemmas.plane.GenerationLemmas.{after-none}
use Rattle.plane_core.proofs.lemmas.plane.PartLemmas.{far-lives, false_unless, lives-local, near-after, triangle, turned}
use Rattle.plane_core.proofs.lemmas.plane.RunLemmas.{after-plus}
use Rattle.plane_core.proofs.lemmas.plane.SetLemmas.{has-all, in_order-set_of}
use Rattle.plane_core.proofs.lemmas.plane.SpeedLemmas.{after-suc}
use Rattle.code_core.proofs.MovedCodes.{in_order-after}
use Rattle.survey_core.specs.declared.rest.alone.Alone.{Alone}
use Rattle.survey_core.specs.rest.Alone.{LiesApartFrom, latest_of, stepped}
use Rattle.survey_core.specs.rest.Groups.{union_of}
use Rattle.survey_core.specs.rest.Rest.{KeepApart}
use Rattle.survey_core.proofs.lemmas.PartitionLemmas.{joined, set_of-joined}
use Rattle.survey_core.proofs.lemmas.rest.GroupLemmas.{AddUp, LaterOff, NoneNear, SomeNear, adds_at_once, keeps_from, list_any-none, next_at, none_next, none_or_some, union_has}

-- ---- boxes that lie apart

pub apart_by_boxes : (one other : List Cell) (a b : Bounds) → All (IsWithin a) one → All (IsWithin b) other
    → ((c d : Cell) → IsWithin a c → IsWithin b d → 3 ≤ king_distance c d) → LieApart one other
apart_by_boxes one other a b in_one in_other far c d h k =
    far c d (has-all (IsWithin a) one c (recursion_from_All (IsWithin a) one in_one) h)
    (has-all (IsWithin b) other d (recursion_from_All (IsWithin b) other in_other) k)

-- each of the first n cells is at king distance 3 or more from each cell of `others`
abbrev pub AreFar : ℕ → List Cell → List Cell → Type 0
AreFar n cells others = (i : ℕ) (c d : Cell) → i < n → has others d ≡ true → 3 ≤ king_distance (get_or cells i c) d

pub is_far_more : (cell : Cell) (others : List Cell) (n : ℕ) (e : Cell) → n < length others → 3 ≤ king_distance cell (get_or others n e)
    → ((k : ℕ) (d : Cell) → k < n → 3 ≤ king_distance cell (get_or others k d)) → (k : ℕ) (d : Cell) → k < n + 1 → 3 ≤ king_distance cell (get_or others k d)
is_far_more cell others n e low far before k d less = elim (same_or_not k n) [
  | inl same ↦ subst (λ (x : Cell). 3 ≤ king_distance cell x) (get_or_default others n e d low ∙ ap (λ (j : ℕ). get_or others j d) (sym same)) far
  | inr other ↦ before k d (omega (arith, less, other))
]

pub far_more : (n : ℕ) (cells others : List Cell) (e : Cell) → n < length cells → AreFar n cells others
    → All (λ other. 3 ≤ king_distance (get_or cells n e) other) others → AreFar (n + 1) cells others
far_more n cells others e low before far i c d less h = elim (same_or_not i n) [
  | inl same ↦
      subst (λ (x : Cell). 3 ≤ king_distance x d) (get_or_default cells n e c low ∙ ap (λ (k : ℕ). get_or cells k c) (sym same))
      (has-all (λ other. 3 ≤ king_distance (get_or cells n e) other) others d
      (recursion_from_All (λ other. 3 ≤ king_distance (get_or cells n e) other) others far) h)
  | inr other ↦ before i c d (omega (arith, less, other)) h
]

pub all_far : (n : ℕ) (cells others : List Cell) → length cells ≤ n → AreFar n cells others → LieApart cells others
all_far n cells others long far c d h k =
    has-all (λ cell. 3 ≤ king_distance cell d) cells c
    (recursion_from_All (λ cell. 3 ≤ king_distance cell d) cells (λ i e low. far i e d (omega (arith, long, low)) k)) h

-- any two of the first n clusters lie apart
abbrev pub LieApartUpTo : ℕ → List Alone → Type 0
LieApartUpTo n list = (i j : ℕ) (d : Alone) → i < j → j < n → LieApart (get_or list i d).latest (get_or list j d).latest

pub apart_one_more : (n : ℕ) (list : List Alone) → LieApartUpTo n list → LiesApartFrom n n list → LieApartUpTo (n + 1) list
apart_one_more n list before here i j d less low = elim (same_or_not j n) [
  | inl same ↦
      subst (λ (k : ℕ). LieApart (get_or list i d).latest (get_or list k d).latest) (sym same) (here i d (omega (arith, less, same)))
  | inr other ↦ before i j d less (omega (arith, low, other))
]

pub apart_from_more : (n m : ℕ) (list : List Alone) (here there : Alone) → n < length list → m < length list → here ≡ get_or list n here → there ≡ get_or list m there
    → LieApart there.latest here.latest → LiesApartFrom n m list → LiesApartFrom n (m + 1) list
apart_from_more n m list here there low also is_here is_there apart before i d less = elim (same_or_not i m) [
  | inl same ↦
      let first : there ≡ get_or list i d = is_there ∙ get_or_default list m there d also ∙ ap (λ (k : ℕ). get_or list k d) (sym same) in
      let second : here ≡ get_or list n d = is_here ∙ get_or_default list n here d low in
      subst (λ (a : Alone). LieApart a.latest (get_or list n d).latest) first (subst (λ (a : Alone). LieApart there.latest a.latest) second apart)
  | inr other ↦ before i d (omega (arith, less, other))
]

nobody : Alone
nobody = record { cluster = []; first = []; latest = [] }

pub all_apart : (n : ℕ) (list : List Alone) → length list ≤ n → LieApartUpTo n list → AllPairs LieApart (latest_of list)
all_apart n list long apart i j d less low =
    let there : j < length list = subst (λ (m : ℕ). j < m) (length-map list (λ (a : Alone). a.latest)) low in
    subst (λ (S : List Cell). LieApart S (get_or (latest_of list) j d)) (sym (get_or-map (λ (a : Alone). a.latest) list i nobody d (omega arith)))
    (subst (LieApart (get_or list i nobody).latest) (sym (get_or-map (λ (a : Alone). a.latest) list j nobody d there)) (apart i j nobody less (omega arith)))

-- ---- one generation

or_false : (a : Bool) → (a || false) ≡ a
or_false true = refl
or_false false = refl

-- if only the part at place k can pass a test, some part passes if and only if the part at place k does
list_any-only : (p : List Cell → Bool) (parts : List (List Cell)) (k : ℕ) → k < length parts
    → ((j : ℕ) (d : List Cell) → j < length parts → j ≢ k → p (get_or parts j d) ≡ false) → list_any p parts ≡ p (get_or parts k [])
list_any-only p [] k low none = absurd (omega arith)
list_any-only p (part ∷ parts) zero low none =
    ap (λ (b : Bool). p part || b) (list_any-none p parts (λ j d there. none (suc j) d (omega arith) (omega arith))) ∙ or_false (p part)
list_any-only p (part ∷ parts) (suc k) low none =
    ap (λ (b : Bool). b || list_any p parts) (none 0 part (omega arith) (omega arith))
    ∙ list_any-only p parts k (omega arith) (λ j d there ne. none (suc j) d (omega arith) (omega (arith, ne)))

module _ (rule : Numbers) (parts : List (List Cell)) (order : All InOrder parts) (apart : AllPairs LieApart parts)
  where
    far : (i j : ℕ) (d : List Cell) → i < length parts → j < length parts → i ≢ j → LieApart (get_or parts i d) (get_or parts j d)
    far i j d low high ne = go (less_or_not i j)
      where
        go : (i < j) ⊎ (j ≤ i) → LieApart (get_or parts i d) (get_or parts j d)
        go (inl less) = apart i j d less high
        go (inr more) = λ c e in_one in_other.
            let back : 3 ≤ king_distance e c = apart j i d (omega (arith, more, ne)) low e c in_other in_one in
            let same : king_distance e c ≡ king_distance c e = turned e c in
            omega (arith, back, same)

    -- a cell that is near one part now is far from the other parts
    others_far : (c : Cell) (s : SomeNear rule parts 0 c) (j : ℕ) (d : List Cell) → j < length parts → j ≢ s.place → (e : Cell)
        → has (after rule (get_or parts j d) 0) e ≡ true → 2 ≤ king_distance c e
    others_far c s j d there ne e h =
        let one : has (get_or parts s.place d) s.cell ≡ true =
        ap (λ (S : List Cell). has S s.cell) (get_or_default parts s.place d [] s.within ∙ sym (after-none rule (get_or parts s.place []))) ∙ s.alive in
        let other : has (get_or parts j d) e ≡ true = ap (λ (S : List Cell). has S e) (sym (after-none rule (get_or parts j d))) ∙ h in
        let wide : 3 ≤ king_distance s.cell e = far s.place j d s.within there (λ is. ne (sym is)) s.cell e one other in
        let back : king_distance s.cell c ≡ king_distance c s.cell = turned s.cell c in
        let near : king_distance c s.cell ≤ 1 = s.near in
        let across : king_distance s.cell e ≤ 1 + king_distance c e = triangle s.cell c e 1 (king_distance c e) (omega arith) (omega arith) in
        omega (arith, wide, across)

    whole : List Cell
    whole = union_of parts

    start : AddUp rule (union_of parts) parts 0
    start = adds_at_once rule (union_of parts) parts (λ c. sym (union_has parts c))

    adds : AddUp rule (union_of parts) parts 1
    adds c = go (none_or_some rule parts 0 c)
      where
        go : NoneNear rule parts 0 c ⊎ SomeNear rule parts 0 c → has (after rule (union_of parts) 1) c ≡ list_any (λ part. has (after rule part 1) c) parts
        go (inl none) = none_next rule (union_of parts) parts 0 c start none
        go (inr s) =
            let part : List Cell = get_or parts s.place [] in
            next_at rule (union_of parts) 0 c
            ∙ lives-local rule (after rule (union_of parts) 0) (after rule (get_or parts s.place []) 0) c
            (in_order-after rule (union_of parts) 0 (in_order-set_of (joined parts)))
            (in_order-after rule (get_or parts s.place []) 0 (order s.place [] s.within))
            (λ d near. start d ∙ list_any-only (λ part. has (after rule part 0) d) parts s.place s.within
            (λ j e there ne. false_unless (has (after rule (get_or parts j e) 0) d) (λ h.
            let out : 2 ≤ king_distance c d = others_far c s j e there ne d h in absurd (omega (arith, out, near)))))
            ∙ sym (next_at rule (get_or parts s.place []) 0 c)
            ∙ sym (list_any-only (λ part. has (after rule part 1) c) parts s.place s.within
            (λ j e there ne. next_at rule (get_or parts j e) 0 c
            ∙ far-lives rule c (after rule (get_or parts j e) 0) (λ d h. others_far c s j e there ne d h)))

    off : AllPairs (LaterOff rule 1) parts
    off i j d less low c h =
        false_unless (has (after rule (get_or parts j d) 1) c) (λ k.
        let one = near-after rule (get_or parts i d) 1 c h in
        let other = near-after rule (get_or parts j d) 1 c k in
        let wide : 3 ≤ king_distance one.0 other.0 = apart i j d less low one.0 other.0 one.1 other.1 in
        let back : king_distance one.0 c ≡ king_distance c one.0 = turned one.0 c in
        let first : king_distance c one.0 ≤ 1 = one.2 in
        let across : king_distance one.0 other.0 ≤ 1 + 1 = triangle one.0 c other.0 1 1 (omega (arith, back, first)) other.2 in
        omega (arith, wide, across))

    pub apart_keeps : KeepApart rule (union_of parts) parts 1
    apart_keeps = keeps_from rule (union_of parts) parts 1 adds off

-- ---- from generation g to generation g + 1

-- if clusters keep apart, the union of their generations g is generation g of the whole
pub union_is : (rule : Numbers) (cells : List Cell) (clusters latest : List (List Cell)) (g : ℕ) → InOrder cells → latest ≡ map (λ part. after rule part g) clusters
    → KeepApart rule cells clusters g → union_of latest ≡ after rule cells g
union_is rule cells clusters latest g order is kept =
    set_of-joined (after rule cells g) latest (in_order-after rule cells g order) (subst (Partition (after rule cells g)) (sym is) kept)

pub later_parts : (rule : Numbers) (g : ℕ) (clusters latest : List (List Cell)) → latest ≡ map (λ part. after rule part g) clusters
    → map (λ part. after rule part 1) latest ≡ map (λ part. after rule part (g + 1)) clusters
later_parts rule g clusters latest is = ap (map (λ part. after rule part 1)) is ∙ each clusters
  where
    each : (parts : List (List Cell)) → map (λ part. after rule part 1) (map (λ part. after rule part g) parts) ≡ map (λ part. after rule part (g + 1)) parts
    each [] = refl
    each (part ∷ parts) = λ i. after-plus rule part g 1 i ∷ each parts i

-- clusters keep apart in generation g + 1 if and only if `latest`, the same clusters in generation g, keep apart one
-- generation later
pub record AreOneLater (rule : Numbers) (cells : List Cell) (clusters latest : List (List Cell)) (g : ℕ) : Type 0 where
  pub there : KeepApart rule (union_of latest) latest 1 → KeepApart rule cells clusters (g + 1)
  pub back : KeepApart rule cells clusters (g + 1) → KeepApart rule (union_of latest) latest 1

pub one_later : (rule : Numbers) (cells : List Cell) (clusters latest : List (List Cell)) (g : ℕ) → InOrder cells → latest ≡ map (λ part. after rule part g) clusters
    → KeepApart rule cells clusters g → AreOneLater rule cells clusters latest g
one_later rule cells clusters latest g order is kept = record {
  there = λ k. subst (Partition (after rule cells (g + 1))) parts (subst (λ (w : List Cell). Partition w (map (λ part. after rule part 1) latest)) whole k);
  back = λ k. subst (λ (w : List Cell). Partition w (map (λ part. after rule part 1) latest)) (sym whole) (subst (Partition (after rule cells (g + 1))) (sym parts) k);
}
  where
    parts : map (λ part. after rule part 1) latest ≡ map (λ part. after rule part (g + 1)) clusters
    parts = later_parts rule g clusters latest is

    whole : after rule (union_of latest) 1 ≡ after rule cells (g + 1)
    whole = ap (λ (S : List Cell). after rule S 1) (union_is rule cells clusters latest g order is kept) ∙ after-plus rule cells g 1

-- ---- lists of `Alone`

after-one : (rule : Numbers) (S : List Cell) → after rule S 1 ≡ next rule S
after-one rule S = after-suc rule S 0 ∙ ap (next rule) (after-none rule S)

pub stepped_latest : (rule : Numbers) (list new : List Alone) → new ≡ map (stepped rule) list → latest_of new ≡ map (λ part. after rule part 1) (latest_of list)
stepped_latest rule list new is = ap latest_of is ∙ each list
  where
    each : (some : List Alone) → latest_of (map (stepped rule) some) ≡ map (λ part. after rule part 1) (latest_of some)
    each [] = refl
    each (alone ∷ more) = λ i. sym (after-one rule alone.latest) i ∷ each more i

-- the clusters, as they are now, keep apart in the next generation if and only if `latest_of new`, their next
-- generations, is a partition of `later`, the next generation of their union
pub record ArePartsLater (rule : Numbers) (list new : List Alone) (later : List Cell) : Type 0 where
  pub in_order : InOrder later
  pub there : Partition later (latest_of new) → KeepApart rule (union_of (latest_of list)) (latest_of list) 1
  pub back : KeepApart rule (union_of (latest_of list)) (latest_of list) 1 → Partition later (latest_of new)

pub parts_later : (rule : Numbers) (list new : List Alone) (later : List Cell) → new ≡ map (stepped rule) list → later ≡ next rule (union_of (latest_of list))
    → ArePartsLater rule list new later
parts_later rule list new later is at = record {
  in_order = subst InOrder (sym whole) (in_order-after rule (union_of (latest_of list)) 1 (in_order-set_of (joined (latest_of list))));
  there = λ p. subst (Partition (after rule (union_of (latest_of list)) 1)) parts (subst (λ (w : List Cell). Partition w (latest_of new)) whole p);
  back = λ k. subst (λ (w : List Cell). Partition w (latest_of new)) (sym whole) (subst (Partition (after rule (union_of (latest_of list)) 1)) (sym parts) k);
}
  where
    parts : latest_of new ≡ map (λ part. after rule part 1) (latest_of list)
    parts = stepped_latest rule list new is

    whole : later ≡ after rule (union_of (latest_of list)) 1
    whole = at ∙ sym (after-one rule (union_of (latest_of list)))
