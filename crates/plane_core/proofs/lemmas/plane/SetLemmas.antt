-- Ordered lists of cells as finite sets.
use Rattle.std.proofs.Common.{◌≡◌, Bool, true, false, ◌||◌, List, [], ◌∷◌, ◌++◌, arith, cond, refl, ap, ◌∙◌, sym, subst, filter, ◌&&◌, inl, inr, ◌⊎◌}
use Rattle.std.specs.List.{AllByRecursion}
use Rattle.std.specs.List.Sorted.{IsStrictlySortedBy}
use Rattle.std.specs.Cmp.{both_ways as both_true}
use Rattle.std.specs.List.{Contains}
use Rattle.std.proofs.lemmas.List.Elements.{Contains-append_cases, Contains-push_cases, Contains-append_left, Contains-append_right, Contains-push}
use Rattle.std.specs.Ordering.{ordering_reverse, match_ordering}
use Rattle.std.specs.declared.cmp.Ordering.{Ordering}
use Rattle.std.specs.declared.cmp.Ordering.TheVariants.{Less, Equal, Greater}
use Rattle.std.proofs.lemmas.Bool.{false≢true, or_cases}
use Rattle.plane_core.specs.declared.plane.cell.Cell.{Cell}
use Rattle.plane_core.specs.plane.Cells.{cell_cmp, same_cell, has, InOrder, put, set_of}
use Rattle.std.proofs.lemmas.List.Kept.{IsStrictlySortedBy-filter}
use Rattle.plane_core.proofs.lemmas.plane.CellLemmas.{cell_cmp_total, cell_cmp-same, same_cell-itself, same_cell-same}

-- the cells of the list come after c
abbrev pub IsBefore : Cell → List Cell → Type 0
IsBefore c ds = AllByRecursion (λ d. cell_cmp c d ≡ Less) ds

pub in_order-head : (c : Cell) (cs : List Cell) → InOrder (c ∷ cs) → IsBefore c cs
unfolding IsStrictlySortedBy
in_order-head c cs o = o.0

pub in_order-tail : (c : Cell) (cs : List Cell) → InOrder (c ∷ cs) → InOrder cs
unfolding IsStrictlySortedBy
in_order-tail c cs o = o.1

pub in_order-cons : (c : Cell) (cs : List Cell) → IsBefore c cs → InOrder cs → InOrder (c ∷ cs)
unfolding IsStrictlySortedBy
in_order-cons c cs h o = (h, o)

pub in_order-nil : InOrder []
unfolding IsStrictlySortedBy
in_order-nil = tt

-- a cell that comes before c comes before the cells after c
pub before-trans : (b c : Cell) (ds : List Cell) → cell_cmp b c ≡ Less → IsBefore c ds → IsBefore b ds
before-trans b c [] e h = tt
before-trans b c (d ∷ ds) e h = (cell_cmp_total.trans b c d e h.0, before-trans b c ds e h.1)

-- a cell of a nonempty list is its head or in its tail
pub has-cases : (d : Cell) (ds : List Cell) (c : Cell) → has (d ∷ ds) c ≡ true → (c ≡ d) ⊎ (has ds c ≡ true)
has-cases d ds c e = elim (or_cases (same_cell c d) (has ds c) e) [ inl s ↦ inl (same_cell-same c d s) | inr s ↦ inr s ]

pub has-head : (d : Cell) (ds : List Cell) → has (d ∷ ds) d ≡ true
has-head d ds = rw (same_cell-itself d) refl

-- if `AllByRecursion` holds for a property and a list, the property holds for each cell for which `has` is true
pub has-all : (P : Cell → Type 0) (cs : List Cell) (c : Cell) → AllByRecursion P cs → has cs c ≡ true → P c
has-all P [] c all e = absurd (false≢true e)
has-all P (d ∷ ds) c all e =
    elim (has-cases d ds c e) [ inl s ↦ subst P (sym s) all.0 | inr s ↦ has-all P ds c all.1 s ]

pub or_right : (a b : Bool) → b ≡ true → (a || b) ≡ true
or_right true b e = refl
or_right false b e = e

-- if a property holds for each cell for which `has` is true, `AllByRecursion` holds for the property and the list
pub all-has : (P : Cell → Type 0) (cs : List Cell) → ((c : Cell) → has cs c ≡ true → P c) → AllByRecursion P cs
all-has P [] h = tt
all-has P (d ∷ ds) h =
    (h d (has-head d ds), all-has P ds (λ c e. h c (or_right (same_cell c d) (has ds c) e)))

-- a cell before all cells of a list isn't a member
pub has-before : (c : Cell) (ds : List Cell) → IsBefore c ds → has ds c ≡ false
has-before c [] h = refl
has-before c (d ∷ ds) h = rw (h.0, has-before c ds h.1) refl

-- two ordered lists with the same members are equal
pub same_lists : (S T : List Cell) → InOrder S → InOrder T → ((c : Cell) → has S c ≡ has T c) → S ≡ T
same_lists [] [] o p h = refl
same_lists [] (t ∷ ts) o p h = absurd (false≢true (h t ∙ has-head t ts))
same_lists (s ∷ ss) [] o p h = absurd (false≢true (sym (h s) ∙ has-head s ss))
same_lists (s ∷ ss) (t ∷ ts) o p h = go (cell_cmp s t) refl (same_lists ss ts (in_order-tail s ss o) (in_order-tail t ts p))
  where
    absent : (c d : Cell) (ds : List Cell) → InOrder (d ∷ ds) → cell_cmp c d ≡ Less → has (d ∷ ds) c ≡ false
    absent c d ds o e = has-before c (d ∷ ds) (e, before-trans c d ds e (in_order-head d ds o))

    turned : (o : Ordering) → Greater ≡ ordering_reverse o → o ≡ Less
    turned Less e = refl
    turned Equal e = cc
    turned Greater e = cc

    tails : s ≡ t → (c : Cell) → has ss c ≡ has ts c
    tails e c = part (cell_cmp c s) refl
      where
        part : (r : Ordering) → cell_cmp c s ≡ r → has ss c ≡ has ts c
        part Equal is =
            let c_is = cell_cmp-same c s is in
            rw (c_is, has-before s ss (in_order-head s ss o)) (sym (rw e (has-before t ts (in_order-head t ts p))))
        part Less is = rw is at (rw (← e) at (h c))
        part Greater is = rw is at (rw (← e) at (h c))

    go : (r : Ordering) → cell_cmp s t ≡ r → (((c : Cell) → has ss c ≡ has ts c) → ss ≡ ts) → s ∷ ss ≡ t ∷ ts
    go Less is more = absurd (false≢true (sym (absent s t ts p is) ∙ sym (h s) ∙ has-head s ss))
    go Greater is more = absurd (false≢true (sym (absent t s ss o (turned (cell_cmp t s) (sym is ∙ cell_cmp_total.antisymm s t))) ∙ h t ∙ has-head t ts))
    go Equal is more = let e = cell_cmp-same s t is in rw (e, more (tails e)) refl

or_swap : (a b c : Bool) → (a || (b || c)) ≡ (b || (a || c))
or_swap true true c = refl
or_swap true false c = refl
or_swap false b c = refl

or_again : (a b : Bool) → (a || b) ≡ (a || (a || b))
or_again true b = refl
or_again false b = refl

or_assoc : (a b c : Bool) → ((a || b) || c) ≡ (a || (b || c))
or_assoc true b c = refl
or_assoc false b c = refl

-- after c is inserted into a list, the members of the list are c and the members that it had before
pub has-put : (c : Cell) (ds : List Cell) (x : Cell) → has (put c ds) x ≡ (same_cell x c || has ds x)
has-put c [] x = refl
has-put c (d ∷ ds) x = go (cell_cmp c d) refl (has-put c ds x)
  where
    go : (o : Ordering) → cell_cmp c d ≡ o → has (put c ds) x ≡ (same_cell x c || has ds x)
        → has (match_ordering o (c ∷ d ∷ ds) (d ∷ ds) (d ∷ put c ds)) x ≡ (same_cell x c || (same_cell x d || has ds x))
    go Less is ih = refl
    go Equal is ih = rw (cell_cmp-same c d is) (or_again (same_cell x d) (has ds x))
    go Greater is ih = ap (λ b. same_cell x d || b) ih ∙ or_swap (same_cell x d) (same_cell x c) (has ds x)

pub greater_turned : (c d : Cell) → cell_cmp c d ≡ Greater → cell_cmp d c ≡ Less
greater_turned c d e = turned (cell_cmp d c) (sym e ∙ cell_cmp_total.antisymm c d)
  where
    turned : (o : Ordering) → Greater ≡ ordering_reverse o → o ≡ Less
    turned Less e = refl
    turned Equal e = cc
    turned Greater e = cc

before-put : (b c : Cell) (ds : List Cell) → cell_cmp b c ≡ Less → IsBefore b ds → IsBefore b (put c ds)
before-put b c [] e h = (e, tt)
before-put b c (d ∷ ds) e h = go (cell_cmp c d) (before-put b c ds e h.1)
  where
    go : (o : Ordering) → IsBefore b (put c ds) → IsBefore b (match_ordering o (c ∷ d ∷ ds) (d ∷ ds) (d ∷ put c ds))
    go Less ih = (e, h)
    go Equal ih = h
    go Greater ih = (h.0, ih)

pub in_order-put : (c : Cell) (ds : List Cell) → InOrder ds → InOrder (put c ds)
in_order-put c [] o = in_order-cons c [] tt in_order-nil
in_order-put c (d ∷ ds) o = go (cell_cmp c d) refl (in_order-put c ds (in_order-tail d ds o))
  where
    go : (r : Ordering) → cell_cmp c d ≡ r → InOrder (put c ds) → InOrder (match_ordering r (c ∷ d ∷ ds) (d ∷ ds) (d ∷ put c ds))
    go Less is ih = in_order-cons c (d ∷ ds) (is, before-trans c d ds is (in_order-head d ds o)) o
    go Equal is ih = o
    go Greater is ih = in_order-cons d (put c ds) (before-put d c ds (greater_turned c d is) (in_order-head d ds o)) ih

pub in_order-set_of : (cs : List Cell) → InOrder (set_of cs)
in_order-set_of [] = in_order-nil
in_order-set_of (c ∷ cs) = in_order-put c (set_of cs) (in_order-set_of cs)

pub has-set_of : (cs : List Cell) (x : Cell) → has (set_of cs) x ≡ has cs x
has-set_of [] x = refl
has-set_of (c ∷ cs) x = has-put c (set_of cs) x ∙ ap (λ b. same_cell x c || b) (has-set_of cs x)

-- an ordered list that has the same members as another list is the set of the other list
pub is_set_of : (S cs : List Cell) → InOrder S → ((c : Cell) → has S c ≡ has cs c) → S ≡ set_of cs
is_set_of S cs o h = same_lists S (set_of cs) o (in_order-set_of cs) (λ c. h c ∙ sym (has-set_of cs c))

pub has-append : (cs ds : List Cell) (x : Cell) → has (cs ++ ds) x ≡ (has cs x || has ds x)
has-append [] ds x = refl
has-append (c ∷ cs) ds x = ap (λ b. same_cell x c || b) (has-append cs ds x) ∙ sym (or_assoc (same_cell x c) (has cs x) (has ds x))

pub in_order-filter : (p : Cell → Bool) (cs : List Cell) → InOrder cs → InOrder (filter p cs)
in_order-filter p cs o = IsStrictlySortedBy-filter cell_cmp p cs o

-- the members of a filtered list are the members of the list that pass the test
pub has-filter : (p : Cell → Bool) (cs : List Cell) (x : Cell) → has (filter p cs) x ≡ (has cs x && p x)
has-filter p [] x = refl
has-filter p (c ∷ cs) x = go (p c) refl (has-filter p cs x)
  where
    same : (b : Bool) → same_cell x c ≡ b → (r : Bool) → p c ≡ r → (h k : Bool) → h ≡ (k && p x) → cond r (b || h) h ≡ ((b || k) && p x)
    same true s true pc h k e = rw (same_cell-same x c s, pc) refl
    same true s false pc h k e = rw (same_cell-same x c s, pc) (e ∙ rw (same_cell-same x c s, pc) (and-false k))
      where
        and-false : (a : Bool) → (a && false) ≡ false
        and-false true = refl
        and-false false = refl
    same false s true pc h k e = e
    same false s false pc h k e = e

    go : (r : Bool) → p c ≡ r → has (filter p cs) x ≡ (has cs x && p x) → has (cond r (c ∷ filter p cs) (filter p cs)) x ≡ ((same_cell x c || has cs x) && p x)
    go true pc ih = same (same_cell x c) refl true pc (has (filter p cs) x) (has cs x) ih
    go false pc ih = same (same_cell x c) refl false pc (has (filter p cs) x) (has cs x) ih

pub Contains-has : (cs : List Cell) (c : Cell) → Contains cs c → has cs c ≡ true
Contains-has [] c h = absurd (omega (arith, h.1))
Contains-has (d ∷ ds) c h = elim (Contains-append_cases (d ∷ []) ds c h) [
  | inl one ↦ is_head (Contains-push_cases [] d c one)
  | inr more ↦ or_right
      (same_cell c d) (has ds c) (Contains-has ds c more)
]
  where
    is_head : Contains [] c ⊎ (d ≡ c) → has (d ∷ ds) c ≡ true
    is_head (inl none) = absurd (omega (arith, none.1))
    is_head (inr same) = rw same (has-head c ds)

pub has-Contains : (cs : List Cell) (c : Cell) → has cs c ≡ true → Contains cs c
has-Contains [] c h = absurd (false≢true h)
has-Contains (d ∷ ds) c h = elim (has-cases d ds c h) [
  | inl same ↦ rw same (Contains-append_left (d ∷ []) ds d (Contains-push [] d))
  | inr
      more ↦ Contains-append_right (d ∷ []) ds c (has-Contains ds c more)
]

-- if two lists have the same cells by `Contains`, they have the same cells by `has`
pub same_members : (cs ds : List Cell) → ((c : Cell) → Contains cs c → Contains ds c) → ((c : Cell) → Contains ds c → Contains cs c) → (c : Cell)
    → has cs c ≡ has ds c
same_members cs ds f g c = both_true (has cs c) (has ds c) (λ e. Contains-has ds c (f c (has-Contains cs c e)))
    (λ e. Contains-has cs c (g c (has-Contains ds c e)))
