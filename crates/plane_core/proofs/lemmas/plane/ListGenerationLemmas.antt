-- How the next generation is read from the sorted list of all cells' neighbourhoods, run by run. A run consists of
-- equal cells.
use Rattle.std.proofs.Common.{◌≡◌, ℕ, ◌+◌, ◌<◌, ◌≤◌, Bool, true, false, List, [], ◌∷◌, ◌++◌, arith, suc, cond, refl, ap, ◌∙◌, sym, subst}
use Rattle.std.proofs.Common.{filter, get_or, length, drop, append-nil, append_assoc, add-zero, Fits, w8, pos, set, take, length-set}
use mathlib.Core.Bool.{beq}
use Rattle.std.specs.List.{AllByRecursion, dedup, dedup_from, flat_map, sum_by}
use Rattle.std.specs.List.Sorted.{IsPermutation, IsSorted}
use Rattle.std.specs.Cmp.{eq_by_cmp_equiv}
use Rattle.std.specs.Ordering.{is_eq, is_lt}
use Rattle.std.specs.declared.cmp.Ordering.{Ordering}
use Rattle.std.specs.declared.cmp.Ordering.TheVariants.{Less, Equal, Greater}
use Rattle.std.proofs.lemmas.Bool.{false≢true}
use Rattle.std.proofs.lemmas.List.{drop_more, drop_all, drop-set-lt, take_more_set}
use Rattle.std.proofs.lemmas.List.Sorted.{sum_by-IsPermutation}
use Rattle.std.proofs.lemmas.List.Sums.{sum_by-cons}
use Rattle.plane_core.specs.declared.plane.cell.Cell.{Cell}
use Rattle.plane_core.specs.plane.Cells.{cell_at, cell_cmp, same_cell, has, InOrder}
use Rattle.plane_core.specs.plane.Generations.{around, lives, lives_by, neighbourhood, next}
use Rattle.plane_core.specs.plane.Rules.{Numbers}
use Rattle.plane_core.proofs.lemmas.plane.CellLemmas.{cell_cmp_total, same_cell-same, same_cell-itself}
use Rattle.plane_core.proofs.lemmas.plane.SetLemmas.{IsBefore, greater_turned}
use Rattle.plane_core.proofs.lemmas.plane.SearchLemmas.{deduped-set_of}
use Rattle.plane_core.proofs.lemmas.plane.NeighbourhoodLemmas.{neighbourhood_total-around, times, times-neighbourhoods}
use Rattle.plane_core.proofs.lemmas.plane.GenerationLemmas.{lives_by-around, times_once}

-- ---- how often a list has a cell

times-sum : (cs : List Cell) (c : Cell) → times cs c ≡ sum_by (λ d. cond (same_cell c d) 1 0) cs
times-sum [] c = refl
times-sum (d ∷ ds) c = ap (λ (n : ℕ). cond (same_cell c d) 1 0 + n) (times-sum ds c) ∙ sym (sum_by-cons (λ d. cond (same_cell c d) 1 0) d ds)

-- a permutation of a list contains each cell as often as the list does
times-moved : (cs ds : List Cell) (c : Cell) → IsPermutation cs ds → times ds c ≡ times cs c
times-moved cs ds c moved = times-sum ds c ∙ sum_by-IsPermutation _ cs ds moved ∙ sym (times-sum cs c)

times-before : (c : Cell) (ds : List Cell) → IsBefore c ds → times ds c ≡ 0
times-before c [] h = refl
times-before c (d ∷ ds) h =
    let apart : cond {A = ℕ} (same_cell c d) 1 0 ≡ 0 = ap (λ o. cond {A = ℕ} (is_eq o) 1 0) h.0 in
    omega (arith, apart, times-before c ds h.1)

-- a cell occurs at most nine times in the list of neighbourhoods
pub nine_at_most : (S : List Cell) (c : Cell) → InOrder S → times (flat_map neighbourhood S) c ≤ 9
nine_at_most S c o =
    sum (times-neighbourhoods S c ∙ sym (neighbourhood_total-around S c)) (one _) (one _) (one _) (one _) (one _) (one _) (one _) (one _) (one _)
  where
    one : (d : Cell) → times S d ≤ 1
    one d = rw (times_once S d o) (elim (has S d) as (λ b. cond b 1 0 ≤ 1) [ true ↦ omega arith | false ↦ omega arith ])

    sum : {n a1 a2 a3 a4 a5 a6 a7 a8 a9 : ℕ} → n ≡ (a1 + (a2 + a3)) + ((a4 + (a5 + a6)) + (a7 + (a8 + a9)))
        → a1 ≤ 1 → a2 ≤ 1 → a3 ≤ 1 → a4 ≤ 1 → a5 ≤ 1 → a6 ≤ 1 → a7 ≤ 1 → a8 ≤ 1 → a9 ≤ 1 → n ≤ 9
    sum e p1 p2 p3 p4 p5 p6 p7 p8 p9 = omega (arith, e, p1, p2, p3, p4, p5, p6, p7, p8, p9)

-- ---- runs

-- the run of c continues in the list that follows c
abbrev pub goes_on : Cell → List Cell → Bool
goes_on c [] = false
goes_on c (d ∷ ds) = same_cell d c

-- one cell for each run whose length passes the test; n cells of the first run are already counted
abbrev pub picked : (Cell → ℕ → Bool) → ℕ → List Cell → List Cell
picked p n [] = []
picked p n (c ∷ cs) = cond (goes_on c cs) (picked p (n + 1) cs) (cond (p c (n + 1)) (c ∷ picked p 0 cs) (picked p 0 cs))

-- no run is longer than nine; n cells of the first run are already counted
abbrev pub AreShort : ℕ → List Cell → Type 0
AreShort n [] = Unit {0}
AreShort n (c ∷ cs) = (n < 9) × AreShort (cond (goes_on c cs) (n + 1) 0) cs

-- how often e is in the list c ∷ cs, plus n if e is c: n cells of the first run are already counted
abbrev in_all : ℕ → Cell → List Cell → Cell → ℕ
in_all n c cs e = times (c ∷ cs) e + cond (same_cell e c) n 0

one_on : (b : Bool) (n t : ℕ) → (cond b 1 0 + t) + cond b (n + 1) 0 ≡ (cond b 1 0 + (cond b 1 0 + t)) + cond b n 0
one_on true n t = omega arith
one_on false n t = omega arith

none_on : (b : Bool) (t : ℕ) → t + cond b 0 0 ≡ t
none_on true t = add-zero t
none_on false t = add-zero t

in_all-more : (n : ℕ) (c d : Cell) (ds : List Cell) (e : Cell) → d ≡ c → in_all (n + 1) d ds e ≡ in_all n c (d ∷ ds) e
in_all-more n c d ds e same =
    subst (λ (x : Cell). in_all (n + 1) x ds e ≡ in_all n c (x ∷ ds) e) (sym same) (one_on (same_cell e c) n (times ds e))

in_all-head : (n : ℕ) (c : Cell) (cs : List Cell) → in_all n c cs c ≡ 1 + times cs c + n
in_all-head n c cs = ap (λ b. (cond b 1 0 + times cs c) + cond b n 0) (same_cell-itself c)

pub are_short : (n : ℕ) (c : Cell) (cs : List Cell) → ((e : Cell) → in_all n c cs e ≤ 9) → AreShort n (c ∷ cs)
are_short n c [] few = (omega (arith, few c, in_all-head n c []), tt)
are_short n c (d ∷ ds) few = (
  omega (arith, few c, in_all-head n c (d ∷ ds)),
  go (same_cell d c) refl (are_short (n + 1) d ds) (are_short 0 d ds),
)
  where
    go : (b : Bool) → same_cell d c ≡ b → (((e : Cell) → in_all (n + 1) d ds e ≤ 9) → AreShort (n + 1) (d ∷ ds))
        → (((e : Cell) → in_all 0 d ds e ≤ 9) → AreShort 0 (d ∷ ds)) → AreShort (cond b (n + 1) 0) (d ∷ ds)
    go true is more new = more (λ e. omega (arith, few e, in_all-more n c d ds e (same_cell-same d c is)))
    go false is more new = new (λ e. omega (arith, few e, none_on (same_cell e d) (times (d ∷ ds) e)))

-- `made`, followed by the cells that are picked from the rest, is `all`
pub record IsTallied (p : Cell → ℕ → Bool) (n : ℕ) (rest made all : List Cell) : Type 0 where
  pub short : AreShort n rest
  pub told : made ++ picked p n rest ≡ all

-- a place before `end` is inside a list whose length is `end`
pub inside : (i end len : ℕ) → i < end → len ≡ end → i < len
inside i end len low whole = omega (arith, low, whole)

pub past : (i end len : ℕ) → end ≤ i → len ≡ end → len ≤ i
past i end len high whole = omega (arith, high, whole)

pub fits_one_more : (n : ℕ) → n < 9 → Fits w8 (n + 1)
fits_one_more n low = record { fits = omega (arith, low) }

-- the cell at place i is the first cell of the list from i on
left_from : (near : List Cell) (i : ℕ) (d c : Cell) → i < length near → c ≡ get_or near i d → drop i near ≡ c ∷ drop (i + 1) near
left_from near i d c low is = drop_more near i d low ∙ ap (λ (x : Cell). x ∷ drop (i + 1) near) (sym is)

-- a run continues exactly if the next cell is equal
pub next_tells : (near : List Cell) (i : ℕ) (c d e : Cell) (b : Bool) → i + 1 < length near → d ≡ get_or near (i + 1) e → same_cell d c ≡ b
    → goes_on c (drop (i + 1) near) ≡ b
next_tells near i c d e b low is same = ap (goes_on c) (left_from near (i + 1) e d low is) ∙ same

pub list_ends : (near : List Cell) (i : ℕ) (c : Cell) → length near ≤ i + 1 → goes_on c (drop (i + 1) near) ≡ false
list_ends near i c all = ap (goes_on c) (drop_all (i + 1) near all)

further : (p : Cell → ℕ → Bool) (n : ℕ) (c : Cell) (cs left made all : List Cell) → left ≡ c ∷ cs → goes_on c cs ≡ true
    → IsTallied p n left made all → IsTallied p (n + 1) cs made all
further p n c cs left made all is on t =
    let t : IsTallied p n (c ∷ cs) made all = subst (λ (xs : List Cell). IsTallied p n xs made all) is t in
    record {
      short = subst (λ b. AreShort (cond b (n + 1) 0) cs) on t.short.1;
      told = ap (λ b. made ++ cond b (picked p (n + 1) cs) (cond (p c (n + 1)) (c ∷ picked p 0 cs) (picked p 0 cs))) (sym on) ∙ t.told;
    }

tested : (p : Cell → ℕ → Bool) (n : ℕ) (c : Cell) (cs left made all : List Cell) → left ≡ c ∷ cs → goes_on c cs ≡ false
    → IsTallied p n left made all → IsTallied p 0 cs (made ++ cond (p c (n + 1)) (c ∷ []) []) all
tested p n c cs left made all is off t =
    let t : IsTallied p n (c ∷ cs) made all = subst (λ (xs : List Cell). IsTallied p n xs made all) is t in
    record {
      short = subst (λ b. AreShort (cond b (n + 1) 0) cs) off t.short.1;
      told = joined (p c (n + 1))
          ∙ ap (λ b. made ++ cond b (picked p (n + 1) cs) (cond (p c (n + 1)) (c ∷ picked p 0 cs) (picked p 0 cs))) (sym off)
          ∙ t.told;
    }
  where
    joined : (b : Bool) → (made ++ cond b (c ∷ []) []) ++ picked p 0 cs ≡ made ++ cond b (c ∷ picked p 0 cs) (picked p 0 cs)
    joined true = append_assoc made (c ∷ []) (picked p 0 cs)
    joined false = ap (λ (xs : List Cell). xs ++ picked p 0 cs) (append-nil made)

-- the `kept` cells at the front of the list, followed by the cells that are picked from `place` on, are `all`
pub record IsKept (p : Cell → ℕ → Bool) (n kept place end : ℕ) (near all : List Cell) : Type 0 where
  pub whole : length near ≡ end
  pub prefix : kept ≤ place
  pub tallied : IsTallied p n (drop place near) (take kept near) all

pub count_low : (p : Cell → ℕ → Bool) (n kept place end : ℕ) (near all : List Cell) → place < end → IsKept p n kept place end near all → n < 9
count_low p n kept place end near all low k =
    (subst (AreShort n) (drop_more near place (cell_at (pos 0) (pos 0)) (omega (arith, low, k.whole))) k.tallied.short).0

-- if the run of the cell at `place` continues, one more of its cells has been counted
pub kept_further : (p : Cell → ℕ → Bool) (n kept place end : ℕ) (near all : List Cell) (c d : Cell) → place < end → IsKept p n kept place end near all
    → c ≡ get_or near place d → goes_on c (drop (place + 1) near) ≡ true → IsKept p (n + 1) kept (place + 1) end near all
kept_further p n kept place end near all c d low k is on = record {
  whole = k.whole;
  prefix = omega (arith, k.prefix);
  tallied = further p n c (drop (place + 1) near) (drop place near) (take kept near) all (left_from near place d c (omega (arith, low, k.whole)) is) on k.tallied;
}

-- a run ends: its cell is kept if it passes the test, and otherwise dropped
pub kept_more : (p : Cell → ℕ → Bool) (n kept place end : ℕ) (near all : List Cell) (c d : Cell) → place < end → IsKept p n kept place end near all
    → c ≡ get_or near place d → goes_on c (drop (place + 1) near) ≡ false → p c (n + 1) ≡ true
    → IsKept p 0 (kept + 1) (place + 1) end (set near kept c) all
kept_more p n kept place end near all c d low k is off passes =
    let t = tested p n c (drop (place + 1) near) (drop place near) (take kept near) all (left_from near place d c (omega (arith, low, k.whole)) is) off k.tallied in
    record {
      whole = length-set near kept c ∙ k.whole;
      prefix = omega (arith, k.prefix);
      tallied = rw (
        drop-set-lt (place + 1) near kept c (omega (arith, k.prefix)),
        take_more_set near kept c (omega (arith, k.prefix, low, k.whole)),
      ) (subst (λ b. IsTallied p 0 (drop (place + 1) near) (take kept near ++ cond b (c ∷ []) []) all) passes t);
    }

pub kept_same : (p : Cell → ℕ → Bool) (n kept place end : ℕ) (near all : List Cell) (c d : Cell) → place < end → IsKept p n kept place end near all
    → c ≡ get_or near place d → goes_on c (drop (place + 1) near) ≡ false → p c (n + 1) ≡ false → IsKept p 0 kept (place + 1) end near all
kept_same p n kept place end near all c d low k is off fails =
    let t = tested p n c (drop (place + 1) near) (drop place near) (take kept near) all (left_from near place d c (omega (arith, low, k.whole)) is) off k.tallied in
    record {
      whole = k.whole;
      prefix = omega (arith, k.prefix);
      tallied = subst (λ (xs : List Cell). IsTallied p 0 (drop (place + 1) near) xs all) (append-nil (take kept near))
          (subst (λ b. IsTallied p 0 (drop (place + 1) near) (take kept near ++ cond b (c ∷ []) []) all) fails t);
    }

-- at the end of the list, the kept cells are `all`
pub kept_all : (p : Cell → ℕ → Bool) (n kept place end : ℕ) (near all : List Cell) → end ≤ place → IsKept p n kept place end near all → take kept near ≡ all
kept_all p n kept place end near all past k =
    sym (append-nil (take kept near))
    ∙ ap (λ (xs : List Cell). take kept near ++ picked p n xs) (sym (drop_all place near (omega (arith, past, k.whole)))) ∙ k.tallied.told

-- ---- a sorted list

abbrev Rises : Cell → List Cell → Type 0
Rises c [] = Unit {0}
Rises c (d ∷ ds) = (is_lt (cell_cmp d c) ≡ false) × Rises d ds

rises : (c : Cell) (cs : List Cell) → IsSorted cell_cmp (c ∷ cs) → Rises c cs
rises c [] s = tt
rises c (d ∷ ds) s = (
  s 0 c (omega arith) (omega arith),
  rises d ds (λ k e low high.
      let next : suc k + 1 ≡ suc (k + 1) = omega arith in
      subst (λ (n : ℕ). is_lt (cell_cmp (get_or (c ∷ d ∷ ds) n e) (get_or (d ∷ ds) k e)) ≡ false) next (s (suc k) e (omega arith) (omega arith))),
)

not_less : (c d : Cell) → is_lt (cell_cmp d c) ≡ false → same_cell d c ≡ false → cell_cmp c d ≡ Less
not_less c d low other = go (cell_cmp d c) refl low other
  where
    go : (o : Ordering) → cell_cmp d c ≡ o → is_lt o ≡ false → is_eq o ≡ false → cell_cmp c d ≡ Less
    go Less is low other = absurd (false≢true (sym low))
    go Equal is low other = absurd (false≢true (sym other))
    go Greater is low other = greater_turned d c is

-- a cell before the first cell of a sorted list is before all its cells
before-rises : (c d : Cell) (ds : List Cell) → cell_cmp c d ≡ Less → Rises d ds → IsBefore c (d ∷ ds)
before-rises c d [] less r = (less, tt)
before-rises c d (e ∷ es) less r = (less, before-rises c e es (past (same_cell e d) refl) r.1)
  where
    past : (b : Bool) → same_cell e d ≡ b → cell_cmp c e ≡ Less
    past true is = subst (λ (x : Cell). cell_cmp c x ≡ Less) (sym (same_cell-same e d is)) less
    past false is = cell_cmp_total.trans c d e less (not_less d e r.0 is)

before-dedup : (c d : Cell) (ds : List Cell) → IsBefore c (d ∷ ds) → IsBefore c (dedup_from same_cell d ds)
before-dedup c d [] h = h
before-dedup c d (e ∷ es) h = go (same_cell e d) (before-dedup c d es (h.0, h.1.1)) (before-dedup c e es h.1)
  where
    go : (b : Bool) → IsBefore c (dedup_from same_cell d es) → IsBefore c (dedup_from same_cell e es)
        → IsBefore c (cond b (dedup_from same_cell d es) (d ∷ dedup_from same_cell e es))
    go true same other = same
    go false same other = (h.0, other)

filter-same : (f g : Cell → Bool) (cs : List Cell) → AllByRecursion (λ c. f c ≡ g c) cs → filter f cs ≡ filter g cs
filter-same f g [] h = refl
filter-same f g (c ∷ cs) h = λ i. cond (h.0 i) (c ∷ filter-same f g cs h.1 i) (filter-same f g cs h.1 i)

-- a cell of a sorted list is picked exactly if it passes the test with its number of occurrences
picked-filter : (p : Cell → ℕ → Bool) (n : ℕ) (c : Cell) (cs : List Cell) → Rises c cs
    → picked p n (c ∷ cs) ≡ filter (λ e. p e (in_all n c cs e)) (dedup_from same_cell c cs)
picked-filter p n c [] r = ap (λ (k : ℕ). cond (p c k) (c ∷ []) []) (omega (arith, in_all-head n c []))
picked-filter p n c (d ∷ ds) r = go (same_cell d c) refl (picked-filter p (n + 1) d ds r.1) (picked-filter p 0 d ds r.1)
  where
    all : Cell → Bool
    all e = p e (in_all n c (d ∷ ds) e)

    go : (b : Bool) → same_cell d c ≡ b → picked p (n + 1) (d ∷ ds) ≡ filter (λ e. p e (in_all (n + 1) d ds e)) (dedup_from same_cell d ds)
        → picked p 0 (d ∷ ds) ≡ filter (λ e. p e (in_all 0 d ds e)) (dedup_from same_cell d ds)
        → cond b (picked p (n + 1) (d ∷ ds)) (cond (p c (n + 1)) (c ∷ picked p 0 (d ∷ ds)) (picked p 0 (d ∷ ds)))
        ≡ filter all (cond b (dedup_from same_cell c ds) (c ∷ dedup_from same_cell d ds))
    go true is more new =
        let same = same_cell-same d c is in
        more ∙ (λ i. filter (λ e. p e (in_all-more n c d ds e same i)) (dedup_from same_cell (same i) ds))
    go false is more new =
        let before : IsBefore c (d ∷ ds) = before-rises c d ds (not_less c d r.0 is) r.1 in
        let count : n + 1 ≡ in_all n c (d ∷ ds) c = omega (arith, in_all-head n c (d ∷ ds), times-before c (d ∷ ds) before) in
        let rest : picked p 0 (d ∷ ds) ≡ filter all (dedup_from same_cell d ds) =
        new ∙ filter-same _ all (dedup_from same_cell d ds) (others (dedup_from same_cell d ds) (before-dedup c d ds before)) in
        λ i. cond (p c (count i)) (c ∷ rest i) (rest i)
      where
        others : (es : List Cell) → IsBefore c es → AllByRecursion (λ e. p e (in_all 0 d ds e) ≡ all e) es
        others [] h = tt
        others (e ∷ es) h = (
          ap (p e) (none_on (same_cell e d) (times (d ∷ ds) e) ∙ sym (apart (same_cell e c) (not_same h.0))),
          others es h.1,
        )
          where
            not_same : cell_cmp c e ≡ Less → same_cell e c ≡ false
            not_same less = (eq_by_cmp_equiv cell_cmp_total).symm e c ∙ ap is_eq less

            apart : (b : Bool) → b ≡ false → (cond b 1 0 + times (d ∷ ds) e) + cond b n 0 ≡ times (d ∷ ds) e
            apart true is = absurd (false≢true (sym is))
            apart false is = omega arith

-- ---- the next generation

-- whether a cell is alive in the next generation if it occurs n times in the list of neighbourhoods
abbrev pub lives_in : Numbers → List Cell → Cell → ℕ → Bool
lives_in rule S c n = lives_by rule n (has S c)

-- if `stays` and `born` are equal, the result doesn't depend on whether the cell is alive
pub all_one : (alive stays born : Bool) → beq stays born ≡ true → cond alive stays born ≡ born
all_one false stays born e = refl
all_one true true true e = refl
all_one true true false e = absurd (false≢true e)
all_one true false true e = absurd (false≢true e)
all_one true false false e = refl

-- if `stays` and `born` differ, the result is whether `alive` equals `stays`
pub just_one : (alive stays born : Bool) → beq stays born ≡ false → cond alive stays born ≡ beq alive stays
just_one true true born e = refl
just_one true false born e = refl
just_one false true true e = absurd (false≢true (sym e))
just_one false true false e = refl
just_one false false true e = refl
just_one false false false e = absurd (false≢true (sym e))

-- the cells picked from the sorted list of neighbourhoods are the next generation
pub picked-next : (rule : Numbers) (S near : List Cell) → InOrder S → IsPermutation (flat_map neighbourhood S) near → IsSorted cell_cmp near
    → picked (lives_in rule S) 0 near ≡ next rule S
unfolding next
picked-next rule S near o moved sorted =
    all near sorted moved ∙ (λ i. filter (λ c. by_count c i) (deduped-set_of same_cell (flat_map neighbourhood S) near (λ a b. refl) moved sorted i))
  where
    by_count : (c : Cell) → lives_in rule S c (times near c) ≡ lives rule S c
    by_count c = ap (λ (n : ℕ). lives_by rule n (has S c)) (times-moved (flat_map neighbourhood S) near c moved ∙ times-neighbourhoods S c
        ∙ ap (λ (n : ℕ). around S c + n) (times_once S c o)) ∙ lives_by-around rule S c (has S c)

    all : (cs : List Cell) → IsSorted cell_cmp cs → IsPermutation (flat_map neighbourhood S) cs
        → picked (lives_in rule S) 0 cs ≡ filter (λ c. lives_in rule S c (times cs c)) (dedup same_cell cs)
    all [] s m = refl
    all (c ∷ cs) s m = picked-filter (lives_in rule S) 0 c cs (rises c cs s)
        ∙ (λ i. filter (λ e. lives_in rule S e (none_on (same_cell e c) (times (c ∷ cs) e) i)) (dedup_from same_cell c cs))

pub short_runs : (S near : List Cell) → InOrder S → IsPermutation (flat_map neighbourhood S) near → AreShort 0 near
short_runs S near o moved = go near (λ c. omega (arith, times-moved (flat_map neighbourhood S) near c moved, nine_at_most S c o))
  where
    go : (cs : List Cell) → ((c : Cell) → times cs c ≤ 9) → AreShort 0 cs
    go [] few = tt
    go (c ∷ cs) few = are_short 0 c cs (λ e. omega (arith, few e, none_on (same_cell e c) (times (c ∷ cs) e)))

-- before the first cell is read, no cell is kept, and the cells that are picked from the list are the next generation
pub none_kept : (rule : Numbers) (S near : List Cell) (end : ℕ) → InOrder S → IsPermutation (flat_map neighbourhood S) near → IsSorted cell_cmp near
    → length near ≡ end → IsKept (lives_in rule S) 0 0 0 end near (next rule S)
none_kept rule S near end o moved sorted whole = record {
  whole = whole;
  prefix = omega arith;
  tallied = record { short = short_runs S near o moved; told = picked-next rule S near o moved sorted };
}
