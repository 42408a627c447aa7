-- Counting objects by their codes, and multiples of their periods.
use Rattle.std.proofs.Common.{◌≡◌, ◌∙◌, ap, sym, refl, subst, ℕ, ◌+◌, ◌*◌, ◌/◌, ◌%◌, ◌<◌, ◌≤◌, ◌↔◌, add-zero, zero-add, mul_comm, nat_eq, Bool, true}
use Rattle.std.proofs.Common.{false, sum, IsTrue, inl, inr, ◌≢◌, zero, suc, cond, List, [], ◌∷◌, ◌++◌, take, get_or, count_by, length, None, Option, Some, IfSome, unwrap_or, arith}
use Rattle.std.proofs.Common.{if◌then◌else◌}
use Rattle.std.specs.BTreeMap.{BTreeMap, IsOrdered, insert_entry}
use Rattle.std.specs.Cmp.Lexicographic.{nat_list_cmp_total, slice_cmp}
use Rattle.std.specs.FinMap.{nat_cmp-IsAntisymmetric, slice_cmp-IsAntisymmetric}
use Rattle.std.specs.List.{AllZip}
use Rattle.std.specs.Map.{lookup, set_value, values_of}
use Rattle.std.specs.Option.{option_map}
use Rattle.std.proofs.lemmas.Map.Entries.{sum_by-insert_entry, sum_by-set_value}
use Rattle.std.proofs.lemmas.Iterator.Adapters.{option_map_id}
use Rattle.std.specs.Ordering.{is_eq, nat_cmp, ordering_reverse}
use Rattle.std.specs.declared.cmp.Ordering.{Ordering}
use Rattle.std.specs.declared.cmp.Ordering.TheVariants.{Less, Equal, Greater}
use Prim.Native.Nat.{◌∣◌}
use Rattle.std.proofs.lemmas.Bool.{cases_lt}
use Rattle.std.proofs.lemmas.Bool.Decides.{Decides-eqb}
use Rattle.std.proofs.lemmas.List.{get_or-take, length-append, length-take-le, take-take, take_more}
use Rattle.std.proofs.lemmas.List.Elements.{All-more, All-take}
use Rattle.std.proofs.lemmas.Nat.Gcd.{dvd_trans}
use Rattle.std.proofs.lemmas.List.Sums.{sum_by-append}
use Rattle.std.proofs.lemmas.Map.Views.{All-found}
use Rattle.std.proofs.Math.Nat.{div-add-mod, le-div_iff_mul-le, mul-le-mul_right, dvd-mod_iff, dvd-mul_left, dvd_iff_mod-eq-zero, mod-lt, mul-mod_left}
use Rattle.plane_core.specs.declared.plane.cell.Cell.{Cell}
use Rattle.plane_core.proofs.lemmas.plane.CaseLemmas.{same_or_not}
use Rattle.plane_core.specs.plane.Rules.{Numbers}
use Rattle.code_core.specs.Names.{IsCode}
use Rattle.survey_core.specs.shapes.Objects.{AreObjects, CountsAreSome, IsCommonMultiple, IsLeastCommonMultiple, IsMultiple, IsOneMore, count_of, is_code, period_in}

-- m is a multiple of n if and only if it is 0 modulo n
pub multiple_then : (m n : ℕ) → IsTrue (nat_eq (m % n) 0) ↔ IsMultiple m n
multiple_then m n = (
  λ e. (m / n, sym (div-add-mod m n) ∙ ap (λ (remainder : ℕ). n * (m / n) + remainder) ((Decides-eqb (m % n) 0).0 e) ∙ add-zero (n * (m / n)) ∙ mul_comm n (m / n)),
  λ (k, is). (Decides-eqb (m % n) 0).1 (ap (λ (x : ℕ). x % n) is ∙ mul-mod_left k n),
)

divides : (m n : ℕ) → IsMultiple m n → n ∣ m
divides m n (k, is) = subst (λ (x : ℕ). n ∣ x) (sym is) (dvd-mul_left n k)

divided : (m n : ℕ) → n ∣ m → IsMultiple m n
divided m n d = (multiple_then m n).0 ((Decides-eqb (m % n) 0).1 ((dvd_iff_mod-eq-zero n).0 d))

-- every common multiple is a multiple of the least one
pub multiple_of_least : (objects : List (List ℕ × ℕ)) (l m : ℕ) → IsLeastCommonMultiple objects l → IsCommonMultiple objects m
    → IsMultiple m l
multiple_of_least objects l m is common = divided m l ((dvd_iff_mod-eq-zero l).1 none)
  where
    -- if the remainder m % l isn't 0, it is a common multiple, too
    smaller : (m % l ≢ 0) → IsCommonMultiple objects (m % l)
    smaller some = record {
      some = omega (arith, some);
      each = λ i d low. divided (m % l) _ ((dvd-mod_iff _ (divides l _ (is.common.each i d low))).1 (divides m _ (common.each i d low)));
    }

    none : m % l ≡ 0
    none = elim (same_or_not (m % l) 0) [
      | inl is_zero ↦ is_zero
      | inr some ↦ absurd (let low = is.least (m % l) (smaller some) in let high = mod-lt m is.common.some in omega (arith, low, high))
    ]

-- if p divides none of the first b multiples of n, each positive common multiple of n and p is at least (b + 1) * n
pub first_common : (n p b : ℕ) → ((j : ℕ) → j < b → ¬ IsMultiple ((j + 1) * n) p) → (m : ℕ) → 1 ≤ m → IsMultiple m n
    → IsMultiple m p → (b + 1) * n ≤ m
first_common n p b none m some (k, is) of_period = go k is
  where
    after : (k : ℕ) → suc k ≡ k + 1
    after k = omega arith

    go : (k : ℕ) → m ≡ k * n → (b + 1) * n ≤ m
    go zero is = absurd (grind (arith, some, is))
    go (suc k) is = elim (cases_lt k b) [
      | inl low ↦ absurd (none k low (subst (λ (x : ℕ). IsMultiple x p) (is ∙ ap (λ (x : ℕ). x * n) (after k)) of_period))
      | inr high ↦ subst (λ (x : ℕ). (b + 1) * n ≤ x) (sym is) (mul-le-mul_right n (omega (arith, high)))
    ]

-- if p divides none of the first b multiples of n, and these include all multiples of n up to `most`, each positive
-- common multiple of n and p is greater than `most`
pub none_common : (n p b most : ℕ) → 1 ≤ n → most / n ≤ b → ((j : ℕ) → j < b → ¬ IsMultiple ((j + 1) * n) p) → (m : ℕ) → 1 ≤ m
    → IsMultiple m n → IsMultiple m p → most < m
none_common n p b most positive all none m some of_one of_period = elim (cases_lt most m) [
  | inl past ↦ past
  | inr low ↦ absurd (
      let first = first_common n p b none m some of_one of_period in
      let within : b + 1 ≤ most / n = (le-div_iff_mul-le positive).1 (omega (arith, first, low)) in
      omega (arith, within, all))
]

-- a common multiple of the periods of a list of objects is a common multiple of the periods of the first i objects
pub common_before : (objects : List (List ℕ × ℕ)) (i m : ℕ) → IsCommonMultiple objects m → IsCommonMultiple (take i objects) m
common_before objects i m common =
    record { some = common.some; each = All-take (λ object. IsMultiple m (period_in object.0)) i objects common.each }

-- if `one` is the least common multiple of the periods of the first i objects, the least common multiple of `one` and
-- the period of object i is the least common multiple of the periods of the first i + 1 objects
pub least_more : (objects : List (List ℕ × ℕ)) (i one next : ℕ) (item : List ℕ × ℕ) → i < length objects → item ≡ get_or objects i item
    → IsLeastCommonMultiple (take i objects) one → 1 ≤ next → IsMultiple next one → IsMultiple next (period_in item.0)
    → ((m : ℕ) → 1 ≤ m → IsMultiple m one → IsMultiple m (period_in item.0) → next ≤ m)
    → IsLeastCommonMultiple (take (i + 1) objects) next
least_more objects i one next item low there is some of_one of_item first = record {
  common = record {
    some = some;
    each = All-more (λ object. IsMultiple next (period_in object.0)) objects i item low
        (λ k d below. divided next _ (dvd_trans _ (divides one _ (is.common.each k d below)) (divides next one of_one)))
        (subst (λ (object : List ℕ × ℕ). IsMultiple next (period_in object.0)) there of_item);
  };
  least = λ m common. first m common.some
      (multiple_of_least (take i objects) one m is (subst (λ (some : List (List ℕ × ℕ)). IsCommonMultiple some m) (take_less common) (common_before (take (i + 1) objects) i m common)))
      (subst (λ (object : List ℕ × ℕ). IsMultiple m (period_in object.0)) (get_or-take (i + 1) objects i item (omega arith) ∙ sym there)
      (common.each i item (subst (λ (n : ℕ). i < n) (sym (length-take-le (i + 1) objects (omega (arith, low)))) (omega arith))));
}
  where
    take_less : {m : ℕ} → IsCommonMultiple (take (i + 1) objects) m → take i (take (i + 1) objects) ≡ take i objects
    take_less _ = take-take i (i + 1) objects (omega arith)

-- ---- codes and their counts

-- two texts that compare as equal are equal
pub same_code : (a b : List ℕ) → slice_cmp nat_cmp a b ≡ Equal → a ≡ b
same_code a b e = slice_cmp-IsAntisymmetric nat_cmp-IsAntisymmetric a b e

-- `is_code` is symmetric
pub is_code-sym : (a b : List ℕ) → is_code a b ≡ is_code b a
is_code-sym a b = ap is_eq (nat_list_cmp_total.antisymm a b) ∙ turned (slice_cmp nat_cmp b a)
  where
    turned : (o : Ordering) → is_eq (ordering_reverse o) ≡ is_eq o
    turned Less = refl
    turned Equal = refl
    turned Greater = refl

-- if the count of code k was `before` and is set to `before` + 1, one more object with code k is counted
pub counted_more : (old new : List (List ℕ × ℕ)) (k : List ℕ) (before : ℕ)
    → ((q : List ℕ) → lookup (is_code q) new ≡ cond (is_code k q) (Some (before + 1)) (lookup (is_code q) old))
    → before ≡ count_of old k → (q : List ℕ) → count_of new q ≡ count_of old q + (if is_code q k then 1 else 0)
counted_more old new k before updates is q = go (slice_cmp nat_cmp k q) refl
  where
    miss : is_code k q ≡ false → count_of new q ≡ count_of old q + (if is_code q k then 1 else 0)
    miss other =
        ap (λ (o : Option ℕ). unwrap_or o 0) (updates q ∙ ap (λ (b : Bool). cond b (Some (before + 1)) (lookup (is_code q) old)) other)
        ∙ sym (add-zero (count_of old q)) ∙ ap (λ (b : Bool). count_of old q + (if b then 1 else 0)) (sym (is_code-sym q k ∙ other))

    go : (o : Ordering) → slice_cmp nat_cmp k q ≡ o → count_of new q ≡ count_of old q + (if is_code q k then 1 else 0)
    go Equal e =
        let hit : is_code k q ≡ true = ap is_eq e in
        let told : count_of new q ≡ before + 1 = ap (λ (o : Option ℕ). unwrap_or o 0) (updates q
        ∙ ap (λ (b : Bool). cond b (Some (before + 1)) (lookup (is_code q) old)) hit) in
        told ∙ ap (λ (n : ℕ). n + 1) (is ∙ ap (count_of old) (same_code k q e))
        ∙ ap (λ (b : Bool). count_of old q + (if b then 1 else 0)) (sym (is_code-sym q k ∙ hit))
    go Less e = miss (ap is_eq e)
    go Greater e = miss (ap is_eq e)

-- if the count of code k is set to `before` + 1, there is still no count of 0
pub some_more : (old new : List (List ℕ × ℕ)) (k : List ℕ) (before : ℕ)
    → ((q : List ℕ) → lookup (is_code q) new ≡ cond (is_code k q) (Some (before + 1)) (lookup (is_code q) old))
    → CountsAreSome old → CountsAreSome new
some_more old new k before updates some q =
    subst (λ (o : Option ℕ). IfSome o (λ n. 1 ≤ n)) (sym (updates q)) (go (is_code k q))
  where
    go : (b : Bool) → IfSome (cond b (Some (before + 1)) (lookup (is_code q) old)) (λ n. 1 ≤ n)
    go true = omega arith
    go false = some q

-- one more object adds 1 to the sum of the counts
pub number_more : (old : BTreeMap (List ℕ) ℕ) (new : List (List ℕ × ℕ)) (k : List ℕ) (before : ℕ) → IsOrdered (slice_cmp nat_cmp) old
    → new ≡ insert_entry (slice_cmp nat_cmp) old.entries k (before + 1) → before ≡ count_of old.entries k → sum (values_of new) ≡ sum (values_of old.entries) + 1
number_more old new k before ordered is at =
    let put = sum_by-insert_entry (λ n. n) nat_list_cmp_total old.entries k (before + 1) ordered in
    let same : unwrap_or (option_map (λ (n : ℕ). n) (lookup (is_code k) old.entries)) 0 ≡ before =
    ap (λ (o : Option ℕ). unwrap_or o 0) (option_map_id (lookup (is_code k) old.entries)) ∙ sym at in
    let newer : sum (values_of new) ≡ sum (values_of (insert_entry (slice_cmp nat_cmp) old.entries k (before + 1))) =
    ap (λ (es : List (List ℕ × ℕ)). sum (values_of es)) is in
    omega (arith, put)

-- if code k has no count yet, giving it the count 1 adds one object with code k
pub first_counted : (old : BTreeMap (List ℕ) ℕ) (new : List (List ℕ × ℕ)) (k : List ℕ) → IsOrdered (slice_cmp nat_cmp) old
    → lookup (is_code k) old.entries ≡ None
    → ((q : List ℕ) → lookup (is_code q) new ≡ cond (is_code k q) (Some 1) (lookup (is_code q) old.entries))
    → new ≡ insert_entry (slice_cmp nat_cmp) old.entries k 1 → IsOneMore k old.entries new
first_counted old new k ordered none updates is = record {
  counts = counted_more old.entries new k 0 updates before;
  some = some_more old.entries new k 0 updates;
  number = number_more old new k 0 ordered is before;
}
  where
    before : 0 ≡ count_of old.entries k
    before = sym (ap (λ (o : Option ℕ). unwrap_or o 0) none)

-- if code k has a count, adding 1 to this count adds one object with code k
pub once_more : (old new : List (List ℕ × ℕ)) (k : List ℕ) (before : ℕ) → lookup (is_code k) old ≡ Some before
    → ((q : List ℕ) → lookup (is_code q) new ≡ cond (is_code k q) (Some (before + 1)) (lookup (is_code q) old))
    → new ≡ set_value (is_code k) old (before + 1) → IsOneMore k old new
once_more old new k before found updates is = record {
  counts = counted_more old new k before updates at;
  some = some_more old new k before updates;
  number =
      let put = sum_by-set_value (λ n. n) (is_code k) old before (before + 1) found in
      let newer : sum (values_of new) ≡ sum (values_of (set_value (is_code k) old (before + 1))) = ap (λ (es : List (List ℕ × ℕ)). sum (values_of es)) is in
      omega (arith, put);
}
  where
    at : before ≡ count_of old k
    at = sym (ap (λ (o : Option ℕ). unwrap_or o 0) found)

-- the entries of an ordered map without counts of 0 are a list of objects
pub entries_are_objects : (counts : BTreeMap (List ℕ) ℕ) → IsOrdered (slice_cmp nat_cmp) counts → CountsAreSome counts.entries → AreObjects counts.entries
entries_are_objects counts ordered some = record {
  in_order = ordered;
  some = λ k d low. subst (λ (o : Option ℕ). IfSome o (λ n. 1 ≤ n)) (All-found nat_list_cmp_total counts ordered k d low) (some (get_or counts.entries k d).0);
}

-- ---- clusters and their codes, one after another

zip_more : (rule : Numbers) (limit : ℕ) (clusters : List (List Cell)) (codes : List (List ℕ)) (cluster : List Cell) (code : List ℕ)
    → AllZip (λ cluster code. IsCode rule cluster limit code) clusters codes → IsCode rule cluster limit code
    → AllZip (λ cluster code. IsCode rule cluster limit code) (clusters ++ cluster ∷ []) (codes ++ code ∷ [])
zip_more rule limit [] [] cluster code all is = (is, tt)
zip_more rule limit [] (y ∷ ys) cluster code all is = absurd all
zip_more rule limit (x ∷ xs) [] cluster code all is = absurd all
zip_more rule limit (x ∷ xs) (y ∷ ys) cluster code all is = (all.0, zip_more rule limit xs ys cluster code all.1 is)

pub codes_more : (rule : Numbers) (limit : ℕ) (clusters : List (List Cell)) (i : ℕ) (cluster : List Cell) (codes : List (List ℕ)) (code : List ℕ)
    → i < length clusters → cluster ≡ get_or clusters i cluster
    → AllZip (λ cluster code. IsCode rule cluster limit code) (take i clusters) codes → IsCode rule cluster limit code
    → AllZip (λ cluster code. IsCode rule cluster limit code) (take (i + 1) clusters) (codes ++ code ∷ [])
codes_more rule limit clusters i cluster codes code low at all is =
    subst (λ (prefix : List (List Cell)). AllZip (λ cluster code. IsCode rule cluster limit code) prefix (codes ++ code ∷ []))
    (sym (take_more clusters i cluster low))
    (zip_more rule limit (take i clusters) codes (get_or clusters i cluster) code all (subst (λ (x : List Cell). IsCode rule x limit code) at is))

pub length_more : (codes : List (List ℕ)) (code : List ℕ) (n : ℕ) → length codes ≡ n → length (codes ++ code ∷ []) ≡ n + 1
length_more codes code n is = length-append codes (code ∷ []) ∙ ap (λ (m : ℕ). m + 1) is

pub count_by_more : (p : List ℕ → Bool) (codes : List (List ℕ)) (code : List ℕ) → count_by p (codes ++ code ∷ []) ≡ count_by p codes + (if p code then 1 else 0)
count_by_more p codes code = sum_by-append (λ x. cond (p x) 1 0) codes (code ∷ []) ∙ ap (λ (n : ℕ). count_by p codes + n) (zero-add (cond (p code) 1 0))
