-- How the answers of a rule, which say whether a cell is alive next, are computed in each lane of a vector.
use Rattle.std.proofs.Common.{◌≡◌, ◌==◌, ◌+◌, ◌-◌, ◌*◌, ◌%◌, ◌<◌, ◌≤◌, ℕ, zero, suc, Bool, true, false, cond, List, length, replicate, slice_index}
use Rattle.std.proofs.Common.{◌≢◌, ◌⊎◌, inl, inr, get_or, set, get_or-set_same, get_or-set_other}
use Rattle.std.proofs.Common.{arith, refl, ap, ◌∙◌, sym, bit_and, bit_or, bit_xor, max, min}
use Rattle.std.specs.Int.{bit_at}
use Rattle.std.proofs.lemmas.Nat.Bits.{bit_at_and, bit_at_or, bit_at_xor, bit_at-lt}
use Rattle.std.proofs.lemmas.Simd.{get_or-replicate}
use Rattle.plane_core.specs.windows.LaneSums.{bit_of, sum_of, total_of, AnswersRows, AreBeside}
use Rattle.plane_core.specs.plane.Rules.{Numbers, is_birth, is_survival}
use Rattle.plane_core.specs.plane.Generations.{lives_by}
use Rattle.plane_core.specs.windows.Words.{one_if, life}
use Rattle.plane_core.specs.declared.windows.lane_sums.RowSums.{RowSums}
use Rattle.plane_core.specs.declared.windows.lane_sums.Sum.{Sum}
use Rattle.plane_core.specs.declared.windows.lane_sums.Total.{Total}
use Rattle.plane_core.proofs.lemmas.plane.CaseLemmas.{same_or_not}
use Rattle.plane_core.proofs.lemmas.windows.LaneLemmas.{lane_of, four_lanes}
use Rattle.plane_core.proofs.lemmas.windows.WordLemmas.{life_digits, one_of_four}
use lib.Lanes.{zip2}
use Rattle.plane_core.proofs.lemmas.Between.{AnswersNeighbours, AnswersTotal}

-- three sums of rows, each with two binary digits, add up to nine at most
pub sums_small : (up here down : Sum) (j i : ℕ) → sum_of up j i + sum_of here j i + sum_of down j i ≤ 9
sums_small up here down j i = omega (arith, small up, small here, small down)
  where
    small : (s : Sum) → sum_of s j i ≤ 3
    small s = omega (arith, bit_at-lt (slice_index s.ones j) i, bit_at-lt (slice_index s.twos j) i)

-- a cell's next state is the answer for births, negated if the cell is alive and the answer for survival differs
by_change : (b s : Bool) (t : ℕ) → t < 2 → (one_if b + min ((one_if b + one_if s) % 2) t) % 2 ≡ one_if (cond (t == 1) s b)
by_change true true zero low = refl
by_change true true (suc zero) low = refl
by_change true false zero low = refl
by_change true false (suc zero) low = refl
by_change false true zero low = refl
by_change false true (suc zero) low = refl
by_change false false zero low = refl
by_change false false (suc zero) low = refl
by_change b s (suc (suc t)) low = absurd (omega arith)

lives_by-cond : (rule : Numbers) (n : ℕ) (alive : Bool) → cond alive (is_survival rule (n - 1)) (is_birth rule n) ≡ lives_by rule n alive
lives_by-cond rule n true = refl
lives_by-cond rule n false = refl

-- Let the bits of `dead` be the answer for births, and let the bits of `change` be 1 exactly if the answer for survival
-- differs. Then `dead` xor (`change` and `now`) is the rule's answer for the total n in each lane.
pub lane_answer : (rule : Numbers) (n dead change : ℕ) (now : List ℕ) (j i : ℕ) → length now ≡ 4 → j < 4 → bit_at dead i ≡ one_if (is_birth rule n)
    → bit_at change i ≡ (one_if (is_birth rule n) + one_if (is_survival rule (n - 1))) % 2
    → bit_of (zip2 bit_xor (replicate 4 dead) (zip2 bit_and (replicate 4 change) now)) j i ≡ one_if (lives_by rule n (bit_of now j i == 1))
lane_answer rule n dead change now j i long low d e =
    ap (λ (w : ℕ). bit_at w i) word
    ∙ bit_at_xor dead (bit_and change (slice_index now j)) i
    ∙ ap (λ (m : ℕ). (bit_at dead i + m) % 2) (bit_at_and change (slice_index now j) i)
    ∙ (λ t. (d t + min (e t) (bit_of now j i)) % 2)
    ∙ by_change (is_birth rule n) (is_survival rule (n - 1)) (bit_of now j i) (bit_at-lt (slice_index now j) i)
    ∙ ap one_if (lives_by-cond rule n (bit_of now j i == 1))
  where
    word : slice_index (zip2 bit_xor (replicate 4 dead) (zip2 bit_and (replicate 4 change) now)) j ≡ bit_xor dead (bit_and change (slice_index now j))
    word =
        lane_of bit_xor (replicate 4 dead) (zip2 bit_and (replicate 4 change) now) j refl (four_lanes bit_and (replicate 4 change) now refl long) low
        ∙ (λ t. bit_xor (get_or-replicate 4 j dead 0 low t)
        ((lane_of bit_and (replicate 4 change) now j refl long low ∙ ap (λ (w : ℕ). bit_and w (slice_index now j)) (get_or-replicate 4 j change 0 low)) t))

-- in each lane, a bit of the formula is 1 if exactly one of a, b, c and d has a 1 there, otherwise 0
pub lane_only_one : (a b c d : List ℕ) (j i : ℕ) → length a ≡ 4 → length b ≡ 4 → length c ≡ 4 → length d ≡ 4 → j < 4
    → bit_of (zip2 bit_xor (zip2 bit_xor (zip2 bit_xor a b) (zip2 bit_xor c d))
    (zip2 bit_and (zip2 bit_xor (zip2 bit_xor a b) (zip2 bit_xor c d)) (zip2 bit_or (zip2 bit_and a b) (zip2 bit_and c d)))) j i
    ≡ one_if (bit_of a j i + bit_of b j i + bit_of c j i + bit_of d j i == 1)
lane_only_one a b c d j i la lb lc ld low =
    ap (λ (w : ℕ). bit_at w i) (lane_of bit_xor odds (zip2 bit_and odds twos) j odds_long (four_lanes bit_and odds twos odds_long twos_long) low)
    ∙ bit_at_xor (slice_index odds j) (slice_index (zip2 bit_and odds twos) j) i
    ∙ (λ t. (odd t + both t) % 2)
    ∙ one_of_four (bit_of a j i) (bit_of b j i) (bit_of c j i) (bit_of d j i) (bit_at-lt (slice_index a j) i) (bit_at-lt (slice_index b j) i)
    (bit_at-lt (slice_index c j) i) (bit_at-lt (slice_index d j) i)
  where
    odds : List ℕ
    odds = zip2 bit_xor (zip2 bit_xor a b) (zip2 bit_xor c d)

    twos : List ℕ
    twos = zip2 bit_or (zip2 bit_and a b) (zip2 bit_and c d)

    odds_long : length odds ≡ 4
    odds_long = four_lanes bit_xor (zip2 bit_xor a b) (zip2 bit_xor c d) (four_lanes bit_xor a b la lb) (four_lanes bit_xor c d lc ld)

    twos_long : length twos ≡ 4
    twos_long = four_lanes bit_or (zip2 bit_and a b) (zip2 bit_and c d) (four_lanes bit_and a b la lb) (four_lanes bit_and c d lc ld)

    apart : (x y : List ℕ) → length x ≡ 4 → length y ≡ 4 → bit_of (zip2 bit_xor x y) j i ≡ (bit_of x j i + bit_of y j i) % 2
    apart x y lx ly = ap (λ (w : ℕ). bit_at w i) (lane_of bit_xor x y j lx ly low) ∙ bit_at_xor (slice_index x j) (slice_index y j) i

    together : (x y : List ℕ) → length x ≡ 4 → length y ≡ 4 → bit_of (zip2 bit_and x y) j i ≡ min (bit_of x j i) (bit_of y j i)
    together x y lx ly = ap (λ (w : ℕ). bit_at w i) (lane_of bit_and x y j lx ly low) ∙ bit_at_and (slice_index x j) (slice_index y j) i

    odd : bit_of odds j i ≡ ((bit_of a j i + bit_of b j i) % 2 + (bit_of c j i + bit_of d j i) % 2) % 2
    odd =
        apart (zip2 bit_xor a b) (zip2 bit_xor c d) (four_lanes bit_xor a b la lb) (four_lanes bit_xor c d lc ld)
        ∙ (λ t. (apart a b la lb t + apart c d lc ld t) % 2)

    two : bit_of twos j i ≡ max (min (bit_of a j i) (bit_of b j i)) (min (bit_of c j i) (bit_of d j i))
    two =
        ap (λ (w : ℕ). bit_at w i)
        (lane_of bit_or (zip2 bit_and a b) (zip2 bit_and c d) j (four_lanes bit_and a b la lb) (four_lanes bit_and c d lc ld) low)
        ∙ bit_at_or (slice_index (zip2 bit_and a b) j) (slice_index (zip2 bit_and c d) j) i
        ∙ (λ t. max (together a b la lb t) (together c d lc ld t))

    both : bit_of (zip2 bit_and odds twos) j i
        ≡ min (((bit_of a j i + bit_of b j i) % 2 + (bit_of c j i + bit_of d j i) % 2) % 2)
        (max (min (bit_of a j i) (bit_of b j i)) (min (bit_of c j i) (bit_of d j i)))
    both = together odds twos odds_long twos_long ∙ (λ t. min (odd t) (two t))

-- Let `low` be the sum of the ones digits of `up`, `beside` and `down`. Let a bit of `one` be 1 if exactly one of the
-- twos digits of `up`, `beside`, `down` and `low` is 1, otherwise 0. Then `one & (low.ones | now)` is Life's answer in
-- each lane.
pub lane_life : (up beside down low : Sum) (one now : List ℕ) (j i : ℕ) → length one ≡ 4 → length low.ones ≡ 4 → length now ≡ 4 → j < 4
    → sum_of low j i ≡ bit_of up.ones j i + bit_of down.ones j i + bit_of beside.ones j i
    → bit_of one j i ≡ one_if (bit_of up.twos j i + bit_of down.twos j i + bit_of beside.twos j i + bit_of low.twos j i == 1)
    → bit_of (zip2 bit_and one (zip2 bit_or low.ones now)) j i
    ≡ one_if (lives_by life (sum_of up j i + (sum_of beside j i + bit_of now j i) + sum_of down j i) (bit_of now j i == 1))
lane_life up beside down low one now j i lo ll ln lane sum is =
    ap (λ (w : ℕ). bit_at w i) (lane_of bit_and one (zip2 bit_or low.ones now) j lo (four_lanes bit_or low.ones now ll ln) lane)
    ∙ bit_at_and (slice_index one j) (slice_index (zip2 bit_or low.ones now) j) i
    ∙ (λ t. min (is t) (either t))
    ∙ life_digits (bit_of low.ones j i) twice (bit_of now j i) (bit_at-lt (slice_index low.ones j) i) few (bit_at-lt (slice_index now j) i)
    ∙ ap (λ (n : ℕ). one_if (lives_by life n (bit_of now j i == 1))) total
  where
    twice : ℕ
    twice = bit_of up.twos j i + bit_of down.twos j i + bit_of beside.twos j i + bit_of low.twos j i

    few : twice < 5
    few =
        omega (
          arith,
          bit_at-lt (slice_index up.twos j) i,
          bit_at-lt (slice_index down.twos j) i,
          bit_at-lt (slice_index beside.twos j) i,
          bit_at-lt (slice_index low.twos j) i,
        )

    either : bit_of (zip2 bit_or low.ones now) j i ≡ max (bit_of low.ones j i) (bit_of now j i)
    either = ap (λ (w : ℕ). bit_at w i) (lane_of bit_or low.ones now j ll ln lane) ∙ bit_at_or (slice_index low.ones j) (slice_index now j) i

    total : bit_of low.ones j i + 2 * twice + bit_of now j i ≡ sum_of up j i + (sum_of beside j i + bit_of now j i) + sum_of down j i
    total = omega (arith, sum)

-- if `next` is Life's answer for the middle row's sum `here.beside`, which leaves out the cell itself, it is also
-- Life's answer for the sum `here.all`, which includes the cell
pub answers_neighbours : (up : Sum) (here : RowSums) (down : Sum) (now next : List ℕ) → AreBeside here now
    → AnswersNeighbours life up here.beside down now next → AnswersRows life up here.all down now next
answers_neighbours up here down now next beside is j i low inside =
    is j i low inside
    ∙ ap (λ (n : ℕ). one_if (lives_by life (sum_of up j i + n + sum_of down j i) (bit_of now j i == 1))) (sym (beside j i low))

-- if each total is the sum of three rows, the rule's answer for the totals is its answer for the sums of these rows
pub answers_rows : (rule : Numbers) (total : Total) (up here down : Sum) (now next : List ℕ)
    → ((j i : ℕ) → j < 4 → total_of total j i ≡ sum_of up j i + sum_of here j i + sum_of down j i) → AnswersTotal rule total now next
    → AnswersRows rule up here down now next
answers_rows rule total up here down now next sum is j i low inside =
    let at : total_of total j i ≡ sum_of up j i + sum_of here j i + sum_of down j i = sum j i low in
    is j i low inside (omega (arith, sums_small up here down j i)) ∙ ap (λ (n : ℕ). one_if (lives_by rule n (bit_of now j i == 1))) at

-- ---- the words for each total

-- if each bit of word m is f m for m < n, and each bit of `word` is f n, then setting word n to `word` extends this to
-- m < n + 1
pub words_more : (f : ℕ → ℕ) (words : List ℕ) (n word : ℕ) → n < length words
    → ((m i : ℕ) → m < n → i < 64 → bit_at (get_or words m 0) i ≡ f m) → ((i : ℕ) → i < 64 → bit_at word i ≡ f n)
    → (m i : ℕ) → m < n + 1 → i < 64 → bit_at (get_or (set words n word) m 0) i ≡ f m
words_more f words n word within before here m i low inside = split (same_or_not m n)
  where
    split : (m ≡ n) ⊎ (m ≢ n) → bit_at (get_or (set words n word) m 0) i ≡ f m
    split (inl same) =
        ap (λ (k : ℕ). bit_at (get_or (set words n word) k 0) i) same ∙ ap (λ (w : ℕ). bit_at w i) (get_or-set_same words n word 0 within)
        ∙ here i inside ∙ ap f (sym same)
    split (inr apart) =
        ap (λ (w : ℕ). bit_at w i) (get_or-set_other words n m word 0 apart) ∙ before m i (omega (arith, low, apart)) inside
