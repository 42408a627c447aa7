-- Spaceships that were removed from a board: how they and the board evolve, and what the board says about the whole.
use Rattle.std.proofs.Common.{◌≡◌, ◌∙◌, ◌+◌, ◌-◌, ◌*◌, ◌≤◌, ◌⊎◌, ℕ, ℤ, pos, ◌+ℤ◌, ◌*ℤ◌, ◌≤ℤ◌, Bool, true, false, ◌||◌, not, add-zero}
use Rattle.std.proofs.Common.{List, [], ◌∷◌, ◌++◌, Any, arith, ap, refl, sym, subst, inl, inr, get_or, map}
use Rattle.std.specs.List.{list_any}
use Rattle.std.proofs.lemmas.Bool.{false≢true, or_cases}
use Rattle.std.proofs.lemmas.Int.{ints}
use Rattle.std.proofs.lemmas.List.Elements.{All-push}
use Rattle.std.proofs.lemmas.List.Folds.{Any-from_list_any, list_any-append}
use Rattle.plane_core.specs.declared.plane.cell.Cell.{Cell}
use Rattle.plane_core.specs.plane.Cells.{InOrder, has, king_distance}
use Rattle.plane_core.specs.clusters.Clusters.{IsCluster, Leads, LieApart, Linked}
use Rattle.plane_core.specs.plane.Frontiers.{LiesUpTo, is_slow}
use Rattle.plane_core.specs.plane.Generations.{NeverRecurs, after}
use Rattle.plane_core.specs.one_sided.RestlessClusters.{HasRestlessCluster, Diverges}
use Rattle.plane_core.specs.plane.Rules.{Numbers}
use Rattle.plane_core.specs.plane.Without.{without}
use Rattle.plane_core.proofs.lemmas.clusters.ClusterLemmas.{king_distance-itself}
use Rattle.plane_core.proofs.lemmas.plane.FrontierLemmas.{frontiers_are_slow, frontiers_go_on}
use Rattle.plane_core.proofs.lemmas.plane.GenerationLemmas.{after-none}
use Rattle.plane_core.proofs.lemmas.plane.RunLemmas.{after-plus, in_order-after}
use Rattle.plane_core.proofs.lemmas.plane.SetLemmas.{has-set_of, in_order-filter, in_order-set_of, same_lists}
use Rattle.survey_core.specs.declared.evolution.escaped_spaceships.Spaceship.{Spaceship}
use Rattle.survey_core.specs.evolution.SplitPatterns.{AreOff, IsOff, spaceship_at, whole_at}
use Rattle.survey_core.specs.evolution.EscapedSpaceships.{IsForemost}
use Rattle.survey_core.proofs.lemmas.PartitionLemmas.{has-joined, joined}
use Rattle.survey_core.proofs.lemmas.evolution.SpaceshipLemmas.{cluster_part, left_has, or_nothing, spaceships_run_alone, spaceships_stay_ahead}

-- ---- the board and the spaceships are the whole

any_spaceship : (rule : Numbers) (t : ℕ) (spaceships : List Spaceship) (c : Cell)
    → list_any (λ (part : List Cell). has part c) (map (spaceship_at rule t) spaceships) ≡ list_any (λ (spaceship : Spaceship). has (spaceship_at rule t spaceship) c) spaceships
any_spaceship rule t [] c = refl
any_spaceship rule t (spaceship ∷ spaceships) c = ap (λ (b : Bool). has (spaceship_at rule t spaceship) c || b) (any_spaceship rule t spaceships c)

pub has-whole : (rule : Numbers) (t : ℕ) (board : List Cell) (spaceships : List Spaceship) (c : Cell)
    → has (whole_at rule t board spaceships) c ≡ (has board c || list_any (λ (spaceship : Spaceship). has (spaceship_at rule t spaceship) c) spaceships)
has-whole rule t board spaceships c =
    has-set_of (joined (board ∷ map (spaceship_at rule t) spaceships)) c ∙ has-joined (board ∷ map (spaceship_at rule t) spaceships) c
    ∙ ap (λ (b : Bool). has board c || b) (any_spaceship rule t spaceships c)

in_order-whole : (rule : Numbers) (t : ℕ) (board : List Cell) (spaceships : List Spaceship) → InOrder (whole_at rule t board spaceships)
in_order-whole rule t board spaceships = in_order-set_of (joined (board ∷ map (spaceship_at rule t) spaceships))

-- without spaceships the board is the whole
pub whole-none : (rule : Numbers) (t : ℕ) (board : List Cell) → InOrder board → whole_at rule t board [] ≡ board
whole-none rule t board order =
    same_lists (whole_at rule t board []) board (in_order-whole rule t board []) order
    (λ c. has-whole rule t board [] c ∙ or_nothing (has board c))

-- if `all` is the union of a board and a spaceship, taking the spaceship off and adding it to the list doesn't change
-- the whole
pub whole-more : (rule : Numbers) (t : ℕ) (all board : List Cell) (spaceships : List Spaceship) (spaceship : Spaceship)
    → ((c : Cell) → has all c ≡ (has board c || has (spaceship_at rule t spaceship) c)) → whole_at rule t all spaceships ≡ whole_at rule t board (spaceships ++ spaceship ∷ [])
whole-more rule t all board spaceships spaceship is =
    same_lists (whole_at rule t all spaceships) (whole_at rule t board (spaceships ++ spaceship ∷ [])) (in_order-whole rule t all spaceships)
    (in_order-whole rule t board (spaceships ++ spaceship ∷ [])) same
  where
    around : (a b s : Bool) → ((a || b) || s) ≡ (a || (s || (b || false)))
    around true b s = refl
    around false true true = refl
    around false true false = refl
    around false false true = refl
    around false false false = refl

    same : (c : Cell) → has (whole_at rule t all spaceships) c ≡ has (whole_at rule t board (spaceships ++ spaceship ∷ [])) c
    same c =
        has-whole rule t all spaceships c
        ∙ ap (λ (b : Bool). b || list_any (λ (s : Spaceship). has (spaceship_at rule t s) c) spaceships) (is c)
        ∙ around (has board c) (has (spaceship_at rule t spaceship) c) (list_any (λ (s : Spaceship). has (spaceship_at rule t s) c) spaceships)
        ∙ ap (λ (b : Bool). has board c || b) (sym (list_any-append (λ (s : Spaceship). has (spaceship_at rule t s) c) spaceships (spaceship ∷ [])))
        ∙ sym (has-whole rule t board (spaceships ++ spaceship ∷ []) c)

-- ---- spaceships off the board

-- `AreOff` holds for a board from which no spaceship was removed
pub none_off : (rule : Numbers) (t : ℕ) (board : List Cell) → InOrder board → AreOff rule t board []
none_off rule t board order = record {
  in_order = order;
  each = λ k d low. absurd (omega arith);
  alone = λ g. ap (λ (S : List Cell). after rule S g) (whole-none rule t board order)
      ∙ sym (whole-none rule (t + g) (after rule board g) (in_order-after rule board g order));
}

-- if `IsOff` holds for a removed spaceship, it still holds an even number of generations later
off_later : (rule : Numbers) (t k : ℕ) (board : List Cell) (spaceship : Spaceship) → InOrder board → IsOff rule t board spaceship
    → IsOff rule (t + 2 * k) (after rule board (2 * k)) spaceship
off_later rule t k board spaceship order off = record {
  slow = off.slow;
  half = off.half + k;
  age = longer t off.half spaceship.since off.age;
  way = off.way;
  m = off.m;
  ahead = off.ahead;
  behind = subst (λ (d : ℤ). LiesUpTo off.way d (after rule board (2 * k))) (further off.m off.half)
      (frontiers_go_on rule off.way (off.m +ℤ pos off.half) board k order off.slow off.behind);
}
  where
    longer : (t half since : ℕ) → t ≡ since + 2 * half → t + 2 * k ≡ since + 2 * (half + k)
    longer t half since is = omega arith

    further : (m : ℤ) (half : ℕ) → (m +ℤ pos half) +ℤ pos k ≡ m +ℤ pos (half + k)
    further m half = omega (arith, ints)

pub all_off_later : (rule : Numbers) (t k : ℕ) (board : List Cell) (spaceships : List Spaceship) → AreOff rule t board spaceships
    → AreOff rule (t + 2 * k) (after rule board (2 * k)) spaceships
all_off_later rule t k board spaceships off = record {
  in_order = in_order-after rule board (2 * k) off.in_order;
  each = λ j d low. off_later rule t k board (get_or spaceships j d) off.in_order (off.each j d low);
  alone = λ g. ap (λ (S : List Cell). after rule S g) (sym (off.alone (2 * k))) ∙ after-plus rule (whole_at rule t board spaceships) (2 * k) g
      ∙ off.alone (2 * k + g)
      ∙ (λ i. whole_at rule (times_add t (2 * k) g i) (sym (after-plus rule board (2 * k) g) i) spaceships);
}
  where
    times_add : (a b c : ℕ) → a + (b + c) ≡ (a + b) + c
    times_add a b c = omega arith

-- ---- removing one more spaceship

-- under a slow rule, removing a spaceship that is ahead of the rest of the board doesn't change the whole in any later
-- generation
pub same_whole : (rule : Numbers) (t g : ℕ) (board : List Cell) (spaceships : List Spaceship) (spaceship : Spaceship) → InOrder board → is_slow rule ≡ true
    → spaceship.since ≡ t
    → IsForemost rule board spaceship.recurrence spaceship.cells
    → whole_at rule (t + g) (after rule board g) spaceships ≡ whole_at rule (t + g) (after rule (without board spaceship.cells) g) (spaceships ++ spaceship ∷ [])
same_whole rule t g board spaceships spaceship order slow now is =
    whole-more rule (t + g) (after rule board g) (after rule (without board spaceship.cells) g) spaceships spaceship
    (λ c. spaceships_run_alone rule board spaceship.recurrence spaceship.cells slow order is g c
    ∙ ap (λ (n : ℕ). has (after rule (without board spaceship.cells) g) c || has (after rule spaceship.cells n) c) (age t spaceship.since now))
  where
    age : (t since : ℕ) → since ≡ t → g ≡ (t + g) - since
    age t since e = omega arith

-- under a slow rule, removing a spaceship that is ahead of the rest of the board doesn't change the whole now
pub same_whole_now : (rule : Numbers) (t : ℕ) (board : List Cell) (spaceships : List Spaceship) (spaceship : Spaceship) → InOrder board → is_slow rule ≡ true
    → spaceship.since ≡ t → IsForemost rule board spaceship.recurrence spaceship.cells
    → whole_at rule t board spaceships ≡ whole_at rule t (without board spaceship.cells) (spaceships ++ spaceship ∷ [])
same_whole_now rule t board spaceships spaceship order slow now is =
    (λ i. whole_at rule (sym (add-zero t) i) (sym (after-none rule board) i) spaceships) ∙ same_whole rule t 0 board spaceships spaceship order slow now is
    ∙ (λ i. whole_at rule (add-zero t i) (after-none rule (without board spaceship.cells) i) (spaceships ++ spaceship ∷ []))

-- under a slow rule, removing one more spaceship that is ahead of the rest of the board keeps `AreOff` true
pub all_off_more : (rule : Numbers) (t : ℕ) (board : List Cell) (spaceships : List Spaceship) (spaceship : Spaceship) → is_slow rule ≡ true → spaceship.since ≡ t
    → IsForemost rule board spaceship.recurrence spaceship.cells → AreOff rule t board spaceships → AreOff rule t (without board spaceship.cells) (spaceships ++ spaceship ∷ [])
all_off_more rule t board spaceships spaceship slow now is off = record {
  in_order = in_order-filter (λ d. not (has spaceship.cells d)) board off.in_order;
  each = All-push (IsOff rule t (without board spaceship.cells)) spaceships spaceship (λ k d low. still (get_or spaceships k d) (off.each k d low)) new;
  alone = λ g. ap (λ (S : List Cell). after rule S g) (sym (same_whole_now rule t board spaceships spaceship off.in_order slow now is)) ∙ off.alone g
      ∙ same_whole rule t g board spaceships spaceship off.in_order slow now is;
}
  where
    still : (other : Spaceship) → IsOff rule t board other → IsOff rule t (without board spaceship.cells) other
    still other before = record {
      slow = before.slow;
      half = before.half;
      age = before.age;
      way = before.way;
      m = before.m;
      ahead = before.ahead;
      behind = λ c e. before.behind c (left_has board spaceship.cells c e).0;
    }

    new : IsOff rule t (without board spaceship.cells) spaceship
    new = record {
      slow = slow;
      half = 0;
      age = at t spaceship.since now;
      way = is.way;
      m = is.m;
      ahead = is.ahead;
      behind = subst (λ (d : ℤ). LiesUpTo is.way d (without board spaceship.cells)) (same is.m) is.behind;
    }
      where
        at : (t since : ℕ) → since ≡ t → t ≡ since + 2 * 0
        at t since e = omega arith

        same : (d : ℤ) → d ≡ d +ℤ pos 0
        same d = omega (arith, ints)

-- ---- what the board says about the whole

-- if `ahead` is 0 or 1, a part of the board's generation `ahead`, run alone, stays apart from each removed spaceship
part_apart : (rule : Numbers) (t : ℕ) (board cells : List Cell) (spaceship : Spaceship) (ahead g : ℕ) → IsOff rule t board spaceship → InOrder board → InOrder cells
    → ahead ≤ 1 → ((c : Cell) → has cells c ≡ true → has (after rule board ahead) c ≡ true)
    → LieApart (after rule cells g) (spaceship_at rule (t + (ahead + g)) spaceship)
part_apart rule t board cells spaceship ahead g off order in_order few part =
    subst (λ (n : ℕ). LieApart (after rule cells g) (after rule spaceship.cells n)) (age t spaceship.since off.half off.age)
    (spaceships_stay_ahead rule off.way off.m spaceship.recurrence spaceship.cells cells (2 * off.half + ahead) (off.half + ahead) g off.slow off.ahead in_order
    (λ c e. further off.m _ off.half (frontiers_are_slow rule off.way (off.m +ℤ pos off.half) board ahead order off.slow off.behind c (part c e)))
    (omega (arith, few)))
  where
    age : (t since half : ℕ) → t ≡ since + 2 * half → (2 * half + ahead) + g ≡ (t + (ahead + g)) - since
    age t since half e = omega arith

    further : (m d : ℤ) (half : ℕ) → (pos 2 *ℤ d) ≤ℤ ((pos 2 *ℤ (m +ℤ pos half)) +ℤ pos (ahead + 1)) → d ≤ℤ (m +ℤ pos (half + ahead))
    further m d half low = omega (arith, ints, few)

-- if `ahead` is 0 or 1, and a part of the board's generation `ahead` is run alone, no removed spaceship ever has a cell
-- at king distance 2 or less from a cell of that part
no_spaceship_near : (rule : Numbers) (t : ℕ) (board cells : List Cell) (spaceships : List Spaceship) (ahead g : ℕ) → AreOff rule t board spaceships → InOrder cells
    → ahead ≤ 1 → ((c : Cell) → has cells c ≡ true → has (after rule board ahead) c ≡ true) → (c d : Cell) → has (after rule cells g) c ≡ true
    → king_distance c d ≤ 2 → list_any (λ (spaceship : Spaceship). has (spaceship_at rule (t + (ahead + g)) spaceship) d) spaceships ≡ true → ⊥
no_spaceship_near rule t board cells spaceships ahead g off in_order few part c d here near some =
    found (Any-from_list_any (λ (spaceship : Spaceship). has (spaceship_at rule (t + (ahead + g)) spaceship) d) spaceships some)
  where
    found : Any (λ (spaceship : Spaceship). has (spaceship_at rule (t + (ahead + g)) spaceship) d ≡ true) spaceships → ⊥
    found (k, spaceship, low, at, there) =
        let is : IsOff rule t board spaceship = subst (IsOff rule t board) at (off.each k spaceship low) in
        let far : 3 ≤ king_distance c d = part_apart rule t board cells spaceship ahead g is off.in_order in_order few part c d here there in
        omega (arith, near, far)

-- g generations later, a cell is in the whole if and only if it is on the board or in a removed spaceship, each run
-- alone
whole_later : (rule : Numbers) (t : ℕ) (board : List Cell) (spaceships : List Spaceship) (g : ℕ) (c : Cell) → AreOff rule t board spaceships
    → has (after rule (whole_at rule t board spaceships) g) c
    ≡ (has (after rule board g) c || list_any (λ (spaceship : Spaceship). has (spaceship_at rule (t + g) spaceship) c) spaceships)
whole_later rule t board spaceships g c off =
    ap (λ (S : List Cell). has S c) (off.alone g) ∙ has-whole rule (t + g) (after rule board g) spaceships c

-- cells that are linked in a pattern are linked in each pattern that contains it
linked-more : (cells all : List Cell) (c d : Cell) → ((x : Cell) → has cells x ≡ true → has all x ≡ true) → Linked cells c d → Linked all c d
linked-more cells all c d part way = record { start = part c way.start; path = way.path; leads = leads c way.path way.leads }
  where
    leads : (e : Cell) (path : List Cell) → Leads cells e path d → Leads all e path d
    leads e [] way = way
    leads e (x ∷ xs) way = (part x way.0, way.1, leads x xs way.2)

linked-fewer : (cells all : List Cell) (c d : Cell)
    → ((x y : Cell) → has cells x ≡ true → has all y ≡ true → king_distance x y ≤ 2 → has cells y ≡ true) → has cells c ≡ true → Linked all c d
    → Linked cells c d
linked-fewer cells all c d near start way = record { start = start; path = way.path; leads = leads c way.path start way.leads }
  where
    leads : (e : Cell) (path : List Cell) → has cells e ≡ true → Leads all e path d → Leads cells e path d
    leads e [] here way = way
    leads e (x ∷ xs) here way =
        let there : has cells x ≡ true = near e x here way.0 way.1 in (there, way.1, leads x xs there way.2)

-- a restless cluster of the board is a restless cluster of the whole
pub whole_restless : (rule : Numbers) (t : ℕ) (board : List Cell) (spaceships : List Spaceship) (ahead horizon period : ℕ) → AreOff rule t board spaceships
    → ahead ≤ 1
    → HasRestlessCluster rule (after rule board ahead) horizon period
    → HasRestlessCluster rule (after rule (whole_at rule t board spaceships) ahead) horizon period
whole_restless rule t board spaceships ahead horizon period off few restless = record {
  cluster = cluster;
  is = record {
    in_order = is.in_order;
    start = is.start;
    has_start = part is.start is.has_start;
    members = λ d. (
      (λ e. linked-more now all is.start d part ((is.members d).0 e)),
      (λ way. (is.members d).1 (linked-fewer now all is.start d near is.has_start way)),
    );
  };
  why = why restless.why;
}
  where
    cluster : List Cell
    cluster = restless.cluster

    now : List Cell
    now = after rule board ahead

    all : List Cell
    all = after rule (whole_at rule t board spaceships) ahead

    is : IsCluster now cluster
    is = restless.is

    part : (x : Cell) → has now x ≡ true → has all x ≡ true
    part x e = whole_later rule t board spaceships ahead x off
        ∙ ap (λ (b : Bool). b || list_any (λ (spaceship : Spaceship). has (spaceship_at rule (t + ahead) spaceship) x) spaceships) e

    near : (x y : Cell) → has now x ≡ true → has all y ≡ true → king_distance x y ≤ 2 → has now y ≡ true
    near x y here there close = elim (or_cases _ _ (sym (whole_later rule t board spaceships ahead y off) ∙ there)) [
      | inl stays ↦ stays
      | inr spaceship ↦ absurd (no_spaceship_near rule t board now spaceships ahead 0 off (in_order-after rule board ahead off.in_order) few (λ c e. e) x y
          (ap (λ (S : List Cell). has S x) (after-none rule now) ∙ here) close
          (ap (λ (n : ℕ). list_any (λ (spaceship : Spaceship). has (spaceship_at rule (t + n) spaceship) y) spaceships) (add-zero ahead) ∙ spaceship))
    ]

    none_there : (g : ℕ) (c : Cell) → has (after rule cluster g) c ≡ true → has (after rule now g) c ≡ false → has (after rule all g) c ≡ false
    none_there g c alone missing = go (has (after rule all g) c) refl
      where
        later : has (after rule all g) c
            ≡ (has (after rule board (ahead + g)) c || list_any (λ (spaceship : Spaceship). has (spaceship_at rule (t + (ahead + g)) spaceship) c) spaceships)
        later = ap (λ (S : List Cell). has S c) (after-plus rule (whole_at rule t board spaceships) ahead g)
            ∙ whole_later rule t board spaceships (ahead + g) c off

        go : (b : Bool) → has (after rule all g) c ≡ b → has (after rule all g) c ≡ false
        go false e = e
        go true e = elim (or_cases _ _ (sym later ∙ e)) [
          | inl stays ↦ absurd (false≢true (sym missing ∙ ap (λ (S : List Cell). has S c) (after-plus rule board ahead g) ∙ stays))
          | inr spaceship ↦ absurd (no_spaceship_near rule t board cluster spaceships ahead g off is.in_order few (cluster_part now cluster is) c c alone
              (let same : king_distance c c ≡ 0 = king_distance-itself c in omega (arith, same)) spaceship)
        ]

    why : Diverges rule now cluster horizon ⊎ NeverRecurs rule cluster period → Diverges rule all cluster horizon ⊎ NeverRecurs rule cluster period
    why (inl strays) = inl (record {
      generation = strays.generation;
      early = strays.early;
      cell = strays.cell;
      alone = strays.alone;
      missing = none_there strays.generation strays.cell strays.alone strays.missing;
    })
    why (inr never) = inr never
