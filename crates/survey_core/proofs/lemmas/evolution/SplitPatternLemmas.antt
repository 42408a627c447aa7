-- Lemmas on `SplitPattern`: a board, and the spaceships that were removed from it.
use Rattle.std.proofs.Common.{◌≡◌, ◌∙◌, ◌+◌, ◌*◌, ◌/◌, ◌%◌, ◌<◌, ◌≤◌, ℕ, ◌==◌, Bool, true, false, ◌||◌, not}
use Rattle.std.proofs.Common.{unsigned_abs}
use Rattle.std.proofs.Common.{List, [], ◌∷◌, ◌++◌, All, arith, ap, refl, sym, subst, flat_map, get_or, length, map, take}
use Rattle.std.specs.Cmp.{both_ways}
use Rattle.std.specs.List.{list_all, list_any}
use Rattle.std.proofs.lemmas.Bool.{and_from, eqb-true}
use Rattle.std.proofs.lemmas.List.{flat_map_more, get_or_append_left, get_or_push, length-append, map_more}
use Rattle.std.proofs.lemmas.List.Elements.{All-push}
use Rattle.plane_core.specs.declared.plane.cell.Cell.{Cell}
use Rattle.plane_core.specs.plane.Cells.{InOrder, has, is_within, on_plane, plane_bound, set_of}
use Rattle.plane_core.specs.clusters.Clusters.{IsCluster, Linked}
use Rattle.plane_core.specs.plane.Frontiers.{is_slow}
use Rattle.plane_core.specs.plane.Generations.{after, lies_within, next}
use Rattle.plane_core.specs.plane.Rules.{Numbers}
use Rattle.plane_core.specs.plane.Without.{without}
use Rattle.plane_core.proofs.lemmas.clusters.ClusterLemmas.{linked-sym, linked-trans}
use Rattle.plane_core.proofs.lemmas.plane.GenerationLemmas.{after-none}
use Rattle.plane_core.proofs.lemmas.plane.SpeedLemmas.{after-suc}
use Rattle.plane_core.proofs.lemmas.plane.SearchLemmas.{has-list_all, list_all-has}
use Rattle.plane_core.proofs.lemmas.plane.SetLemmas.{has-append, has-filter, has-set_of, in_order-set_of, is_set_of, same_lists}
use Rattle.code_core.specs.declared.recurrence.Recurrence.{Recurrence}
use Rattle.survey_core.specs.declared.evolution.split_pattern.SplitPattern.{SplitPattern}
use Rattle.survey_core.specs.declared.evolution.escaped_spaceships.Spaceship.{Spaceship}
use Rattle.survey_core.specs.declared.shapes.envelope_bounds.EnvelopeBounds.{EnvelopeBounds}
use Rattle.survey_core.specs.evolution.SplitPatterns.{AreCandidates, AreOff, HasSmallNumbers, IsSplitAt, IsSplit, IsNoneOf, IsOff, IsTraced, latest_time, spaceship_at}
use Rattle.survey_core.specs.evolution.SplitPatterns.{whole_at, whole_of}
use Rattle.survey_core.specs.evolution.EscapedSpaceships.{IsForemost, IsPartOf}
use Rattle.survey_core.specs.shapes.Envelopes.{IsEnvelope}
use Rattle.survey_core.specs.UnderWay.{survey_reach}
use Rattle.survey_core.proofs.lemmas.PlaneLemmas.{within_later}
use Rattle.survey_core.proofs.lemmas.evolution.SpaceshipLemmas.{cluster_part, no_faster}
use Rattle.survey_core.proofs.lemmas.evolution.RemovedLemmas.{all_off_later, all_off_more, has-whole, none_off, whole-none}

-- ---- the numbers of a spaceship

-- a spaceship that begins near the origin lies on the plane up to an age of `latest_time` + 10001
pub spaceship_on_plane : (rule : Numbers) (cells : List Cell) (age : ℕ) → lies_within survey_reach cells ≡ true → age ≤ latest_time + 10001
    → list_all on_plane (after rule cells age) ≡ true
unfolding on_plane
spaceship_on_plane rule cells age near early = within_later survey_reach plane_bound rule cells age (omega arith) near

-- a spaceship near the origin that recurs within 64 generations has small numbers
pub small_by_envelope : (rule : Numbers) (limit : ℕ) (spaceship : Spaceship) (cells : List Cell) (envelope : EnvelopeBounds) → limit ≤ 64 → (cells ≡ [] → ⊥)
    → lies_within survey_reach cells ≡ true → spaceship.cells ≡ cells → spaceship.recurrence ≡ envelope.recurrence → IsEnvelope rule limit cells envelope
    → HasSmallNumbers spaceship
small_by_envelope rule limit spaceship cells envelope few some near same back is = record {
  near = ap (lies_within survey_reach) same ∙ near;
  period = subst (λ (r : Recurrence). r.period ≤ 64) (sym back) period;
  across = subst (λ (r : Recurrence). unsigned_abs r.dx ≤ 64) (sym back) (omega (arith, period, light.0));
  down = subst (λ (r : Recurrence). unsigned_abs r.dy ≤ 64) (sym back) (omega (arith, period, light.1));
}
  where
    within : envelope.recurrence.period ≤ limit
    within = is.recurs.within

    period : envelope.recurrence.period ≤ 64
    period = omega (arith, within, few)

    light : (unsigned_abs envelope.recurrence.dx ≤ envelope.recurrence.period) × (unsigned_abs envelope.recurrence.dy ≤ envelope.recurrence.period)
    light = no_faster rule cells envelope.recurrence.period envelope.recurrence.dx envelope.recurrence.dy some is.recurs.back

-- ---- a split pattern

-- the position of each spaceship at any later time can be computed
pub traced_later : (rule : Numbers) (t g : ℕ) (board : List Cell) (spaceships : List Spaceship) → IsSplitAt rule t board spaceships
    → All (IsTraced rule (t + g)) spaceships
traced_later rule t g board spaceships is k d low = record {
  comes = off.ahead.comes;
  small = is.small k d low;
  since = early t off.half (get_or spaceships k d).since off.age;
}
  where
    off : IsOff rule t board (get_or spaceships k d)
    off = is.off.each k d low

    early : (t half since : ℕ) → t ≡ since + 2 * half → since ≤ t + g
    early t half since e = omega arith

-- a board from which no spaceship was removed is a split pattern at time 0
pub new_split : (rule : Numbers) (board : List Cell) (spaceships : List Spaceship) → InOrder board → spaceships ≡ [] → IsSplitAt rule 0 board spaceships
new_split rule board spaceships order none = subst (IsSplitAt rule 0 board) (sym none) (record {
  off = none_off rule 0 board order;
  small = λ k d low. absurd (omega arith);
  early = omega arith;
})

-- if a board lies within a reach, each part of it does, too
pub part_near : (reach : ℕ) (board cells : List Cell) → lies_within reach board ≡ true → IsPartOf board cells → lies_within reach cells ≡ true
part_near reach board cells near part = has-list_all (is_within reach) cells (λ c e. list_all-has (is_within reach) board near c (part c e))

pub board_near : (reach : ℕ) (rule : Numbers) (t : ℕ) (board : List Cell) (spaceships : List Spaceship) → lies_within reach (whole_at rule t board spaceships) ≡ true
    → lies_within reach board ≡ true
board_near reach rule t board spaceships near =
    has-list_all (is_within reach) board (λ c e. list_all-has (is_within reach) (whole_at rule t board spaceships) near c
    (has-whole rule t board spaceships c ∙ ap (λ (b : Bool). b || list_any (λ (spaceship : Spaceship). has (spaceship_at rule t spaceship) c) spaceships) e))

-- sorting cells before others are added doesn't change the set
set_of-more : (cells others : List Cell) → set_of (set_of cells ++ others) ≡ set_of (cells ++ others)
set_of-more cells others = is_set_of (set_of (set_of cells ++ others)) (cells ++ others) (in_order-set_of (set_of cells ++ others))
    (λ c. has-set_of (set_of cells ++ others) c ∙ has-append (set_of cells) others c ∙ ap (λ (b : Bool). b || has others c) (has-set_of cells c)
    ∙ sym (has-append cells others c))

-- adding spaceship n to the whole with the first n spaceships gives the whole with the first n + 1 spaceships
pub whole_more : (rule : Numbers) (t : ℕ) (board : List Cell) (spaceships : List Spaceship) (n : ℕ) (spaceship : Spaceship) (whole there : List Cell)
    → n < length spaceships → spaceship ≡ get_or spaceships n spaceship → whole ≡ whole_at rule t board (take n spaceships)
    → there ≡ spaceship_at rule t spaceship → set_of (whole ++ there) ≡ whole_at rule t board (take (n + 1) spaceships)
whole_more rule t board spaceships n spaceship whole there low is before at =
    let place : Spaceship → List Cell = spaceship_at rule t in
    let earlier : List (List Cell) = map place (take n spaceships) in
    (λ i. set_of (before i ++ (at ∙ ap place is) i)) ∙ set_of-more (flat_map (λ (part : List Cell). part) (board ∷ earlier)) (place (get_or spaceships n spaceship))
    ∙ ap set_of (flat_map_more (λ (part : List Cell). part) [] (board ∷ earlier) (place (get_or spaceships n spaceship))
    ∙ ap (λ (parts : List (List Cell)). flat_map (λ (part : List Cell). part) (board ∷ parts)) (sym (map_more place spaceships n spaceship low)))

-- if there are no spaceships, the board is the whole
pub whole-empty : (rule : Numbers) (t : ℕ) (board : List Cell) (spaceships : List Spaceship) (is_empty : Bool) → is_empty ≡ (length spaceships == 0)
    → is_empty ≡ true → InOrder board → whole_at rule t board spaceships ≡ board
whole-empty rule t board [] is_empty is empty order = whole-none rule t board order
whole-empty rule t board (spaceship ∷ spaceships) is_empty is empty order =
    let none : length (spaceship ∷ spaceships) ≡ 0 = eqb-true (length (spaceship ∷ spaceships)) 0 (sym is ∙ empty) in absurd (omega (arith, none))

-- if there are no spaceships and the board is still, the whole is still
pub still_whole : (rule : Numbers) (t n : ℕ) (board : List Cell) (spaceships : List Spaceship) (is_empty : Bool) → is_empty ≡ (length spaceships == 0)
    → is_empty ≡ true → InOrder board → after rule board n ≡ board → after rule (whole_at rule t board spaceships) n ≡ whole_at rule t board spaceships
still_whole rule t n board spaceships is_empty is empty order still =
    let all = whole-empty rule t board spaceships is_empty is empty order in
    ap (λ (S : List Cell). after rule S n) all ∙ still ∙ sym all

-- advancing the board of a split pattern by an even number of generations, up to the latest time, gives a split pattern
pub split_later : (rule r : Numbers) (t n most : ℕ) (board b : List Cell) (spaceships : List Spaceship) → IsSplitAt rule t board spaceships → most % 2 ≡ 0
    → n ≡ most
    → r ≡ rule → b ≡ after rule board n → t + n ≤ latest_time → IsSplitAt r (t + n) b spaceships
split_later rule r t n most board b spaceships is even all same at early =
    subst (λ (q : Numbers). IsSplitAt q (t + n) b spaceships) (sym same)
    (subst (λ (S : List Cell). IsSplitAt rule (t + n) S spaceships) (sym at) (record { off = off; small = is.small; early = early }))
  where
    twice : 2 * (n / 2) ≡ n
    twice = omega (arith, even, all)

    off : AreOff rule (t + n) (after rule board n) spaceships
    off = subst (λ (k : ℕ). AreOff rule (t + k) (after rule board k) spaceships) twice (all_off_later rule t (n / 2) board spaceships is.off)

-- under a slow rule, removing a spaceship from the board of a split pattern gives a split pattern, if the spaceship has
-- small numbers and is ahead of the rest of the board
pub split_more : (rule : Numbers) (t : ℕ) (board b : List Cell) (spaceships s : List Spaceship) (spaceship : Spaceship) → IsSplitAt rule t board spaceships
    → is_slow rule ≡ true
    → spaceship.since ≡ t → IsForemost rule board spaceship.recurrence spaceship.cells → HasSmallNumbers spaceship → b ≡ without board spaceship.cells → s ≡ spaceships ++ spaceship ∷ []
    → IsSplitAt rule t b s
split_more rule t board b spaceships s spaceship is slow now foremost small left more =
    subst (λ (S : List Cell). IsSplitAt rule t S s) (sym left)
    (subst (λ (all : List Spaceship). IsSplitAt rule t (without board spaceship.cells) all) (sym more) (record {
      off = all_off_more rule t board spaceships spaceship slow now foremost is.off;
      small = All-push HasSmallNumbers spaceships spaceship is.small small;
      early = is.early;
    }))

-- if the board is advanced by n generations, so is the whole
pub whole_gone_on : (rule : Numbers) (t n : ℕ) (board b whole : List Cell) (spaceships : List Spaceship) → IsSplitAt rule t board spaceships
    → whole_at rule t board spaceships ≡ whole
    → b ≡ after rule board n → whole_at rule (t + n) b spaceships ≡ after rule whole n
whole_gone_on rule t n board b whole spaceships is all at =
    ap (λ (S : List Cell). whole_at rule (t + n) S spaceships) at ∙ sym (is.off.alone n) ∙ ap (λ (S : List Cell). after rule S n) all

-- ---- advancing a split pattern

-- the board of a split pattern has the rule of the pattern, so it evolves under this rule
pub board_later : (rule : Numbers) (split : SplitPattern) (n : ℕ) (b : List Cell) → IsSplit rule split → b ≡ after split.board.rule split.board.cells n
    → b ≡ after rule split.board.cells n
board_later rule split n b is at = at ∙ ap (λ (r : Numbers). after r split.board.cells n) is.0

-- if the board of a split pattern is advanced by n generations, so is the whole pattern
pub whole_later : (rule : Numbers) (split : SplitPattern) (n : ℕ) (b : List Cell) → IsSplit rule split → b ≡ after split.board.rule split.board.cells n
    → whole_at rule (split.time + n) b split.spaceships.items ≡ after rule (whole_of rule split) n
whole_later rule split n b is at =
    whole_gone_on rule split.time n split.board.cells b (whole_of rule split) split.spaceships.items is.1 refl (board_later rule split n b is at)

-- if the board of a split pattern is advanced by one generation, so is the whole pattern
pub next_whole : (rule : Numbers) (split : SplitPattern) (b : List Cell) → IsSplit rule split → b ≡ next split.board.rule split.board.cells
    → whole_at rule (split.time + 1) b split.spaceships.items ≡ next rule (whole_of rule split)
next_whole rule split b is at =
    whole_later rule split 1 b is (at ∙ sym (one split.board.rule split.board.cells)) ∙ one rule (whole_of rule split)
  where
    one : (r : Numbers) (cells : List Cell) → after r cells 1 ≡ next r cells
    one r cells = after-suc r cells 0 ∙ ap (next r) (after-none r cells)

-- ---- candidates

-- clusters of a pattern that share a cell are equal
same_cluster : (cells one other : List Cell) (c : Cell) → IsCluster cells one → IsCluster cells other → has one c ≡ true → has other c ≡ true
    → one ≡ other
same_cluster cells one other c is also in_one in_other =
    same_lists one other is.in_order also.in_order
    (λ x. both_ways (has one x) (has other x)
    (λ h. (also.members x).1 (linked-trans cells also.start is.start x there ((is.members x).0 h)))
    (λ h. (is.members x).1 (linked-trans cells is.start also.start x (linked-sym cells also.start is.start there) ((also.members x).0 h))))
  where
    there : Linked cells also.start is.start
    there = linked-trans cells also.start c is.start ((also.members c).0 in_other) (linked-sym cells is.start c ((is.members c).0 in_one))

-- the clusters of a board are candidates
pub candidates_start : (board : List Cell) (spaceships : List Spaceship) (clusters : List (List Cell)) → All (IsCluster board) clusters
    → AreCandidates board spaceships clusters
candidates_start board spaceships clusters each = record { before = board; each = each; still = λ cluster is new. cluster_part board cluster is }

-- each candidate is a cluster of the earlier board
pub candidate : (board : List Cell) (spaceships : List Spaceship) (clusters : List (List Cell)) (i : ℕ) (cluster : List Cell)
    → (are : AreCandidates board spaceships clusters)
    → i < length clusters → cluster ≡ get_or clusters i cluster → IsCluster are.before cluster
candidate board spaceships clusters i cluster are low at = subst (IsCluster are.before) (sym at) (are.each i cluster low)

-- the clusters are still candidates after one of them was removed
pub candidates_more : (board b : List Cell) (spaceships s : List Spaceship) (clusters : List (List Cell)) (spaceship : Spaceship) (i : ℕ) (cluster : List Cell)
    → AreCandidates board spaceships clusters → i < length clusters → cluster ≡ get_or clusters i cluster → spaceship.cells ≡ cluster
    → b ≡ without board spaceship.cells
    → s ≡ spaceships ++ spaceship ∷ [] → AreCandidates b s clusters
candidates_more board b spaceships s clusters spaceship i cluster are low at same left more =
    subst (λ (S : List Cell). AreCandidates S s clusters) (sym left)
    (subst (λ (all : List Spaceship). AreCandidates (without board spaceship.cells) all clusters) (sym more)
    (record { before = are.before; each = are.each; still = still }))
  where
    is : IsCluster are.before spaceship.cells
    is = subst (IsCluster are.before) (sym (same ∙ at)) (are.each i cluster low)

    still : (other : List Cell) → IsCluster are.before other → IsNoneOf (spaceships ++ spaceship ∷ []) other → IsPartOf (without board spaceship.cells) other
    still other also new c there = has-filter (λ d. not (has spaceship.cells d)) board c
        ∙ and_from (has board c) (not (has spaceship.cells c)) (are.still other also earlier c there) (ap not none)
      where
        earlier : IsNoneOf spaceships other
        earlier k d below = subst (λ (one : Spaceship). one.cells ≡ other → ⊥) (get_or_append_left spaceships (spaceship ∷ []) d k below)
            (new k d (omega (arith, below, length-append spaceships (spaceship ∷ []))))

        last : spaceship.cells ≡ other → ⊥
        last = subst (λ (one : Spaceship). one.cells ≡ other → ⊥) (get_or_push spaceships spaceship spaceship (length spaceships) refl)
            (new (length spaceships) spaceship (omega (arith, length-append spaceships (spaceship ∷ []))))

        none : has spaceship.cells c ≡ false
        none = go (has spaceship.cells c) refl
          where
            go : (h : Bool) → has spaceship.cells c ≡ h → has spaceship.cells c ≡ false
            go true here = absurd (last (same_cluster are.before spaceship.cells other c is also here there))
            go false e = e
