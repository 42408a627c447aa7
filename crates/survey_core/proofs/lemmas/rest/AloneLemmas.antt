-- Parts that stay apart run as if each were alone.
use Rattle.std.proofs.Common.{◌≡◌, ◌==◌, ◌∙◌, ◌+◌, ◌<◌, ◌≤◌, ap, refl, ℕ, suc, Bool, true, false, cond, List, [], ◌∷◌, arith, get_or, length}
use Rattle.std.specs.List.{range_with_len}
use Rattle.std.proofs.lemmas.Bool.{eqb-true}
use Rattle.std.proofs.lemmas.List.FromFn.{length-range_with_len}
use Rattle.plane_core.specs.declared.plane.cell.Cell.{Cell}
use Rattle.plane_core.specs.plane.Cells.{InOrder}
use Rattle.survey_core.specs.rest.Groups.{members}
use Rattle.survey_core.specs.rest.RestLaws.{GroupsRunAlone, PartsRunAlone}
use Rattle.survey_core.proofs.lemmas.rest.GroupLemmas.{alone_keeps, group_keeps, members-cons, members-none, members_all, whole_keeps}

-- if the parts are numbered from s on, at most one of them has the number k, and none if k is below s
abbrev IsOne : ℕ → ℕ → List (List Cell) → Type 0
IsOne k s parts =
    (k < s → length (members k (range_with_len s (length parts)) parts) ≡ 0) × (length (members k (range_with_len s (length parts)) parts) ≤ 1)

one_of_number : (k s : ℕ) (parts : List (List Cell)) → IsOne k s parts
one_of_number k s [] =
    let none : length (members k [] []) ≡ 0 = ap length (members-none k []) in
    ((λ low. none), omega (arith, none))
one_of_number k s (part ∷ parts) = go (s == k) refl (one_of_number k (s + 1) parts)
  where
    remainder : List (List Cell)
    remainder = members k (range_with_len (s + 1) (length parts)) parts

    go : (b : Bool) → (s == k) ≡ b → IsOne k (s + 1) parts → IsOne k s (part ∷ parts)
    go true here h =
        let is : s ≡ k = eqb-true s k here in
        let none : length remainder ≡ 0 = h.0 (omega arith) in
        let all : length (members k (range_with_len s (suc (length parts))) (part ∷ parts)) ≡ suc (length remainder) =
        ap length (members-cons k s (range_with_len (s + 1) (length parts)) part parts ∙ ap (λ (b : Bool). cond b (part ∷ remainder) remainder) here) in
        ((λ low. absurd (omega arith)), omega (arith, all, none))
    go false here h =
        let all : length (members k (range_with_len s (suc (length parts))) (part ∷ parts)) ≡ length remainder =
        ap length (members-cons k s (range_with_len (s + 1) (length parts)) part parts ∙ ap (λ (b : Bool). cond b (part ∷ remainder) remainder) here) in
        let few : length remainder ≤ 1 = h.1 in
        ((λ low. all ∙ h.0 (omega arith)), omega (arith, all, few))

pub groups_run_alone : GroupsRunAlone
groups_run_alone rule cells groups parts n order same start far =
    (whole_keeps rule cells groups parts n order same far start, λ whole k there. group_keeps rule cells groups parts n order same far start whole (get_or groups k 0))

pub parts_run_alone : PartsRunAlone
parts_run_alone rule cells parts n order each start far =
    let groups : List ℕ = range_with_len 0 (length parts) in
    whole_keeps rule cells groups parts n order (length-range_with_len 0 (length parts))
    (λ i j d g one other apart low. far i j d g one other (λ same. apart (ap (λ (m : ℕ). get_or groups m 0) same)) low) start
    (λ i there g low. let few = (one_of_number (get_or groups i 0) 0 parts).1 in
    alone_keeps rule (members (get_or groups i 0) groups parts) g (omega (arith, few)) (members_all InOrder (get_or groups i 0) groups parts each))
