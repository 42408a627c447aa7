-- The lines that `name` prints determine the finding: its checkpoint, codes and counts, from which the mark `for good`
-- follows.
use Rattle.std.proofs.Common.{◌≡◌, ◌∙◌, ap, sym, refl, subst, ℕ, suc, ◌+◌, ◌<◌, ◌≤◌, ◌^◌, ◌++◌, List, [], ◌∷◌, All, append_assoc, arith, codes, decimal, flat_map, get_or, sum}
use Rattle.std.specs.Cmp.{both_ways as both_true}
use Rattle.std.specs.List.{AllByRecursion}
use Rattle.std.specs.Map.{values_of}
use Rattle.std.proofs.lemmas.List.{append_cancel_left}
use Rattle.std.proofs.lemmas.List.Sums.{sum_by-cons}
use Rattle.plane_core.specs.plane.Generations.{after}
use Rattle.code_core.specs.Apgcodes.{HasCodeShape}
use Rattle.survey_core.specs.declared.finding.Finding.TheVariants.{Settled, Unsettled}
use Rattle.survey_core.specs.Findings.{IsSettled}
use Rattle.survey_core.proofs.lemmas.shapes.MarkLemmas.{settled_mark}
use Rattle.haul_core.specs.FieldSteps.{Lacks}
use Rattle.haul_core.proofs.SpaceLemmas.{cut_once}
use Rattle.pattern_commands.specs.Name.{object_line}
use Rattle.laws.specs.HaulTexts.{IsWrittenWhole}
use Rattle.laws.specs.NameTexts.{NameTextsAreFaithful}
use Rattle.laws.proofs.ShapeLemmas.{small_finding}
use Rattle.laws.proofs.TextLemmas.{all_lack, code_visible, decimal_lack, decimal_once}

-- the code has the shape of an apgcode, and the count has at most 64 digits
record IsShortObject (object : List ℕ × ℕ) : Type 0 where
  code : HasCodeShape object.0
  count : IsWrittenWhole object.1

lacks_space : (object : List ℕ × ℕ) → IsShortObject object → Lacks 32 object.0
lacks_space object h = all_lack _ 32 refl object.0 (code_visible object.0 h.code.bytes)

-- the line of an object is its code, a space, its count and a line feed
line_before : (object : List ℕ × ℕ) (more : List ℕ) → object_line object ++ more ≡ object.0 ++ 32 ∷ (decimal object.1 ++ 10 ∷ more)
line_before object more =
    append_assoc object.0 (32 ∷ (decimal object.1 ++ 10 ∷ [])) more
    ∙ ap (λ (text : List ℕ). object.0 ++ 32 ∷ text) (append_assoc (decimal object.1) (10 ∷ []) more)

line_filled : (object : List ℕ × ℕ) (more : List ℕ) → object_line object ++ more ≡ [] → ⊥
line_filled object more e = go object.0 (sym (line_before object more) ∙ e)
  where
    go : (code : List ℕ) → code ++ 32 ∷ (decimal object.1 ++ 10 ∷ more) ≡ [] → ⊥
    go [] e = cc
    go (b ∷ code) e = cc

objects_once : (objects others : List (List ℕ × ℕ)) → AllByRecursion IsShortObject objects → AllByRecursion IsShortObject others
    → flat_map object_line objects ≡ flat_map object_line others → objects ≡ others
objects_once [] [] h k e = refl
objects_once [] (o ∷ os) h k e = absurd (line_filled o (flat_map object_line os) (sym e))
objects_once (x ∷ xs) [] h k e = absurd (line_filled x (flat_map object_line xs) e)
objects_once (x ∷ xs) (o ∷ os) h k e =
    let line = cut_once 32 x.0 o.0 _ _ (lacks_space x h.0) (lacks_space o k.0)
    (sym (line_before x (flat_map object_line xs)) ∙ e ∙ line_before o (flat_map object_line os)) in
    let count = cut_once 10 (decimal x.1) (decimal o.1) _ _ (decimal_lack 10 x.1 refl) (decimal_lack 10 o.1 refl) line.1 in
    let number = decimal_once x.1 o.1 h.0.count k.0.count count.0 in
    let more : xs ≡ os = objects_once xs os h.1 k.1 count.1 in
    λ i. (line.0 i, number i) ∷ more i

-- if the codes have the shape of apgcodes and the counts add up to less than 2^64, `IsShortObject` holds for each
-- object
short_objects : (objects : List (List ℕ × ℕ)) → All (λ object. HasCodeShape object.0) objects → sum (values_of objects) < 2 ^ 64
    → AllByRecursion IsShortObject objects
short_objects [] shape few = tt
short_objects (o ∷ os) shape few =
    let whole : sum (values_of (o ∷ os)) ≡ o.1 + sum (values_of os) = sum_by-cons (λ (n : ℕ). n) o.1 (values_of os) in (
      record { code = shape 0 o (omega arith); count = omega (arith, whole, few) },
      short_objects os (λ k d low. shape (suc k) d (omega arith)) (omega (arith, whole, few)),
    )

pub name_texts_are_faithful : NameTextsAreFaithful
name_texts_are_faithful rule profile cells others Unsettled Unsettled valid near close h k e = refl
name_texts_are_faithful rule profile cells others Unsettled (Settled u more fine) valid near close h k e =
    let first : 117 ≡ 115 = ap (λ (text : List ℕ). get_or text 0 0) e in
    absurd (omega (arith, first))
name_texts_are_faithful rule profile cells others (Settled t objects good) Unsettled valid near close h k e =
    let first : 115 ≡ 117 = ap (λ (text : List ℕ). get_or text 0 0) e in
    absurd (omega (arith, first))
name_texts_are_faithful rule profile cells others (Settled t objects good) (Settled u more fine) valid near close h k e =
    let limit : profile.limit ≤ 100000 = valid.limit in
    let before : t ≤ profile.limit = h.0.within in
    let within : u ≤ profile.limit = k.0.within in
    let one = small_finding rule profile cells (Settled t objects good) valid near h in
    let other = small_finding rule profile others (Settled u more fine) valid close k in
    let cut = cut_once 10 (decimal t) (decimal u) (flat_map object_line objects) (flat_map object_line more) (decimal_lack 10 t refl)
    (decimal_lack 10 u refl)
    (sym (append_assoc (decimal t) (10 ∷ []) (flat_map object_line objects)) ∙ append_cancel_left (codes "settled ") _ _ e
    ∙ append_assoc (decimal u) (10 ∷ []) (flat_map object_line more)) in
    let checkpoint : t ≡ u = decimal_once t u (omega (arith, limit, before)) (omega (arith, limit, within)) cut.0 in
    let same : objects ≡ more = objects_once objects more (short_objects objects one.shape one.few) (short_objects more other.shape other.few) cut.1 in
    let mine : IsSettled rule profile (after rule cells t) more good =
    subst (λ (list : List (List ℕ × ℕ)). IsSettled rule profile (after rule cells t) list good) same h.2 in
    let one_mark = settled_mark rule profile (after rule cells t) more good valid.period mine in
    let other_mark = settled_mark rule profile (after rule others u) more fine valid.period k.2 in
    let mark : good ≡ fine = both_true good fine (λ b. other_mark.1 (one_mark.0 b)) (λ b. one_mark.1 (other_mark.0 b)) in
    λ i. Settled (checkpoint i) (same i) (mark i)
