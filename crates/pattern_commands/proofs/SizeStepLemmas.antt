-- The lines of `run --sizes`, one after another, and how a call that writes them ends.
use Rattle.std.proofs.Common.{◌≡◌, ◌∙◌, ◌+◌, ◌-◌, ◌<◌, ◌≤◌, ◌++◌, ℕ, suc, List, [], Option, Ok, Err, ap, arith, flat_map, map, subst, sym}
use Rattle.memory.specs.declared.OutOfMemory.{OutOfMemory}
use Rattle.plane_core.specs.declared.output.WriteError.{WriteError}
use Rattle.plane_core.specs.declared.plane.cell.Cell.{Cell}
use Rattle.plane_core.specs.Outputs.{Output, Writes}
use Rattle.plane_core.specs.engine.Boards.{Running}
use Rattle.plane_core.specs.plane.Generations.{after}
use Rattle.plane_core.specs.plane.Rules.{Numbers}
use Rattle.plane_core.proofs.lemmas.OutputLemmas.{Appends-append, Appends-nil, AppendsPrefix-append, AppendsPrefix-longer}
use Rattle.plane_core.proofs.lemmas.plane.GenerationLemmas.{after-none}
use Rattle.plane_core.proofs.lemmas.plane.RunLemmas.{after-plus}
use Rattle.pattern_commands.specs.declared.ending.complaint.Complaint.{Complaint}
use Rattle.pattern_commands.specs.declared.ending.complaint.Complaint.TheVariants.{Refused, Memory, ReadFailed, TooLong, WriteFailed}
use Rattle.pattern_commands.specs.declared.sizes.size.Size.{Size}
use Rattle.pattern_commands.specs.SizeSteps.{PutsLines, RunApart, advanced, later_sizes, pattern_size, sized_line}
use Rattle.pattern_commands.specs.Sizes.{size_line, sizes_text}
use Rattle.pattern_commands.specs.Streams.{Stream, Has, HasPrefix, stream}
use Rattle.pattern_commands.specs.TextSteps.{TextOutcome}
use Rattle.pattern_commands.proofs.SizeLemmas.{later_more, later_none, later_rest, later_then, text_later}
use Rattle.pattern_commands.proofs.SizePartLemmas.{parts_next, parts_now}

-- ---- one more line

module _ (rule : Numbers) (cells : List Cell) (g : ℕ) where
  -- the lines of `k + 1` generations are the lines of `k` generations, followed by the line of the next generation
  pub line_more : (k : ℕ) (size : Size) → size ≡ pattern_size (after rule cells (k + 1))
      → later_sizes rule cells g (k + 1) ≡ later_sizes rule cells g k ++ sized_line (g + (k + 1)) size
  line_more k size is =
      let next : k + 1 ≡ suc k = omega arith in
      ap (later_sizes rule cells g) next ∙ later_more rule cells g k
      ∙ (λ i. later_sizes rule cells g k ++ size_line (g + sym next i) (after rule cells (sym next i)))
      ∙ ap (λ (s : Size). later_sizes rule cells g k ++ sized_line (g + (k + 1)) s) (sym is)

  -- one generation later, the parts still run apart, and the next line shows the size of all parts together
  pub parts_more : (k most : ℕ) (parts news : List Running) (size : Size) → k < most → RunApart rule (after rule cells k) (most - k) parts
      → news ≡ map advanced parts → size ≡ pattern_size (flat_map (λ (part : Running). part.cells) news)
      → RunApart rule (after rule cells (k + 1)) (most - (k + 1)) news
      × (later_sizes rule cells g (k + 1) ≡ later_sizes rule cells g k ++ sized_line (g + (k + 1)) size)
  parts_more k most parts news size low apart is so =
      let left : most - k ≡ suc (most - (k + 1)) = omega arith in
      let later : RunApart rule (after rule (after rule cells k) 1) (most - (k + 1)) (map advanced parts) =
      parts_next rule (after rule cells k) (most - (k + 1)) parts (subst (λ (n : ℕ). RunApart rule (after rule cells k) n parts) left apart) in
      let here : RunApart rule (after rule cells (k + 1)) (most - (k + 1)) (map advanced parts) =
      subst (λ (S : List Cell). RunApart rule S (most - (k + 1)) (map advanced parts)) (after-plus rule cells k 1) later in
      let new : RunApart rule (after rule cells (k + 1)) (most - (k + 1)) news =
      subst (λ (ps : List Running). RunApart rule (after rule cells (k + 1)) (most - (k + 1)) ps) (sym is) here in
      (new, line_more k size (so ∙ ap pattern_size (sym (parts_now rule (after rule cells (k + 1)) (most - (k + 1)) news new))))

  -- before the first line, the parts run apart for all `n` generations
  pub parts_first : (n : ℕ) (parts : List Running) → RunApart rule cells n parts → RunApart rule (after rule cells 0) (n - 0) parts
  parts_first n parts apart =
      let all : n - 0 ≡ n = omega arith in
      subst (λ (S : List Cell). RunApart rule S (n - 0) parts) (sym (after-none rule cells)) (subst (λ (m : ℕ). RunApart rule cells m parts) (sym all) apart)

  pub has_first : {V : Type 0} (contents : V → Option (List ℕ)) (x : Output V) → Has (stream contents x x) (later_sizes rule cells g 0)
  has_first contents x = subst (Has (stream contents x x)) (sym (later_none rule cells g)) (Appends-nil (contents x.writer))

  -- ---- how a call ends

  -- if memory ran out after `k` lines, a prefix of the text was written
  pub leaves_memory : {A : Type 0} (done : A → List ℕ) (k most : ℕ) (error : OutOfMemory) (output : Stream) → k ≤ most
      → Has output (later_sizes rule cells g k) → PutsLines done (later_sizes rule cells g most) (Err (Memory error)) output
  leaves_memory done k most error output low has =
      (later_sizes rule cells g k, later_sizes rule (after rule cells k) (g + k) (most - k), later_rest rule cells g k most low, has)

  -- if a write failed in the line after `k` lines, a prefix of the text was written
  pub leaves_cut : {A V : Type 0} (contents : V → Option (List ℕ)) (done : A → List ℕ) (k most : ℕ) (error : WriteError) (x y z : Output V) (line : List ℕ)
      → k < most → Has (stream contents x y) (later_sizes rule cells g k)
      → later_sizes rule cells g (k + 1) ≡ later_sizes rule cells g k ++ line → Writes contents y z (Err error) line
      → PutsLines done (later_sizes rule cells g most) (Err (WriteFailed error)) (stream contents x z)
  leaves_cut contents done k most error x y z line low has more writes =
      let cut : HasPrefix (stream contents x z) (later_sizes rule cells g k ++ line) =
      AppendsPrefix-append _ _ _ (later_sizes rule cells g k) line has writes.prefix in
      let longer = AppendsPrefix-longer _ _ (later_sizes rule cells g (k + 1)) (later_sizes rule (after rule cells (k + 1)) (g + (k + 1)) (most - (k + 1)))
      (subst (HasPrefix (stream contents x z)) (sym more) cut) in
      (subst (HasPrefix (stream contents x z)) (sym (later_rest rule cells g (k + 1) most (omega arith))) longer, writes.remembers)

  -- if one more line was written after `k` lines, `k + 1` lines were written
  pub has_more : {V E : Type 0} (contents : V → Option (List ℕ)) (k : ℕ) (x y z : Output V) (line : List ℕ)
      → Has (stream contents x y) (later_sizes rule cells g k)
      → later_sizes rule cells g (k + 1) ≡ later_sizes rule cells g k ++ line → Writes {E = E} contents y z (Ok tt) line
      → Has (stream contents x z) (later_sizes rule cells g (k + 1))
  has_more contents k x y z line has more writes =
      subst (Has (stream contents x z)) (sym more) (Appends-append _ _ _ (later_sizes rule cells g k) line has writes.whole)

  -- if `k` lines were written, and then `m` more, `k + m` lines were written
  pub has_after : {V : Type 0} (contents : V → Option (List ℕ)) (k m : ℕ) (x y z : Output V) → Has (stream contents x y) (later_sizes rule cells g k)
      → Has (stream contents y z) (later_sizes rule (after rule cells k) (g + k) m) → Has (stream contents x z) (later_sizes rule cells g (k + m))
  has_after contents k m x y z one two =
      subst (Has (stream contents x z)) (sym (later_then rule cells g k m))
      (Appends-append _ _ _ (later_sizes rule cells g k) (later_sizes rule (after rule cells k) (g + k) m) one two)

  prefix_after : {V : Type 0} (contents : V → Option (List ℕ)) (k m all : ℕ) (x y z : Output V) → k + m ≤ all → Has (stream contents x y) (later_sizes rule cells g k)
      → HasPrefix (stream contents y z) (later_sizes rule (after rule cells k) (g + k) m) → HasPrefix (stream contents x z) (later_sizes rule cells g all)
  prefix_after contents k m all x y z low one two =
      let cut = AppendsPrefix-append _ _ _ (later_sizes rule cells g k) (later_sizes rule (after rule cells k) (g + k) m) one two in
      let some = subst (HasPrefix (stream contents x z)) (sym (later_then rule cells g k m)) cut in
      subst (HasPrefix (stream contents x z)) (sym (later_rest rule cells g (k + m) all low))
      (AppendsPrefix-longer _ _ (later_sizes rule cells g (k + m)) (later_sizes rule (after rule cells (k + m)) (g + (k + m)) (all - (k + m))) some)

  -- if `k` lines were written, and the next `m` only in part, a prefix of the text was written
  pub leaves_after : {A B V : Type 0} (contents : V → Option (List ℕ)) (done : A → List ℕ) (told : B → List ℕ) (k m all : ℕ) (complaint : Complaint) (x y z : Output V)
      → k + m ≤ all → Has (stream contents x y) (later_sizes rule cells g k)
      → PutsLines told (later_sizes rule (after rule cells k) (g + k) m) (Err complaint) (stream contents y z)
      → PutsLines done (later_sizes rule cells g all) (Err complaint) (stream contents x z)
  leaves_after contents done told k m all (Memory error) x y z low one two = prefix_after contents k m all x y z low one two
  leaves_after contents done told k m all (WriteFailed error) x y z low one two = (prefix_after contents k m all x y z low one two.0, two.1)
  leaves_after contents done told k m all (ReadFailed error) x y z low one two = absurd two
  leaves_after contents done told k m all TooLong x y z low one two = absurd two
  leaves_after contents done told k m all (Refused refusal) x y z low one two = absurd two

-- ---- whole texts

-- if `one` was written, and then all or a part of `two`, then all or a part of `one ++ two` was written
pub leaves_then : {V : Type 0} (contents : V → Option (List ℕ)) (one two : List ℕ) (outcome : TextOutcome) (x y z : Output V)
    → Has (stream contents x y) one → PutsLines (λ _. two) two outcome (stream contents y z) → PutsLines (λ _. one ++ two) (one ++ two) outcome (stream contents x z)
leaves_then contents one two (Ok _) x y z has more = (Appends-append _ _ _ one two has more.0, more.1)
leaves_then contents one two (Err (Memory error)) x y z has more = AppendsPrefix-append _ _ _ one two has more
leaves_then contents one two (Err (WriteFailed error)) x y z has more = (AppendsPrefix-append _ _ _ one two has more.0, more.1)
leaves_then contents one two (Err (ReadFailed error)) x y z has more = absurd more
leaves_then contents one two (Err TooLong) x y z has more = absurd more
leaves_then contents one two (Err (Refused refusal)) x y z has more = absurd more

-- if writing `one` failed, `one ++ two` was written in part
pub leaves_first : {V : Type 0} (contents : V → Option (List ℕ)) (one two : List ℕ) (error : WriteError) (x y : Output V)
    → Writes contents x y (Err error) one → PutsLines {A = Unit {0}} (λ _. one ++ two) (one ++ two) (Err (WriteFailed error)) (stream contents x y)
leaves_first contents one two error x y writes = (AppendsPrefix-longer _ _ one two writes.prefix, writes.remembers)

-- the text of a command is the line of generation `from`, followed by the later lines
pub whole_text : (rule : Numbers) (cells : List Cell) (from last : ℕ) → from ≤ last
    → sizes_text rule cells from (last + 1 - from)
    ≡ size_line from (after rule cells from) ++ later_sizes rule (after rule cells from) from (last - from)
whole_text rule cells from last low =
    let count : last + 1 - from ≡ suc (last - from) = omega arith in
    ap (sizes_text rule cells from) count ∙ text_later rule cells from (last - from)
