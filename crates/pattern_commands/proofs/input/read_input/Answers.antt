use Rattle.std.proofs.Common.{◌<◌, ◌≤◌, ◌∙◌, ◌++◌, ap, arith, subst, sym, take}
use Rattle.std.proofs.KnownBytes.{Consumes-kept}
use Rattle.pattern_commands.proofs.AnswerLemmas.{little_more, long_input, none_read, none_short, read_more, short_more, whole_input}
use Rattle.pattern_commands.proofs.input.read_input.Goals as goal

pub loop-input-init : goal.loop-input-init
loop-input-init g c =
    let none = c.new-bytes.ensures.items in (
      none_read _ _ none,
      sym c.in_ok-buffer.buffer.ok.0 ∙ c.in_ok-buffer.ensures.len,
      none_short 16842752 _ none,
    )

pub returns-in_err-taken-clause-little : goal.returns-in_err-taken-clause-little
returns-in_err-taken-clause-little g c =
    let so_far = c.loop-input.invariant in (c.loop-input.bytes.items, Consumes-kept _ _ _ _ so_far.0 c.in_err-taken.ensures.kept, so_far.2)

pub returns-then-taken-eq0-clause-whole : goal.returns-then-taken-eq0-clause-whole
returns-then-taken-eq0-clause-whole g c =
    let so_far = c.loop-input.invariant in
    let some : 0 < c.loop-input.buffer.len = subst (λ n. 0 < n) (sym (c.loop-input.buffer.ok.0 ∙ so_far.1)) (omega arith) in
    let none = c.if-taken-eq0.true in
    whole_input _ _ _ _ _ c.in_ok-taken.taken so_far.0 c.in_ok-taken.ensures.read none (c.in_ok-taken.ensures.end none some)

pub returns-then-taken-eq0-clause-little : goal.returns-then-taken-eq0-clause-little
returns-then-taken-eq0-clause-little g c =
    let so_far = c.loop-input.invariant in
    let room = sym c.read_once.new.buffer.ok.0 ∙ c.read_once.ensures.len ∙ c.loop-input.buffer.ok.0 ∙ so_far.1 in
    little_more 16777216 65536 _ _ _ _ _ c.in_ok-taken.taken so_far.0 c.in_ok-taken.ensures.read
    (subst (λ n. n ≤ 16777216) (c.len.ensures ∙ c.loop-input.bytes.ok.0) c.loop-input-test.true) room

pub loop-input-preserved : goal.loop-input-preserved
loop-input-preserved g c =
    let so_far = c.loop-input.invariant in
    let room = sym c.read_once.new.buffer.ok.0 ∙ c.read_once.ensures.len ∙ c.loop-input.buffer.ok.0 ∙ so_far.1 in
    let items = c.in_ok-extend_from_slice.ensures.items ∙ ap (λ l. c.loop-input.bytes.items ++ take c.in_ok-taken.taken l) c.as_slice.ensures.value in (
      read_more _ _ _ _ _ _ c.in_ok-taken.taken so_far.0 c.in_ok-taken.ensures.read items,
      room,
      short_more 16777216 65536 _ _ _ c.in_ok-taken.taken (subst (λ n. n ≤ 16777216) (c.len.ensures ∙ c.loop-input.bytes.ok.0) c.loop-input-test.true)
          room items,
    )

pub returns-in_err-extend_from_slice-clause-little : goal.returns-in_err-extend_from_slice-clause-little
returns-in_err-extend_from_slice-clause-little g c =
    let so_far = c.loop-input.invariant in
    let room = sym c.read_once.new.buffer.ok.0 ∙ c.read_once.ensures.len ∙ c.loop-input.buffer.ok.0 ∙ so_far.1 in
    little_more 16777216 65536 _ _ _ _ _ c.in_ok-taken.taken so_far.0 c.in_ok-taken.ensures.read
    (subst (λ n. n ≤ 16777216) (c.len.ensures ∙ c.loop-input.bytes.ok.0) c.loop-input-test.true) room

pub returns-clause-long : goal.returns-clause-long
returns-clause-long g c = λ is.
    let so_far = c.loop-input.invariant in
    long_input 16777216 _ _ _ so_far.0 (subst (λ n. 16777216 < n) (c.len.ensures ∙ c.loop-input.bytes.ok.0) c.loop-input-test.false)
