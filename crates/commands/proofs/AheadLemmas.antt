-- The bytes of an input that have been read but not used yet.
use Rattle.std.proofs.Common.{◌≡◌, ◌≤◌, ◌+◌, ◌-◌, ◌∙◌, ℕ, List, ap, arith, drop, drop-drop, length, length-take, slice_range, sym, take}
use Rattle.std.proofs.lemmas.List.{drop-take}

-- if `start` moves on by `amount`, the first `amount` of the bytes that aren't used yet are dropped
pub further : (bytes : List ℕ) (start end amount : ℕ) → amount ≤ length (slice_range bytes start end)
    → slice_range bytes (start + amount) end ≡ drop amount (slice_range bytes start end)
further bytes start end amount within =
    let long = length-take (end - start) (drop start bytes) in
    let whole : amount + (end - (start + amount)) ≡ end - start = omega (arith, within, long) in
    ap (take (end - (start + amount))) (sym (drop-drop amount start bytes))
    ∙ sym (drop-take amount (end - (start + amount)) (drop start bytes))
    ∙ ap (λ k. drop amount (take k (drop start bytes))) whole
