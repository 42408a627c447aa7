use Rattle.std.proofs.Common.{rules}
use Rattle.std.proofs.lemmas.List.Sorted.{IsNonDecreasingBy-from_sort_by_key}
use Rattle.ranges.proofs.range.ascending.Goals as goal

pub returns-clause-ordered : goal.returns-clause-ordered
returns-clause-ordered c =
    IsNonDecreasingBy-from_sort_by_key (λ r. r.first) c.sort_by_key.new.self.items c.in_ok-sort_by_key.ensures.sorted (λ a r f call. search rules)
