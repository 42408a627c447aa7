use Rattle.std.proofs.Common.{◌≡◌, ◌++◌, ◌+◌, ◌≤◌, List, vec_len, vec_capacity}
use Rattle.std.specs.Vec.Iter.{into_iter_len}
use Rattle.haul_core.specs.Books.{StandsFor}
use Rattle.haul_core.specs.Refusals.{replies_to}
use Rattle.haul_core.specs.declared.book.arrival.Arrival.{Arrival}
use Rattle.haul_core.proofs.book.keep.keep_book.Given as goal

abbrev pub invariant-loop-arrival : goal.invariant-loop-arrival
invariant-loop-arrival l = record {
  replies : (before : List Arrival) → StandsFor before l.fn.haul → l.replies.items ≡ replies_to l.fn.haul.terms before l.yielded;
  stands : (before : List Arrival) → StandsFor before l.fn.haul → StandsFor (before ++ l.yielded) l.haul;
  terms : l.haul.terms ≡ l.fn.haul.terms;
  room : vec_len l.replies + into_iter_len l.arrival-iterator ≤ vec_capacity l.replies;
}
