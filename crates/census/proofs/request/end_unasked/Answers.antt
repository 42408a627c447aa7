use Rattle.std.proofs.Common.{inl}
use Rattle.census.proofs.request.end_unasked.Goals as goal

pub returns-in-Usage : goal.returns-in-Usage
returns-in-Usage g c = inl (
  rw c.in-Usage.is tt,
  c.end_with_usage.ensures.status,
  record {
    text = c.as_bytes.result.now;
    says = rw c.as_bytes.ensures.value (rw c.in-Usage.is at c.requires.why);
    line = c.end_with_usage.ensures.line;
  },
)
