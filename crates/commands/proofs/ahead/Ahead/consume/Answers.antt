use Rattle.std.proofs.Common.{◌≤◌, ◌∙◌, ℕ, List, ap, drop, length, subst, sym}
use Rattle.commands.proofs.AheadLemmas.{further}
use Rattle.commands.proofs.ahead.Ahead.consume.Goals as goal

pub returns : goal.returns
returns c =
    let read = c.self.inside in
    further read.buffer.items read.start read.end c.args.amount
    (subst (λ (l : List ℕ). c.args.amount ≤ length l) (sym c.self.view_is) c.requires)
    ∙ ap (drop c.args.amount) c.self.view_is
