use Rattle.std.proofs.Common.{inl, inr}
use Rattle.plane_core.specs.declared.engine.leap_window.LeapWindow.{LeapWindow}
use Rattle.plane_core.specs.engine.LeapWindows.{IsInnerCell}
use Rattle.plane_core.proofs.lemmas.engine.ActiveBoxLemmas.{any_pushed}
use Rattle.plane_core.proofs.engine.cover.lay.Goals as goal

pub returns-clause-kept : goal.returns-clause-kept
returns-clause-kept c d some =
    any_pushed (λ (p : LeapWindow). IsInnerCell p d) c.args.windows.now.items c.push.new.self.items _ c.in_ok-push.ensures.items (inl some)

pub returns-clause-laid : goal.returns-clause-laid
returns-clause-laid c d within =
    any_pushed (λ (p : LeapWindow). IsInnerCell p d) c.args.windows.now.items c.push.new.self.items _ c.in_ok-push.ensures.items
    (inr (c.one_window.ensures d within))
