use Rattle.std.proofs.Common.{◌≡◌, fold, take}
use Rattle.wl_calm.specs.Modes.{active_with}
use Rattle.wl_calm.proofs.fit.active_after.Given as goal

-- after the events so far
abbrev pub invariant-loop-noted : goal.invariant-loop-noted
invariant-loop-noted l = l.after ≡ fold (λ a n. active_with a n.event) l.active (take l.noted-index l.events)
