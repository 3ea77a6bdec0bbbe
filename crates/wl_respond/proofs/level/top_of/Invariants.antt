use Rattle.std.proofs.Common.{◌≡◌, ◌==◌}
use Rattle.wl_bound.specs.Terms.{greatest}
use Rattle.wl_respond.specs.Tests.{message_at}
use Rattle.wl_respond.proofs.level.top_of.Given as goal

abbrev pub invariant-loop-e : goal.invariant-loop-e
invariant-loop-e l = l.greatest ≡ greatest l.e (λ e. (message_at l.messages e).node == l.i) (λ e. (message_at l.messages e).field)
