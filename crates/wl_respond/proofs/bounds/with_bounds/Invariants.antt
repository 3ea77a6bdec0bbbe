use Rattle.std.proofs.Common.{◌≡◌, ℕ, ◌<◌, length}
use Rattle.wl_respond.specs.Tables.{IsBounded}
use Rattle.wl_respond.specs.Tests.{message_at}
use Rattle.wl_respond.proofs.bounds.with_bounds.Given as goal

-- the messages so far
abbrev pub invariant-loop-e : goal.invariant-loop-e
invariant-loop-e l = (length l.all.items ≡ l.e) × ((k : ℕ) → k < l.e → IsBounded (message_at l.messages k) (message_at l.all.items k))
