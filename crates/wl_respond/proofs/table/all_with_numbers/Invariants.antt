use Rattle.std.proofs.Common.{◌≡◌, ℕ, ◌<◌, length}
use Rattle.wl_respond.specs.Tables.{HasNumbers}
use Rattle.wl_respond.specs.Tests.{message_at}
use Rattle.wl_respond.proofs.table.all_with_numbers.Given as goal

-- the messages so far
abbrev pub invariant-loop-e : goal.invariant-loop-e
invariant-loop-e l =
    (length l.table.items ≡ l.e) × ((k : ℕ) → k < l.e → HasNumbers l.plan l.messages (message_at l.messages k) (message_at l.table.items k))
