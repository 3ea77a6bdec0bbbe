use Rattle.std.proofs.Common.{◌≡◌}
use Rattle.wl_respond.specs.Tables.{messages_below}
use Rattle.wl_respond.proofs.table.see_plan.Given as goal

-- the queues so far
abbrev pub invariant-loop-i : goal.invariant-loop-i
invariant-loop-i l = l.messages ≡ messages_below l.plan l.i
