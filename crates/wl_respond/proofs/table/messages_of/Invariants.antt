use Rattle.std.proofs.Common.{◌≡◌}
use Rattle.wl_respond.specs.Tables.{messages_with}
use Rattle.wl_respond.proofs.table.messages_of.Given as goal

-- the nodes so far
abbrev pub invariant-loop-i : goal.invariant-loop-i
invariant-loop-i l = l.messages ≡ messages_with l.plan l.text l.i
