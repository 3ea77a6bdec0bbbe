use Rattle.std.proofs.Common.{◌≡◌}
use Rattle.wl_respond.specs.Tables.{with_entries}
use Rattle.wl_respond.proofs.table.see_entries.Given as goal

-- the entries so far
abbrev pub invariant-loop-n : goal.invariant-loop-n
invariant-loop-n l = l.messages ≡ with_entries l.initial.messages l.i l.queue l.n
