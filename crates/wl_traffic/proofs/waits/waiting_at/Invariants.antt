use Rattle.std.proofs.Common.{◌≡◌, take}
use Rattle.std.specs.Prelude.{count_by}
use Rattle.wl_traffic.specs.Waits.{waits_at}
use Rattle.wl_traffic.proofs.waits.waiting_at.Given as goal

-- those so far
abbrev pub invariant-loop-entry : goal.invariant-loop-entry
invariant-loop-entry l = l.waiting ≡ count_by (waits_at l.quantum) (take l.entry-index l.mine)
