use Rattle.std.proofs.Common.{◌≡◌, map, take}
use Rattle.wl_traffic.specs.Entries.{waiting_entry}
use Rattle.wl_traffic.proofs.entries.waiting_entries.Given as goal

-- those of the queue so far
abbrev pub invariant-loop-queued : goal.invariant-loop-queued
invariant-loop-queued l = l.entries.items ≡ map waiting_entry (take l.queued-index l.queue)
