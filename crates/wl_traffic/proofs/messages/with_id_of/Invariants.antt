use Rattle.std.proofs.Common.{◌≡◌, take}
use Rattle.wl_traffic.specs.Messages.{with_id_of}
use Rattle.wl_traffic.proofs.messages.with_id_of.Given as goal

-- those so far
abbrev pub invariant-loop-entry : goal.invariant-loop-entry
invariant-loop-entry l = l.mine.items ≡ with_id_of l.frame (take l.entry-index l.entries)
