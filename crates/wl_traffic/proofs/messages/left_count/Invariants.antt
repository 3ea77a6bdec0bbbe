use Rattle.std.proofs.Common.{◌≡◌, take}
use Rattle.std.specs.Prelude.{count_by}
use Rattle.wl_traffic.specs.Messages.{is_left_entry}
use Rattle.wl_traffic.proofs.messages.left_count.Given as goal

-- those so far
abbrev pub invariant-loop-entry : goal.invariant-loop-entry
invariant-loop-entry l = l.count ≡ count_by is_left_entry (take l.entry-index l.mine)
