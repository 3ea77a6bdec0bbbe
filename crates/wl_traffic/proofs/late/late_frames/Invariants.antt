use Rattle.std.proofs.Common.{◌≡◌, take}
use Rattle.std.specs.List.{filter}
use Rattle.wl_traffic.specs.Late.{is_late}
use Rattle.wl_traffic.proofs.late.late_frames.Given as goal

-- those so far
abbrev pub invariant-loop-entry : goal.invariant-loop-entry
invariant-loop-entry l = l.late.items ≡ filter (is_late l.longest l.queue l.period) (take l.entry-index l.timely)
