use Rattle.std.proofs.Common.{◌≡◌, take}
use Rattle.wl_traffic.specs.Late.{in_time}
use Rattle.wl_traffic.proofs.late.in_time.Given as goal

-- those so far
abbrev pub invariant-loop-entry : goal.invariant-loop-entry
invariant-loop-entry l = l.timely.items ≡ in_time l.last (take l.entry-index l.mine)
