use Rattle.std.proofs.Common.{◌≡◌}
use Rattle.std.specs.List.{list_all, range_with_len}
use Rattle.wl_traffic.specs.Late.{is_in_step}
use Rattle.wl_traffic.proofs.late.are_in_step.Given as goal

-- whether the frames so far are
abbrev pub invariant-loop-k : goal.invariant-loop-k
invariant-loop-k l = l.all ≡ list_all (is_in_step l.timely) (range_with_len 0 l.k)
