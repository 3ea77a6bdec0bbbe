use Rattle.std.proofs.Common.{◌≡◌, ◌++◌, drop, string_bytes}
use Rattle.std.specs.List.{flat_map}
use Rattle.wl_print.specs.Written.{disturbance_lines}
use Rattle.wl_print.proofs.written.push_disturbances.Given as goal

abbrev pub invariant-loop-disturbance : goal.invariant-loop-disturbance
invariant-loop-disturbance l = string_bytes l.text ++ flat_map disturbance_lines (drop l.disturbance-index l.disturbances) ≡ string_bytes l.fn.text ++ flat_map disturbance_lines l.disturbances
