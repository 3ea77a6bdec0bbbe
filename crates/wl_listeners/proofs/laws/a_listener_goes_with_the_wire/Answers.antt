use Rattle.std.proofs.Common.{◌≡◌, arith}
use Rattle.wl_wire.specs.Wire.{idle_wire, wire_after}
use Rattle.wl_wire.proofs.Callers.{count_after}
use Rattle.wl_listeners.proofs.Beside.{same_past}
use Rattle.wl_listeners.proofs.laws.a_listener_goes_with_the_wire.Goals as goal

pub returns : goal.returns
returns c = λ count frames events listener sound three inside none k less.
    (let many : (wire_after (idle_wire count frames) events).count ≡ count = count_after (idle_wire count frames) events in
    same_past listener (idle_wire count frames) (λ done. c.a_machine_without_frames_adds_nothing.ensures count frames done listener sound three inside none) events k (omega arith))
