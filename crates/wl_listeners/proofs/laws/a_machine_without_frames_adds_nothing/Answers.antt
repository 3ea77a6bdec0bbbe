use Rattle.std.proofs.Common.{◌≡◌, arith}
use Rattle.wl_wire.specs.Wire.{idle_wire, wire_after}
use Rattle.wl_wire.proofs.Callers.{count_after}
use Rattle.wl_listeners.proofs.Wires.{has_none, idle_heads, none_after, same_bus}
use Rattle.wl_listeners.proofs.laws.a_machine_without_frames_adds_nothing.Goals as goal

pub returns : goal.returns
returns c = λ count frames events listener sound three inside none.
    (let w = wire_after (idle_wire count frames) events in
    let many : w.count ≡ count = count_after (idle_wire count frames) events in
    same_bus w listener (c.machines_stay_in_step.ensures.step count frames events sound)
    (c.machines_that_are_in_step_stay_so.ensures.heads (idle_wire count frames) events (idle_heads count frames)) (c.the_least_field_wins.ensures count frames events sound)
    (omega arith) (omega arith) (λ content has. has_none (w.frames listener) (none_after (idle_wire count frames) events listener none) content has.0 has.1))
