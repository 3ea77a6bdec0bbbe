use Rattle.std.proofs.Common.{arith}
use Rattle.wl_buses.specs.OneListener.Beside.{with_listener}
use Rattle.wl_buses.proofs.one_listener.laws.a_listener_receives_the_next_frame.Goals as goal

pub returns : goal.returns
returns c = λ s o end way chase more are room mute is some stuffed won can unheard rest since setup levels node segments run after rests early finds.
    (let found = c.a_listener_finds_the_end.ensures s o end way chase more are room mute is stuffed won can unheard in (
      found.0,
      c.a_node_that_finds_its_end_goes_through_the_next_frame.ensures (with_listener s) o end are room is some stuffed won s.count rest since setup levels node (omega arith) found.1 segments run after rests early
          finds,
      c.a_frame_passes_a_node_that_finds_its_end.ensures (with_listener s) o end are room is some stuffed won s.count rest since setup levels node (omega arith) found.1 segments run after rests early finds,
    ))
