-- What a node is at: its error counters, and what it does by the stretch that its samples are in (Bosch CAN 2.0 part B, sections 3, 6 and 8).
use Rattle.wl_confine.specs.Counts.{Counts, counts_of, mode_of}
use Rattle.wl_machine.specs.Doing.{doing_of}
use Rattle.wl_machine.specs.Stretch.{Stretch}
use Rattle.wl_machine.specs.Judged.{stretch_of}
use Rattle.wl_node.specs.History.{History}
use Rattle.wl_trace.specs.declared.snapshot.NodeState.{NodeState}

-- by the counters and the stretch
abbrev pub state_by : Counts → Stretch → NodeState
state_by counts s = record { tec = counts.tec; rec = counts.rec; mode = mode_of counts; doing = doing_of s }

-- what a node of this history is at
abbrev pub node_state_of : History → NodeState
node_state_of h = state_by (counts_of h.happened) (stretch_of h.inputs)
