-- Whether a node is error active, by the events of its samples.
use Rattle.std.specs.Prelude.{Bool, List, fold}
use Rattle.wl_confine.specs.Counts.{mode_of}
use Rattle.wl_trace.specs.declared.event.NodeEvent.{NodeEvent}
use Rattle.wl_trace.specs.declared.event.NodeEvent.TheVariants.{ModeChanged}
use Rattle.wl_trace.specs.declared.event.Noted.{Noted}
use Rattle.wl_onward.specs.Fits.{is_active}

-- after an event
abbrev pub active_with : Bool → NodeEvent → Bool
active_with active (ModeChanged counts) = is_active (mode_of counts)
active_with active event = active

-- after the events of a sample
abbrev pub active_after : Bool → List Noted → Bool
active_after active events = fold (λ a n. active_with a n.event) active events
