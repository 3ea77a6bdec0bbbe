-- What is noted of a sample.
use Rattle.std.specs.Prelude.{◌≡◌, List, ◌++◌, map}
use Rattle.wl_trace.specs.declared.event.NodeEvent.{NodeEvent}
use Rattle.wl_trace.specs.declared.notes.Notes.{Notes}
use Rattle.wl_trace.specs.Events.{noted}

-- these events were added, and the sample stays
pub record Adds (old new : Notes) (more : List NodeEvent) : Type 0 where
  pub events : new.events.items ≡ old.events.items ++ map (noted old.quantum old.bit) more
  pub quantum : new.quantum ≡ old.quantum
  pub bit : new.bit ≡ old.bit
