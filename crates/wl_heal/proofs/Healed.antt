-- What holds of a wire goes on to the wire after some events.
use Rattle.std.proofs.Common.{List, [], ◌∷◌}
use Rattle.wl_wire.specs.Wire.{Wire, Event, next_wire, wire_after}
use Rattle.wl_wire.specs.InStep.{AreSoundFrames}

pub sound_after : (w : Wire) (events : List Event) → AreSoundFrames w.count w.frames → AreSoundFrames (wire_after w events).count (wire_after w events).frames
sound_after w [] sound = sound
sound_after w (event ∷ events) sound = sound_after (next_wire w event) events sound
