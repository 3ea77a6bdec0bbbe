-- The frame that a machine between frames begins.
use Rattle.std.specs.Prelude.{Option, None}
use Rattle.wl_frame.specs.Grammar.{Content}
use Rattle.wl_machine.specs.Stretch.{Sort, Sampled}
use Rattle.wl_machine.specs.Stretch.Sort.{Framing, Intermission}
use Rattle.wl_machine.specs.BetweenFrames.{begun_head}

-- The frame of its own that a machine begins with a dominant sample, if it begins one: the frame that it is to begin, or in the third bit of an intermission the frame that it is handed with the sample, of which it
-- sends the bit after the start of frame next; Bosch CAN 2.0 part B, section 3.2.5 (intermission)
abbrev pub frame_begun : Sort → Sampled → Option Content
frame_begun (Framing head) x = head
frame_begun (Intermission role) x = begun_head role x.mode x.head
frame_begun sort x = None
