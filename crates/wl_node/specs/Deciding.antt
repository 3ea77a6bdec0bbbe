-- Whether a machine looks at the head that it is handed with its next sample: where it is between frames, as it may begin one then (Bosch CAN 2.0 part B, section 3.2.5).
use Rattle.std.specs.Prelude.{Bool, true, false}
use Rattle.wl_machine.specs.declared.doing.Doing.{Doing}
use Rattle.wl_machine.specs.declared.doing.Doing.TheVariants as doings

abbrev pub looks_at_head : Doing → Bool
looks_at_head doings.Integrating = true
looks_at_head doings.Idle = true
looks_at_head doings.Intermission = true
looks_at_head doings.Suspended = true
looks_at_head doings.OffBus = true
looks_at_head other = false
