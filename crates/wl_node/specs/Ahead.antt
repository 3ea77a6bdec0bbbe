-- What an engine that runs a transmitter ahead of all others asks of a node. This project's profile; what a transmitter sends nobody else may change
-- but by an error, up to the end of the CRC sequence (Bosch CAN 2.0 part B, sections 3.2.1 and 5).
use Rattle.std.specs.Prelude.{ℕ, Bool, true, false, not, ◌&&◌, ◌||◌, List, if◌then◌else◌}
use Rattle.wl_level.specs.Levels.{is_dominant}
use Rattle.wl_machine.specs.declared.doing.Doing.{Doing}
use Rattle.wl_machine.specs.declared.doing.Doing.TheVariants as doings
use Rattle.wl_machine.specs.Doing.{doing_of}
use Rattle.wl_machine.specs.Judged.{awaits_start, stretch_of}
use Rattle.wl_machine.specs.Sending.{to_send}
use Rattle.wl_level.specs.declared.Level.{Level}
use Rattle.wl_node.specs.declared.setup.NodeSetup.{NodeSetup}
use Rattle.wl_node.specs.History.{History, staying_history, has_left}

-- how many bits of its frame a transmitter has before it, once its start of frame was sampled, up to the end of the CRC sequence; none before
abbrev pub left_to_send : History → ℕ
left_to_send h = if awaits_start (stretch_of h.inputs) then 0 else to_send (stretch_of h.inputs)

-- it waits, is idle, receives or is off the bus
abbrev pub is_hearing : Doing → Bool
is_hearing doings.Integrating = true
is_hearing doings.Idle = true
is_hearing doings.Receiving = true
is_hearing doings.OffBus = true
is_hearing other = false

-- and drives recessive
abbrev pub is_listening : History → Bool
is_listening h = not (is_dominant h.drive) && is_hearing (doing_of (stretch_of h.inputs))

-- A node that has left the bus has nothing to send, and only listens.
abbrev pub to_send_of : NodeSetup → List Level → ℕ
to_send_of setup levels = if has_left setup.until levels then 0 else left_to_send (staying_history setup levels)

abbrev pub listens_of : NodeSetup → List Level → Bool
listens_of setup levels = has_left setup.until levels || is_listening (staying_history setup levels)
