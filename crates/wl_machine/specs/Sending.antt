-- How many bits of its frame a transmitter has before it, up to the end of what is stuffed (Bosch CAN 2.0 part B, sections 3.2.1 and 5).
use Rattle.std.specs.Prelude.{ℕ, ◌-◌, List, length, Option, Some, None}
use Rattle.wl_level.specs.declared.Level.{Level}
use Rattle.wl_frame.specs.Grammar.{bits_of}
use Rattle.wl_frame.specs.Stuffing.{destuffed_bits}
use Rattle.wl_machine.specs.declared.state.Role.{Role}
use Rattle.wl_machine.specs.declared.state.Role.TheVariants.{Tx, Rx}
use Rattle.wl_machine.specs.declared.state.State.{State}
use Rattle.wl_machine.specs.declared.state.State.TheVariants.{Sending}
use Rattle.wl_machine.specs.Stretch.{Sort, Stretch}
use Rattle.wl_machine.specs.Stretch.Sort.{Framing}
use Rattle.wl_machine.specs.Frames.{stuffed_end, frame_role}

-- so many where it transmits and what is stuffed has not ended
abbrev pub bits_as : Role → Option ℕ → ℕ → ℕ
bits_as Tx None n = n
bits_as Tx (Some end) n = 0
bits_as Rx end n = 0

-- without stuff bits; none for a node that doesn't transmit
abbrev pub to_send_by : Sort → List Level → ℕ
to_send_by (Framing (Some head)) own = bits_as (frame_role (Some head) own) (stuffed_end own) (length (bits_of head) - length (destuffed_bits own (length own)))
to_send_by sort own = 0

abbrev pub to_send : Stretch → ℕ
to_send s = to_send_by s.sort s.own

-- the same by what is kept
abbrev pub state_to_send : State → List Level → List Level → ℕ
state_to_send (Sending last run) bits sent = length sent - length bits
state_to_send state bits sent = 0
