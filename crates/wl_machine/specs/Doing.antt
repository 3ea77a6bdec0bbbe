-- What a node does, by the stretch that its samples are in (Bosch CAN 2.0 part B, sections 3, 6 and 8).
use Rattle.std.specs.Prelude.{List}
use Rattle.wl_level.specs.declared.Level.{Level}
use Rattle.wl_machine.specs.declared.doing.Doing.{Doing}
use Rattle.wl_machine.specs.declared.doing.Doing.TheVariants as doings
use Rattle.wl_machine.specs.declared.state.Cause.{Cause}
use Rattle.wl_machine.specs.declared.state.Cause.TheVariants.{Error, Overload}
use Rattle.wl_machine.specs.declared.state.Role.{Role}
use Rattle.wl_machine.specs.declared.state.Role.TheVariants.{Tx, Rx}
use Rattle.wl_machine.specs.declared.state.State.{State}
use Rattle.wl_machine.specs.declared.state.State.TheVariants as states
use Rattle.wl_machine.specs.Stretch.{Flag, Sort, Stretch}
use Rattle.wl_machine.specs.Stretch.Flag.{ActiveFlag, OverloadFlag, PassiveFlag}
use Rattle.wl_machine.specs.Stretch.Sort.{Integration, Idle, Framing, Flagging, Waiting, Delimiting, Intermission, Suspension, OffBus}
use Rattle.wl_machine.specs.Frames.{frame_role}

-- a transmitter that lost the arbitration receives
abbrev pub doing_as : Role → Doing
doing_as Tx = doings.Transmitting
doing_as Rx = doings.Receiving

abbrev pub flag_doing : Flag → Doing
flag_doing ActiveFlag = doings.ActiveFlag
flag_doing OverloadFlag = doings.OverloadFlag
flag_doing (PassiveFlag unacknowledged) = doings.PassiveFlag

abbrev pub doing_by : Sort → List Level → Doing
doing_by Integration own = doings.Integrating
doing_by Idle own = doings.Idle
doing_by (Framing head) own = doing_as (frame_role head own)
doing_by (Flagging flag role) own = flag_doing flag
doing_by (Waiting flag role flagged) own = doings.Waiting
doing_by (Delimiting role) own = doings.Delimiting
doing_by (Intermission role) own = doings.Intermission
doing_by Suspension own = doings.Suspended
doing_by OffBus own = doings.OffBus

abbrev pub doing_of : Stretch → Doing
doing_of s = doing_by s.sort s.own

-- the same by what is kept
abbrev pub cause_doing : Cause → Doing
cause_doing Error = doings.ActiveFlag
cause_doing Overload = doings.OverloadFlag

abbrev pub state_doing : State → Doing
state_doing (states.Integrating run) = doings.Integrating
state_doing states.Idle = doings.Idle
state_doing (states.Sending last run) = doings.Transmitting
state_doing (states.Receiving last run) = doings.Receiving
state_doing (states.SentTail place) = doings.Transmitting
state_doing (states.ReceivedTail place right) = doings.Receiving
state_doing (states.Flag cause role count run) = cause_doing cause
state_doing (states.PassiveFlag role owed last run) = doings.PassiveFlag
state_doing (states.Wait role late left) = doings.Waiting
state_doing (states.Delimiter role count) = doings.Delimiting
state_doing (states.Intermission role count) = doings.Intermission
state_doing (states.Suspended count) = doings.Suspended
state_doing (states.BusOff runs run) = doings.OffBus
