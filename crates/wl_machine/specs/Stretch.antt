-- The stretches that the samples of a machine are cut into, and what a sample does to one.
use Rattle.std.specs.Prelude.{Bool, List, Option, Some, None}
use Rattle.wl_level.specs.declared.Level.{Level}
use Rattle.wl_confine.specs.declared.Mode.{Mode}
use Rattle.wl_confine.specs.declared.Happened.{Happened}
use Rattle.wl_frame.specs.Grammar.{Content}
use Rattle.wl_machine.specs.declared.state.Role.{Role}

-- What a flag is sent for: an error found in mode Active, an overload, or an error found in another mode, which may be the
-- missing acknowledgement of an error passive transmitter (Bosch CAN 2.0 part B, sections 3.2.3, 3.2.4 and 8).
pub data Flag : Type 0 where
  ActiveFlag : Flag
  OverloadFlag : Flag
  PassiveFlag : (unacknowledged : Bool) → Flag

-- A stretch by what began it: a frame by the head that is sent, if there is one; a wait by its flag and the flag's samples.
pub data Sort : Type 0 where
  Integration : Sort
  Idle : Sort
  Framing : (head : Option Content) → Sort
  Flagging : (flag : Flag) → (role : Role) → Sort
  Waiting : (flag : Flag) → (role : Role) → (flagged : List Level) → Sort
  Delimiting : (role : Role) → Sort
  Intermission : (role : Role) → Sort
  Suspension : Sort
  OffBus : Sort

-- a stretch so far: its sort, and its own samples
pub record Stretch : Type 0 where
  pub sort : Sort
  pub own : List Level

-- one sample, with the head and the mode at it
pub record Sampled : Type 0 where
  pub level : Level
  pub head : Option Content
  pub mode : Mode

-- what reaches a machine: a sample, or the order to go off the bus
pub data Input : Type 0 where
  Sample : (sampled : Sampled) → Input
  SwitchedOff : Input

-- whether a sample completes a frame: one that was sent, which is the head that its stretch began with, or one that was received
pub data Ended : Type 0 where
  NoFrame : Ended
  Sent : (frame : Content) → Ended
  Received : (frame : Content) → Ended

-- what a sample does: what happened, the frame that it completes, and the stretch that begins, if the running one ends
pub record Judgement : Type 0 where
  pub happened : Happened
  pub ended : Ended
  pub next : Option Stretch

-- the stretch goes on
abbrev pub continues : Happened → Judgement
continues happened = record { happened = happened; ended = NoFrame; next = None }

-- The stretch ends, and this one begins. Its samples are none, or the last one where that is the first bit of what begins.
abbrev pub begins : Happened → Sort → List Level → Judgement
begins happened sort own = record { happened = happened; ended = NoFrame; next = Some (record { sort = sort; own = own }) }

-- the bus is free: the head is sent from its start of frame, if there is one
abbrev pub free : Option Content → Sort
free None = Idle
free (Some head) = Framing (Some head)
