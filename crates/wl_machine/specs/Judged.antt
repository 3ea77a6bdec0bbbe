-- The machine over all that reached it: what each sample does, the running stretch, its role, and what it drives.
use Rattle.std.specs.Prelude.{◌==◌, nat_lt, Bool, true, false, List, [], ◌∷◌, ◌++◌, length, fold, Option, Some, None}
use Rattle.wl_level.specs.declared.Level.{Level}
use Rattle.wl_level.specs.declared.Level.TheVariants.{Dominant, Recessive}
use Rattle.wl_frame.specs.Grammar.{Content}
use Rattle.wl_machine.specs.declared.state.Role.{Role}
use Rattle.wl_machine.specs.declared.state.Role.TheVariants.{Rx}
use Rattle.wl_machine.specs.Stretch.{Sort, Stretch, Sampled, Input, Judgement}
use Rattle.wl_machine.specs.Stretch.Sort.{Integration, Idle, Framing, Flagging, Waiting, Delimiting, Intermission, Suspension, OffBus}
use Rattle.wl_machine.specs.Stretch.Flag.{ActiveFlag, OverloadFlag}
use Rattle.wl_machine.specs.Stretch.Input.{Sample, SwitchedOff}
use Rattle.wl_machine.specs.Frames.{framing, frame_role, frame_drive}
use Rattle.wl_machine.specs.Flags.{flagging, waiting, delimiting}
use Rattle.wl_machine.specs.BetweenFrames.{integration, idle, intermission, suspension, off_bus}

-- what a sample does, by the sort of the stretch that it comes in and the samples of that stretch before it
abbrev pub judged_by : Sort → List Level → Sampled → Judgement
judged_by Integration own x = integration own x
judged_by Idle own x = idle x
judged_by (Framing head) own x = framing head own x
judged_by (Flagging flag role) own x = flagging flag role own x
judged_by (Waiting flag role flagged) own x = waiting flag role flagged own x
judged_by (Delimiting role) own x = delimiting role own x
judged_by (Intermission role) own x = intermission role own x
judged_by Suspension own x = suspension own x
judged_by OffBus own x = off_bus own x

abbrev pub judged : Stretch → Sampled → Judgement
judged s x = judged_by s.sort s.own x

-- the stretch that begins, or else the running one with its next sample
abbrev pub or_next : Option Stretch → Stretch → Stretch
or_next None s = s
or_next (Some next) s = next

abbrev pub stretch_after : Stretch → Input → Stretch
stretch_after s (Sample x) = or_next (judged s x).next (record { sort = s.sort; own = s.own ++ x.level ∷ [] })
stretch_after s SwitchedOff = record { sort = OffBus; own = [] }

-- the running stretch after all that reached the machine
abbrev pub stretch_of : List Input → Stretch
stretch_of inputs = fold stretch_after (record { sort = Integration; own = [] }) inputs

-- A node is transmitter from the start of its frame until it loses the arbitration or the intermission is over, also through flags, waits
-- and delimiters; else it is a receiver (Bosch CAN 2.0 part B, section 3.4; for overloads, bus off and suspension this project's profile).
abbrev pub role_by : Sort → List Level → Role
role_by (Framing head) own = frame_role head own
role_by (Flagging flag role) own = role
role_by (Waiting flag role flagged) own = role
role_by (Delimiting role) own = role
role_by (Intermission role) own = role
role_by sort own = Rx

abbrev pub role_of : Stretch → Role
role_of s = role_by s.sort s.own

-- the level that the running stretch drives at its next bit: a flag but a passive one is dominant (sections 3.2.3 and 3.2.4)
abbrev pub drive_by : Sort → List Level → Level
drive_by (Framing head) own = frame_drive head own
drive_by (Flagging ActiveFlag role) own = Dominant
drive_by (Flagging OverloadFlag role) own = Dominant
drive_by sort own = Recessive

abbrev pub drive_of : Stretch → Level
drive_of s = drive_by s.sort s.own

-- the bus is idle to a node that has nothing to send, and to a suspended one (section 3.2.5)
abbrev pub is_idle_sort : Sort → Bool
is_idle_sort Idle = true
is_idle_sort Suspension = true
is_idle_sort sort = false

-- A node awaits a start of frame where the next edge may be one, up to its own: on an idle bus, while it is suspended or integrates, from the sample of the first
-- bit of an intermission to that of the third, and where it has decided to send (sections 3.2.1 and 3.2.5; ISO 11898-1, hard synchronisation)
abbrev pub awaits_by : Sort → List Level → Bool
awaits_by Integration own = true
awaits_by Idle own = true
awaits_by (Framing head) own = length own == 0
awaits_by (Intermission role) own = nat_lt 0 (length own)
awaits_by Suspension own = true
awaits_by sort own = false

abbrev pub awaits_start : Stretch → Bool
awaits_start s = awaits_by s.sort s.own

-- the bus is free, and the node has nothing to send (section 3.2.5, bus idle)
abbrev pub is_free_sort : Sort → Bool
is_free_sort Idle = true
is_free_sort sort = false

-- the frame that a stretch sends, which is the head at the sample that began it
abbrev pub head_of : Sort → Option Content
head_of (Framing head) = head
head_of sort = None
