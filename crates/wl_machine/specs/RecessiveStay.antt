-- For how many recessive samples more a machine is sure to want recessive, whatever frames it is handed and in whatever modes. Only a machine at rest is: handed no
-- frame, it goes on to a free bus with recessive samples and wants recessive all along (Bosch CAN 2.0 part B, sections 3.2 and 8, rule 12).
use Rattle.std.specs.Prelude.{◌≡◌, ℕ, suc, ◌-◌, ◌≤◌, nat_le, ◌&&◌, true, if◌then◌else◌, List, length, Option, Some, None}
use Rattle.wl_level.specs.declared.Level.{Level}
use Rattle.wl_level.specs.declared.Level.TheVariants.{Dominant, Recessive}
use Rattle.wl_level.specs.Places.{run_at_end}
use Rattle.wl_frame.specs.Grammar.{is_crc_right}
use Rattle.wl_frame.specs.Stuffing.{destuffed_bits}
use Rattle.wl_machine.specs.declared.state.Role.{Role}
use Rattle.wl_machine.specs.declared.state.Role.TheVariants.{Tx, Rx}
use Rattle.wl_machine.specs.declared.state.State.{State}
use Rattle.wl_machine.specs.declared.state.State.TheVariants as states
use Rattle.wl_machine.specs.Stretch.{Sort, Stretch, Sampled}
use Rattle.wl_machine.specs.Stretch.Flag.{PassiveFlag}
use Rattle.wl_machine.specs.Stretch.Sort.{Integration, Idle, Framing, Flagging, Waiting, Delimiting, Intermission, Suspension, OffBus}
use Rattle.wl_machine.specs.Stretch.Input.{Sample, SwitchedOff}
use Rattle.wl_machine.specs.Frames.{stuffed_end, frame_role}
use Rattle.wl_machine.specs.Judged.{stretch_after, drive_of}
use Rattle.wl_machine.specs.Silence.{silence_by, silence_of, state_silence}

-- From the ACK delimiter on, up to the last bit but one of the intermission, with the third of which a frame can begin: the end of frame has seven bits
-- (sections 3.2.1 and 3.2.5). The ACK slot is no rest: found recessive it is an error.
abbrev pub rest_at : ℕ → Option ℕ
rest_at place = if nat_le 2 place && nat_le place 9 then Some (12 - place) else None

-- a receiver rests there only where the CRC sequence is right, which it finds out with the ACK delimiter
abbrev pub rest_in_frame : Role → Option ℕ → List Level → Option ℕ
rest_in_frame role None own = None
rest_in_frame Tx (Some end) own = rest_at (length own - end)
rest_in_frame Rx (Some end) own = if is_crc_right (destuffed_bits own end) then rest_at (length own - end) else None

-- By the running stretch. Recessive samples end an integration, and a bus off, as soon as any samples do. A passive flag has six bits, a delimiter eight, of which
-- the first ends the wait after a flag, an intermission three and a suspension eight; with the last of these two, and on an idle bus, a frame can begin
-- (sections 3.2.3 to 3.2.5).
abbrev pub rest_by : Sort → List Level → Option ℕ
rest_by Integration own = Some (silence_by true Integration own)
rest_by Idle own = Some 0
rest_by (Framing head) own = rest_in_frame (frame_role head own) (stuffed_end own) own
rest_by (Flagging (PassiveFlag unacknowledged) role) own = Some (16 - run_at_end Recessive own)
rest_by (Flagging flag role) own = None
rest_by (Waiting flag role flagged) own = Some 10
rest_by (Delimiting role) own = Some (10 - length own)
rest_by (Intermission role) own = Some (2 - length own)
rest_by Suspension own = Some (7 - length own)
rest_by OffBus own = Some (silence_by true OffBus own)

abbrev pub rest_of : Stretch → Option ℕ
rest_of s = rest_by s.sort s.own

-- a rest for so many samples at least
abbrev pub RestsFor : ℕ → Option ℕ → Type 0
RestsFor n None = ⊥
RestsFor n (Some rest) = n ≤ rest

abbrev pub IsRecessive : Sampled → Type 0
IsRecessive x = x.level ≡ Recessive

-- What it means: a machine at rest wants recessive; after a recessive sample it has a rest of no more than one sample less, or, handed no frame, some rest. To go off
-- the bus breaks none of it, since that is the longest rest.
pub record RestLaws : Type 0 where
  pub now : (s : Stretch) → RestsFor 0 (rest_of s) → drive_of s ≡ Recessive
  pub left : (s : Stretch) (x : Sampled) (n : ℕ) → IsRecessive x → RestsFor (suc n) (rest_of s) → RestsFor n (rest_of (stretch_after s (Sample x)))
  pub none : (s : Stretch) (x : Sampled) → IsRecessive x → x.head ≡ None → RestsFor 0 (rest_of s) → RestsFor 0 (rest_of (stretch_after s (Sample x)))
  pub off : (s : Stretch) (n : ℕ) → RestsFor n (rest_of s) → RestsFor n (rest_of (stretch_after s SwitchedOff))
  -- at rest it is no less than the silence
  pub silence : (s : Stretch) → RestsFor 0 (rest_of s) → RestsFor (silence_of true s) (rest_of s)

-- the recessive run at the end of a run of equal samples
abbrev pub recessive_run : Level → ℕ → ℕ
recessive_run Dominant run = 0
recessive_run Recessive run = run

-- the same, by what is kept
abbrev pub state_rest : State → List Level → Option ℕ
state_rest (states.Integrating run) bits = Some (state_silence true (states.Integrating run) bits)
state_rest states.Idle bits = Some 0
state_rest (states.SentTail place) bits = rest_at place
state_rest (states.ReceivedTail place is_right) bits = if is_right then rest_at place else None
state_rest (states.PassiveFlag role owed last run) bits = Some (16 - recessive_run last run)
state_rest (states.Wait role late left) bits = Some 10
state_rest (states.Delimiter role count) bits = Some (10 - count)
state_rest (states.Intermission role count) bits = Some (2 - count)
state_rest (states.Suspended count) bits = Some (7 - count)
state_rest (states.BusOff runs run) bits = Some (state_silence true (states.BusOff runs run) bits)
state_rest state bits = None
