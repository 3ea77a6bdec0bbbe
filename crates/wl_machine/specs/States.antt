-- Where the running stretch puts what a machine keeps, and what one sample owes.
use Rattle.std.specs.Prelude.{◌≡◌, ℕ, ◌+◌, ◌-◌, ◌%◌, ◌<◌, ◌≤◌, ◌==◌, ◌&&◌, nat_lt, nat_le, Bool, true, false, not, List, length, Option, Some, None, if◌then◌else◌}
use Rattle.std.specs.List.{list_any}
use Rattle.wl_level.specs.declared.Level.{Level}
use Rattle.wl_level.specs.declared.Level.TheVariants.{Dominant, Recessive}
use Rattle.wl_level.specs.Levels.{is_dominant, opposite}
use Rattle.wl_level.specs.Places.{at, before, or_at, run_at, run_at_end}
use Rattle.wl_confine.specs.declared.Mode.{Mode}
use Rattle.wl_frame.specs.Stuffing.{destuffed_bits}
use Rattle.wl_frame.specs.Grammar.{Content, bits_of, is_whole, is_crc_right}
use Rattle.wl_machine.specs.declared.progress.Progress.{Progress}
use Rattle.wl_machine.specs.declared.Done.{Done}
use Rattle.wl_machine.specs.declared.Done.TheVariants as dones
use Rattle.wl_machine.specs.declared.progress.Step.{Step}
use Rattle.wl_machine.specs.declared.state.Cause.{Cause}
use Rattle.wl_machine.specs.declared.state.Cause.TheVariants.{Error, Overload}
use Rattle.wl_machine.specs.declared.state.Role.{Role}
use Rattle.wl_machine.specs.declared.state.Role.TheVariants.{Tx, Rx}
use Rattle.wl_machine.specs.declared.state.State.{State}
use Rattle.wl_machine.specs.declared.state.State.TheVariants as states
use Rattle.wl_frame.specs.Grammar.{is_front}
use Rattle.wl_machine.specs.Stretch.{Flag, Sort, Stretch, Sampled, Input, Ended}
use Rattle.wl_machine.specs.Stretch.Flag.{ActiveFlag, OverloadFlag, PassiveFlag}
use Rattle.wl_machine.specs.Stretch.Sort.{Integration, Idle, Framing, Flagging, Waiting, Delimiting, Intermission, Suspension, OffBus}
use Rattle.wl_machine.specs.Stretch.Input.{Sample}
use Rattle.wl_machine.specs.Stretch.Ended.{NoFrame, Sent, Received}
use Rattle.wl_machine.specs.Frames.{stuffed_end, frame_role}
use Rattle.wl_machine.specs.Flags.{long_from, dominant_run, is_after_flag}
use Rattle.wl_machine.specs.BetweenFrames.{recessive_runs}
use Rattle.wl_machine.specs.Judged.{judged, stretch_after, stretch_of}

-- a count of the samples of a stretch
pub record IsCount (count : ℕ) (own : List Level) (limit : ℕ) : Type 0 where
  pub is_length : count ≡ length own
  pub below : count < limit

-- the last sample and the run that it ends, and the bits without stuff bits, before the end of what is stuffed
pub record IsStuffedPart (last : Level) (run : ℕ) (bits own : List Level) : Type 0 where
  pub last_is : last ≡ before own (length own)
  pub run_is : run ≡ run_at own (length own)
  pub run_small : run ≤ 5
  pub bits_are : bits ≡ destuffed_bits own (length own)
  pub front : is_front bits ≡ true
  pub going_on : stuffed_end own ≡ None

-- the same right after a sample of the stuffed part, which may be its last
pub record IsTaken (last : Level) (run : ℕ) (bits own : List Level) : Type 0 where
  pub last_is : last ≡ before own (length own)
  pub run_is : run ≡ run_at own (length own)
  pub run_small : run ≤ 5
  pub bits_are : bits ≡ destuffed_bits own (length own)
  pub front : is_front bits ≡ true
  pub end_is : stuffed_end own ≡ or_at None (is_whole bits && not (nat_le 5 run)) (length own)

-- a place after the end of what is stuffed
pub record IsTail (place end : ℕ) (own : List Level) : Type 0 where
  pub found : stuffed_end own ≡ Some end
  pub place_is : place + end ≡ length own
  pub below : place < 10

pub record IsReceivedTail (place end : ℕ) (is_right : Bool) (bits own : List Level) : Type 0 where
  pub tail : IsTail place end own
  pub bits_are : bits ≡ destuffed_bits own end
  pub right_is : is_right ≡ is_crc_right bits

-- the run of equal samples at the end of a passive flag
pub record IsPassive (owed unacknowledged : Bool) (last : Level) (run : ℕ) (own : List Level) : Type 0 where
  pub owed_is : owed ≡ (unacknowledged && not (list_any is_dominant own))
  pub run_is : run ≡ run_at_end last own
  pub alone : run_at_end (opposite last) own ≡ 0
  pub run_small : run < 6

-- how many more dominant samples make a dominant run too long
abbrev pub until_long : ℕ → ℕ → ℕ
until_long first run = if nat_lt run first then first - run else 8 - (run - first) % 8

pub record IsWait (late : Bool) (left : ℕ) (flag : Flag) (role : Role) (flagged own : List Level) : Type 0 where
  pub late_is : late ≡ is_after_flag flag role own
  pub left_is : left ≡ until_long (long_from flag) (dominant_run flag flagged own)

-- the runs of eleven recessive samples, and the recessive samples after the last of them
pub record IsBusOff (runs run : ℕ) (own : List Level) : Type 0 where
  pub runs_are : runs ≡ recessive_runs own
  pub runs_small : runs < 128
  pub run_is : run ≡ run_at_end Recessive own % 11

abbrev pub flag_of : Cause → Flag
flag_of Error = ActiveFlag
flag_of Overload = OverloadFlag

-- By the machine's state: the sort of the running stretch, and what its own samples say of the counts and of the two lists of bits.
abbrev pub IsAtState : State → List Level → List Level → Sort → List Level → Type 0
IsAtState (states.Integrating run) bits sent sort own = (sort ≡ Integration) × (run ≡ run_at_end Recessive own) × (run < 11)
IsAtState states.Idle bits sent sort own = sort ≡ Idle
IsAtState (states.Sending last run) bits sent sort own =
    (head : Content) × (sort ≡ Framing (Some head)) × (frame_role (Some head) own ≡ Tx) × (sent ≡ bits_of head) × IsStuffedPart last run bits own
IsAtState (states.Receiving last run) bits sent sort own =
    (head : Option Content) × (sort ≡ Framing head) × (frame_role head own ≡ Rx) × IsStuffedPart last run bits own
IsAtState (states.SentTail place) bits sent sort own =
    (head : Content) × (sort ≡ Framing (Some head)) × (frame_role (Some head) own ≡ Tx) × (end : ℕ) × IsTail place end own
IsAtState (states.ReceivedTail place is_right) bits sent sort own =
    (head : Option Content) × (sort ≡ Framing head) × (frame_role head own ≡ Rx) × (end : ℕ) × IsReceivedTail place end is_right bits own
IsAtState (states.Flag cause role count run) bits sent sort own =
    (sort ≡ Flagging (flag_of cause) role) × IsCount count own 6 × (run ≡ run_at_end Dominant own)
IsAtState (states.PassiveFlag role owed last run) bits sent sort own =
    (unacknowledged : Bool) × (sort ≡ Flagging (PassiveFlag unacknowledged) role) × IsPassive owed unacknowledged last run own
IsAtState (states.Wait role late left) bits sent sort own =
    (flag : Flag) × (flagged : List Level) × (sort ≡ Waiting flag role flagged) × IsWait late left flag role flagged own
IsAtState (states.Delimiter role count) bits sent sort own = (sort ≡ Delimiting role) × IsCount count own 8
IsAtState (states.Intermission role count) bits sent sort own = (sort ≡ Intermission role) × IsCount count own 3
IsAtState (states.Suspended count) bits sent sort own = (sort ≡ Suspension) × IsCount count own 8
IsAtState (states.BusOff runs run) bits sent sort own = (sort ≡ OffBus) × IsBusOff runs run own

-- a machine is in this stretch
abbrev pub IsIn : Progress → Stretch → Type 0
IsIn destuffed_bits s = IsAtState destuffed_bits.state destuffed_bits.bits.items destuffed_bits.sent.items s.sort s.own

-- a machine is where all that reached it puts it
abbrev pub IsReachedBy : Progress → List Input → Type 0
IsReachedBy destuffed_bits past = IsIn destuffed_bits (stretch_of past)

-- what the code answers of a completed frame
abbrev pub done_of : Ended → Done
done_of NoFrame = dones.Nothing
done_of (Sent frame) = dones.Sent
done_of (Received frame) = dones.Received frame

abbrev pub sample_of : Level → Option Content → Mode → Sampled
sample_of level head mode = record { level = level; head = head; mode = mode }

abbrev pub stretch_by : Sort → List Level → Stretch
stretch_by sort own = record { sort = sort; own = own }

-- what a step answers, and where it leaves the machine
pub record Meets (new : Progress) (step : Step) (s : Stretch) (x : Sampled) : Type 0 where
  pub happened : step.happened ≡ (judged s x).happened
  pub done : step.done ≡ done_of (judged s x).ended
  pub place : IsIn new (stretch_after s (Sample x))

-- the level that is driven, by what is kept
abbrev pub state_drive : State → List Level → List Level → Level
state_drive (states.Sending last run) bits sent = if nat_le 5 run then opposite last else at sent (length bits)
state_drive (states.ReceivedTail place is_right) bits sent = if (place == 1) && is_right then Dominant else Recessive
state_drive (states.Flag cause role count run) bits sent = Dominant
state_drive state bits sent = Recessive

-- whether the bus is idle, by what is kept
abbrev pub is_idle_state : State → Bool
is_idle_state states.Idle = true
is_idle_state (states.Suspended count) = true
is_idle_state state = false

-- whether the machine awaits a start of frame, by what is kept
abbrev pub awaits_state : State → Bool
awaits_state (states.Integrating run) = true
awaits_state states.Idle = true
awaits_state (states.Sending last run) = run == 0
awaits_state (states.Receiving last run) = run == 0
awaits_state (states.Intermission role count) = nat_lt 0 count
awaits_state (states.Suspended count) = true
awaits_state state = false

-- whether the bus is free, by what is kept
abbrev pub is_free_state : State → Bool
is_free_state states.Idle = true
is_free_state state = false
