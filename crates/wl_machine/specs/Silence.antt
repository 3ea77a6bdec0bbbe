-- For how many samples more a machine is sure to want recessive: whatever it samples, and whether it goes off the bus or not; and whatever it is to send, where
-- it may be handed a head, or as long as it is handed none.
-- (That a node says how long it cannot drive is the lookahead of Chandy and Misra 1979; the rules that a line rests on are stated with its stretch.)
use Rattle.std.specs.Prelude.{◌≡◌, ℕ, suc, ◌-◌, ◌*◌, ◌%◌, ◌≤◌, min, max, Bool, true, false, if◌then◌else◌, List, length, Option, None}
use Rattle.wl_level.specs.declared.Level.{Level}
use Rattle.wl_level.specs.declared.Level.TheVariants.{Dominant, Recessive}
use Rattle.wl_level.specs.Places.{run_at, run_at_end}
use Rattle.wl_frame.specs.Grammar.{bits_left}
use Rattle.wl_frame.specs.Stuffing.{destuffed_bits}
use Rattle.wl_machine.specs.declared.state.Role.{Role}
use Rattle.wl_machine.specs.declared.state.Role.TheVariants.{Rx}
use Rattle.wl_machine.specs.declared.state.State.{State}
use Rattle.wl_machine.specs.declared.state.State.TheVariants as states
use Rattle.wl_machine.specs.Stretch.{Sort, Stretch, Sampled}
use Rattle.wl_machine.specs.Stretch.Flag.{PassiveFlag}
use Rattle.wl_machine.specs.Stretch.Sort.{Integration, Idle, Framing, Flagging, Waiting, Suspension, OffBus}
use Rattle.wl_machine.specs.Stretch.Input.{Sample, SwitchedOff}
use Rattle.wl_machine.specs.Frames.{stuffed_end, frame_role}
use Rattle.wl_machine.specs.BetweenFrames.{recessive_runs}
use Rattle.wl_machine.specs.Judged.{stretch_after, drive_of}

-- A receiver in the stuffed part of a frame: it finds an error only with the sixth equal bit, and acknowledges no frame before its last bit, of which the bits
-- that have come say how near it can be.
abbrev pub silence_in_frame : Role → Option ℕ → List Level → ℕ
silence_in_frame Rx None own = min (5 - run_at own (length own)) (bits_left (destuffed_bits own (length own)))
silence_in_frame role end own = 0

-- By the running stretch. What ends an integration is the eleventh recessive sample in a row, and a bus off the 128th run of eleven. A passive flag ends with six
-- equal samples, and the wait after it with a recessive one, which is no error; the next one may be. A suspension ends with eight samples, or with a start of
-- frame, of which no sixth equal bit comes sooner than five samples later; so does an idle bus to a machine that is handed no head.
abbrev pub silence_by : Bool → Sort → List Level → ℕ
silence_by heads Integration own = 10 - run_at_end Recessive own
silence_by heads (Framing head) own = silence_in_frame (frame_role head own) (stuffed_end own) own
silence_by heads (Flagging (PassiveFlag unacknowledged) role) own = 7 - max (run_at_end Dominant own) (run_at_end Recessive own)
silence_by heads (Waiting flag role flagged) own = 1
silence_by heads Idle own = if heads then 0 else 5
silence_by heads Suspension own = if heads then min (7 - length own) 5 else 5
silence_by heads OffBus own = (128 - recessive_runs own) * 11 - suc (run_at_end Recessive own % 11)
silence_by heads sort own = 0

-- with heads, or without
abbrev pub silence_of : Bool → Stretch → ℕ
silence_of heads s = silence_by heads s.sort s.own

-- What it means: a machine with some silence wants recessive, after its next sample too, and has no more than one sample less then; to go off the bus breaks none of it, since that is the longest silence.
pub record SilenceLaws : Type 0 where
  pub now : (heads : Bool) (s : Stretch) (n : ℕ) → suc n ≤ silence_of heads s → drive_of s ≡ Recessive
  pub next : (heads : Bool) (s : Stretch) (x : Sampled) (n : ℕ) → (heads ≡ false → x.head ≡ None) → suc n ≤ silence_of heads s
      → drive_of (stretch_after s (Sample x)) ≡ Recessive
  pub left : (heads : Bool) (s : Stretch) (x : Sampled) (n : ℕ) → (heads ≡ false → x.head ≡ None) → suc n ≤ silence_of heads s
      → n ≤ silence_of heads (stretch_after s (Sample x))
  pub off : (heads : Bool) (s : Stretch) → silence_of heads s ≤ silence_of heads (stretch_after s SwitchedOff)
  -- a machine that is handed no head is silent for no less
  pub none : (s : Stretch) → silence_of true s ≤ silence_of false s

-- for how many samples more the machine is silent, by what is kept
abbrev pub state_silence : Bool → State → List Level → ℕ
state_silence heads (states.Integrating run) bits = 10 - run
state_silence heads (states.Receiving last run) bits = min (5 - run) (bits_left bits)
state_silence heads (states.PassiveFlag role owed last run) bits = 7 - run
state_silence heads (states.Wait role late left) bits = 1
state_silence heads states.Idle bits = if heads then 0 else 5
state_silence heads (states.Suspended count) bits = if heads then min (7 - count) 5 else 5
state_silence heads (states.BusOff runs run) bits = (128 - runs) * 11 - suc run
state_silence heads state bits = 0
