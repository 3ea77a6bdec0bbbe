-- Machines that are in step, and what keeps them there.
use Rattle.std.specs.Prelude.{◌≡◌, ◌≢◌, ◌⊎◌, ◌<◌, ◌≤◌, ℕ, ◌+◌, Bool, true, false, List, [], ◌∷◌, length, Option, Some, None, slice_get}
use Rattle.wl_level.specs.declared.Level.{Level}
use Rattle.wl_confine.specs.declared.Happened.{Happened}
use Rattle.wl_confine.specs.declared.Happened.TheVariants.{Nothing, Sent, Acked}
use Rattle.wl_frame.specs.Grammar.{Content, IsContent}
use Rattle.wl_frame.specs.Laws.{HaveSameField}
use Rattle.wl_machine.specs.declared.state.Role.{Role}
use Rattle.wl_machine.specs.declared.state.Role.TheVariants.{Tx}
use Rattle.wl_machine.specs.Stretch.{Sampled}
use Rattle.wl_machine.specs.Stretch.Sort.{Framing, Intermission}
use Rattle.wl_machine.specs.Stretch.Input.{Sample}
use Rattle.wl_machine.specs.Frames.{stuffed_end, frame_role}
use Rattle.wl_machine.specs.Judged.{judged}
use Rattle.wl_machine.specs.Laws.{FoundSent}
use Rattle.wl_machine.specs.States.{stretch_by}
use Rattle.wl_wire.specs.Wire.{Wire, Event, stretch_at, is_between, added}

-- a frame of a machine
abbrev pub Has : (ℕ → List Content) → ℕ → Content → Type 0
Has frames k c = (n : ℕ) × (slice_get (frames k) n ≡ Some c)

-- At least two machines take part, and frames of different ones differ in format, identifier or RTR bit; Bosch CAN
-- 2.0 part B, section 3.1 (the latter is there a rule for whoever plans a bus)
pub record AreSoundFrames (count : ℕ) (frames : ℕ → List Content) : Type 0 where
  pub two : 2 ≤ count
  pub content : (k : ℕ) (c : Content) → k < count → Has frames k c → IsContent c
  pub apart : (j k : ℕ) (a b : Content) → j < count → k < count → j ≢ k → Has frames j a → Has frames k b
      → ¬ HaveSameField a b

-- all are between frames
abbrev pub AreBetween : Wire → Type 0
AreBetween w = (k : ℕ) → k < w.count → is_between (stretch_at w k) ≡ true

-- all are in an intermission, with the same samples, of which there is one at most
pub record AreInIntermission (w : Wire) (own : List Level) : Type 0 where
  pub each : (k : ℕ) → k < w.count → (role : Role) × (stretch_at w k ≡ stretch_by (Intermission role) own)
  pub short : length own < 2

-- how many bits of a frame are of its stuffed part
abbrev pub or_all : Option ℕ → ℕ → ℕ
or_all None n = n
or_all (Some end) n = end

abbrev pub stuffed_length : List Level → ℕ
stuffed_length own = or_all (stuffed_end own) (length own)

-- a machine sends this frame, in a stretch with these samples, and has not lost the arbitration
pub record IsSender (w : Wire) (own : List Level) (k : ℕ) (head : Content) : Type 0 where
  pub framing : stretch_at w k ≡ stretch_by (Framing (Some head)) own
  pub role : frame_role (Some head) own ≡ Tx

-- All are in a frame, with the same samples: one or more send, and what was sampled up to the end of the stuffed part
-- is what each of these sent. After it come ten bits at most.
pub record AreInFrame (w : Wire) (own : List Level) : Type 0 where
  pub begun : 0 < length own
  pub each : (k : ℕ) → k < w.count → (head : Option Content) × (stretch_at w k ≡ stretch_by (Framing head) own)
  pub sender : (k : ℕ) × (k < w.count) × (head : Content) × IsSender w own k head
  pub found : (k : ℕ) (head : Content) → k < w.count → IsSender w own k head → FoundSent head own (stuffed_length own)
  pub tail : (end : ℕ) → stuffed_end own ≡ Some end → (end ≤ length own) × (length own < end + 10)

-- idle, in the same bit of an intermission, or at the same place of the same frame
abbrev pub AreInStep : Wire → Type 0
AreInStep w = AreBetween w ⊎ ((own : List Level) × AreInIntermission w own) ⊎ ((own : List Level) × AreInFrame w own)

-- what happens without an error, a flag or an overload; Bosch CAN 2.0 part B, section 8
abbrev pub is_fine : Happened → Bool
is_fine Nothing = true
is_fine Sent = true
is_fine Acked = true
is_fine happened = false

-- whatever happens next, no machine finds an error
abbrev pub FindsNoError : Wire → Type 0
FindsNoError w = (event : Event) (k : ℕ) (x : Sampled) → k < w.count → added w event k ≡ Sample x ∷ []
    → is_fine (judged (stretch_at w k) x).happened ≡ true
