-- What is kept of the running stretch, so that its errors can be placed.
use Rattle.std.specs.Prelude.{◌≡◌, Bool, true, false, List, [], ◌∷◌, length, Option, Some, None, if◌then◌else◌}
use Rattle.wl_level.specs.declared.Level.{Level}
use Rattle.wl_confine.specs.declared.Mode.{Mode}
use Rattle.wl_confine.specs.declared.Mode.TheVariants as modes
use Rattle.wl_frame.specs.Grammar.{Content, bits_of}
use Rattle.wl_frame.specs.Stuffing.{destuffed_bits}
use Rattle.wl_machine.specs.declared.state.Role.{Role}
use Rattle.wl_machine.specs.declared.state.Role.TheVariants.{Tx, Rx}
use Rattle.wl_machine.specs.Stretch.{Flag, Stretch}
use Rattle.wl_machine.specs.Stretch.Flag.{ActiveFlag, OverloadFlag, PassiveFlag}
use Rattle.wl_machine.specs.Stretch.Sort.{Integration, Idle, Framing, Flagging, Waiting, Delimiting, Intermission, Suspension, OffBus}
use Rattle.wl_machine.specs.Frames.{stuffed_end, frame_role}
use Rattle.wl_trace.specs.declared.stretch.StretchKind.{StretchKind}
use Rattle.wl_trace.specs.declared.stretch.StretchKind.TheVariants as kinds
use Rattle.wl_trace.specs.declared.stretch.NextStretch.{NextStretch}
use Rattle.wl_trace.specs.declared.stretch.NextStretch.TheVariants.{Same, Begins}
use Rattle.wl_trace.specs.declared.stretch.RunningStretch.{RunningStretch}

abbrev pub way_of : Bool → Role
way_of true = Tx
way_of false = Rx

abbrev pub dominant_form : Bool → Flag
dominant_form true = OverloadFlag
dominant_form false = ActiveFlag

-- the flag of an error that was found in this mode (Bosch CAN 2.0 part B, section 8)
abbrev pub error_kind : Mode → Bool → StretchKind
error_kind modes.Active sends = kinds.DominantFlag false sends
error_kind modes.Passive sends = kinds.PassiveFlag sends
error_kind modes.Off sends = kinds.PassiveFlag sends

-- a kind of stretch is that of a stretch, and of a frame's bits without stuff bits these have come
abbrev pub IsKind : StretchKind → List Level → Stretch → Type 0
IsKind kinds.Integration bits s = s.sort ≡ Integration
IsKind kinds.Idle bits s = s.sort ≡ Idle
IsKind (kinds.Framing head sends end) bits s =
    (s.sort ≡ Framing head) × (frame_role head s.own ≡ way_of sends) × (stuffed_end s.own ≡ end) × (bits ≡ destuffed_bits s.own (length s.own))
IsKind (kinds.DominantFlag overload sends) bits s = s.sort ≡ Flagging (dominant_form overload) (way_of sends)
IsKind (kinds.PassiveFlag sends) bits s = (unacknowledged : Bool) × (s.sort ≡ Flagging (PassiveFlag unacknowledged) (way_of sends))
IsKind (kinds.Waiting sends) bits s = (flag : Flag) × (flagged : List Level) × (s.sort ≡ Waiting flag (way_of sends) flagged)
IsKind (kinds.Delimiting sends) bits s = s.sort ≡ Delimiting (way_of sends)
IsKind (kinds.Intermission sends) bits s = s.sort ≡ Intermission (way_of sends)
IsKind kinds.Suspension bits s = s.sort ≡ Suspension
IsKind kinds.OffBus bits s = s.sort ≡ OffBus

-- the bits of the frame that is sent, if there is one
abbrev pub IsSent : Option Content → List Level → Type 0
IsSent None sent = Unit {0}
IsSent (Some head) sent = sent ≡ bits_of head

-- in a stretch of this kind
abbrev pub KeepsSent : StretchKind → List Level → Type 0
KeepsSent (kinds.Framing head sends end) sent = IsSent head sent
KeepsSent kind sent = Unit {0}

-- what is kept is that of this stretch
pub record KeepsStretch (kept : RunningStretch) (s : Stretch) : Type 0 where
  pub own : kept.own.items ≡ s.own
  pub kind : IsKind kept.kind kept.bits.items s
  pub sent : KeepsSent kept.kind kept.sent.items

-- the samples with which a stretch begins: the last one, or none
abbrev pub first_samples : Bool → Level → List Level
first_samples sampled level = if sampled then level ∷ [] else []

-- what comes with a sample of this level: the stretch goes on, or another one begins
abbrev pub ComesNext : Level → NextStretch → Option Stretch → Type 0
ComesNext level Same next = next ≡ None
ComesNext level (Begins kind sampled) next =
    (begun : Stretch) × (next ≡ Some begun) × (begun.own ≡ first_samples sampled level) × IsKind kind (first_samples sampled level) begun
