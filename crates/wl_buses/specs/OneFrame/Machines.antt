-- Stations whose machines drive the bits of a frame, each by what it has sampled before.
use Rattle.std.specs.Prelude.{◌≡◌, ◌≢◌, ◌⊎◌, ℕ, zero, suc, ◌<◌, ◌≤◌, Bool, true, false, List, [], ◌∷◌, ◌++◌, Option, Some, None, is_some, replicate, ◌+◌}
use Rattle.wl_level.specs.declared.Level.{Level}
use Rattle.wl_level.specs.declared.Level.TheVariants.{Dominant, Recessive}
use Rattle.wl_confine.specs.declared.Mode.TheVariants.{Active}
use Rattle.wl_level.specs.Levels.{is_dominant, level_of}
use Rattle.wl_topology.specs.Driven.{driven}
use Rattle.wl_frame.specs.Grammar.{Content, bits_of}
use Rattle.wl_frame.specs.Stuffing.{Stuffs}
use Rattle.wl_machine.specs.declared.state.Role.{Role}
use Rattle.wl_machine.specs.declared.state.Role.TheVariants.{Tx}
use Rattle.wl_machine.specs.Stretch.{Input, Sampled, Sort, Stretch}
use Rattle.wl_machine.specs.Stretch.Sort.{Idle, Framing, Intermission}
use Rattle.wl_machine.specs.Stretch.Input.{Sample}
use Rattle.wl_machine.specs.Frames.{frame_role}
use Rattle.wl_machine.specs.BetweenFrames.{begun_head}
use Rattle.wl_machine.specs.Judged.{drive_of, judged, stretch_of}
use Rattle.wl_machine.specs.States.{sample_of, stretch_by}
use Rattle.wl_wire.specs.Wire.{Event, Handed, idle_wire, sampled, wire_after}
use Rattle.wl_wire.specs.InStep.{Has, is_fine}
use Rattle.wl_wire.specs.Winner.{Beats}
use Rattle.wl_buses.specs.OneFrame.Stations.{Stations}
use Rattle.wl_buses.specs.OneFrame.Starts.{Start}
use Rattle.wl_buses.specs.OneFrame.OneBit.{sampled_at}
use Rattle.wl_buses.specs.OneFrame.Course.{RightUpTo, bus_bit, has_sent, since_edge, still_sends}

-- what is on the bus in the bits before bit n
abbrev pub bus_levels : Stations → (bits : ℕ → Start) → ℕ → List Level
bus_levels s bits zero = []
bus_levels s bits (suc n) = bus_levels s bits n ++ level_of (bus_bit s bits n) ∷ []

-- The bus is idle to a machine, or it has decided to send one of its frames and drives the start of frame next (Bosch CAN 2.0 part B, section 3.2.5, bus idle).
abbrev pub MayBegin : (ℕ → List Content) → ℕ → Stretch → Type 0
MayBegin frames k x = (x.sort ≡ Idle) ⊎ ((head : Content) × Has frames k head × (x ≡ stretch_by (Framing (Some head)) []))

-- A machine has two bits of an intermission, so that the next bit is the third one (Bosch CAN 2.0 part B, section 3.2.5, intermission).
abbrev pub HasTwoBits : Stretch → Type 0
HasTwoBits x = (role : Role) × (x ≡ stretch_by (Intermission role) (Recessive ∷ Recessive ∷ []))

-- A machine may begin a frame, or takes a start of frame in the third bit of its intermission.
abbrev pub MayBeginOrJoin : (ℕ → List Content) → ℕ → Stretch → Type 0
MayBeginOrJoin frames k x = MayBegin frames k x ⊎ HasTwoBits x

-- It joins the start of frame: in the third bit of its intermission it is handed a frame with it, and it wouldn't be suspended (Bosch CAN 2.0 part B, section 3.2.5, intermission).
abbrev pub joins_by : Sort → Sampled → Bool
joins_by (Intermission role) x = is_some (begun_head role x.mode x.head)
joins_by sort x = false

-- The machines of stations, up to bit `length` of a frame. `past n k` is all that has reached that of station k before it drives bit n. They were on one wire, and each may begin the
-- frame or join it. What each then drives is what it wants after its samples so far, and it samples what it finds on the line, whatever that is.
pub record AreMachines (s : Stations) (bits : ℕ → Start) (drove : ℕ → ℕ → Bool) (frames : ℕ → List Content) (past : ℕ → ℕ → List Input) (length : ℕ) : Type 0 where
  pub earlier : List Event
  pub handed : ℕ → ℕ → Handed
  pub reached : (k : ℕ) → k < s.count → past 0 k ≡ (wire_after (idle_wire s.count frames) earlier).past k
  pub begin : (k : ℕ) → k < s.count → MayBeginOrJoin frames k (stretch_of (past 0 k))
  pub joins : (k : ℕ) → k < s.count → (bits 0).joins k ≡ joins_by (stretch_of (past 0 k)).sort (sampled Dominant (frames k) (handed 0 k))
  pub drives : (n k : ℕ) → n ≤ length → k < s.count → (bits n).drives k ≡ is_dominant (drive_of (stretch_of (past n k)))
  pub samples : (n k : ℕ) → n < length → k < s.count
      → past (suc n) k ≡ past n k ++ Sample (sampled (level_of (driven s.count s.delay drove k (sampled_at s (bits n) k))) (frames k) (handed n k)) ∷ []

-- some station begins a frame
abbrev pub SomeBegins : Stations → (bits : ℕ → Start) → Type 0
SomeBegins s bits = (k : ℕ) × (k < s.count) × ((bits 0).drives k ≡ true)

-- all have sampled the bits before bit n as they were on the bus
abbrev pub AllRight : Stations → (bits : ℕ → Start) → (drove : ℕ → ℕ → Bool) → ℕ → Type 0
AllRight s bits drove n = (i : ℕ) → i < s.count → RightUpTo s bits drove n i

-- What follows from the machines for one bit n, if all have sampled right what was on the bus before it: fewer than ten bits have passed since an edge (Bosch CAN 2.0 part B, section
-- 6). Let a station sample bit n right too. If it drives the next bit dominant it still sends. If it still sends, what is on the bus is what the sender of a frame of its own has sent.
-- Else it drives recessive. No machine finds an error with its sample of bit n, whatever frame it is handed, and all have begun the frame.
pub record GoesByMachines (s : Stations) (bits : ℕ → Start) (drove : ℕ → ℕ → Bool) (frames : ℕ → List Content) (past : ℕ → ℕ → List Input) (n : ℕ) : Type 0 where
  pub few : since_edge s bits n ≤ 9
  pub senders : (k : ℕ) → k < s.count → RightUpTo s bits drove (suc n) k → (bits (suc n)).drives k ≡ true → still_sends s bits (suc n) k ≡ true
  pub sends : (k : ℕ) → k < s.count → RightUpTo s bits drove (suc n) k → still_sends s bits (suc n) k ≡ true
      → (head : Content) × Has frames k head × (stretch_of (past (suc n) k) ≡ stretch_by (Framing (Some head)) (bus_levels s bits (suc n)))
      × (frame_role (Some head) (bus_levels s bits (suc n)) ≡ Tx)
  pub framing : (k : ℕ) → k < s.count → RightUpTo s bits drove (suc n) k
      → (head : Option Content) × (stretch_of (past (suc n) k) ≡ stretch_by (Framing head) (bus_levels s bits (suc n)))
  pub fine : (k : ℕ) (h : Handed) → k < s.count → is_fine (judged (stretch_of (past n k)) (sampled (level_of (bus_bit s bits n)) (frames k) h)).happened ≡ true

-- The frame of one station is what was on the bus in the first n bits. It alone still sends, and its frame has the lesser arbitration field than that of each other one that began with
-- it (Bosch CAN 2.0 part B, section 3.1, arbitration).
pub record HasWon (s : Stations) (bits : ℕ → Start) (frames : ℕ → List Content) (n : ℕ) : Type 0 where
  pub station : ℕ
  pub inside : station < s.count
  pub frame : Content
  pub own : Has frames station frame
  pub stuffs : Stuffs (bus_levels s bits n) (bits_of frame)
  pub sends : still_sends s bits n station ≡ true
  pub alone : (k : ℕ) → k < s.count → k ≢ station → still_sends s bits n k ≡ false
  pub beats : (k : ℕ) → k < s.count → k ≢ station → has_sent bits 0 k ≡ true → (other : Content) × Has frames k other × Beats frame other

-- A machine has sampled an idle bus since its power-up: eleven recessive bits or more without a frame to send, and then at most one with which it may be handed one (ISO 11898-1, bus
-- integration).
abbrev pub no_frame_sample : Input
no_frame_sample = Sample (sample_of Recessive None Active)

abbrev pub HasIdled : (ℕ → List Content) → ℕ → List Input → Type 0
HasIdled frames k past =
    (n : ℕ) × ((past ≡ replicate (11 + n) no_frame_sample) ⊎ ((h : Handed) × (past ≡ replicate (11 + n) no_frame_sample ++ Sample (sampled Recessive (frames k) h) ∷ [])))

-- machines that are on one wire, and may begin a frame
pub record MayBeginTogether (count : ℕ) (frames : ℕ → List Content) (past : ℕ → List Input) : Type 0 where
  pub earlier : List Event
  pub reached : (k : ℕ) → k < count → past k ≡ (wire_after (idle_wire count frames) earlier).past k
  pub may : (k : ℕ) → k < count → MayBegin frames k (stretch_of (past k))
