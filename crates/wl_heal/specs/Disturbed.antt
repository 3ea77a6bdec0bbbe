-- Machines on one wire, some of which a disturbance reaches: they find a bit dominant, whatever the bus has.
use Rattle.std.specs.Prelude.{◌≡◌, ◌⊎◌, ◌<◌, ◌≤◌, ℕ, zero, suc, ◌+◌, ◌&&◌, nat_le, Bool, false, List, [], ◌∷◌, ◌++◌, length, Some, if◌then◌else◌}
use Rattle.wl_level.specs.declared.Level.{Level}
use Rattle.wl_level.specs.declared.Level.TheVariants.{Dominant}
use Rattle.wl_confine.specs.declared.Mode.TheVariants.{Active}
use Rattle.wl_frame.specs.Grammar.{Content}
use Rattle.wl_machine.specs.Stretch.{Stretch, Sampled, Judgement}
use Rattle.wl_machine.specs.Stretch.Input.{Sample}
use Rattle.wl_machine.specs.Stretch.Ended.{Sent}
use Rattle.wl_machine.specs.Frames.{stuffed_end}
use Rattle.wl_machine.specs.Judged.{judged}
use Rattle.wl_wire.specs.Wire.{Wire, Handed, bus, stretch_at, sampled}
use Rattle.wl_wire.specs.InStep.{AreInFrame, IsSender}
use Rattle.wl_heal.specs.Joining.{is_apart}

-- what happens, by the number of the bit and of the machine: whom a disturbance reaches, and what each is handed; this project's profile
pub record Course : Type 0 where
  pub hit : ℕ → ℕ → Bool
  pub handed : ℕ → ℕ → Handed

-- a machine finds a bit dominant if it is hit, and else it finds the level of the bus; Bosch CAN 2.0 part A, section 2
abbrev pub level_found : Wire → (ℕ → Bool) → ℕ → Level
level_found w hit k = if hit k then Dominant else bus w

abbrev pub sample_found : Wire → (ℕ → Bool) → (ℕ → Handed) → ℕ → Sampled
sample_found w hit handed k = sampled (level_found w hit k) (w.frames k) (handed k)

abbrev pub next_disturbed : Wire → (ℕ → Bool) → (ℕ → Handed) → Wire
next_disturbed w hit handed = record {
  count = w.count;
  frames = w.frames;
  past = λ k. w.past k ++ Sample (sample_found w hit handed k) ∷ [];
}

-- the wire before bit n; this project's profile
abbrev pub wire_at : Wire → Course → ℕ → Wire
wire_at w c zero = w
wire_at w c (suc n) = next_disturbed (wire_at w c n) (c.hit n) (c.handed n)

-- the running stretch of machine k before bit n, and what that bit does to it
abbrev pub stretch_before : Wire → Course → ℕ → ℕ → Stretch
stretch_before w c n k = stretch_at (wire_at w c n) k

abbrev pub judged_at : Wire → Course → ℕ → ℕ → Judgement
judged_at w c n k = judged (stretch_before w c n k) (sample_found (wire_at w c n) (c.hit n) (c.handed n) k)

-- it is one of the wire, neither integrates nor is off the bus at first, and is error active at each bit; Bosch CAN 2.0 part B, section 8
pub record TakesPart (w : Wire) (c : Course) (k : ℕ) : Type 0 where
  pub inside : k < w.count
  pub part : is_apart (stretch_at w k) ≡ false
  pub active : (i : ℕ) → (c.handed i k).mode ≡ Active

-- Machine s sends a frame, from its start of frame to bit n + 1, which is the last one. It has ten bits before it; Bosch CAN 2.0 part B, section 5
pub record IsSentFrom (w : Wire) (c : Course) (s start n : ℕ) (frame : Content) : Type 0 where
  pub sends : (judged_at w c (suc n) s).ended ≡ Sent frame
  pub whole : start + length (stretch_before w c (suc n) s).own ≡ suc n
  pub room : 10 ≤ start

-- No disturbance reaches s or j in the ten bits before the start of frame and up to the end of the stuffed part. After it come CRC delimiter,
-- ACK slot, ACK delimiter and end of frame; Bosch CAN 2.0 part B, section 3.2.1
pub record IsClear (c : Course) (s j start n : ℕ) : Type 0 where
  pub clear_s : (i : ℕ) → start ≤ i + 10 → i + 8 < n → c.hit i s ≡ false
  pub clear_j : (i : ℕ) → start ≤ i + 10 → i + 8 < n → c.hit i j ≡ false

-- A machine is hit at each bit of one disturbance, which is so many bits long, and at no other; or at none. This project's profile
abbrev pub IsHitIn : Course → ℕ → ℕ → ℕ → Type 0
IsHitIn c from many k = ((i : ℕ) → c.hit i k ≡ (nat_le from i && nat_le (suc i) (from + many))) ⊎ ((i : ℕ) → c.hit i k ≡ false)

-- all are error active, and nobody is hit at bit i
abbrev pub AreActiveIn : Course → Type 0
AreActiveIn c = (i k : ℕ) → (c.handed i k).mode ≡ Active

abbrev pub NobodyHit : Wire → Course → ℕ → Type 0
NobodyHit w c i = (k : ℕ) → k < w.count → c.hit i k ≡ false

-- All are in one frame, before the last but one bit of its end, and machine s sends it; Bosch CAN 2.0 part B, section 3.2.1
pub record AreNearEnd (w : Wire) (own : List Level) (s : ℕ) (frame : Content) : Type 0 where
  pub step : AreInFrame w own
  pub end : ℕ
  pub over : stuffed_end own ≡ Some end
  pub place : length own ≡ end + 8
  pub inside : s < w.count
  pub sends : IsSender w own s frame
