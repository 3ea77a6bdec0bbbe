-- Machines on one wire. There is no time here: a bit of the bus is one bit for all, but that each may sample
-- recessive bits of its own between frames.
use Rattle.std.specs.Prelude.{ℕ, ◌==◌, ◌&&◌, Bool, true, false, not, List, [], ◌∷◌, ◌++◌, length, Some, None, is_some, fold, replicate, slice_get, if◌then◌else◌}
use Rattle.wl_level.specs.declared.Level.{Level}
use Rattle.wl_level.specs.declared.Level.TheVariants.{Recessive}
use Rattle.wl_level.specs.Levels.{is_dominant, level_of}
use Rattle.wl_level.specs.Places.{first_place}
use Rattle.wl_confine.specs.declared.Mode.{Mode}
use Rattle.wl_confine.specs.declared.Mode.TheVariants.{Active}
use Rattle.wl_frame.specs.Grammar.{Content}
use Rattle.wl_machine.specs.Stretch.{Sort, Stretch, Sampled, Input}
use Rattle.wl_machine.specs.Stretch.Sort.{Idle, Framing, Intermission, Suspension}
use Rattle.wl_machine.specs.Stretch.Input.{Sample}
use Rattle.wl_machine.specs.Judged.{stretch_of, drive_of}
use Rattle.wl_machine.specs.States.{sample_of}

-- so many machines, by number: the frames that each may be handed, and all that has reached it; this project's profile
pub record Wire : Type 0 where
  pub count : ℕ
  pub frames : ℕ → List Content
  pub past : ℕ → List Input

-- what a machine is handed with a sample: which of its frames is the head, or none of them where it has fewer, and
-- the mode; this project's profile
pub record Handed : Type 0 where
  pub which : ℕ
  pub mode : Mode

-- the running stretch of a machine
abbrev pub stretch_at : Wire → ℕ → Stretch
stretch_at w k = stretch_of (w.past k)

abbrev pub drives_dominant : Wire → ℕ → Bool
drives_dominant w k = is_dominant (drive_of (stretch_at w k))

-- the level of the bus: dominant where some machine drives dominant; Bosch CAN 2.0 part A, section 2
abbrev pub bus : Wire → Level
bus w = level_of (is_some (first_place (drives_dominant w) w.count))

abbrev pub sampled : Level → List Content → Handed → Sampled
sampled level frames handed = sample_of level (slice_get frames handed.which) handed.mode

-- A machine is between frames: the bus is idle to it, or it is suspended, or it has two bits of an intermission, or
-- it is to begin a frame; Bosch CAN 2.0 part B, section 3.2.5
abbrev pub is_between_by : Sort → List Level → Bool
is_between_by Idle own = true
is_between_by Suspension own = true
is_between_by (Intermission role) own = length own == 2
is_between_by (Framing (Some head)) [] = true
is_between_by sort own = false

abbrev pub is_between : Stretch → Bool
is_between s = is_between_by s.sort s.own

-- such a machine may sample a bit by itself, unless it drives its start of frame; this project's profile
abbrev pub may_be_alone : Stretch → Bool
may_be_alone s = is_between s && not (is_dominant (drive_of s))

-- what happens on a wire: a bit of the bus, which each machine samples, or a recessive bit that one machine samples
-- by itself; this project's profile
pub data Event : Type 0 where
  Bit : (handed : ℕ → Handed) → Event
  Own : (machine : ℕ) → (handed : Handed) → Event

-- what reaches a machine by it; nothing comes of a bit by itself at a machine that may not have one
abbrev pub added : Wire → Event → ℕ → List Input
added w (Bit handed) k = Sample (sampled (bus w) (w.frames k) (handed k)) ∷ []
added w (Own machine handed) k =
    if (k == machine) && may_be_alone (stretch_at w k) then Sample (sampled Recessive (w.frames k) handed) ∷ [] else []

abbrev pub next_wire : Wire → Event → Wire
next_wire w event = record { count = w.count; frames = w.frames; past = λ k. w.past k ++ added w event k }

abbrev pub wire_after : Wire → List Event → Wire
wire_after w events = fold next_wire w events

-- at first each machine has sampled eleven recessive bits, with nothing to send, so that the bus is idle to it; ISO
-- 11898-1, bus integration
abbrev pub idle_wire : ℕ → (ℕ → List Content) → Wire
idle_wire count frames = record { count = count; frames = frames; past = λ k. replicate 11 (Sample (sample_of Recessive None Active)) }
