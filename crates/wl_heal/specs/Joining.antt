-- Machines that join a wire, or come back to it after bus off.
use Rattle.std.specs.Prelude.{◌≡◌, ◌⊎◌, ◌<◌, ◌≤◌, ℕ, suc, ◌+◌, ◌-◌, ◌==◌, nat_le, Bool, true, false, List, [], ◌∷◌, length, Option, Some, None, fold, if◌then◌else◌}
use Rattle.wl_level.specs.declared.Level.{Level}
use Rattle.wl_level.specs.declared.Level.TheVariants.{Recessive}
use Rattle.wl_level.specs.Places.{run_at_end}
use Rattle.wl_confine.specs.declared.Happened.{Happened}
use Rattle.wl_confine.specs.declared.Happened.TheVariants.{Recovered}
use Rattle.wl_machine.specs.Stretch.{Sort, Stretch, Sampled}
use Rattle.wl_machine.specs.Stretch.Sort.{Integration, OffBus}
use Rattle.wl_machine.specs.Stretch.Input.{Sample}
use Rattle.wl_machine.specs.Frames.{stuffed_end}
use Rattle.wl_machine.specs.Judged.{judged}
use Rattle.wl_wire.specs.Wire.{Wire, Event, stretch_at, added, next_wire}
use Rattle.wl_wire.specs.InStep.{AreBetween, AreInIntermission, AreInFrame, is_fine}

-- a machine takes no part: it integrates, or is off the bus; ISO 11898-1, bus integration; Bosch CAN 2.0 part B, section 8, rules 10 and 12
abbrev pub is_apart_by : Sort → Bool
is_apart_by Integration = true
is_apart_by OffBus = true
is_apart_by sort = false

abbrev pub is_apart : Stretch → Bool
is_apart s = is_apart_by s.sort

-- The machines of a wire that take part, as a wire of their own: each of them is one of its machines; this project's profile
pub record AreThosePresent (w present : Wire) : Type 0 where
  pub place : ℕ → ℕ
  pub inside : (j : ℕ) → j < present.count → (place j < w.count) × (is_apart (stretch_at w (place j)) ≡ false)
  pub all : (k : ℕ) → k < w.count → is_apart (stretch_at w k) ≡ false → (j : ℕ) × (j < present.count) × (place j ≡ k)
  pub distinct : (i j : ℕ) → i < present.count → j < present.count → place i ≡ place j → i ≡ j
  pub past : (j : ℕ) → present.past j ≡ w.past (place j)
  pub frames : (j : ℕ) → present.frames j ≡ w.frames (place j)

-- the machines that take no part have found no more recessive bits in a row than this
abbrev pub RunsUpTo : Wire → ℕ → Type 0
RunsUpTo w most = (k : ℕ) → k < w.count → is_apart (stretch_at w k) ≡ true → run_at_end Recessive (stretch_at w k).own ≤ most

-- In a frame they have found no more than the others, who find no six equal bits in the stuffed part. After it there is a
-- dominant ACK slot at place 1; Bosch CAN 2.0 part B, sections 3.2.1 and 6
abbrev pub tail_runs : ℕ → ℕ
tail_runs place = if nat_le place 1 then 5 + place else place - 2

abbrev pub RunsAt : Wire → List Level → Option ℕ → Type 0
RunsAt w own None = RunsUpTo w 5 × RunsUpTo w (run_at_end Recessive own)
RunsAt w own (Some end) = RunsUpTo w (tail_runs (length own - end))

-- Those that take part are in step. None of the others has found eleven recessive bits before these are between frames: the end of a
-- frame has eight, and the intermission three; ISO 11898-1, bus integration
abbrev pub AreInStepBeside : Wire → Wire → Type 0
AreInStepBeside w present =
    AreBetween present ⊎ ((own : List Level) × AreInIntermission present own × RunsUpTo w (8 + length own))
    ⊎ ((own : List Level) × AreInFrame present own × RunsAt w own (stuffed_end own))

-- what happens on a wire that machines join: as on any, or one more machine appears, which has sampled nothing yet; this project's profile
pub data Change : Type 0 where
  Happens : (event : Event) → Change
  Joins : Change

abbrev pub joined_wire : Wire → Wire
joined_wire w = record { count = suc w.count; frames = w.frames; past = λ k. if k == w.count then [] else w.past k }

abbrev pub wire_changed : Wire → Change → Wire
wire_changed w (Happens event) = next_wire w event
wire_changed w Joins = joined_wire w

abbrev pub wire_with : Wire → List Change → Wire
wire_with w changes = fold wire_changed w changes

-- what happens to a machine without an error or a flag, also that it is back from bus off; Bosch CAN 2.0 part B, section 8, rule 12
abbrev pub is_no_fault : Happened → Bool
is_no_fault Recovered = true
is_no_fault happened = is_fine happened

-- whatever happens next, no machine finds an error, whether it takes part or not
abbrev pub FindNoFault : Wire → Type 0
FindNoFault w = (event : Event) (k : ℕ) (x : Sampled) → k < w.count → added w event k ≡ Sample x ∷ []
    → is_no_fault (judged (stretch_at w k) x).happened ≡ true
