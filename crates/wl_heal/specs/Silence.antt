-- A bus that is recessive for some time, whatever came before.
use Rattle.std.specs.Prelude.{◌≡◌, ◌<◌, ℕ, zero, suc, Bool, true, false, List, [], ◌∷◌}
use Rattle.wl_level.specs.declared.Level.TheVariants.{Recessive}
use Rattle.wl_machine.specs.Stretch.{Sort, Stretch, Sampled}
use Rattle.wl_machine.specs.Stretch.Sort.{Framing, OffBus}
use Rattle.wl_machine.specs.Stretch.Input.{Sample}
use Rattle.wl_machine.specs.Judged.{stretch_after, drive_of}
use Rattle.wl_wire.specs.Wire.{Wire, Event, Bit, Own, bus, stretch_at, next_wire}

-- the running stretch after more samples; this project's profile
abbrev pub stretch_on : Stretch → List Sampled → Stretch
stretch_on s [] = s
stretch_on s (x ∷ xs) = stretch_on (stretch_after s (Sample x)) xs

-- a machine is off the bus; Bosch CAN 2.0 part B, section 8, rule 10
abbrev pub is_off_by : Sort → Bool
is_off_by OffBus = true
is_off_by sort = false

abbrev pub is_off : Stretch → Bool
is_off s = is_off_by s.sort

-- no machine of a wire is; this project's profile
abbrev pub AreOnBus : Wire → Type 0
AreOnBus w = (k : ℕ) → k < w.count → is_off (stretch_at w k) ≡ false

-- so many recessive samples bring a machine between frames: seven to the end of a frame that it receives, six bits of a passive flag, eight of a
-- delimiter, and two of an intermission; Bosch CAN 2.0 part B, sections 3.2.1 and 3.2.3 to 3.2.5
abbrev pub silent_bits : ℕ
silent_bits = 23

-- so many leave it on an idle bus: those, the third bit of the intermission, and eight of a suspension; Bosch CAN 2.0 part B, section 3.2.5
abbrev pub idle_bits : ℕ
idle_bits = 32

-- so many if it is in no frame: six bits of a passive flag, eight of a delimiter, and two of an intermission
abbrev pub silent_bits_after_a_frame : ℕ
silent_bits_after_a_frame = 16

abbrev pub is_in_frame_by : Sort → Bool
is_in_frame_by (Framing head) = true
is_in_frame_by sort = false

abbrev pub is_in_frame : Stretch → Bool
is_in_frame s = is_in_frame_by s.sort

-- a machine drives recessive at each of these samples, and each is recessive; this project's profile
abbrev pub IsSilence : Stretch → List Sampled → Type 0
IsSilence s [] = Unit {0}
IsSilence s (x ∷ xs) = (x.level ≡ Recessive) × (drive_of s ≡ Recessive) × IsSilence (stretch_after s (Sample x)) xs

-- how many bits of the bus are among these events, and that each is recessive; this project's profile
abbrev pub bus_bits : List Event → ℕ
bus_bits [] = zero
bus_bits (Bit handed ∷ events) = suc (bus_bits events)
bus_bits (Own machine handed ∷ events) = bus_bits events

abbrev pub StaysRecessive : Wire → List Event → Type 0
StaysRecessive w [] = Unit {0}
StaysRecessive w (Bit handed ∷ events) = (bus w ≡ Recessive) × StaysRecessive (next_wire w (Bit handed)) events
StaysRecessive w (Own machine handed ∷ events) = StaysRecessive (next_wire w (Own machine handed)) events
