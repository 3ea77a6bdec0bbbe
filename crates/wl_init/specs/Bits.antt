-- The segments of a bit (ISO 11898-1, bit timing; CiA 301 for the sample point of 87.5 %; the order of the shapes is this project's profile).
use Rattle.std.specs.Prelude.{ℕ, zero, suc, ◌+◌, ◌-◌, ◌*◌, ◌/◌, ◌%◌, ◌==◌, ◌&&◌, not, List, [], ◌∷◌, Option, Some, None, option_and_then, if◌then◌else◌}
use Rattle.wl_kinds.specs.Kinds.{allows}
use Rattle.wl_kinds.specs.declared.kinds.ControllerKind.{ControllerKind}
use Rattle.wl_init.specs.declared.bits.BitSetting.{BitSetting}
use Rattle.wl_init.specs.declared.bits.Shape.{Shape}
use Rattle.wl_init.specs.declared.bits.TheConstants.{DELAYS, FAR, NANOSECONDS, NEAR}

-- the quanta of a bit: SYNC_SEG, PROP_SEG and PHASE_SEG1, PHASE_SEG2
abbrev pub shape_quanta : Shape → ℕ
shape_quanta s = 1 + s.tseg1 + s.tseg2

-- the periods of a clock in a bit, if they are whole
abbrev pub periods_of_bit : (clock rate : ℕ) → Option ℕ
periods_of_bit clock rate = if not (rate == 0) && (clock % rate == 0) then Some (clock / rate) else None

-- a shape with a jump width, if the quanta take whole periods of the clock, and the kind can be set so
abbrev pub setting_of : ControllerKind → (periods jump : ℕ) → Shape → Option BitSetting
setting_of kind periods jump s =
    if (periods % shape_quanta s == 0) && allows kind (record { prescaler = Some (periods / shape_quanta s); tseg1 = s.tseg1; tseg2 = s.tseg2; sjw = jump })
    then Some (record { prescaler = periods / shape_quanta s; shape = s; jump = jump }) else None

-- the first that is there
abbrev pub or_first : {A : Type 0} → Option A → Option A → Option A
or_first (Some a) other = Some a
or_first None other = other

-- the setting with a jump width and the first shape that a kind can have
abbrev pub setting_among : ControllerKind → (periods jump : ℕ) → List Shape → Option BitSetting
setting_among kind periods jump [] = None
setting_among kind periods jump (s ∷ shapes) = or_first (setting_of kind periods jump s) (setting_among kind periods jump shapes)

-- with a jump width of 1: the nearer shapes come first
unfoldable pub plain_setting : ControllerKind → ℕ → Option BitSetting
plain_setting kind periods = or_first (setting_among kind periods 1 NEAR) (setting_among kind periods 1 FAR)

-- with one of 2 and a near shape, or else with one of 1
unfoldable pub setting_by : ControllerKind → ℕ → Option BitSetting
setting_by kind periods = or_first (setting_among kind periods 2 NEAR) (plain_setting kind periods)

-- the setting for a clock in Hz and a bit rate in bit/s
abbrev pub setting_for : ControllerKind → (clock rate : ℕ) → Option BitSetting
setting_for kind clock rate = option_and_then (setting_by kind) (periods_of_bit clock rate)

abbrev pub quotient : ℕ → ℕ → ℕ
quotient a b = if b == 0 then 0 else a / b

-- the nanoseconds of a bit and of a quantum
abbrev pub bit_time : ℕ → ℕ
bit_time rate = quotient NANOSECONDS rate

abbrev pub quantum_time : ℕ → Shape → ℕ
quantum_time rate s = bit_time rate / shape_quanta s

-- The longest cable in nanoseconds: twice the delays and the cable, twice what a quantum is longer than the delays, and 2 % of a bit fit before
-- the sample.
abbrev pub longest_for : ℕ → Shape → ℕ
longest_for rate s =
    (quantum_time rate s * (1 + s.tseg1) - (2 * (quantum_time rate s - DELAYS) + (bit_time rate / 50 + 3))) / 2 - DELAYS
