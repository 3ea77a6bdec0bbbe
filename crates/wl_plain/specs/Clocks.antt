-- The clock of a node or a controller, by its frequency and its prescaler or its bit rate, and what its kind allows (this project's profile).
use Rattle.std.specs.Prelude.{ℕ, ◌≤◌, suc, ℤ, pos, negsuc, ◌+◌, ◌-◌, ◌*◌, ◌==◌, nat_le, Bool, true, false, not, ◌&&◌, ◌||◌, if◌then◌else◌, List, [], ◌∷◌, Option, Some, None, is_some, option_map, option_and_then, codes}
use Rattle.toml.specs.Data.{Data, integer, Members, get_member, as_integer}
use Rattle.wl_units.specs.declared.quantity.Measure.TheVariants as measure
use Rattle.wl_units.specs.declared.ratio.TheConstants.{LARGEST_WHOLE}
use Rattle.wl_units.specs.Ratios.{ticks_of_quantum, whole}
use Rattle.wl_kinds.specs.declared.kinds.ControllerKind.{ControllerKind}
use Rattle.wl_kinds.specs.declared.kinds.Part.{Part}
use Rattle.wl_kinds.specs.declared.kinds.Part.TheVariants as part
use Rattle.wl_kinds.specs.declared.kinds.Taken.{Taken}
use Rattle.wl_kinds.specs.Kinds.{first_wrong, kind_named}
use Rattle.wl_plain.specs.declared.measure.Units.{Units}
use Rattle.wl_plain.specs.declared.clock.Quantum.{Quantum}
use Rattle.wl_plain.specs.declared.clock.ClockKeys.{ClockKeys}
use Rattle.wl_plain.specs.declared.clock.ClockKey.{ClockKey}
use Rattle.wl_plain.specs.declared.clock.ClockKey.TheVariants.{Clock, Prescaler, BitRate}
use Rattle.wl_plain.specs.declared.clock.ClockKeys.TheVariants.{Unresolved, Wrong, Resolved}
use Rattle.wl_plain.specs.Tables.{has, has_any, no_value, positive, positive_number_at, with_member, text_at, whole_number_at, without, without_all}
use Rattle.wl_plain.specs.Measures.{said}

-- the frequency of the clock in Hz, and the bit rate in bit/s
abbrev pub hertz_at : Units → Members → Option ℕ
hertz_at u ms = option_and_then positive (option_and_then (said u measure.Frequency) (text_at (codes "clock") ms))

abbrev pub bit_rate_at : Units → Members → Option ℕ
bit_rate_at u ms = option_and_then positive (option_and_then (said u measure.BitRate) (text_at (codes "bitrate") ms))

-- the quanta of PROP_SEG and PHASE_SEG1, and of PHASE_SEG2, by either way of writing them
abbrev pub sum_if_known : Option ℕ → Option ℕ → Option ℕ
sum_if_known (Some a) (Some b) = Some (a + b)
sum_if_known _ _ = None

abbrev pub tseg1_at : Members → Option ℕ
tseg1_at ms =
    if has (codes "tseg1") ms then whole_number_at (codes "tseg1") ms
    else sum_if_known (whole_number_at (codes "prop") ms) (whole_number_at (codes "ps1") ms)

abbrev pub tseg2_at : Members → Option ℕ
tseg2_at ms = if has (codes "tseg2") ms then whole_number_at (codes "tseg2") ms else whole_number_at (codes "ps2") ms

-- the quanta of a bit: SYNC_SEG and these
abbrev pub bit_quanta_at : Members → Option ℕ
bit_quanta_at ms = option_map (λ n. 1 + n) (sum_if_known (tseg1_at ms) (tseg2_at ms))

-- the prescaler that gives a bit rate exactly
abbrev pub prescaler_for : (hertz rate quanta : ℕ) → Option ℕ
prescaler_for hertz rate quanta = option_and_then positive (whole hertz (rate * quanta))

-- a quantum by a prescaler, which is wrong if there is no such quantum
abbrev pub with_fraction : ℕ → Option (ℕ × ℕ) → ClockKeys
with_fraction p None = Wrong Prescaler
with_fraction p (Some f) = Resolved (record { num = f.0; den = f.1; prescaler = p })

abbrev pub keys_by_prescaler : (tick hertz p : ℕ) → ClockKeys
keys_by_prescaler tick hertz p = with_fraction p (ticks_of_quantum hertz p tick)

-- The bit rate without a prescaler: if the quanta of a bit are not known, the keys that lack are those of the segments.
abbrev pub by_found : (tick hertz : ℕ) → Option ℕ → ClockKeys
by_found tick hertz None = Wrong BitRate
by_found tick hertz (Some p) = keys_by_prescaler tick hertz p

abbrev pub by_bit_rate : (tick hertz : ℕ) → Option ℕ → Option ℕ → ClockKeys
by_bit_rate tick hertz rate None = Unresolved
by_bit_rate tick hertz None (Some quanta) = Wrong BitRate
by_bit_rate tick hertz (Some rate) (Some quanta) = by_found tick hertz (prescaler_for hertz rate quanta)

-- a prescaler beside a bit rate has to be the one that gives it
abbrev pub is_it : ℕ → Option ℕ → Bool
is_it p None = false
is_it p (Some n) = n == p

abbrev pub gives_rate : (hertz p : ℕ) → Option ℕ → Option ℕ → Bool
gives_rate hertz p (Some rate) (Some quanta) = is_it p (prescaler_for hertz rate quanta)
gives_rate hertz p None (Some quanta) = false
gives_rate hertz p rate None = true

abbrev pub by_both : Units → Members → (tick hertz : ℕ) → Option ℕ → ClockKeys
by_both u ms tick hertz None = Wrong Prescaler
by_both u ms tick hertz (Some p) =
    if has (codes "bitrate") ms && not (gives_rate hertz p (bit_rate_at u ms) (bit_quanta_at ms)) then Wrong BitRate
    else keys_by_prescaler tick hertz p

-- by a clock of this frequency
abbrev pub by_hertz : Units → Members → (tick : ℕ) → Option ℕ → ClockKeys
by_hertz u ms tick None = Wrong Clock
by_hertz u ms tick (Some hertz) =
    if has (codes "prescaler") ms then by_both u ms tick hertz (positive_number_at (codes "prescaler") ms)
    else if has (codes "bitrate") ms then by_bit_rate tick hertz (bit_rate_at u ms) (bit_quanta_at ms)
    else Unresolved

-- both parts of a quantum are numbers of a document
abbrev pub IsSmall : ClockKeys → Type 0
IsSmall (Resolved q) = (q.num ≤ LARGEST_WHOLE) × (q.den ≤ LARGEST_WHOLE)
IsSmall _ = Unit {0}

-- the other keys of a clock
abbrev pub other_clock_keys : List (List ℕ)
other_clock_keys = codes "num" ∷ codes "den" ∷ codes "quantum" ∷ codes "rates" ∷ []

abbrev pub keys_by_tick : Units → Members → Option ℕ → ClockKeys
keys_by_tick u ms None = Unresolved
keys_by_tick u ms (Some tick) = by_hertz u ms tick (hertz_at u ms)

-- What the clock keys of a node make. Nothing without `clock`, without the length of a tick, or beside other keys of a clock: then the
-- keys stay, and the reader names the one that is missing or in the wrong place.
abbrev pub clock_keys_of : Units → Members → ClockKeys
clock_keys_of u ms = if has (codes "clock") ms && not (has_any other_clock_keys ms) then keys_by_tick u ms u.tick else Unresolved

-- the key as it is written
abbrev pub clock_word : ClockKey → List ℕ
clock_word Clock = codes "clock"
clock_word Prescaler = codes "prescaler"
clock_word BitRate = codes "bitrate"

-- `num` and `den` in the place of the keys
abbrev pub settled_by : ClockKeys → Members → Members
settled_by Unresolved ms = ms
settled_by (Wrong k) ms = with_member (clock_word k) no_value ms
settled_by (Resolved q) ms =
    with_member (codes "num") (integer (pos q.num)) (with_member (codes "den") (integer (pos q.den))
    (without_all (codes "clock" ∷ codes "prescaler" ∷ codes "bitrate" ∷ []) ms))

unfoldable pub with_quantum : Units → Members → Members
with_quantum u ms = settled_by (clock_keys_of u ms) ms

-- the prescaler, as far as it is known
abbrev pub known_prescaler : ClockKeys → Option ℕ
known_prescaler (Resolved q) = Some q.prescaler
known_prescaler _ = None

-- the setting of a node, if its segments are known
abbrev pub taken_with : Option ℕ → Option ℕ → Option ℕ → Option ℕ → Option Taken
taken_with p (Some tseg1) (Some tseg2) (Some sjw) = Some (record { prescaler = p; tseg1 = tseg1; tseg2 = tseg2; sjw = sjw })
taken_with p _ _ _ = None

abbrev pub taken_of : Units → Members → Option Taken
taken_of u ms = taken_with (known_prescaler (clock_keys_of u ms)) (tseg1_at ms) (tseg2_at ms) (whole_number_at (codes "sjw") ms)

-- the key of a part
abbrev pub part_word : Members → Part → List ℕ
part_word ms part.Prescaler = if has (codes "prescaler") ms then codes "prescaler" else codes "bitrate"
part_word ms part.Tseg1 = if has (codes "tseg1") ms then codes "tseg1" else codes "ps1"
part_word ms part.Tseg2 = if has (codes "tseg2") ms then codes "tseg2" else codes "ps2"
part_word ms part.Sjw = codes "sjw"

-- the key of what a kind of controllers can't be set to; of an unknown kind `kind`
abbrev pub wrong_by_taken : ControllerKind → Members → Option Taken → Option (List ℕ)
wrong_by_taken k ms None = None
wrong_by_taken k ms (Some taken) = option_map (part_word ms) (first_wrong k taken)

abbrev pub wrong_by : Units → Members → Option ControllerKind → Option (List ℕ)
wrong_by u ms None = Some (codes "kind")
wrong_by u ms (Some k) = wrong_by_taken k ms (taken_of u ms)

abbrev pub wrong_key : Units → Members → Option (List ℕ)
wrong_key u ms = wrong_by u ms (option_and_then kind_named (text_at (codes "kind") ms))

-- without `kind`, and without a value at the key that it forbids
abbrev pub marked : Option (List ℕ) → Members → Members
marked None ms = ms
marked (Some k) ms = with_member k no_value ms

unfoldable pub of_kind : Units → Members → Members
of_kind u ms = if has (codes "kind") ms then marked (wrong_key u ms) (without (codes "kind") ms) else ms
