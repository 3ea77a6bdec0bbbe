-- Which settings have the bit rate. This project's; what is taken from public texts is named.
use Rattle.std.specs.Prelude.{ℕ, zero, suc, ◌+◌, ◌-◌, ◌*◌, ◌/◌, ◌&&◌, ◌||◌, nat_le, Bool, true, false, List, [], ◌∷◌, ◌++◌, Option, Some, None, Result, if◌then◌else◌}
use Rattle.std.specs.Int.{abs_diff}
use Rattle.std.specs.Result.{is_ok}
use Rattle.wl_kinds.specs.declared.kinds.ControllerKind.{ControllerKind}
use Rattle.wl_kinds.specs.declared.kinds.Taken.{Taken}
use Rattle.wl_kinds.specs.Kinds.{allows}
use Rattle.wl_segments.specs.declared.SegmentsFault.{SegmentsFault}
use Rattle.wl_segments.specs.Lengths.{Lengths, controller_segments_of, segments_of}
use Rattle.wl_settings.specs.declared.asked.Asked.{Asked}
use Rattle.wl_settings.specs.declared.asked.Bounds.{Bounds}
use Rattle.wl_settings.specs.declared.asked.Controller.{Controller}
use Rattle.wl_settings.specs.declared.parts.Parts.{Parts}
use Rattle.wl_settings.specs.declared.parts.Parts.TheVariants.{Each, Joint}
use Rattle.wl_settings.specs.declared.asked.Setting.{Setting}

-- the quanta of a bit: SYNC_SEG, PROP_SEG, PHASE_SEG1 and PHASE_SEG2 (Bosch CAN 2.0 part B, section 10); TSEG1 is PROP_SEG and PHASE_SEG1 as one
-- length, and TSEG2 is PHASE_SEG2 (ISO 11898-1, bit timing)
abbrev pub quanta_of_parts : Parts → ℕ
quanta_of_parts (Each prop ps1 ps2) = 1 + prop + ps1 + ps2
quanta_of_parts (Joint tseg1 tseg2) = 1 + tseg1 + tseg2

abbrev pub setting_quanta : Setting → ℕ
setting_quanta s = quanta_of_parts s.parts

-- the quanta of PROP_SEG and PHASE_SEG1, and those after the sample
abbrev pub quanta_of_tseg1 : Parts → ℕ
quanta_of_tseg1 (Each prop ps1 ps2) = prop + ps1
quanta_of_tseg1 (Joint tseg1 tseg2) = tseg1

abbrev pub quanta_after_sample : Parts → ℕ
quanta_after_sample (Each prop ps1 ps2) = ps2
quanta_after_sample (Joint tseg1 tseg2) = tseg2

-- PROP_SEG and PHASE_SEG1 are one length
abbrev pub is_joint : Parts → Bool
is_joint (Each prop ps1 ps2) = false
is_joint (Joint tseg1 tseg2) = true

-- the segments, if there are such
abbrev pub segments_by : Parts → ℕ → Result Lengths SegmentsFault
segments_by (Each prop ps1 ps2) sjw = segments_of prop ps1 ps2 sjw
segments_by (Joint tseg1 tseg2) sjw = controller_segments_of tseg1 tseg2 sjw

-- the clock by which bits of so many quanta have a bit rate, exactly
abbrev pub divisor_of : (bitrate prescaler quanta : ℕ) → ℕ
divisor_of bitrate prescaler quanta = bitrate * (prescaler * quanta)

abbrev pub bit_divisor : ℕ → Setting → ℕ
bit_divisor bitrate s = divisor_of bitrate s.prescaler (setting_quanta s)

-- the sample point in thousandths of a bit, rounded down, and how far it is from the one that is wished for
abbrev pub sample_permille : Setting → ℕ
sample_permille s = (setting_quanta s - quanta_after_sample s.parts) * 1000 / setting_quanta s

abbrev pub distance_to : Option ℕ → Setting → ℕ
distance_to None s = 0
distance_to (Some wish) s = abs_diff (sample_permille s) wish

-- each segment is at most what its register holds
abbrev pub fit_parts : Parts → Parts → Bool
fit_parts (Each prop ps1 ps2) (Each a b c) = nat_le a prop && (nat_le b ps1 && nat_le c ps2)
fit_parts (Joint tseg1 tseg2) (Joint a b) = nat_le a tseg1 && nat_le b tseg2
fit_parts _ _ = false

-- what the catalogue of kinds is asked of a setting
abbrev pub setting_taken : Setting → Taken
setting_taken s = record {
  prescaler = Some s.prescaler;
  tseg1 = quanta_of_tseg1 s.parts;
  tseg2 = quanta_after_sample s.parts;
  sjw = s.sjw;
}

-- a controller of the kind can be set so, if the kind is known
abbrev pub is_taken_by : Option ControllerKind → Setting → Bool
is_taken_by None s = true
is_taken_by (Some kind) s = allows kind (setting_taken s)

-- The jump width is at most PHASE_SEG2, as drivers ask, unless it may be above it (Bosch CAN 2.0 part B, section 10: it is at most PHASE_SEG1).
abbrev pub obeys : Bounds → Setting → Bool
obeys b s = (b.is_sjw_free || nat_le s.sjw (quanta_after_sample s.parts)) && is_taken_by b.kind s

-- a controller can be set so
abbrev pub fits_registers : Bounds → Setting → Bool
fits_registers b s = nat_le s.prescaler b.prescaler && (fit_parts b.parts s.parts && (nat_le s.sjw b.sjw && obeys b s))

-- The bit rate of bits of so many quanta deviates from the one asked for by at most `rate_error` parts per million.
abbrev pub is_rate_near : Asked → (clock prescaler quanta : ℕ) → Bool
is_rate_near a clock prescaler quanta =
    nat_le (abs_diff clock (divisor_of a.bitrate prescaler quanta) * 1000000) (a.rate_error * divisor_of a.bitrate prescaler quanta)

abbrev pub is_near : Asked → ℕ → Setting → Bool
is_near a clock s = is_rate_near a clock s.prescaler (setting_quanta s)

-- and its segments are those of a bit
abbrev pub is_setting : Asked → Controller → Setting → Bool
is_setting a c s = fits_registers c.bounds s && (is_near a c.clock s && is_ok (segments_by s.parts s.sjw))

-- a setting, if it is possible
abbrev pub only : Asked → Controller → Setting → List Setting
only a c s = if is_setting a c s then s ∷ [] else []

-- what there is for each number below one, in order
unfoldable pub each_under : {X : Type 0} → (ℕ → List X) → ℕ → List X
each_under f zero = []
each_under f (suc n) = each_under f n ++ f n

-- All settings with these segments: the widest jump comes first, and none is wider than the register holds.
abbrev pub by_jump : Asked → Controller → ℕ → Parts → List Setting
by_jump a c prescaler parts = each_under (λ narrower. only a c (record { prescaler = prescaler; parts = parts; sjw = c.bounds.sjw - narrower })) c.bounds.sjw

-- If each segment has a register of its own, PHASE_SEG2 is 2 to 8 quanta, PHASE_SEG1 and PROP_SEG are 1 to 8 (Bosch CAN 2.0 part B, section 10).
abbrev pub by_second : Asked → Controller → (prescaler prop ps1 : ℕ) → List Setting
by_second a c prescaler prop ps1 = each_under (λ more. by_jump a c prescaler (Each prop ps1 (2 + more))) 7

abbrev pub by_first : Asked → Controller → (prescaler prop : ℕ) → List Setting
by_first a c prescaler prop = each_under (λ more. by_second a c prescaler prop (1 + more)) 8

abbrev pub by_prop : Asked → Controller → ℕ → List Setting
by_prop a c prescaler = each_under (λ more. by_first a c prescaler (1 + more)) 8

-- If PROP_SEG and PHASE_SEG1 have one, TSEG1 is 2 quanta or more, and TSEG2 is what it leaves of the bit.
abbrev pub by_sample : Asked → Controller → (prescaler quanta tseg1 : ℕ) → List Setting
by_sample a c prescaler quanta tseg1 = by_jump a c prescaler (Joint tseg1 (quanta - tseg1 - 1))

abbrev pub by_samples : Asked → Controller → (prescaler quanta most : ℕ) → List Setting
by_samples a c prescaler quanta most = each_under (λ more. by_sample a c prescaler quanta (2 + more)) (most - 1)

-- Only bits that have the rate are parted.
abbrev pub by_length : Asked → Controller → (prescaler quanta most : ℕ) → List Setting
by_length a c prescaler quanta most = if is_rate_near a c.clock prescaler quanta then by_samples a c prescaler quanta most else []

-- A bit has 8 to 385 quanta (ISO 11898-1, bit timing: SYNC_SEG, TSEG1 of 256 at most and TSEG2 of 128 at most).
abbrev pub by_lengths : Asked → Controller → (prescaler most : ℕ) → List Setting
by_lengths a c prescaler most = each_under (λ more. by_length a c prescaler (8 + more) most) 378

-- the registers of the controller say which
abbrev pub by_registers : Asked → Controller → Parts → ℕ → List Setting
by_registers a c (Each prop ps1 ps2) prescaler = by_prop a c prescaler
by_registers a c (Joint tseg1 tseg2) prescaler = by_lengths a c prescaler tseg1

abbrev pub by_prescaler : Asked → Controller → ℕ → List Setting
by_prescaler a c prescaler = by_registers a c c.bounds.parts prescaler

-- the possible ones of all, by a prescaler of 1 to what its register holds
abbrev pub possible_settings : Asked → Controller → List Setting
possible_settings a c = each_under (λ less. by_prescaler a c (less + 1)) c.bounds.prescaler
