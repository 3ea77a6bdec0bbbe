-- The segments of a bit, in quanta.
use Rattle.std.specs.Prelude.{ℕ, ◌+◌, ◌-◌, ◌*◌, ◌≤◌, ◌||◌, nat_lt, min, Result, Ok, Err, if◌then◌else◌}
use Rattle.wl_segments.specs.declared.SegmentsFault.{SegmentsFault}
use Rattle.wl_segments.specs.declared.SegmentsFault.TheVariants.{Prop, Phase1, Phase2, Jump, Length}
use Rattle.wl_segments.specs.declared.SyncRules.{SyncRules}
use Rattle.wl_segments.specs.declared.SyncRules.TheVariants.{After, Book}

-- PROP_SEG, PHASE_SEG1, PHASE_SEG2 and the resynchronisation jump width (Bosch CAN 2.0 part B, section 10); and the
-- rules by which edges synchronise a bit
pub record Lengths : Type 0 where
  pub prop : ℕ
  pub ps1 : ℕ
  pub ps2 : ℕ
  pub sjw : ℕ
  pub sync : SyncRules

-- the place of the sample in a bit that nothing moved: after SYNC_SEG of 1 quantum, PROP_SEG and PHASE_SEG1
-- (Bosch CAN 2.0 part B, section 10)
abbrev pub sample_at : Lengths → ℕ
sample_at l = 1 + l.prop + l.ps1

-- the quanta of a bit that nothing moved: the nominal bit time (Bosch CAN 2.0 part B, section 10)
abbrev pub bit_quanta : Lengths → ℕ
bit_quanta l = sample_at l + l.ps2

-- The place, in the bit that an edge begins, of the quantum that finds the edge: SYNC_SEG itself, so that the edge lies before it (this
-- project's profile), or the first quantum after it, so that the edge lies within it (Bosch CAN 2.0 part B, section 10, hard synchronization).
abbrev pub found_by : SyncRules → ℕ
found_by After = 0
found_by Book = 1

-- the same in a bit of these lengths, of which the sample is one quantum after it at least
abbrev pub found_at : Lengths → ℕ
found_at l = min (found_by l.sync) (l.prop + l.ps1)

-- from the start of a bit that nothing moves up to its sample, that quantum too, at least
abbrev pub least_way : Lengths → ℕ
least_way l = sample_at l - found_at l

-- what holds of all segments, those of the book and those of controllers with longer ones (Bosch CAN 2.0 part B, section 10; ISO 11898-1)
pub record AreLengths (l : Lengths) : Type 0 where
  pub prop_low : 1 ≤ l.prop
  pub ps1_low : 1 ≤ l.ps1
  pub ps2_low : 2 ≤ l.ps2
  pub sjw_low : 1 ≤ l.sjw
  pub sjw_ps1 : l.sjw ≤ l.ps1
  pub sjw_half : 2 * l.sjw ≤ bit_quanta l
  pub sjw_ps2 : l.sjw ≤ 10 * (l.ps2 - 1)
  pub low : 8 ≤ bit_quanta l
  pub high : bit_quanta l ≤ 385

-- the segments of these lengths, or the first refusal that applies (the ranges of Bosch CAN 2.0 part B, section 10;
-- the order, and the rules of synchronisation, are this project's profile)
abbrev pub segments_of : ℕ → ℕ → ℕ → ℕ → Result Lengths SegmentsFault
segments_of prop ps1 ps2 sjw =
    if nat_lt prop 1 || nat_lt 8 prop then Err Prop
    else if nat_lt ps1 1 || nat_lt 8 ps1 then Err Phase1
    else if nat_lt ps2 2 || nat_lt 8 ps2 then Err Phase2
    else if nat_lt sjw 1 || nat_lt (min 4 ps1) sjw then Err Jump
    else if nat_lt (1 + prop + ps1 + ps2) 8 || nat_lt 25 (1 + prop + ps1 + ps2) then Err Length
    else Ok (record { prop = prop; ps1 = ps1; ps2 = ps2; sjw = sjw; sync = After })

-- The segments of a controller that has PROP_SEG and PHASE_SEG1 as one length, TSEG1, or the first refusal that applies (ISO 11898-1, bit timing: ranges of
-- classical bits in controllers with CAN FD; TSEG2 of 2 at least and PROP_SEG as what PHASE_SEG2 leaves of TSEG1 are this project's profile).
abbrev pub controller_segments_of : (tseg1 tseg2 sjw : ℕ) → Result Lengths SegmentsFault
controller_segments_of tseg1 tseg2 sjw =
    if nat_lt tseg1 2 || nat_lt 256 tseg1 then Err Phase1
    else if nat_lt tseg2 2 || nat_lt 128 tseg2 then Err Phase2
    else if nat_lt sjw 1 || nat_lt (min (tseg1 - 1) tseg2) sjw then Err Jump
    else if nat_lt (1 + tseg1 + tseg2) 8 then Err Length
    else Ok (record { prop = tseg1 - min (tseg1 - 1) tseg2; ps1 = min (tseg1 - 1) tseg2; ps2 = tseg2; sjw = sjw; sync = After })

-- Two oscillators that each deviate by so many parts per million stay in step over 13 bits but for PHASE_SEG2, as
-- after an error flag, and over the 10 bits between two resynchronisations (this project's profile)
pub record IsTolerated (l : Lengths) (ppm : ℕ) : Type 0 where
  pub flagged : 2 * ppm * (13 * bit_quanta l - l.ps2) ≤ 1000000 * min l.ps1 l.ps2
  pub stuffed : 20 * ppm * bit_quanta l ≤ 1000000 * l.sjw
