-- Worked segments: which are accepted, where they are sampled, and the greatest deviation that is tolerated.
use Rattle.std.proofs.Common.{◌≡◌, ℕ, Ok, Err, refl, arith}
use Rattle.wl_segments.specs.declared.SegmentsFault.TheVariants.{Prop, Phase1, Phase2, Jump, Length}
use Rattle.wl_segments.specs.declared.SyncRules.TheVariants.{After, Book}
use Rattle.wl_segments.specs.Lengths.{Lengths, IsTolerated, bit_quanta, sample_at, least_way, segments_of, controller_segments_of}

abbrev lengths : ℕ → ℕ → ℕ → ℕ → Lengths
lengths prop ps1 ps2 sjw = record { prop = prop; ps1 = ps1; ps2 = ps2; sjw = sjw; sync = After }

accepted : segments_of 3 3 3 2 ≡ Ok (lengths 3 3 3 2)
accepted = refl

quanta : bit_quanta (lengths 3 3 3 2) ≡ 10
quanta = refl

sample : sample_at (lengths 3 3 3 2) ≡ 7
sample = refl

way_after : least_way (lengths 3 3 3 2) ≡ 7
way_after = refl

way_book : least_way (record (lengths 3 3 3 2) { sync = Book }) ≡ 6
way_book = refl

-- by the profile a way is the place of the sample, whatever the lengths
way_as_before : (prop ps1 ps2 sjw : ℕ) → least_way (lengths prop ps1 ps2 sjw) ≡ sample_at (lengths prop ps1 ps2 sjw)
way_as_before prop ps1 ps2 sjw = omega arith

no_prop : segments_of 0 3 3 2 ≡ Err Prop
no_prop = refl

jump_above_phase1 : segments_of 1 1 2 2 ≡ Err Jump
jump_above_phase1 = refl

five_quanta : segments_of 1 1 2 1 ≡ Err Length
five_quanta = refl

-- 160 quanta a bit, as of a controller at 80 MHz on a bus of 500 kbit/s, with the sample at 80 %
controller : controller_segments_of 127 32 16 ≡ Ok (lengths 95 32 32 16)
controller = refl

controller_quanta : bit_quanta (lengths 95 32 32 16) ≡ 160
controller_quanta = refl

controller_sample : sample_at (lengths 95 32 32 16) ≡ 128
controller_sample = refl

longest : controller_segments_of 256 128 128 ≡ Ok (lengths 128 128 128 128)
longest = refl

shortest : controller_segments_of 2 5 1 ≡ Ok (lengths 1 1 5 1)
shortest = refl

tseg1_alone : controller_segments_of 257 128 1 ≡ Err Phase1
tseg1_alone = refl

tseg2_of_one : controller_segments_of 10 1 1 ≡ Err Phase2
tseg2_of_one = refl

jump_above_tseg2 : controller_segments_of 10 2 3 ≡ Err Jump
jump_above_tseg2 = refl

jump_of_tseg1 : controller_segments_of 4 8 4 ≡ Err Jump
jump_of_tseg1 = refl

seven_quanta : controller_segments_of 4 2 1 ≡ Err Length
seven_quanta = refl

-- ten bits decide here: 20 * ppm * 10 is at most 2,000,000
tolerated_10000 : IsTolerated (lengths 3 3 3 2) 10000
tolerated_10000 = record { flagged = omega arith; stuffed = omega arith }

above_10000 : IsTolerated (lengths 3 3 3 2) 10001 → ⊥
above_10000 t = omega (arith, t.stuffed)

-- thirteen bits but for PHASE_SEG2 decide here: 2 * ppm * (13 * 8 - 5) is at most 1,000,000
tolerated_5050 : IsTolerated (lengths 1 1 5 1) 5050
tolerated_5050 = record { flagged = omega arith; stuffed = omega arith }

above_5050 : IsTolerated (lengths 1 1 5 1) 5051 → ⊥
above_5050 t = omega (arith, t.flagged)

tolerated_4854 : IsTolerated (lengths 5 8 2 4) 4854
tolerated_4854 = record { flagged = omega arith; stuffed = omega arith }

above_4854 : IsTolerated (lengths 5 8 2 4) 4855 → ⊥
above_4854 t = omega (arith, t.flagged)
