-- The ranges of the segments of a setting.
use Rattle.std.proofs.Common.{◌≡◌, ℕ, ◌+◌, ◌≤◌, true, arith}
use Rattle.std.specs.Result.{is_ok}
use Rattle.std.proofs.lemmas.Bool.Decides.{nat_tests}
use Rattle.wl_segments.specs.Lengths.{controller_segments_of, segments_of}

-- each segment by itself
pub record AreSingle (prop ps1 ps2 sjw : ℕ) : Type 0 where
  pub prop_low : 1 ≤ prop
  pub prop_high : prop ≤ 8
  pub ps1_low : 1 ≤ ps1
  pub ps1_high : ps1 ≤ 8
  pub ps2_low : 2 ≤ ps2
  pub ps2_high : ps2 ≤ 8
  pub sjw_low : 1 ≤ sjw
  pub sjw_high : sjw ≤ 4

pub single_ranges : (prop ps1 ps2 sjw : ℕ) → is_ok (segments_of prop ps1 ps2 sjw) ≡ true → AreSingle prop ps1 ps2 sjw
single_ranges prop ps1 ps2 sjw e = record {
  prop_low = grind (arith, nat_tests);
  prop_high = grind (arith, nat_tests);
  ps1_low = grind (arith, nat_tests);
  ps1_high = grind (arith, nat_tests);
  ps2_low = grind (arith, nat_tests);
  ps2_high = grind (arith, nat_tests);
  sjw_low = grind (arith, nat_tests);
  sjw_high = grind (arith, nat_tests);
}

-- PROP_SEG and PHASE_SEG1 as one length
pub record AreJoint (tseg1 tseg2 sjw : ℕ) : Type 0 where
  pub tseg1_low : 2 ≤ tseg1
  pub tseg1_high : tseg1 ≤ 256
  pub tseg2_low : 2 ≤ tseg2
  pub tseg2_high : tseg2 ≤ 128
  pub sjw_low : 1 ≤ sjw
  pub sjw_high : sjw ≤ tseg2
  pub length : 8 ≤ 1 + tseg1 + tseg2

pub joint_ranges : (tseg1 tseg2 sjw : ℕ) → is_ok (controller_segments_of tseg1 tseg2 sjw) ≡ true → AreJoint tseg1 tseg2 sjw
joint_ranges tseg1 tseg2 sjw e = record {
  tseg1_low = grind (arith, nat_tests);
  tseg1_high = grind (arith, nat_tests);
  tseg2_low = grind (arith, nat_tests);
  tseg2_high = grind (arith, nat_tests);
  sjw_low = grind (arith, nat_tests);
  sjw_high = grind (arith, nat_tests);
  length = grind (arith, nat_tests);
}
