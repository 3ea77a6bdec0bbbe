-- The settings of a controller of a known kind.
use Rattle.std.proofs.Common.{◌≡◌, refl, subst, ℕ, ◌≤◌, ◌||◌, nat_le, min, true, List, Some, Contains, arith}
use Rattle.std.proofs.lemmas.Bool.{and_from, and_parts, le-leb, leb-true}
use Rattle.std.specs.Result.{is_ok}
use Rattle.wl_kinds.specs.declared.kinds.ControllerKind.{ControllerKind}
use Rattle.wl_kinds.specs.Kinds.{allows}
use Rattle.wl_settings.specs.declared.asked.Asked.{Asked}
use Rattle.wl_settings.specs.declared.asked.Controller.{Controller}
use Rattle.wl_settings.specs.declared.asked.Setting.{Setting}
use Rattle.wl_settings.specs.declared.parts.Parts.{Parts}
use Rattle.wl_settings.specs.declared.parts.Parts.TheVariants.{Each, Joint}
use Rattle.wl_settings.specs.Registers.{bounds_of_kind}
use Rattle.wl_settings.specs.Settings.{fit_parts, fits_registers, is_joint, is_setting, is_taken_by, possible_settings, quanta_after_sample, segments_by, setting_taken}
use Rattle.wl_settings.specs.SettingLaws.{IsOfKind}
use Rattle.wl_settings.proofs.SettingFacts.{joint_ranges}
use Rattle.wl_settings.proofs.SettingLists.{listed_is_setting, setting_is_listed, tests_of}

-- what a controller can be set to, its kind takes
setting_is_taken : (a : Asked) (c : Controller) (s : Setting) → is_setting a c s ≡ true → is_taken_by c.bounds.kind s ≡ true
setting_is_taken a c s is =
    let fits = and_parts (fits_registers c.bounds s) _ is in
    let parts = and_parts (nat_le s.prescaler c.bounds.prescaler) _ fits.0 in
    let jump = and_parts (fit_parts c.bounds.parts s.parts) _ parts.1 in
    let kept = and_parts (nat_le s.sjw c.bounds.sjw) _ jump.1 in
    (and_parts (c.bounds.is_sjw_free || nat_le s.sjw (quanta_after_sample s.parts)) _ kept.1).1

pub obeyed : (a : Asked) (c : Controller) (k : ControllerKind) (s : Setting) → c.bounds.kind ≡ Some k → Contains (possible_settings a c) s
    → allows k (setting_taken s) ≡ true
obeyed a c k s is has = subst (λ kind. is_taken_by kind s ≡ true) is (setting_is_taken a c s (listed_is_setting a c s has).1)

joint_only : (tseg1 tseg2 : ℕ) (parts : Parts) → fit_parts (Joint tseg1 tseg2) parts ≡ true → is_joint parts ≡ true
joint_only tseg1 tseg2 (Joint a b) is = refl
joint_only tseg1 tseg2 (Each a b c) is = is

abbrev of_kind : List ℕ → ℕ → ControllerKind → Controller
of_kind name clock k = record { name = name; clock = clock; bounds = bounds_of_kind k }

pub has_no_other : (a : Asked) (name : List ℕ) (clock : ℕ) (k : ControllerKind) (s : Setting)
    → Contains (possible_settings a (record { name = name; clock = clock; bounds = bounds_of_kind k })) s → IsOfKind a clock k s
has_no_other a name clock k s has =
    let (low, is) = listed_is_setting a (of_kind name clock k) s has in
    let t = tests_of a (of_kind name clock k) s is in
    let most : s.prescaler ≤ min k.prescaler.most 4294967295 = t.prescaler in
    record {
      low = low;
      high = omega arith;
      joint = joint_only (min k.tseg1.most 65535) (min k.tseg2.most 65535) s.parts t.parts;
      near = t.near;
      bit = t.ok;
      allowed = obeyed a (of_kind name clock k) k s refl has;
    }

-- and each of them
module _ (k : ControllerKind) (p sjw : ℕ) where
  within_registers : (parts : Parts) → p ≤ 4294967295 → is_joint parts ≡ true → is_ok (segments_by parts sjw) ≡ true
      → allows k (setting_taken (record { prescaler = p; parts = parts; sjw = sjw })) ≡ true
      → fits_registers (bounds_of_kind k) (record { prescaler = p; parts = parts; sjw = sjw }) ≡ true
  within_registers (Joint tseg1 tseg2) high joint bit allowed =
      let r = joint_ranges tseg1 tseg2 sjw bit in
      let r0 = r.tseg1_high in
      let r1 = r.tseg2_high in
      let r2 = r.sjw_high in
      let jump = and_parts _ _ allowed in
      let second = and_parts _ _ jump.0 in
      let first = and_parts _ _ second.0 in
      let prescaler : p ≤ k.prescaler.most = leb-true _ _ (and_parts _ _ (and_parts _ _ first.0).0).1 in
      let before : tseg1 ≤ k.tseg1.most = leb-true _ _ (and_parts _ _ first.1).1 in
      let after : tseg2 ≤ k.tseg2.most = leb-true _ _ (and_parts _ _ (and_parts _ _ second.1).0).1 in
      let within = and_parts _ _ (and_parts _ _ jump.1).0 in
      let width : sjw ≤ k.sjw.most = leb-true _ _ (and_parts _ _ within.0).1 in
      and_from _ _ (le-leb p (min k.prescaler.most 4294967295) (omega arith))
      (and_from _ _ (and_from _ _ (le-leb tseg1 (min k.tseg1.most 65535) (omega arith)) (le-leb tseg2 (min k.tseg2.most 65535) (omega arith)))
      (and_from _ _ (le-leb sjw (min k.sjw.most 65535) (omega arith)) (and_from _ _ within.1 allowed)))
  within_registers (Each prop ps1 ps2) high joint bit allowed = cc

pub has_each : (a : Asked) (name : List ℕ) (clock : ℕ) (k : ControllerKind) (s : Setting) → IsOfKind a clock k s
    → Contains (possible_settings a (record { name = name; clock = clock; bounds = bounds_of_kind k })) s
has_each a name clock k s is =
    let fits = within_registers k s.prescaler s.sjw s.parts is.high is.joint is.bit is.allowed in
    setting_is_listed a (of_kind name clock k) s is.low (and_from _ _ fits (and_from _ _ is.near is.bit))
