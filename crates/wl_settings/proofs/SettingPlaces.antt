-- Two settings of a controller at one place in the order are one setting.
use Rattle.std.proofs.Common.{◌≡◌, ◌∙◌, ap, ℕ, ◌+◌, ◌-◌, ◌*◌, ◌^◌, ◌≤◌, true, arith}
use Rattle.std.specs.Result.{is_ok}
use Rattle.wl_settings.specs.declared.asked.Asked.{Asked}
use Rattle.wl_settings.specs.declared.asked.Controller.{Controller}
use Rattle.wl_settings.specs.declared.asked.Setting.{Setting}
use Rattle.wl_settings.specs.declared.parts.Parts.{Parts}
use Rattle.wl_settings.specs.declared.parts.Parts.TheVariants.{Each, Joint}
use Rattle.wl_settings.specs.Rankings.{order_of_parts, place_in_order}
use Rattle.wl_settings.specs.Settings.{fit_parts, is_setting, segments_by}
use Rattle.wl_settings.proofs.SettingFacts.{joint_ranges, single_ranges}
use Rattle.wl_settings.proofs.SettingLists.{tests_of}

-- the order of segments, and the jump width
pub record AreSmall (parts : Parts) (sjw : ℕ) : Type 0 where
  pub order : order_of_parts parts ≤ 281474976710655
  pub jump : sjw ≤ 65535

small_parts : (parts : Parts) (sjw : ℕ) → is_ok (segments_by parts sjw) ≡ true → AreSmall parts sjw
small_parts (Each prop ps1 ps2) sjw ok = let r = single_ranges prop ps1 ps2 sjw ok in record { order = omega (arith, r.prop_high, r.ps1_high, r.ps2_high); jump = omega (arith, r.sjw_high) }
small_parts (Joint tseg1 tseg2) sjw ok =
    let r = joint_ranges tseg1 tseg2 sjw ok in record { order = omega (arith, r.tseg1_high, r.tseg2_high); jump = omega (arith, r.sjw_high, r.tseg2_high) }

same_parts : (greatest x y : Parts) (i j : ℕ) → fit_parts greatest x ≡ true → fit_parts greatest y ≡ true → is_ok (segments_by x i) ≡ true
    → is_ok (segments_by y j) ≡ true → order_of_parts x ≡ order_of_parts y → x ≡ y
same_parts (Each A B C) (Each a b c) (Each d e f) i j fx fy ox oy same =
    let r = single_ranges a b c i ox in
    let q = single_ranges d e f j oy in
    let e0 : a ≡ d = omega arith in
    let e1 : b ≡ e = omega arith in
    let e2 : c ≡ f = omega arith in
    cc
same_parts (Joint A B) (Joint a b) (Joint d e) i j fx fy ox oy same =
    let r = joint_ranges a b i ox in
    let q = joint_ranges d e j oy in
    let e0 : a ≡ d = omega arith in
    let e1 : b ≡ e = omega arith in
    cc
same_parts (Each A B C) (Joint a b) y i j fx fy ox oy same = cc
same_parts (Joint A B) (Each a b c) y i j fx fy ox oy same = cc
same_parts (Each A B C) x (Joint d e) i j fx fy ox oy same = cc
same_parts (Joint A B) x (Each d e f) i j fx fy ox oy same = cc

-- the numbers of a place
numbers_of : (p x i q y j : ℕ) → x ≤ 281474976710655 → y ≤ 281474976710655 → i ≤ 65535 → j ≤ 65535
    → p * 2 ^ 64 + x * 2 ^ 16 + (65535 - i) ≡ q * 2 ^ 64 + y * 2 ^ 16 + (65535 - j) → (p ≡ q) × (x ≡ y) × (i ≡ j)
numbers_of p x i q y j lx ly li lj e = (omega arith, omega arith, omega arith)

same_setting : (s t : Setting) → s.prescaler ≡ t.prescaler → s.parts ≡ t.parts → s.sjw ≡ t.sjw → s ≡ t
same_setting s t p x j =
    let of : ℕ → Parts → ℕ → Setting = λ a b c. record { prescaler = a; parts = b; sjw = c } in
    ap (λ (a : ℕ). of a s.parts s.sjw) p ∙ (ap (λ (b : Parts). of t.prescaler b s.sjw) x ∙ ap (λ (c : ℕ). of t.prescaler t.parts c) j)

pub own_places : (a : Asked) (c : Controller) (s t : Setting) → is_setting a c s ≡ true → is_setting a c t ≡ true
    → place_in_order s ≡ place_in_order t → s ≡ t
own_places a c s t one other same =
    let x = tests_of a c s one in
    let y = tests_of a c t other in
    let m = small_parts s.parts s.sjw x.ok in
    let n = small_parts t.parts t.sjw y.ok in
    let e = numbers_of s.prescaler (order_of_parts s.parts) s.sjw t.prescaler (order_of_parts t.parts) t.sjw m.order n.order m.jump n.jump same in
    let parts = same_parts c.bounds.parts s.parts t.parts s.sjw t.sjw x.parts y.parts x.ok y.ok e.1 in
    same_setting s t e.0 parts e.2
