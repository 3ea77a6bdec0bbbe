-- What the list of settings has: each setting, and nothing else.
use Rattle.std.proofs.Common.{◌≡◌, refl, sym, subst, ap, ℕ, zero, suc, ◌+◌, ◌-◌, ◌<◌, ◌≤◌, nat_le, Bool, true, false, List, [], ◌∷◌, Contains, inl, inr, arith, below_more, if◌then◌else◌}
use Rattle.std.proofs.lemmas.Bool.{and_parts, leb-true}
use Rattle.std.proofs.lemmas.List.Elements.{Contains-append_cases, Contains-append_left, Contains-append_right}
use Rattle.std.specs.Result.{is_ok}
use Rattle.wl_settings.specs.declared.asked.Asked.{Asked}
use Rattle.wl_settings.specs.declared.asked.Controller.{Controller}
use Rattle.wl_settings.specs.declared.asked.Setting.{Setting}
use Rattle.wl_settings.specs.declared.parts.Parts.{Parts}
use Rattle.wl_settings.specs.declared.parts.Parts.TheVariants.{Each, Joint}
use Rattle.wl_settings.specs.Settings.{by_first, by_jump, by_length, by_lengths, by_prescaler, by_prop, by_registers, by_sample, by_samples, by_second, each_under, fit_parts, fits_registers, is_near, is_rate_near, is_setting, only, possible_settings, quanta_of_parts, segments_by}
use Rattle.wl_settings.proofs.SettingFacts.{joint_ranges, single_ranges}

-- an element is that of some number
pub record IsUnder {X : Type 0} (f : ℕ → List X) (n : ℕ) (x : X) : Type 0 where
  pub place : ℕ
  pub below : place < n
  pub has : Contains (f place) x

pub in_under : {X : Type 0} (f : ℕ → List X) (n : ℕ) (x : X) → Contains (each_under f n) x → IsUnder f n x
unfolding each_under
in_under f zero x has = absurd (let b : has.0 < 0 = has.1 in omega arith)
in_under f (suc n) x has = elim (Contains-append_cases (each_under f n) (f n) x has) [
  | inl earlier ↦ let r = in_under f n x earlier in record { place = r.place; below = (let b : r.place < n = r.below in omega arith); has = r.has }
  | inr last ↦ record { place = n; below = omega arith; has = last }
]

pub under_in : {X : Type 0} (f : ℕ → List X) (n k : ℕ) (x : X) → k < n → Contains (f k) x → Contains (each_under f n) x
unfolding each_under
under_in f zero k x below has = absurd (omega arith)
under_in f (suc n) k x below has =
    let P : ℕ → Type 0 = λ i. Contains (f i) x → Contains (each_under f (suc n)) x in
    below_more P n (λ i b h. Contains-append_left (each_under f n) (f n) x (under_in f n i x b h)) (λ h. Contains-append_right (each_under f n) (f n) x h) k
    (omega arith) has

-- a list of one element, or of none
in_one : (b : Bool) (s t : Setting) → Contains (if b then s ∷ [] else []) t → (b ≡ true) × (s ≡ t)
in_one true s t (zero, below, is) = (refl, is)
in_one true s t (suc k, below, is) = absurd (omega arith)
in_one false s t (k, below, is) = absurd (omega arith)

one_in : (b : Bool) (s : Setting) → b ≡ true → Contains (if b then s ∷ [] else []) s
one_in true s e = (0, omega arith, refl)
one_in false s e = cc

-- a setting of this prescaler
pub record IsOf (a : Asked) (c : Controller) (prescaler : ℕ) (s : Setting) : Type 0 where
  pub setting : is_setting a c s ≡ true
  pub of : s.prescaler ≡ prescaler

in_jump : (a : Asked) (c : Controller) (p : ℕ) (parts : Parts) (s : Setting) → Contains (by_jump a c p parts) s → IsOf a c p s
in_jump a c p parts s has =
    let f : ℕ → Setting = λ narrower. record { prescaler = p; parts = parts; sjw = c.bounds.sjw - narrower } in
    let u = in_under (λ narrower. only a c (f narrower)) c.bounds.sjw s has in
    let one = in_one (is_setting a c (f u.place)) (f u.place) s u.has in
    record {
      setting = subst (λ (t : Setting). is_setting a c t ≡ true) one.1 one.0;
      of = ap (λ (t : Setting). t.prescaler) (sym one.1);
    }

in_second : (a : Asked) (c : Controller) (p prop ps1 : ℕ) (s : Setting) → Contains (by_second a c p prop ps1) s → IsOf a c p s
in_second a c p prop ps1 s has =
    let u = in_under (λ more. by_jump a c p (Each prop ps1 (2 + more))) 7 s has in
    in_jump a c p (Each prop ps1 (2 + u.place)) s u.has

in_first : (a : Asked) (c : Controller) (p prop : ℕ) (s : Setting) → Contains (by_first a c p prop) s → IsOf a c p s
in_first a c p prop s has =
    let u = in_under (λ more. by_second a c p prop (1 + more)) 8 s has in
    in_second a c p prop (1 + u.place) s u.has

in_prop : (a : Asked) (c : Controller) (p : ℕ) (s : Setting) → Contains (by_prop a c p) s → IsOf a c p s
in_prop a c p s has =
    let u = in_under (λ more. by_first a c p (1 + more)) 8 s has in
    in_first a c p (1 + u.place) s u.has

in_samples : (a : Asked) (c : Controller) (p quanta most : ℕ) (s : Setting) → Contains (by_samples a c p quanta most) s → IsOf a c p s
in_samples a c p quanta most s has =
    let u = in_under (λ more. by_sample a c p quanta (2 + more)) (most - 1) s has in
    in_jump a c p (Joint (2 + u.place) (quanta - (2 + u.place) - 1)) s u.has

-- a list that is there only if a test holds
in_if : {X : Type 0} (b : Bool) (xs : List X) (x : X) → Contains (if b then xs else []) x → Contains xs x
in_if true xs x has = has
in_if false xs x (k, below, is) = absurd (omega arith)

if_in : {X : Type 0} (b : Bool) (xs : List X) (x : X) → b ≡ true → Contains xs x → Contains (if b then xs else []) x
if_in true xs x e has = has
if_in false xs x e has = cc

in_lengths : (a : Asked) (c : Controller) (p most : ℕ) (s : Setting) → Contains (by_lengths a c p most) s → IsOf a c p s
in_lengths a c p most s has =
    let u = in_under (λ more. by_length a c p (8 + more) most) 378 s has in
    in_samples a c p (8 + u.place) most s (in_if (is_rate_near a c.clock p (8 + u.place)) (by_samples a c p (8 + u.place) most) s u.has)

in_registers : (a : Asked) (c : Controller) (greatest : Parts) (p : ℕ) (s : Setting) → Contains (by_registers a c greatest p) s → IsOf a c p s
in_registers a c (Each prop ps1 ps2) p s has = in_prop a c p s has
in_registers a c (Joint tseg1 tseg2) p s has = in_lengths a c p tseg1 s has

pub listed_is_setting : (a : Asked) (c : Controller) (s : Setting) → Contains (possible_settings a c) s → (1 ≤ s.prescaler) × (is_setting a c s ≡ true)
listed_is_setting a c s has =
    let u = in_under (λ less. by_prescaler a c (less + 1)) c.bounds.prescaler s has in
    let is = in_registers a c c.bounds.parts (u.place + 1) s u.has in
    let same : s.prescaler ≡ u.place + 1 = is.of in
    (omega arith, is.setting)

-- and the other way round
jump_in : (a : Asked) (c : Controller) (s : Setting) → is_setting a c s ≡ true → 1 ≤ s.sjw → s.sjw ≤ c.bounds.sjw
    → Contains (by_jump a c s.prescaler s.parts) s
jump_in a c s is low high =
    let f : ℕ → List Setting = λ j. only a c (record { prescaler = s.prescaler; parts = s.parts; sjw = j }) in
    let back : c.bounds.sjw - (c.bounds.sjw - s.sjw) ≡ s.sjw = omega arith in
    under_in (λ narrower. f (c.bounds.sjw - narrower)) c.bounds.sjw (c.bounds.sjw - s.sjw) s (omega arith)
    (subst (λ (j : ℕ). Contains (f j) s) (sym back) (one_in (is_setting a c s) s is))

first_in : (a : Asked) (c : Controller) (p prop ps1 ps2 : ℕ) (s : Setting) → 1 ≤ prop → prop ≤ 8 → 1 ≤ ps1 → ps1 ≤ 8 → 2 ≤ ps2 → ps2 ≤ 8
    → Contains (by_jump a c p (Each prop ps1 ps2)) s → Contains (by_prop a c p) s
first_in a c p prop ps1 ps2 s l0 h0 l1 h1 l2 h2 has =
    let e2 : 2 + (ps2 - 2) ≡ ps2 = omega arith in
    let e1 : 1 + (ps1 - 1) ≡ ps1 = omega arith in
    let e0 : 1 + (prop - 1) ≡ prop = omega arith in
    let second : Contains (by_second a c p prop ps1) s =
    under_in (λ more. by_jump a c p (Each prop ps1 (2 + more))) 7 (ps2 - 2) s (omega arith)
    (subst (λ (n : ℕ). Contains (by_jump a c p (Each prop ps1 n)) s) (sym e2) has) in
    let first : Contains (by_first a c p prop) s =
    under_in (λ more. by_second a c p prop (1 + more)) 8 (ps1 - 1) s (omega arith)
    (subst (λ (n : ℕ). Contains (by_second a c p prop n) s) (sym e1) second) in
    under_in (λ more. by_first a c p (1 + more)) 8 (prop - 1) s (omega arith)
    (subst (λ (n : ℕ). Contains (by_first a c p n) s) (sym e0) first)

lengths_in : (a : Asked) (c : Controller) (p most tseg1 tseg2 : ℕ) (s : Setting) → 2 ≤ tseg1 → tseg1 ≤ most → tseg1 ≤ 256 → tseg2 ≤ 128 → 8 ≤ 1 + tseg1 + tseg2
    → is_rate_near a c.clock p (1 + tseg1 + tseg2) ≡ true → Contains (by_jump a c p (Joint tseg1 tseg2)) s → Contains (by_lengths a c p most) s
lengths_in a c p most tseg1 tseg2 s low high h1 h2 long near has =
    let e1 : 2 + (tseg1 - 2) ≡ tseg1 = omega arith in
    let e2 : 1 + tseg1 + tseg2 - tseg1 - 1 ≡ tseg2 = omega arith in
    let e : 8 + (1 + tseg1 + tseg2 - 8) ≡ 1 + tseg1 + tseg2 = omega arith in
    let sample : Contains (by_sample a c p (1 + tseg1 + tseg2) tseg1) s = subst (λ (n : ℕ). Contains (by_jump a c p (Joint tseg1 n)) s) (sym e2) has in
    let samples : Contains (by_samples a c p (1 + tseg1 + tseg2) most) s =
    under_in (λ more. by_sample a c p (1 + tseg1 + tseg2) (2 + more)) (most - 1) (tseg1 - 2) s (omega arith)
    (subst (λ (n : ℕ). Contains (by_sample a c p (1 + tseg1 + tseg2) n) s) (sym e1) sample) in
    let whole : Contains (by_length a c p (1 + tseg1 + tseg2) most) s =
    if_in (is_rate_near a c.clock p (1 + tseg1 + tseg2)) (by_samples a c p (1 + tseg1 + tseg2) most) s near samples in
    under_in (λ more. by_length a c p (8 + more) most) 378 (1 + tseg1 + tseg2 - 8) s (omega arith)
    (subst (λ (n : ℕ). Contains (by_length a c p n most) s) (sym e) whole)

registers_in : (a : Asked) (c : Controller) (greatest parts : Parts) (p sjw : ℕ) (s : Setting) → fit_parts greatest parts ≡ true
    → is_ok (segments_by parts sjw) ≡ true → is_rate_near a c.clock p (quanta_of_parts parts) ≡ true → Contains (by_jump a c p parts) s
    → Contains (by_registers a c greatest p) s
registers_in a c (Each A B C) (Each prop ps1 ps2) p sjw s fit ok near has =
    let r = single_ranges prop ps1 ps2 sjw ok in
    first_in a c p prop ps1 ps2 s r.prop_low r.prop_high r.ps1_low r.ps1_high r.ps2_low r.ps2_high has
registers_in a c (Joint A B) (Joint tseg1 tseg2) p sjw s fit ok near has =
    let r = joint_ranges tseg1 tseg2 sjw ok in
    lengths_in a c p A tseg1 tseg2 s r.tseg1_low (leb-true tseg1 A (and_parts (nat_le tseg1 A) (nat_le tseg2 B) fit).0) r.tseg1_high r.tseg2_high r.length near has
registers_in a c (Each A B C) (Joint tseg1 tseg2) p sjw s fit ok near has = cc
registers_in a c (Joint A B) (Each prop ps1 ps2) p sjw s fit ok near has = cc

low_jump : (parts : Parts) (sjw : ℕ) → is_ok (segments_by parts sjw) ≡ true → 1 ≤ sjw
low_jump (Each prop ps1 ps2) sjw ok = (single_ranges prop ps1 ps2 sjw ok).sjw_low
low_jump (Joint tseg1 tseg2) sjw ok = (joint_ranges tseg1 tseg2 sjw ok).sjw_low

-- what the tests of a setting say
pub record AreTests (a : Asked) (c : Controller) (s : Setting) : Type 0 where
  pub prescaler : s.prescaler ≤ c.bounds.prescaler
  pub parts : fit_parts c.bounds.parts s.parts ≡ true
  pub sjw : s.sjw ≤ c.bounds.sjw
  pub near : is_near a c.clock s ≡ true
  pub ok : is_ok (segments_by s.parts s.sjw) ≡ true

pub tests_of : (a : Asked) (c : Controller) (s : Setting) → is_setting a c s ≡ true → AreTests a c s
tests_of a c s is =
    let all = and_parts (fits_registers c.bounds s) _ is in
    let fits = and_parts (nat_le s.prescaler c.bounds.prescaler) _ all.0 in
    let parts = and_parts (fit_parts c.bounds.parts s.parts) _ fits.1 in
    let later = and_parts (is_near a c.clock s) _ all.1 in
    record {
      prescaler = leb-true s.prescaler c.bounds.prescaler fits.0;
      parts = parts.0;
      sjw = leb-true s.sjw c.bounds.sjw (and_parts (nat_le s.sjw c.bounds.sjw) _ parts.1).0;
      near = later.0;
      ok = later.1;
    }

pub setting_is_listed : (a : Asked) (c : Controller) (s : Setting) → 1 ≤ s.prescaler → is_setting a c s ≡ true → Contains (possible_settings a c) s
setting_is_listed a c s low is =
    let t = tests_of a c s is in
    let most : s.prescaler ≤ c.bounds.prescaler = t.prescaler in
    let e : s.prescaler - 1 + 1 ≡ s.prescaler = omega arith in
    let jump = jump_in a c s is (low_jump s.parts s.sjw t.ok) t.sjw in
    let here : Contains (by_prescaler a c s.prescaler) s = registers_in a c c.bounds.parts s.parts s.prescaler s.sjw s t.parts t.ok t.near jump in
    under_in (λ less. by_prescaler a c (less + 1)) c.bounds.prescaler (s.prescaler - 1) s (omega arith)
    (subst (λ (n : ℕ). Contains (by_prescaler a c n) s) (sym e) here)
