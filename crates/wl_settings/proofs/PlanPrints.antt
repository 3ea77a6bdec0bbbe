-- The plan of a setting is one that is read as it is printed.
use Rattle.std.proofs.Common.{◌≡◌, refl, ℕ, zero, suc, ◌+◌, ◌*◌, ◌%◌, ◌==◌, ◌<◌, ◌≤◌, ◌^◌, nat_le, nat_lt, max, if◌then◌else◌, Bool, true, false, [], ◌∷◌, map, arith}
use Rattle.std.proofs.lemmas.Bool.{le-leb}
use Rattle.std.specs.Int.{div_ceil}
use Rattle.std.specs.List.{list_all}
use Rattle.wl_bound.specs.declared.condition.Senders.{Senders}
use Rattle.wl_bound.specs.declared.condition.Senders.TheVariants.{Any, One}
use Rattle.wl_print.specs.Printable.{are_rates, are_segments, is_frame_text, is_node, is_number_of_key, is_printable, is_small_number}
use Rattle.wl_setup.specs.declared.limits.TheConstants.{LARGEST_NUMBER, LARGEST_SMALL, LARGEST_TOLERANCE}
use Rattle.wl_setup.specs.Kinds.{is_name}
use Rattle.wl_setup.specs.declared.plan_text.NodeText.{NodeText}
use Rattle.wl_setup.specs.Names.{has_repeat}
use Rattle.wl_setup.specs.Limits.{largest_number, largest_number-is, largest_small, largest_small-is}
use Rattle.wl_setup.specs.Version.{has_controllers, is_known_version}
use Rattle.wl_settings.specs.declared.asked.Asked.{Asked}
use Rattle.wl_settings.specs.declared.asked.Setting.{Setting}
use Rattle.wl_settings.specs.declared.parts.Parts.{Parts}
use Rattle.wl_settings.specs.declared.parts.Parts.TheVariants.{Each, Joint}
use Rattle.wl_apply.specs.declared.chosen.QuantumLength.{QuantumLength}
use Rattle.wl_settings.specs.Plans.{IsOfKeys, frame_text, more_if, node_count, node_name, node_place, node_text, plan_of_quantum, node_ready, rate_text, segments_text, version_of, within}
use Rattle.wl_settings.specs.Settings.{quanta_of_parts, setting_quanta}

number_fits : (n : ℕ) → n ≤ LARGEST_NUMBER → is_number_of_key n ≡ true
number_fits n h = le-leb n largest_number (omega (arith, largest_number-is))

small_fits : (n : ℕ) → n ≤ LARGEST_SMALL → is_small_number n ≡ true
small_fits n h = le-leb n largest_small (omega (arith, largest_small-is))

within_fits : (n : ℕ) → is_number_of_key (within n) ≡ true
within_fits n = number_fits (within n) (omega arith)

-- the frame of a node
frame_fits : (version id ready : ℕ) → id ≤ LARGEST_SMALL → ready ≤ LARGEST_NUMBER → is_frame_text version (frame_text id ready) ≡ true
frame_fits version id ready i r = rw (small_fits id i, small_fits 8 (omega arith), number_fits ready r) refl

-- what is known of a setting's numbers
pub record AreSmall (a : Asked) (s : Setting) : Type 0 where
  pub keys : IsOfKeys a
  pub sjw : s.sjw < 2 ^ 16
  pub quanta : setting_quanta s < 2 ^ 18

-- the rates and the segments of a node, in the version of its segments
rates_fit : (parts : Parts) (q : QuantumLength) → q.num ≤ LARGEST_NUMBER → q.den ≤ LARGEST_NUMBER → are_rates (version_of parts) (rate_text q ∷ []) ≡ true
rates_fit (Each prop ps1 ps2) q num den = rw (number_fits 0 (omega arith), number_fits q.num num, number_fits q.den den) refl
rates_fit (Joint tseg1 tseg2) q num den = rw (number_fits 0 (omega arith), number_fits q.num num, number_fits q.den den) refl

segments_fit : (parts : Parts) → quanta_of_parts parts < 2 ^ 18 → are_segments (has_controllers (version_of parts)) (segments_text parts) ≡ true
segments_fit (Each prop ps1 ps2) h = rw (number_fits prop (omega arith), number_fits ps1 (omega arith), number_fits ps2 (omega arith)) refl
segments_fit (Joint tseg1 tseg2) h = rw (number_fits tseg1 (omega arith), number_fits tseg2 (omega arith)) refl

known : (parts : Parts) → is_known_version (version_of parts) ≡ true
known (Each prop ps1 ps2) = refl
known (Joint tseg1 tseg2) = refl

later_fits : (senders : Senders) (n : ℕ) (s : Setting) → n < 4 → setting_quanta s < 2 ^ 18 → node_ready senders n s ≤ LARGEST_NUMBER
later_fits Any n s few h = omega arith
later_fits One zero s few h = omega arith
later_fits One (suc zero) s few h = omega arith
later_fits One (suc (suc zero)) s few h = omega arith
later_fits One (suc (suc (suc zero))) s few h = omega arith
later_fits One (suc (suc (suc (suc n)))) s few h = absurd (omega arith)

name_fits : (n : ℕ) → is_name (node_name n) ≡ true
name_fits zero = refl
name_fits (suc zero) = refl
name_fits (suc (suc zero)) = refl
name_fits (suc (suc (suc n))) = refl

by_end : (even : Bool) (far : ℕ) → far ≤ LARGEST_SMALL → (if even then 0 else far) ≤ LARGEST_SMALL
by_end true far h = omega arith
by_end false far h = h

place_fits : (a : Asked) (n : ℕ) → a.cable ≤ LARGEST_SMALL → node_place a n ≤ LARGEST_SMALL
place_fits a n h = by_end (n % 2 == 0) a.cable h

module _ (a : Asked) (s : Setting) (q : QuantumLength) (h : AreSmall a s) (num : q.num ≤ LARGEST_NUMBER) (den : q.den ≤ LARGEST_NUMBER) where
  node_fits : (n : ℕ) → n < 4 → is_node (version_of s.parts) (node_text a q s n) ≡ true
  unfolding largest_number
  node_fits n few =
      let sjw = h.sjw in
      let out = h.keys.out_delay in
      let into = h.keys.in_delay in
      let tolerance : nat_le a.tolerance LARGEST_TOLERANCE ≡ true = le-leb a.tolerance LARGEST_TOLERANCE h.keys.tolerance in
      rw (
        name_fits n,
        number_fits 0 (omega arith),
        rates_fit s.parts q num den,
        segments_fit s.parts h.quanta,
        number_fits s.sjw (omega arith),
        small_fits (node_place a n) (place_fits a n h.keys.cable),
        number_fits a.out_delay (omega arith),
        number_fits a.in_delay (omega arith),
        tolerance,
        frame_fits (version_of s.parts) (2032 + n) (node_ready a.senders n s) (omega arith) (later_fits a.senders n s few h.quanta),
      ) refl

  -- each node that there is
  others_fit : (third fourth : Bool)
      → list_all (is_node (version_of s.parts)) (more_if third (node_text a q s 2) (more_if fourth (node_text a q s 3) [])) ≡ true
  others_fit true true = rw (node_fits 2 (omega arith), node_fits 3 (omega arith)) refl
  others_fit true false = rw (node_fits 2 (omega arith)) refl
  others_fit false true = rw (node_fits 3 (omega arith)) refl
  others_fit false false = refl

  -- no two nodes have one name
  have_own_names : (third fourth : Bool)
      → has_repeat (map (λ (n : NodeText). n.name) (node_text a q s 0 ∷ node_text a q s 1 ∷ more_if third (node_text a q s 2) (more_if fourth (node_text a q s 3) [])))
      ≡ false
  have_own_names true true = refl
  have_own_names true false = refl
  have_own_names false true = refl
  have_own_names false false = refl

  pub plan_fits : is_printable (plan_of_quantum a s q) ≡ true
  plan_fits =
      let per = h.keys.per in
      rw (
        known s.parts,
        within_fits (div_ceil (200 * node_count a * setting_quanta s * q.num) (max q.den 1)),
        number_fits a.per (omega arith),
        node_fits 0 (omega arith),
        node_fits 1 (omega arith),
        others_fit (nat_lt 2 a.nodes) (nat_lt 3 a.nodes),
        have_own_names (nat_lt 2 a.nodes) (nat_lt 3 a.nodes),
      ) refl
