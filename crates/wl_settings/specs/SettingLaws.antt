-- What the list of settings has, and their order. This project's.
use Rattle.std.specs.Prelude.{◌≡◌, ◌≤◌, ◌↔◌, ℕ, true, List, Some, Contains}
use Rattle.std.specs.Result.{is_ok}
use Rattle.wl_kinds.specs.declared.kinds.ControllerKind.{ControllerKind}
use Rattle.wl_kinds.specs.Kinds.{allows}
use Rattle.wl_settings.specs.declared.asked.Asked.{Asked}
use Rattle.wl_settings.specs.declared.asked.Controller.{Controller}
use Rattle.wl_settings.specs.declared.asked.Setting.{Setting}
use Rattle.wl_settings.specs.Rankings.{place_in_order}
use Rattle.wl_settings.specs.Registers.{bounds_of_kind}
use Rattle.wl_settings.specs.Settings.{is_joint, is_near, is_setting, possible_settings, segments_by, setting_taken}

-- a controller's list has each of its settings whose prescaler is 1 at least, and nothing else
abbrev pub ListsAllSettings : Type 0
ListsAllSettings =
    (a : Asked) (c : Controller) (s : Setting) → Contains (possible_settings a c) s ↔ ((1 ≤ s.prescaler) × (is_setting a c s ≡ true))

-- two settings of a controller at one place in the order are one setting
abbrev pub HaveOwnPlaces : Type 0
HaveOwnPlaces =
    (a : Asked) (c : Controller) (s t : Setting) → is_setting a c s ≡ true → is_setting a c t ≡ true → place_in_order s ≡ place_in_order t → s ≡ t

-- Every setting of a kind is one that the kind allows, whatever a text says of the registers besides.
abbrev pub KindsAreObeyed : Type 0
KindsAreObeyed =
    (a : Asked) (c : Controller) (k : ControllerKind) (s : Setting) → c.bounds.kind ≡ Some k → Contains (possible_settings a c) s
    → allows k (setting_taken s) ≡ true

-- a setting of a kind: the kind allows it, it has the bit rate, and a plan may have its segments
pub record IsOfKind (a : Asked) (clock : ℕ) (k : ControllerKind) (s : Setting) : Type 0 where
  pub low : 1 ≤ s.prescaler
  pub high : s.prescaler ≤ 4294967295
  pub joint : is_joint s.parts ≡ true
  pub near : is_near a clock s ≡ true
  pub bit : is_ok (segments_by s.parts s.sjw) ≡ true
  pub allowed : allows k (setting_taken s) ≡ true

-- A controller of a kind has exactly the settings of the kind: none that it can't have, and none is left out.
abbrev pub KindsAreWhole : Type 0
KindsAreWhole =
    (a : Asked) (name : List ℕ) (clock : ℕ) (k : ControllerKind) (s : Setting)
    → Contains (possible_settings a (record { name = name; clock = clock; bounds = bounds_of_kind k })) s ↔ IsOfKind a clock k s
