-- The first setting of each controller, as the nodes of a plan get it (this project's profile).
use Rattle.std.specs.Prelude.{◌≡◌, ◌⊎◌, List, [], ◌∷◌, ◌++◌, Result, Ok, Err}
use Rattle.wl_apply.specs.declared.chosen.Chosen.{Chosen}
use Rattle.wl_settings.specs.declared.asked.Asked.{Asked}
use Rattle.wl_settings.specs.declared.asked.Controller.{Controller}
use Rattle.wl_settings.specs.declared.asked.Setting.{Setting}
use Rattle.wl_settings.specs.declared.fault.SettingsFault.{SettingsFault}
use Rattle.wl_settings.specs.declared.fault.SettingsFault.TheVariants.{NoSetting}
use Rattle.wl_settings.specs.declared.judged.WorkingSetting.{WorkingSetting}
use Rattle.wl_settings.specs.declared.listing.Listing.{Listing}
use Rattle.wl_settings.specs.Plans.{segments_text, setting_quantum}
use Rattle.wl_settings.specs.Rankings.{IsListing}

-- a setting of a controller
abbrev pub chosen_of : Asked → Controller → Setting → Chosen
chosen_of a c s =
    record { name = c.name; clock = c.clock; quantum = setting_quantum a c.clock s; segments = segments_text s.parts; sjw = s.sjw }

-- the first of its rows
abbrev pub chosen_among : Asked → Controller → List WorkingSetting → Result Chosen SettingsFault
chosen_among a c [] = Err NoSetting
chosen_among a c (r ∷ rs) = Ok (chosen_of a c r.setting)

abbrev pub IsFirstChosen : Asked → Controller → Result Chosen SettingsFault → Type 0
IsFirstChosen a c answer = (l : Listing) × IsListing a c l × (chosen_among a c l.rows ≡ answer)

-- of each controller, in order
abbrev pub AreFirstChosen : Asked → List Controller → List Chosen → Type 0
AreFirstChosen a [] all = all ≡ []
AreFirstChosen a (c ∷ cs) all = (x : Chosen) × (more : List Chosen) × IsFirstChosen a c (Ok x) × AreFirstChosen a cs more × (all ≡ x ∷ more)

-- after some others
abbrev pub GrowsByChosen : Asked → List Controller → List Chosen → List Chosen → Type 0
GrowsByChosen a cs old new = (more : List Chosen) × AreFirstChosen a cs more × (new ≡ old ++ more)

-- the bus works with no setting of some controller
abbrev pub LacksSetting : Asked → List Controller → Type 0
LacksSetting a [] = ⊥
LacksSetting a (c ∷ cs) = IsFirstChosen a c (Err NoSetting) ⊎ LacksSetting a cs
