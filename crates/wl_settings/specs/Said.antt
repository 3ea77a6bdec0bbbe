-- What is written of what a text asks for (this project's profile).
use Rattle.std.specs.Prelude.{◌≡◌, ℕ, nat_lt, ◌&&◌, Bool, true, List, [], ◌∷◌, ◌++◌, length, unwrap_or, Result, Ok, Err}
use Rattle.wl_settings.specs.declared.asked.Asked.{Asked}
use Rattle.wl_settings.specs.declared.asked.Controller.{Controller}
use Rattle.wl_settings.specs.declared.fault.SettingsFault.{SettingsFault}
use Rattle.wl_settings.specs.declared.fault.SettingsFault.TheVariants.{NoSetting}
use Rattle.wl_settings.specs.declared.judged.WorkingSetting.{WorkingSetting}
use Rattle.wl_settings.specs.declared.listing.Listing.{Listing}
use Rattle.wl_settings.specs.declared.read.Wanted.{Wanted}
use Rattle.wl_settings.specs.declared.said.Shown.{Shown}
use Rattle.wl_settings.specs.declared.said.Shown.TheVariants.{Best, Plan}
use Rattle.wl_settings.specs.Plans.{setting_plan_text}
use Rattle.wl_settings.specs.Rankings.{IsListing}
use Rattle.wl_settings.specs.Words.{listing_words}

-- a listing has a setting with which the bus works
abbrev pub has_setting : Listing → Bool
has_setting l = nat_lt 0 (length l.rows)

-- what is found for a controller, as text, and whether it has a setting
abbrev pub IsListedText : Asked → Controller → ℕ → List ℕ → Bool → Type 0
IsListedText a c best text has = (l : Listing) × IsListing a c l × (text ≡ listing_words a c best l) × (has ≡ has_setting l)

-- and for each of them, one after another, and whether each has one
abbrev pub AreSaid : Asked → ℕ → List Controller → List ℕ → Bool → Type 0
AreSaid a best [] text all = (text ≡ []) × (all ≡ true)
AreSaid a best (c ∷ cs) text all =
    (first : List ℕ) × (later : List ℕ) × (has : Bool) × (others : Bool) × IsListedText a c best first has × AreSaid a best cs later others
    × (text ≡ first ++ later) × (all ≡ (has && others))

-- a text has grown by what is found for one controller, or for each of some
abbrev pub GrowsByFound : Asked → Controller → ℕ → List ℕ → List ℕ → Bool → Type 0
GrowsByFound a c best old new has = (more : List ℕ) × IsListedText a c best more has × (new ≡ old ++ more)

abbrev pub GrowsBySaid : Asked → ℕ → List Controller → List ℕ → List ℕ → Bool → Type 0
GrowsBySaid a best cs old new all = (more : List ℕ) × AreSaid a best cs more all × (new ≡ old ++ more)

abbrev pub IsListText : ℕ → Wanted → List ℕ → Bool → Type 0
IsListText best w text all = AreSaid w.asked best w.controllers text all

-- the plan of the first row
abbrev pub plan_said : Asked → Controller → List WorkingSetting → Result (List ℕ) SettingsFault
plan_said a c [] = Err NoSetting
plan_said a c (r ∷ rs) = Ok (setting_plan_text a c r.setting)

-- the plan of the first controller's first setting
abbrev pub IsPlanSaid : Asked → List Controller → Result (List ℕ) SettingsFault → Type 0
IsPlanSaid a [] said = said ≡ Err NoSetting
IsPlanSaid a (c ∷ cs) said = (l : Listing) × IsListing a c l × (plan_said a c l.rows ≡ said)

-- what is shown, and whether each controller that was asked about has a setting: if a plan is shown the first one has
abbrev pub IsListSaid : ℕ → Wanted → Result (List ℕ) SettingsFault → Bool → Type 0
IsListSaid best w (Ok text) all = IsListText best w text all
IsListSaid best w (Err fault) all = ⊥

abbrev pub IsShown : Shown → Wanted → Result (List ℕ) SettingsFault → Bool → Type 0
IsShown (Best best) w said all = IsListSaid (unwrap_or best 4294967295) w said all
IsShown Plan w said all = IsPlanSaid w.asked w.controllers said × (all ≡ true)
