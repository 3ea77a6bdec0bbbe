-- The list of settings, and the order in which they come. This project's.
use Rattle.std.specs.Prelude.{◌≡◌, ◌≤◌, ◌<◌, ℕ, ◌+◌, ◌-◌, ◌*◌, ◌^◌, nat_lt, if◌then◌else◌, List, [], ◌∷◌, map, filter, length, get_or, All, Option, Some, None}
use Rattle.std.specs.List.Sorted.{IsPermutation, IsNonDecreasingBy}
use Rattle.wl_settings.specs.declared.asked.Asked.{Asked}
use Rattle.wl_settings.specs.declared.asked.Controller.{Controller}
use Rattle.wl_settings.specs.declared.asked.Setting.{Setting}
use Rattle.wl_settings.specs.declared.parts.Parts.{Parts}
use Rattle.wl_settings.specs.declared.parts.Parts.TheVariants.{Each, Joint}
use Rattle.wl_settings.specs.declared.judged.Refusal.{Refusal}
use Rattle.wl_settings.specs.declared.judged.WorkingSetting.{WorkingSetting}
use Rattle.wl_settings.specs.declared.listing.Listing.{Listing}
use Rattle.wl_settings.specs.declared.rates.NearRate.{NearRate}
use Rattle.wl_settings.specs.Rates.{nearest_rate}
use Rattle.wl_settings.specs.Judged.{IsShortfall, IsRow, is_failing, works}
use Rattle.wl_settings.specs.Settings.{distance_to, possible_settings, quanta_of_parts}

-- The order of segments: by PROP_SEG, PHASE_SEG1 and PHASE_SEG2, or by the quanta of a bit and TSEG1. Each number is below 2^16, but for the quanta.
abbrev pub order_of_parts : Parts → ℕ
order_of_parts (Each prop ps1 ps2) = prop * 2 ^ 32 + ps1 * 2 ^ 16 + ps2
order_of_parts (Joint tseg1 tseg2) = quanta_of_parts (Joint tseg1 tseg2) * 2 ^ 16 + tseg1

-- the order of settings: by the prescaler and by the segments, and of the jump width the widest first
abbrev pub place_in_order : Setting → ℕ
place_in_order s = s.prescaler * 2 ^ 64 + order_of_parts s.parts * 2 ^ 16 + (65535 - s.sjw)

-- by how many thousandths a margin is below the greatest that there is, and of like margins the order of settings
abbrev pub row_rank : WorkingSetting → ℕ
row_rank r = (100000000 - r.margin) * 2 ^ 96 + place_in_order r.setting

-- How far the sample point of a row is from the one that is wished for.
abbrev pub row_distance : Option ℕ → WorkingSetting → ℕ
row_distance wish r = distance_to wish r.setting

-- Rows nearest to the sample point that is wished for come first, and neighbours that are equally near are in order of their rank.
pub record AreOrdered (wish : Option ℕ) (rows : List WorkingSetting) : Type 0 where
  pub near : IsNonDecreasingBy (row_distance wish) rows
  pub rank : (k : ℕ) (d : WorkingSetting) → k + 1 < length rows → row_distance wish (get_or rows k d) ≡ row_distance wish (get_or rows (k + 1) d)
      → row_rank (get_or rows k d) ≤ row_rank (get_or rows (k + 1) d)

-- Rows of exactly these settings, each with what is so of it, in that order.
pub record IsRanking (a : Asked) (c : Controller) (all : List Setting) (rows : List WorkingSetting) : Type 0 where
  pub settings : IsPermutation all (map (λ r. r.setting) rows)
  pub figures : All (IsRow a c) rows
  pub order : AreOrdered a.sample rows

-- the settings with which the bus works: all of them
abbrev pub AreRanked : Asked → Controller → List WorkingSetting → Type 0
AreRanked a c rows = IsRanking a c (filter (works a c) (possible_settings a c)) rows

-- what was found of one setting, as a list
abbrev pub found_one : {X : Type 0} → Option X → List X
found_one None = []
found_one (Some x) = x ∷ []

-- the rows of these settings, in their order
pub record AreFoundRows (a : Asked) (c : Controller) (all : List Setting) (rows : List WorkingSetting) : Type 0 where
  pub settings : map (λ r. r.setting) rows ≡ filter (works a c) all
  pub figures : All (IsRow a c) rows

-- what refuses each of these settings, in their order
pub record AreRefusals (a : Asked) (c : Controller) (all : List Setting) (refusals : List Refusal) : Type 0 where
  pub settings : map (λ r. r.setting) refusals ≡ filter (is_failing a c) all
  pub figures : All (IsShortfall a c) refusals

-- the one that an inequality refuses by less, the first of two alike
abbrev pub lesser_of : Refusal → Option Refusal → Refusal
lesser_of r None = r
lesser_of r (Some s) = if nat_lt s.shortage r.shortage then s else r

-- that of all
abbrev pub least_refusal : List Refusal → Option Refusal
least_refusal [] = None
least_refusal (r ∷ rs) = Some (lesser_of r (least_refusal rs))

-- if the bus works with no setting, the one that an inequality refuses by least
abbrev pub IsNearest : Asked → Controller → List WorkingSetting → Option Refusal → Type 0
IsNearest a c [] nearest = (refusals : List Refusal) × AreRefusals a c (possible_settings a c) refusals × (nearest ≡ least_refusal refusals)
IsNearest a c (row ∷ rows) nearest = nearest ≡ None

-- if no setting has the bit rate, the nearest one
abbrev pub rate_instead : Asked → Controller → List Setting → Option NearRate
rate_instead a c [] = nearest_rate a c
rate_instead a c (s ∷ ss) = None

-- what is found for a controller
pub record IsListing (a : Asked) (c : Controller) (l : Listing) : Type 0 where
  pub possible : l.possible ≡ length (possible_settings a c)
  pub rows : AreRanked a c l.rows
  pub nearest : IsNearest a c l.rows l.nearest
  pub rate : l.rate ≡ rate_instead a c (possible_settings a c)
