-- The nearest bit rate, by those so far and those that are left.
use Rattle.std.proofs.Common.{◌≡◌, refl, Option, Some, None, arith}
use Rattle.wl_settings.specs.declared.rates.NearRate.{NearRate}
use Rattle.wl_settings.specs.Rates.{nearer_of}

-- the nearer of the nearest one so far and the nearest one that is left
abbrev pub merged_rates : Option NearRate → Option NearRate → Option NearRate
merged_rates None later = later
merged_rates (Some r) later = Some (nearer_of r later)

-- with one more among those so far
abbrev pub with_rate : Option NearRate → NearRate → Option NearRate
with_rate None r = Some r
with_rate (Some b) r = Some (nearer_of b (Some r))

pub merged_rates-one : (so_far : Option NearRate) (r : NearRate) (later : Option NearRate)
    → merged_rates (with_rate so_far r) later ≡ merged_rates so_far (Some (nearer_of r later))
merged_rates-one None r later = refl
merged_rates-one (Some b) r None = refl
merged_rates-one (Some b) r (Some s) = grind arith
