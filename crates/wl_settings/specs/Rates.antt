-- The bit rate nearest to the one asked for that a controller can have. This project's.
use Rattle.std.specs.Prelude.{ℕ, ◌*◌, max, min, nat_lt, if◌then◌else◌, List, [], ◌∷◌, Option, Some, None}
use Rattle.std.specs.Int.{abs_diff, div_ceil}
use Rattle.wl_settings.specs.declared.asked.Asked.{Asked}
use Rattle.wl_settings.specs.declared.asked.Controller.{Controller}
use Rattle.wl_settings.specs.declared.asked.Setting.{Setting}
use Rattle.wl_settings.specs.declared.rates.NearRate.{NearRate}
use Rattle.wl_settings.specs.Settings.{bit_divisor, possible_settings}

-- by how many parts per million the bit rate deviates, rounded up
abbrev pub error_by : (clock divisor : ℕ) → ℕ
error_by clock divisor = div_ceil (abs_diff clock divisor * 1000000) (max divisor 1)

abbrev pub rate_error : Asked → Controller → Setting → ℕ
rate_error a c s = error_by c.clock (bit_divisor a.bitrate s)

abbrev pub near_rate : Asked → Controller → Setting → NearRate
near_rate a c s = record { setting = s; error = rate_error a c s }

-- the one that is off by less, the first of two alike
abbrev pub nearer_of : NearRate → Option NearRate → NearRate
nearer_of r None = r
nearer_of r (Some s) = if nat_lt s.error r.error then s else r

-- that of all
abbrev pub nearest_among : Asked → Controller → List Setting → Option NearRate
nearest_among a c [] = None
nearest_among a c (s ∷ ss) = Some (nearer_of (near_rate a c s) (nearest_among a c ss))

-- what is looked through: the settings of a jump width of one quantum whose bit rate is at most a tenth off
abbrev pub with_one_jump : Controller → Controller
with_one_jump c = record { name = c.name; clock = c.clock; bounds = record c.bounds { sjw = min c.bounds.sjw 1 } }

abbrev pub wider_rates : Asked → Controller → List Setting
wider_rates a c = possible_settings (record a { rate_error = 100000 }) (with_one_jump c)

abbrev pub nearest_rate : Asked → Controller → Option NearRate
nearest_rate a c = nearest_among a c (wider_rates a c)
