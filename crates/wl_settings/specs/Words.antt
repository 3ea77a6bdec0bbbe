-- A listing as text (this project's profile).
use Rattle.std.specs.Prelude.{ℕ, ◌+◌, ◌*◌, ◌/◌, ◌%◌, ◌^◌, ◌==◌, max, min, List, [], ◌∷◌, ◌++◌, codes, length, Option, Some, None, if◌then◌else◌}
use Rattle.std.specs.Fmt.{decimal}
use Rattle.std.specs.Int.{div_ceil}
use Rattle.std.specs.List.{slice_get}
use Rattle.wl_bound.specs.declared.condition.Failure.{Failure}
use Rattle.wl_bound.specs.declared.condition.Inequality.{Inequality}
use Rattle.wl_bound.specs.declared.condition.Inequality.TheVariants.{DriftFitsJump, BitIsThereAtSample, NoBitTooEarly}
use Rattle.wl_margin.specs.Pieces.{joined, thousandths}
use Rattle.wl_settings.specs.declared.asked.Asked.{Asked}
use Rattle.wl_settings.specs.declared.asked.Controller.{Controller}
use Rattle.wl_settings.specs.declared.asked.Setting.{Setting}
use Rattle.wl_settings.specs.declared.parts.Parts.{Parts}
use Rattle.wl_settings.specs.declared.parts.Parts.TheVariants.{Each, Joint}
use Rattle.wl_settings.specs.declared.judged.Refusal.{Refusal}
use Rattle.wl_settings.specs.declared.judged.WorkingSetting.{WorkingSetting}
use Rattle.wl_settings.specs.declared.listing.Listing.{Listing}
use Rattle.wl_settings.specs.declared.rates.NearRate.{NearRate}
use Rattle.wl_settings.specs.Rates.{rate_error}
use Rattle.wl_settings.specs.Settings.{each_under, sample_permille, setting_quanta}

abbrev pub words_of_parts : Parts → List ℕ
words_of_parts (Each prop ps1 ps2) = joined (codes " prop " ∷ decimal prop ∷ codes " ps1 " ∷ decimal ps1 ∷ codes " ps2 " ∷ decimal ps2 ∷ [])
words_of_parts (Joint tseg1 tseg2) = joined (codes " tseg1 " ∷ decimal tseg1 ∷ codes " tseg2 " ∷ decimal tseg2 ∷ [])

abbrev pub setting_words : Setting → List ℕ
setting_words s =
    (joined (codes "prescaler " ∷ decimal s.prescaler ∷ []) ++ words_of_parts s.parts) ++ joined (codes " sjw " ∷ decimal s.sjw ∷ [])

-- the sample point is said in tenths of a percent of a bit
abbrev pub words_of_sample : Setting → List ℕ
words_of_sample s =
    joined (codes " quanta " ∷ decimal (setting_quanta s) ∷ codes " sample " ∷ decimal (sample_permille s / 10) ∷ codes "." ∷ decimal (sample_permille s % 10)
    ∷ codes " %" ∷ [])

abbrev pub error_words : Asked → Controller → Setting → List ℕ
error_words a c s = joined (codes " error " ∷ decimal (rate_error a c s) ∷ codes " ppm" ∷ [])

-- how much there may be: what is asked for, and by how much it may grow
abbrev pub grown_words : ℕ → Option ℕ → List ℕ
grown_words asked None = codes "none"
grown_words asked (Some n) = decimal (asked + n)

abbrev pub words_for_both : List ℕ → ℕ → Option ℕ → Option ℕ → List ℕ
words_for_both what asked one any = (((what ++ grown_words asked one) ++ codes " one ") ++ grown_words asked any) ++ codes " any"

abbrev pub head_words : ℕ → Setting → List ℕ
head_words number s = (joined (codes "setting " ∷ decimal number ∷ codes " " ∷ []) ++ setting_words s) ++ words_of_sample s

abbrev pub words_of_spare : Asked → WorkingSetting → List ℕ
words_of_spare a r =
    (((words_for_both (codes " tolerance ") a.tolerance r.one.wider r.any.wider ++ words_for_both (codes " cable ") a.cable r.one.longer r.any.longer)
    ++ codes " margin ") ++ thousandths r.margin) ++ codes "\n"

abbrev pub setting_line : Asked → Controller → ℕ → WorkingSetting → List ℕ
setting_line a c number r = (head_words number r.setting ++ error_words a c r.setting) ++ words_of_spare a r

-- the line of the row at a place, from 0 on
abbrev pub line_or_none : Asked → Controller → ℕ → Option WorkingSetting → List ℕ
line_or_none a c number None = []
line_or_none a c number (Some r) = setting_line a c number r

abbrev pub line_at : Asked → Controller → List WorkingSetting → ℕ → List ℕ
line_at a c rows place = line_or_none a c (place + 1) (slice_get rows place)

-- the lines of the rows, up to the last one that is asked for
abbrev pub row_lines : Asked → Controller → ℕ → List WorkingSetting → List ℕ
row_lines a c best rows = each_under (line_at a c rows) (min best (length rows))

-- a time that is taken, rounded up, and one that there is, rounded down, in picoseconds; no time above 2^80 millionths of a tick is told
abbrev pub picoseconds_up : ℕ → ℕ → ℕ
picoseconds_up tick time = min time (2 ^ 80) / 1000000 * tick + div_ceil (min time (2 ^ 80) % 1000000 * tick) 1000000

abbrev pub picoseconds_down : ℕ → ℕ → ℕ
picoseconds_down tick time = min time (2 ^ 80) / 1000000 * tick + min time (2 ^ 80) % 1000000 * tick / 1000000

abbrev pub words_of_inequality : Inequality → List ℕ
words_of_inequality DriftFitsJump = codes ": drift_fits_jump takes "
words_of_inequality BitIsThereAtSample = codes ": bit_is_there_at_sample takes "
words_of_inequality NoBitTooEarly = codes ": no_bit_too_early takes "

abbrev pub failing_words : ℕ → Failure → List ℕ
failing_words tick f =
    (((words_of_inequality f.inequality ++ thousandths (picoseconds_up tick f.sides.left)) ++ codes " ns and has ")
    ++ thousandths (picoseconds_down tick f.sides.right)) ++ codes " ns\n"

abbrev pub nearest_words : ℕ → Refusal → List ℕ
nearest_words tick r = (codes "nearest " ++ setting_words r.setting) ++ failing_words tick r.failure

abbrev pub none_words : Asked → ℕ → List ℕ
none_words a possible =
    if possible == 0 then joined (codes "no setting has " ∷ decimal a.bitrate ∷ codes " bit/s within " ∷ decimal a.rate_error ∷ codes " ppm\n" ∷ [])
    else joined (decimal possible ∷ codes " settings have the bit rate, and the plan of none can be run\n" ∷ [])

-- the nearest bit rate, in thousandths of a bit/s, rounded down
abbrev pub said_rate : Controller → Setting → ℕ
said_rate c s = c.clock * 1000 / max (s.prescaler * setting_quanta s) 1

abbrev pub near_rate_words : Controller → NearRate → List ℕ
near_rate_words c r =
    (joined (codes "nearest rate " ∷ thousandths (said_rate c r.setting) ∷ codes " bit/s error " ∷ decimal r.error ∷ codes " ppm: " ∷ [])
    ++ setting_words r.setting) ++ codes "\n"

abbrev pub words_of_rate_instead : Controller → Option NearRate → List ℕ
words_of_rate_instead c None = []
words_of_rate_instead c (Some r) = near_rate_words c r

-- why there is no row
abbrev pub why_words : Asked → ℕ → Option Refusal → List ℕ
why_words a possible (Some r) = nearest_words a.tick r
why_words a possible None = none_words a possible

abbrev pub unless_rows : Asked → Listing → List WorkingSetting → List ℕ
unless_rows a l [] = why_words a l.possible l.nearest
unless_rows a l (r ∷ rs) = []

abbrev pub controller_line : Controller → ℕ → List ℕ
controller_line c count =
    joined (codes "controller " ∷ c.name ∷ codes " clock " ∷ decimal c.clock ∷ codes " Hz: " ∷ decimal count ∷ codes " settings\n" ∷ [])

-- what is said of a controller
abbrev pub listing_words : Asked → Controller → ℕ → Listing → List ℕ
listing_words a c best l = ((controller_line c (length l.rows) ++ row_lines a c best l.rows) ++ unless_rows a l l.rows) ++ words_of_rate_instead c l.rate
