-- Which key of which table may have a text with a unit, and what such a text says (this project's profile).
use Rattle.std.specs.Prelude.{ℕ, pos, Bool, true, false, ◌||◌, ◌&&◌, not, if◌then◌else◌, List, Option, Some, None, is_some, unwrap_or, option_and_then, codes}
use Rattle.std.specs.Str.{bytes_eq}
use Rattle.toml.specs.Data.{Data, string, integer, table, Members, no_members, member}
use Rattle.wl_units.specs.declared.quantity.Measure.{Measure}
use Rattle.wl_units.specs.declared.quantity.Measure.TheVariants.{Time, Length, PerLength, Frequency, BitRate}
use Rattle.wl_units.specs.declared.scale.Scale.{Scale}
use Rattle.wl_units.specs.declared.scale.TheConstants.{MICROMETRES}
use Rattle.wl_units.specs.Scales.{number_said, tick_said, unit_said}
use Rattle.wl_plain.specs.declared.measure.Row.{Row}
use Rattle.wl_plain.specs.declared.measure.Row.TheVariants.{Top, Controller, Node, Rate, Frame, Disturbance, Noise}
use Rattle.wl_plain.specs.declared.measure.Units.{Units}
use Rattle.wl_plain.specs.Tables.{with_member, text_at}

-- the keys of each table that are times
abbrev pub is_time : Row → List ℕ → Bool
is_time Top key = bytes_eq key (codes "end")
is_time Controller key = bytes_eq key (codes "out") || bytes_eq key (codes "in")
is_time Node key = bytes_eq key (codes "offset") || bytes_eq key (codes "out") || bytes_eq key (codes "in") || bytes_eq key (codes "quantum") || bytes_eq key (codes "until")
is_time Rate key = bytes_eq key (codes "quantum")
is_time Frame key = bytes_eq key (codes "cycle") || bytes_eq key (codes "at") || bytes_eq key (codes "deadline") || bytes_eq key (codes "jitter")
is_time Disturbance key = bytes_eq key (codes "from") || bytes_eq key (codes "to")
is_time Noise key = bytes_eq key (codes "length")

-- those that are places
abbrev pub is_place_key : Row → List ℕ → Bool
is_place_key Node key = bytes_eq key (codes "x")
is_place_key Disturbance key = bytes_eq key (codes "x")
is_place_key Noise key = bytes_eq key (codes "x")
is_place_key _ key = false

-- a time along a length
abbrev pub is_along : Row → List ℕ → Bool
is_along Top key = bytes_eq key (codes "per")
is_along _ key = false

abbrev pub measure_at_key : Row → List ℕ → Option Measure
measure_at_key row key =
    if is_time row key then Some Time else if is_place_key row key then Some Length else if is_along row key then Some PerLength else None

-- the lengths of a tick, if the top table says it, and of a unit: 1 m if it says no other
abbrev pub units_of : Members → Units
units_of top = record {
  tick = option_and_then tick_said (text_at (codes "tick") top);
  unit = unwrap_or (option_and_then unit_said (text_at (codes "unit") top)) MICROMETRES;
}

abbrev pub scale_of : Units → Scale
scale_of u = record { tick = unwrap_or u.tick 1; unit = u.unit }

-- whether a measure asks for the length of a tick
abbrev pub asks_tick : Measure → Bool
asks_tick Time = true
asks_tick PerLength = true
asks_tick _ = false

-- the number that a text of a measure says, if it says one
abbrev pub said : Units → Measure → List ℕ → Option ℕ
said u measure text = if asks_tick measure && not (is_some u.tick) then None else number_said measure (scale_of u) text

-- a number, in the place of a text that says one; any other value as it is
abbrev pub number_or : Data → Option ℕ → Data
number_or d None = d
number_or d (Some n) = integer (pos n)

abbrev pub said_by : Units → Option Measure → List ℕ → Option ℕ
said_by u None text = None
said_by u (Some measure) text = said u measure text

abbrev pub converted : Units → Row → List ℕ → Data → Data
converted u row key (string text) = number_or (string text) (said_by u (measure_at_key row key) text)
converted u row key d = d

-- the members of a table put into others, each text with a unit as the number that it says
abbrev pub put_row : Units → Row → Members → Members → Members
put_row u row no_members into = into
put_row u row (member k d ms) into = put_row u row ms (with_member k (converted u row k d) into)

abbrev pub plain_row : Units → Row → Members → Members
plain_row u row ms = put_row u row ms no_members

abbrev pub plain_row_of : Units → Row → Data → Data
plain_row_of u row (table ms) = table (plain_row u row ms)
plain_row_of u row d = d
