-- The plain form of a node's table and of those in it (this project's profile).
use Rattle.std.specs.Prelude.{ℕ, suc, ℤ, pos, negsuc, ◌+◌, ◌-◌, ◌*◌, nat_le, unsigned_abs, Bool, true, not, ◌&&◌, if◌then◌else◌, List, [], ◌∷◌, Option, Some, None, is_some, option_map, option_and_then, unwrap_or, codes}
use Rattle.toml.specs.Data.{Data, integer, table, Members, no_members, get_member, as_integer, as_table}
use Rattle.wl_units.specs.Ratios.{whole_quanta, quantum_from}
use Rattle.wl_plain.specs.declared.measure.Units.{Units}
use Rattle.wl_plain.specs.declared.measure.Row.TheVariants.{Node, Rate, Frame}
use Rattle.wl_plain.specs.declared.frame.Beat.{Beat}
use Rattle.wl_plain.specs.Tables.{has, no_value, positive, positive_number_at, with_member, remade_at, text_at, whole_number_at, whole_of, without}
use Rattle.wl_plain.specs.Measures.{plain_row, plain_row_of, put_row}
use Rattle.wl_plain.specs.Clocks.{of_kind, with_quantum}

-- A deviation, 0 where it is absent, and how many millionths of its length a quantum then lasts: a positive one is a slow clock.
abbrev pub millionths_of : ℤ → Option ℕ
millionths_of (pos n) = if nat_le n 100000 then Some (1000000 + n) else None
millionths_of (negsuc n) = if nat_le (suc n) 100000 then Some (1000000 - suc n) else None

abbrev pub millionths_said : Option Data → Option ℕ
millionths_said None = Some 1000000
millionths_said (Some d) = option_and_then millionths_of (as_integer d)

-- the quanta of a node with one rate: when the first begins, and how many ticks they take, without and with the deviation
abbrev pub beat_with : Option ℕ → Option ℕ → Option ℕ → Option ℕ → Option Beat
beat_with (Some offset) (Some num) (Some den) (Some millionths) =
    Some (record { offset = offset; num = num; den = den; millionths = millionths })
beat_with _ _ _ _ = None

abbrev pub fraction_at : Members → Option ℕ × Option ℕ
fraction_at ms =
    if has (codes "quantum") ms then (positive_number_at (codes "quantum") ms, Some 1)
    else (positive_number_at (codes "num") ms, positive_number_at (codes "den") ms)

unfoldable pub beat_at_node : Members → Option Beat
beat_at_node ms =
    if has (codes "rates") ms then None
    else beat_with (whole_number_at (codes "offset") ms) (fraction_at ms).0 (fraction_at ms).1 (millionths_said (get_member (codes "ppm") ms))

-- how many quanta a time is, whole, and from 1 on
abbrev pub every_of : Beat → ℕ → Option ℕ
every_of beat ticks = option_and_then positive (whole_quanta ticks beat.num beat.den)

-- the first quantum that begins at a tick or later
abbrev pub ready_of : Beat → ℕ → Option ℕ
ready_of beat tick = quantum_from (tick - beat.offset) beat.num beat.den beat.millionths

-- the number that a key's value makes, in quanta
abbrev pub in_quanta : (Beat → ℕ → Option ℕ) → Option Beat → Data → Option ℕ
in_quanta make None d = None
in_quanta make (Some beat) d = option_and_then (make beat) (whole_of d)

-- a key with a number of quanta in the place of another with a time; if there is no such number, or both are there, the time is wrong
abbrev pub quanta_or : (time quanta : List ℕ) → Option ℕ → Members → Members
quanta_or time quanta None ms = with_member time no_value ms
quanta_or time quanta (Some n) ms = with_member quanta (integer (pos n)) (without time ms)

abbrev pub with_quanta : (time quanta : List ℕ) → (Data → Option ℕ) → Option Data → Members → Members
with_quanta time quanta make None ms = ms
with_quanta time quanta make (Some d) ms = if has quanta ms then with_member time no_value ms else quanta_or time quanta (make d) ms

unfoldable pub with_every : Option Beat → Members → Members
with_every beat ms = with_quanta (codes "cycle") (codes "every") (in_quanta every_of beat) (get_member (codes "cycle") ms) ms

unfoldable pub with_ready : Option Beat → Members → Members
with_ready beat ms = with_quanta (codes "at") (codes "ready") (in_quanta ready_of beat) (get_member (codes "at") ms) ms

-- a frame of a node with these quanta
unfoldable pub plain_frame : Units → Option Beat → Members → Members
plain_frame u beat ms = with_ready beat (with_every beat (plain_row u Frame ms))

abbrev pub plain_frame_of : Units → Option Beat → Data → Data
plain_frame_of u beat (table ms) = table (plain_frame u beat ms)
plain_frame_of u beat d = d

-- the controller that a node names, of some
abbrev pub named_value : Members → Members → Option Data
named_value controllers ms = option_and_then (λ name. get_member name controllers) (text_at (codes "controller") ms)

abbrev pub named_controller : Members → Members → Option Members
named_controller controllers ms = option_and_then as_table (named_value controllers ms)

-- without `controller`, or without a value there if none has the name
abbrev pub found_or : Option Members → Members → Members
found_or (Some controller) ms = without (codes "controller") ms
found_or None ms = with_member (codes "controller") no_value ms

-- the keys of a node's table, and those of its controller that it lacks
unfoldable pub with_controller : Units → Members → Members → Members
with_controller u controllers ms =
    if has (codes "controller") ms
    then found_or (named_controller controllers ms) (put_row u Node ms (unwrap_or (named_controller controllers ms) no_members))
    else plain_row u Node ms

-- with its rates and its clock plain
unfoldable pub with_clock : Units → Members → Members
with_clock u ms = with_quantum u (of_kind u (remade_at (plain_row_of u Rate) (codes "rates") ms))

-- with its frames plain
unfoldable pub with_frames : Units → Members → Members
with_frames u ms = remade_at (plain_frame_of u (beat_at_node ms)) (codes "frame") ms

unfoldable pub plain_node : Units → Members → Members → Members
plain_node u controllers ms = with_frames u (with_clock u (with_controller u controllers ms))

abbrev pub plain_node_of : Units → Members → Data → Data
plain_node_of u controllers (table ms) = table (plain_node u controllers ms)
plain_node_of u controllers d = d
