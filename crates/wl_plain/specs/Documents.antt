-- The plain form of a plan's document: each time, length, frequency and bit rate as a number, each node with its own keys alone, and its noise
-- as disturbances (this project's profile).
use Rattle.std.specs.Prelude.{ℕ, Bool, ◌&&◌, not, if◌then◌else◌, List, Option, Some, None, is_some, option_and_then, unwrap_or, codes}
use Rattle.toml.specs.Data.{Data, table, Members, no_members, member, get_member, as_table}
use Rattle.wl_kinds.specs.Kinds.{kind_named}
use Rattle.wl_plain.specs.declared.measure.Units.{Units}
use Rattle.wl_plain.specs.declared.measure.Row.TheVariants.{Top, Controller, Disturbance}
use Rattle.wl_plain.specs.Tables.{has, no_value, with_member, remade_at, text_at}
use Rattle.wl_plain.specs.Measures.{plain_row, plain_row_of, units_of}
use Rattle.wl_plain.specs.Clocks.{bit_rate_at, hertz_at}
use Rattle.wl_plain.specs.Nodes.{plain_node_of}
use Rattle.wl_plain.specs.Noise.{with_noise}

-- without a value at a key whose value is wrong
abbrev pub unless_right : List ℕ → Bool → Members → Members
unless_right k is_right ms = if has k ms && not is_right then with_member k no_value ms else ms

abbrev pub is_kind : Members → Bool
is_kind ms = is_some (option_and_then kind_named (text_at (codes "kind") ms))

-- the table of a controller
unfoldable pub plain_controller : Units → Members → Members
plain_controller u ms =
    let row = plain_row u Controller ms in
    unless_right (codes "kind") (is_kind row) (unless_right (codes "bitrate") (is_some (bit_rate_at u row))
    (unless_right (codes "clock") (is_some (hertz_at u row)) row))

abbrev pub plain_controller_of : Units → Data → Data
plain_controller_of u (table ms) = table (plain_controller u ms)
plain_controller_of u d = d

-- those of all
abbrev pub put_controllers : Units → Members → Members → Members
put_controllers u no_members into = into
put_controllers u (member k d ms) into = put_controllers u ms (with_member k (plain_controller_of u d) into)

abbrev pub put_all : Units → Option Members → Members → Members
put_all u None top = top
put_all u (Some ms) top = with_member (codes "controller") (table (put_controllers u ms no_members)) top

abbrev pub member_table : List ℕ → Members → Option Members
member_table k ms = option_and_then as_table (get_member k ms)

unfoldable pub with_controllers : Units → Members → Members
with_controllers u top = put_all u (member_table (codes "controller") top) top

-- the controllers of a plain top table
unfoldable pub controllers_in : Members → Members
controllers_in top = unwrap_or (option_and_then as_table (get_member (codes "controller") top)) no_members

unfoldable pub with_nodes : Units → Members → Members
with_nodes u top = remade_at (plain_node_of u (controllers_in top)) (codes "node") top

-- the plain form of a document with these lengths of a tick and of a unit
unfoldable pub plain_with : Units → Members → Members
plain_with u top =
    with_noise u (remade_at (plain_row_of u Disturbance) (codes "disturbance") (with_nodes u (with_controllers u (plain_row u Top top))))

-- the plain form of a document
abbrev pub plain_document : Members → Members
plain_document top = plain_with (units_of top) top
