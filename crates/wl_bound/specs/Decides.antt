-- Whether a bus has room that no node decides a second time to begin a frame (`LeavesRoomToDecide` of wl_buses::takes_part). This project's.
use Rattle.std.specs.Prelude.{ℕ, ◌+◌, ◌*◌, ◌==◌, ◌&&◌, nat_le, not, Bool, Option}
use Rattle.wl_level.specs.Places.{first_place}
use Rattle.wl_segments.specs.Lengths.{sample_at}
use Rattle.wl_topology.specs.Driven.{any_below}
use Rattle.wl_bound.specs.Families.{Bus, Buses}
use Rattle.wl_bound.specs.Rooms.{comes_early, plain_bus}
use Rattle.wl_bound.specs.Terms.{drift}

-- A bit of node k is there at each sample of node i, twelve bits after the last edge: so many are from the ACK slot to the next start of frame (Bosch CAN 2.0 part B, section 10: PROP_SEG).
abbrev pub is_there : Bus → (i k : ℕ) → Bool
is_there b i k = nat_le (b.delay i k + b.delay k i + comes_early b k i + 12 * drift b k i) (sample_at (b.lengths i) * b.shortest i)

abbrev pub comes_late : Bus → (i k : ℕ) → Bool
comes_late b i k = not (k == i) && not (is_there b i k)

abbrev pub decides_twice : Bus → ℕ → Bool
decides_twice b i = any_below b.nodes (comes_late b i)

-- no node decides twice
abbrev pub leaves_room_to_decide : Buses → Bool
leaves_room_to_decide f = not (any_below (plain_bus f).nodes (decides_twice (plain_bus f)))

-- the first node that may, if there is one
abbrev pub first_to_decide_twice : Buses → Option ℕ
first_to_decide_twice f = first_place (decides_twice (plain_bus f)) (plain_bus f).nodes
