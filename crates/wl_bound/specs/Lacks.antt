-- What a bus lacks if it has no room: the first test that fails, with its two sides. This project's.
use Rattle.std.specs.Prelude.{ℕ, suc, ◌+◌, ◌*◌, nat_le, not, min, Bool, Option, Some, None, if◌then◌else◌}
use Rattle.wl_level.specs.Places.{first_place}
use Rattle.wl_segments.specs.Lengths.{sample_at}
use Rattle.wl_bound.specs.Families.{Bus, Buses}
use Rattle.wl_bound.specs.Terms.{drift, jump}
use Rattle.wl_bound.specs.declared.lack.Lack.{Lack}
use Rattle.wl_bound.specs.declared.lack.Shortage.{Shortage}
use Rattle.wl_bound.specs.declared.lack.Shortage.TheVariants.{OwnBit, CatchingUp, DriftInJump, WayToSample, Rest}
use Rattle.wl_bound.specs.Rooms.{distance, falls_behind, gain, is_crowded, lacks_room, least_chase, longest_said, plain_bus, said_early}

-- The tests of `has_room`, for nodes i and k: what takes time, and the time that there is.
abbrev pub room_left : Bus → Shortage → (i k : ℕ) → ℕ
room_left b OwnBit i k = b.delay i i
room_left b CatchingUp i k = distance b i k
room_left b DriftInJump i k = 10 * drift b k i
room_left b WayToSample i k = b.delay i k + b.delay k i + said_early b k i + 10 * drift b k i
room_left b Rest i k = said_early b i k + 12 * drift b i k + b.tick

abbrev pub room_right : Bus → Shortage → (i k : ℕ) → ℕ
room_right b OwnBit i k = sample_at (b.lengths i) * b.shortest i
room_right b CatchingUp i k = min (suc (least_chase b i) * gain b i k) longest_said
room_right b DriftInJump i k = jump b i
room_right b WayToSample i k = sample_at (b.lengths i) * b.shortest i
room_right b Rest i k = (b.lengths i).ps2 * b.shortest i

abbrev pub lack_of : Bus → Shortage → (i k : ℕ) → Lack
lack_of b shortage i k =
    record { shortage = shortage; node = i; other = k; sides = record { left = room_left b shortage i k; right = room_right b shortage i k } }

-- a test fails
abbrev pub falls_short : Lack → Bool
falls_short lack = not (nat_le lack.sides.left lack.sides.right)

-- the first of the three that fails for two nodes without room
abbrev pub pair_lack : Bus → (i k : ℕ) → Lack
pair_lack b i k =
    if falls_short (lack_of b DriftInJump i k) then lack_of b DriftInJump i k
    else if falls_short (lack_of b WayToSample i k) then lack_of b WayToSample i k
    else lack_of b Rest i k

-- what node i lacks with the first such node, after its own bit and the senders that it doesn't catch up with
abbrev pub crowding : Bus → ℕ → Option ℕ → Option Lack
crowding b i None = None
crowding b i (Some k) = Some (pair_lack b i k)

abbrev pub chasing : Bus → ℕ → Option ℕ → Option Lack
chasing b i None = crowding b i (first_place (is_crowded b i) b.nodes)
chasing b i (Some w) = Some (lack_of b CatchingUp i w)

abbrev pub lack_of_node : Bus → ℕ → Option Lack
lack_of_node b i = if falls_short (lack_of b OwnBit i i) then Some (lack_of b OwnBit i i) else chasing b i (first_place (falls_behind b i) b.nodes)

-- what the first node lacks that has no room
abbrev pub lack_in : Bus → Option ℕ → Option Lack
lack_in b None = None
lack_in b (Some i) = lack_of_node b i

abbrev pub first_lack : Buses → Option Lack
first_lack f = lack_in (plain_bus f) (first_place (lacks_room (plain_bus f)) (plain_bus f).nodes)
