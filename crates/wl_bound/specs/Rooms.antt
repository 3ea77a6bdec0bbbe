-- Whether a bus has room for acknowledgements of any senders and to rest after each frame: what the laws on them ask of it, beside the condition for
-- margins (`HasRoomToAnswer` of wl_buses::one_frame, `LeavesRoomToRest` of wl_buses::frame_end). This project's.
use Rattle.std.specs.Prelude.{ℕ, suc, ◌+◌, ◌-◌, ◌*◌, ◌<◌, ◌==◌, ◌&&◌, ◌||◌, nat_le, not, min, Bool, length, if◌then◌else◌}
use Rattle.std.specs.Int.{div_ceil}
use Rattle.wl_segments.specs.Lengths.{sample_at}
use Rattle.wl_topology.specs.Driven.{any_below}
use Rattle.wl_bound.specs.declared.family.Setting.{Setting}
use Rattle.wl_bound.specs.declared.search.Growth.{Growth}
use Rattle.wl_bound.specs.Conditions.{plain}
use Rattle.wl_bound.specs.Families.{Bus, Buses, bus_of, longest_in, shortest_in}
use Rattle.wl_bound.specs.Searches.{grown_by}
use Rattle.wl_bound.specs.Terms.{drift, greatest, jump, look, sends_but, sends_third}

-- the bus of a family with its own cable and tolerances, on which each node with frames may send
abbrev pub plain_bus : Buses → Bus
plain_bus f = bus_of f plain

-- how far node k may have to catch up with the bits of node w, and how much nearer it gets with each edge
unfoldable pub distance : Bus → (k w : ℕ) → ℕ
distance b k w = b.delay k w + b.delay w k + look b k + (b.longest w - b.delay w w) - b.shortest k

unfoldable pub gain : Bus → (k w : ℕ) → ℕ
gain b k w = jump b k - 10 * drift b w k

-- The least number of edges, beyond the first, in which it catches up: none if no edge brings it nearer.
unfoldable pub edges_to : Bus → (k w : ℕ) → ℕ
edges_to b k w = if gain b k w == 0 then 0 else div_ceil (distance b k w) (gain b k w) - 1

-- the same with whoever sends
unfoldable pub least_chase : Bus → ℕ → ℕ
least_chase b k = greatest b.nodes (sends_but b k) (edges_to b k)

-- and it does catch up in so many
abbrev pub catches : Bus → (k w : ℕ) → Bool
catches b k w = nat_le (distance b k w) (suc (least_chase b k) * gain b k w)

-- How much later a bit of node i gets for node k meanwhile, if the winner may be a third node: with each edge ten bits' drift, and what the jump of i is longer.
unfoldable pub gathering : Bus → (i k : ℕ) → ℕ
gathering b i k =
    if any_below b.nodes (sends_third b i k) then least_chase b k * (10 * drift b i k + ((b.lengths i).sjw * b.longest i - jump b k)) else 0

-- What an edge doesn't put right at node i: a jump takes off what ten bits drift, a look, and what gathers. It is counted in whole ticks, so it takes a tick more at most.
unfoldable pub beyond_jump : Bus → (gathers : ℕ → ℕ → ℕ) → ℕ → ℕ
beyond_jump b gathers i = greatest b.nodes (λ k. not (k == i)) (λ k. 10 * drift b i k + look b k + gathers i k - jump b i)

unfoldable pub left_over : Bus → (gathers : ℕ → ℕ → ℕ) → ℕ → ℕ
left_over b gathers i = if beyond_jump b gathers i == 0 then 0 else beyond_jump b gathers i + b.tick

-- how early a bit of node k can be at node i, without drift
abbrev pub comes_early : Bus → (i k : ℕ) → ℕ
comes_early b i k = look b k + gathering b i k + left_over b (gathering b) i

-- So it is said: what gathers counts up to 2^100 units, and what an edge leaves up to 2^99. No time that there is takes longer, so a test that it fails stays failed.
abbrev pub longest_said : ℕ
longest_said = 1267650600228229401496703205376

abbrev pub longest_left : ℕ
longest_left = 633825300114114700748351602688

abbrev pub said_early : Bus → (i k : ℕ) → ℕ
said_early b i k = look b k + min (gathering b i k) longest_said + min (left_over b (gathering b) i) longest_left

-- Nodes i and k have room, as if both sent: ten bits' drift fit a jump, a bit is there at the sample, and the next one isn't yet after twelve bits without an edge. So many are from the ACK slot to
-- the next frame (Bosch CAN 2.0 part B, section 3.1: end of frame and intermission).
abbrev pub have_room : Bus → (i k : ℕ) → Bool
have_room b i k =
    nat_le (10 * drift b k i) (jump b i)
    && (nat_le (b.delay i k + b.delay k i + comes_early b k i + 10 * drift b k i) (sample_at (b.lengths i) * b.shortest i)
    && nat_le (comes_early b i k + 12 * drift b i k + b.tick) ((b.lengths i).ps2 * b.shortest i))

-- what node i lacks: it doesn't catch up with a sender, its own bit isn't back by its sample, or another node has no room with it
abbrev pub falls_behind : Bus → (i w : ℕ) → Bool
falls_behind b i w = sends_but b i w && not (catches b i w)

abbrev pub is_crowded : Bus → (i k : ℕ) → Bool
is_crowded b i k = not (k == i) && not (have_room b i k)

abbrev pub lacks_room : Bus → ℕ → Bool
lacks_room b i =
    not (nat_le (b.delay i i) (sample_at (b.lengths i) * b.shortest i))
    || (any_below b.nodes (falls_behind b i) || any_below b.nodes (is_crowded b i))

-- Quanta take fewer units than 2^48, as those of each oscillator do.
abbrev pub most_quantum : ℕ
most_quantum = 281474976710656

abbrev pub has_long_quantum : Bus → ℕ → Bool
has_long_quantum b i = nat_le most_quantum (b.shortest i) || nat_le most_quantum (b.longest i)

abbrev pub IsShort : Buses → Type 0
IsShort f = (i : ℕ) → i < length f.members → (shortest_in f plain i < most_quantum) × (longest_in f plain i < most_quantum)

-- no node lacks room
abbrev pub has_room : Bus → Bool
has_room b = not (any_below b.nodes (has_long_quantum b)) && not (any_below b.nodes (lacks_room b))

abbrev pub leaves_room : Buses → Bool
leaves_room f = has_room (plain_bus f)

-- no node lacks room on the bus of a setting; and with a longer cable or wider tolerances
abbrev pub is_roomy : Buses → Setting → Bool
is_roomy f s = not (any_below (length f.members) (lacks_room (bus_of f s)))

abbrev pub is_roomy_grown : Buses → Growth → ℕ → Bool
is_roomy_grown f growth n = is_roomy f (grown_by growth n)
