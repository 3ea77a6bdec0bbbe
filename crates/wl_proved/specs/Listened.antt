-- The plans of a family in which some nodes only listen, and what is asked of the family for them. This project's; what is taken from public texts is named.
use Rattle.std.specs.Prelude.{◌≡◌, ℕ, ◌+◌, ◌*◌, ◌<◌, ◌==◌, ◌&&◌, ◌||◌, nat_le, not, Bool, true, false, [], length, None}
use Rattle.wl_segments.specs.Lengths.{sample_at}
use Rattle.wl_topology.specs.Delays.{place_at}
use Rattle.wl_topology.specs.Driven.{any_below}
use Rattle.wl_plan.specs.declared.plan.Plan.{Plan}
use Rattle.wl_plan.specs.Checked.{IsChecked}
use Rattle.wl_plan.specs.PlanLine.{setup_at}
use Rattle.wl_bound.specs.Covered.{finds_one_busy, leaves}
use Rattle.wl_bound.specs.Families.{Bus, Buses, member_at, only_listens}
use Rattle.wl_bound.specs.Rooms.{comes_early, plain_bus}
use Rattle.wl_bound.specs.Terms.{drift}
use Rattle.wl_bound.specs.Verdicts.{has_frames, outside_of}
use Rattle.wl_listeners.specs.Listeners.{IsWithoutListeners}
use Rattle.wl_margin.specs.Paces.{keep_pace}
use Rattle.wl_proved.specs.PlansOfFamily.{IsRunnable}

-- a node leaves the bus, or finds another one busy when its first frame becomes ready
abbrev pub is_unready : Plan → ℕ → Bool
is_unready plan i = leaves plan i || finds_one_busy plan i

-- nothing disturbs the line, and no node is so: the test of `is_covered`, but that nodes may only listen
abbrev pub is_covered_beside : Plan → Bool
is_covered_beside plan = (length plan.disturbances == 0) && not (any_below (length plan.nodes) (is_unready plan))

-- Eleven bits' drift don't fit before the sample of node i beside node k: nobody follows a node that only listens if it begins its ACK slot by itself (ISO 11898-1, bus monitoring).
abbrev pub is_deaf_to : Bus → (i k : ℕ) → Bool
is_deaf_to b i k = not (k == i) && not (nat_le (b.delay i k + b.delay k i + comes_early b k i + 11 * drift b k i) (sample_at (b.lengths i) * b.shortest i))

-- a node only listens, and sends in the family or is deaf to some other node
abbrev pub is_deaf : Buses → ℕ → Bool
is_deaf f i = only_listens f.cable i && ((member_at f i).sends || any_below (length f.members) (is_deaf_to (plain_bus f) i))

-- no node is
abbrev pub hear_all : Buses → Bool
hear_all f = not (any_below (length f.members) (is_deaf f))

-- A plan has the cable and the nodes of a family, as in `IsPlanOfFamily`, but any of its nodes may only listen. All else is free but for this:
pub record IsPlanWithListeners (f : Buses) (plan : Plan) : Type 0 where
  pub runs : IsRunnable plan
  pub cable : plan.topology ≡ f.cable
  pub members : length f.members ≡ length plan.nodes
  pub segments : (i : ℕ) → i < length plan.nodes → (member_at f i).segments ≡ (setup_at plan i).segments
  pub pace : keep_pace plan f ≡ true
  pub senders : (i : ℕ) → i < length plan.nodes → has_frames (setup_at plan i) ≡ true → (member_at f i).sends ≡ true
  pub covered : is_covered_beside plan ≡ true
  -- Some node has a frame, and another one that doesn't only listen is there for each; no listener has any.
  pub inside : outside_of plan ≡ None

-- The other plan is this one without its nodes that only listen: node i is node `at i` of this one.
pub record IsSpeakingPart (other plan : Plan) (at : ℕ → ℕ) : Type 0 where
  pub checked : IsChecked other
  pub without : IsWithoutListeners other plan at
  pub speaks : (i : ℕ) → i < length other.nodes → (place_at other.topology i).listens ≡ false
  pub undisturbed : other.disturbances ≡ []
