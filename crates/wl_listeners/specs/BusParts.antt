-- A part of the nodes of a bus, and what is asked of the whole for a node of it that only listens. This project's.
use Rattle.std.specs.Prelude.{◌≡◌, ◌≢◌, ℕ, ◌+◌, ◌*◌, ◌<◌, ◌≤◌, ◌==◌, true, if◌then◌else◌}
use Rattle.wl_segments.specs.Lengths.{sample_at}
use Rattle.wl_plan.specs.declared.plan.Plan.{Plan}
use Rattle.wl_bound.specs.Families.{Bus}
use Rattle.wl_bound.specs.Rooms.{left_over}
use Rattle.wl_bound.specs.Terms.{drift, look}
use Rattle.wl_buses.specs.OneFrame.Answers.{gathered}
use Rattle.wl_listeners.specs.Listeners.{IsOneOf}

-- the bus of n nodes of this one: node i is node `at i`, with its quanta, segments and delays
abbrev pub bus_part : (whole : Bus) (at : ℕ → ℕ) (n : ℕ) → Bus
bus_part whole at n = record {
  nodes = n;
  tick = whole.tick;
  shortest = λ i. whole.shortest (at i);
  longest = λ i. whole.longest (at i);
  turns = λ i. whole.turns (at i);
  lengths = λ i. whole.lengths (at i);
  sends = λ i. whole.sends (at i);
  delay = λ i j. whole.delay (at i) (at j);
  added = λ i j. whole.added (at i) (at j);
  listens = λ i. whole.listens (at i);
}

-- These are nodes of the bus, each once.
pub record AreNodesOf (whole : Bus) (at : ℕ → ℕ) (n : ℕ) : Type 0 where
  pub inside : (i : ℕ) → i < n → at i < whole.nodes
  pub once : (i j : ℕ) → i < n → j < n → at i ≡ at j → i ≡ j

-- All nodes that send are among them.
abbrev pub AreAllSenders : (whole : Bus) (at : ℕ → ℕ) (n : ℕ) → Type 0
AreAllSenders whole at n = (k : ℕ) → k < whole.nodes → whole.sends k ≡ true → (i : ℕ) × (i < n) × (at i ≡ k)

-- Eleven bits' drift fits before the sample of node i, beside each other node of the bus (`LeavesRoomToListen` has it beside each lower one).
abbrev pub LeavesRoomToHear : Bus → (chase : ℕ → ℕ) → (i : ℕ) → Type 0
LeavesRoomToHear bus chase i = (k : ℕ) → k < bus.nodes → k ≢ i
    → bus.delay i k + bus.delay k i + look bus i + gathered bus chase k i + left_over bus (gathered bus chase) k + 11 * drift bus k i ≤ sample_at (bus.lengths i) * bus.shortest i

-- the nodes of the other plan, and node i of the whole after them
abbrev pub then_node : (at : ℕ → ℕ) (n i : ℕ) → ℕ → ℕ
then_node at n i k = if k == n then i else at k

-- Only nodes of the other plan send on the bus.
abbrev pub OnlyOthersSend : (whole : Bus) (other : Plan) (at : ℕ → ℕ) → Type 0
OnlyOthersSend whole other at = (k : ℕ) → k < whole.nodes → whole.sends k ≡ true → IsOneOf other at k
