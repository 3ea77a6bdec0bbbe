-- A plan without nodes that only listen, and without nodes that power up late. This project's.
use Rattle.std.specs.Prelude.{◌≡◌, ◌≢◌, ◌⊎◌, ℕ, ◌<◌, ◌≤◌, true, [], length}
use Rattle.wl_clock.specs.Timing.{tick_of}
use Rattle.wl_topology.specs.Delays.{place_at}
use Rattle.wl_node.specs.Quiet.{quiet_of}
use Rattle.wl_plan.specs.declared.plan.Plan.{Plan}
use Rattle.wl_plan.specs.PlanLine.{disturbed, setup_at}

-- The other plan has nodes of this one, on the same cable and up to the same end: node i is node `at i` of this one. What disturbs the line comes to each of them alike.
pub record HasNodesOf (other plan : Plan) (at : ℕ → ℕ) : Type 0 where
  pub inside : (i : ℕ) → i < length other.nodes → at i < length plan.nodes
  pub once : (i j : ℕ) → i < length other.nodes → j < length other.nodes → at i ≡ at j → i ≡ j
  pub setups : (i : ℕ) → i < length other.nodes → setup_at other i ≡ setup_at plan (at i)
  pub places : (i : ℕ) → i < length other.nodes → place_at other.topology i ≡ place_at plan.topology (at i)
  pub cable : other.topology.per ≡ plan.topology.per
  pub disturbances : (i t : ℕ) → i < length other.nodes → disturbed other i t ≡ disturbed plan (at i) t
  pub end : other.end ≡ plan.end

-- a node of this plan that is one of the other's, or none of them
abbrev pub IsOneOf : (other : Plan) (at : ℕ → ℕ) → ℕ → Type 0
IsOneOf other at k = (i : ℕ) × (i < length other.nodes) × (at i ≡ k)

abbrev pub IsNoneOf : (other : Plan) (at : ℕ → ℕ) → ℕ → Type 0
IsNoneOf other at k = (i : ℕ) → i < length other.nodes → at i ≢ k

-- It lacks nodes that only listen (ISO 11898-1, bus monitoring), and no other one.
pub record IsWithoutListeners (other plan : Plan) (at : ℕ → ℕ) : Type 0 where
  pub nodes : HasNodesOf other plan at
  pub lacks : (k : ℕ) → k < length plan.nodes → IsOneOf other at k ⊎ (IsNoneOf other at k × ((place_at plan.topology k).listens ≡ true))

-- It lacks nodes that drive nothing before the tick `until`, whatever they see, and no other one: each powers up late, and waits for eleven recessive bits first (Bosch CAN 2.0 part B, section 2, wake-up).
pub record IsWithoutLateNodes (other plan : Plan) (at : ℕ → ℕ) (until : ℕ) : Type 0 where
  pub nodes : HasNodesOf other plan at
  pub lacks : (k : ℕ) → k < length plan.nodes → IsOneOf other at k ⊎ (until ≤ tick_of (setup_at plan k).clock (quiet_of (setup_at plan k) []))
