-- The nodes of a plan as stations.
use Rattle.std.specs.Prelude.{◌≡◌, ℕ, ◌<◌, length, false, None}
use Rattle.wl_segments.specs.declared.SyncRules.TheVariants.{Book}
use Rattle.wl_topology.specs.Delays.{delay_of, place_at}
use Rattle.wl_phase.specs.Clocks.{HasRate}
use Rattle.wl_plan.specs.declared.plan.Plan.{Plan}
use Rattle.wl_plan.specs.Checked.{IsChecked}
use Rattle.wl_plan.specs.PlanLine.{setup_at}
use Rattle.wl_buses.specs.OneFrame.Stations.{Stations}

-- The plan can be run, its clocks have one rate each, its nodes synchronise by the rules of the book, and none only listens or leaves the bus.
pub record IsPlanOf (plan : Plan) (s : Stations) : Type 0 where
  pub checked : IsChecked plan
  pub count : s.count ≡ length plan.nodes
  pub rates : (i : ℕ) → i < s.count → HasRate (setup_at plan i).clock (s.clocks i)
  pub lengths : (i : ℕ) → i < s.count → s.lengths i ≡ (setup_at plan i).segments
  pub book : (i : ℕ) → i < s.count → (setup_at plan i).segments.sync ≡ Book
  pub delays : (i k : ℕ) → i < s.count → k < s.count → s.delay i k ≡ delay_of plan.topology i k
  pub stays : (i : ℕ) → i < s.count → (setup_at plan i).until ≡ None
  pub speaks : (i : ℕ) → i < s.count → (place_at plan.topology i).listens ≡ false
