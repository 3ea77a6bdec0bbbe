-- A plan whose nodes have clocks of one rate, and the families to which it belongs.
use Rattle.std.specs.Prelude.{◌≡◌, ℕ, ◌*◌, ◌<◌, ◌≤◌, [], length, None}
use Rattle.wl_segments.specs.declared.SyncRules.TheVariants.{Book}
use Rattle.wl_plan.specs.declared.plan.Plan.{Plan}
use Rattle.wl_plan.specs.Checked.{IsChecked}
use Rattle.wl_plan.specs.PlanLine.{setup_at}
use Rattle.wl_phase.specs.Clocks.{HasRate, Steady}
use Rattle.wl_bound.specs.Conditions.{plain}
use Rattle.wl_bound.specs.Families.{Buses, longest_in, member_at, shortest_in, units}

-- no node leaves the bus
abbrev pub NoneLeaves : Plan → Type 0
NoneLeaves plan = (i : ℕ) → i < length plan.nodes → (setup_at plan i).until ≡ None

-- A plan that can be run, of two nodes at least, none of which leaves the bus. Their clocks have these rates, they go by the rules of the book, and nothing disturbs them.
pub record IsSteadyPlan (plan : Plan) (clocks : ℕ → Steady) : Type 0 where
  pub checked : IsChecked plan
  pub two : 2 ≤ length plan.nodes
  pub rates : (i : ℕ) → i < length plan.nodes → HasRate (setup_at plan i).clock (clocks i)
  pub book : (i : ℕ) → i < length plan.nodes → (setup_at plan i).segments.sync ≡ Book
  pub undisturbed : plan.disturbances ≡ []
  pub stays : NoneLeaves plan

-- The plan has the cable and the nodes of the family. Each clock has one rate, which lies within the tolerance of its oscillator.
pub record IsOfFamily (f : Buses) (plan : Plan) (clocks : ℕ → Steady) : Type 0 where
  pub cable : plan.topology ≡ f.cable
  pub members : length f.members ≡ length plan.nodes
  pub segments : (i : ℕ) → i < length plan.nodes → (member_at f i).segments ≡ (setup_at plan i).segments
  pub slowest : (i : ℕ) → i < length plan.nodes → units plain * (clocks i).num ≤ longest_in f plain i * (clocks i).den
  pub fastest : (i : ℕ) → i < length plan.nodes → shortest_in f plain i * (clocks i).den ≤ units plain * (clocks i).num
