-- The members of a sweep of spikes: a plan's text with one disturbance more, at one place in time after another (this project's profile).
use Rattle.std.specs.Prelude.{ℕ, ◌+◌, ◌*◌, ◌^◌, ◌-◌, min, max, List, [], ◌∷◌, ◌++◌, slice_get, Option, None, option_map}
use Rattle.std.specs.Int.{div_ceil}
use Rattle.wl_setup.specs.declared.plan_text.PlanText.{PlanText}
use Rattle.wl_setup.specs.declared.plan_text.NodeText.{NodeText}
use Rattle.wl_setup.specs.declared.plan_text.DisturbanceText.{DisturbanceText}
use Rattle.wl_sweep.specs.Family.{capped}
use Rattle.wl_spikes.specs.declared.spike.Spike.{Spike}
use Rattle.wl_spikes.specs.declared.spike.Target.{Target}
use Rattle.wl_spikes.specs.declared.spike.Target.TheVariants.{Node, Place}

-- the first tick of the spike of a member, and the first tick after it
abbrev pub spike_from : Spike → ℕ → ℕ
spike_from spike n = capped (spike.step * n)

abbrev pub spike_to : Spike → ℕ → ℕ
spike_to spike n = capped (spike_from spike n + spike.length)

-- the name of a node by its number
abbrev pub spiked_name : List NodeText → ℕ → Option (List ℕ)
spiked_name nodes i = option_map (λ (n : NodeText). n.name) (slice_get nodes i)

-- something drives dominant from a tick on up to another: at a node, or at a place on the cable
abbrev pub disturbance_by : List NodeText → Target → ℕ → ℕ → DisturbanceText
disturbance_by nodes (Node i) from to = record { node = spiked_name nodes i; x = 0; from = from; to = to }
disturbance_by nodes (Place x) from to = record { node = None; x = x; from = from; to = to }

abbrev pub spike_disturbance : Spike → PlanText → ℕ → DisturbanceText
spike_disturbance spike plan n = disturbance_by plan.node spike.target (spike_from spike n) (spike_to spike n)

-- the plan of a member: its spike comes after the disturbances that the plan has
abbrev pub spiked : Spike → PlanText → ℕ → PlanText
spiked spike plan n = record plan { disturbance = plan.disturbance ++ spike_disturbance spike plan n ∷ [] }

-- a spike at each step from tick 0 on, before the plan's end
abbrev pub place_count : (step end : ℕ) → ℕ
place_count step end = div_ceil end (max step 1)

abbrev pub spike_count : Spike → PlanText → ℕ
spike_count spike plan = min (place_count spike.step plan.end) (2 ^ 32 - 1)
