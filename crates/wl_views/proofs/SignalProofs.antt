-- The signals of nodes by their changes and samples.
use Rattle.std.proofs.Common.{◌≡◌, ◌∙◌, sym, ap, ap₂, add-one, zero-add, ℕ, suc, ◌-◌, ◌<◌, ◌&&◌, List, length, get_or, map, nat_le}
use Rattle.std.specs.List.{range_with_len}
use Rattle.std.proofs.lemmas.Simd.{map-map}
use Rattle.std.proofs.lemmas.List.FromFn.{get_or-map-range_with_len, length-map-range_with_len}
use Rattle.wl_topology.specs.Delays.{delay_of}
use Rattle.wl_record_core.specs.Truth.{count_below, odd}
use Rattle.wl_plan.specs.declared.plan.Plan.{Plan}
use Rattle.wl_plan.specs.PlanLine.{line_of, setup_at, table_of}
use Rattle.wl_plan.specs.Simulation.{level}
use Rattle.wl_plan.specs.SimulationLaws.{SimulationLaws}
use Rattle.wl_plan.specs.Sound.{IsSound}
use Rattle.wl_serial.specs.declared.outcome.NodeOutcome.{NodeOutcome}
use Rattle.wl_serial.specs.Outcome.{drives_of, node_outcome_of, outcome_of}
use Rattle.wl_pulse.specs.Pulses.{drove}
use Rattle.wl_pulse.specs.declared.pulse.Pulse.{Pulse}
use Rattle.wl_views.specs.PlaceLine.{Lasts}
use Rattle.wl_views.specs.Signals.{snapshot_then}
use Rattle.wl_level.specs.declared.Level.{Level}
use Rattle.wl_level.specs.Levels.{is_dominant}
use Rattle.wl_node.specs.History.{history_of}
use Rattle.wl_views.proofs.Turns.{holds_as}

-- the changes of a node among those of all
drives_are : (plan : Plan) (drives : List (List ℕ)) → drives ≡ drives_of (outcome_of plan) → drives ≡ map (table_of plan) (range_with_len 0 (length plan.nodes))
drives_are plan drives is = is ∙ map-map (λ (n : NodeOutcome). n.changes) (node_outcome_of plan) (range_with_len 0 (length plan.nodes))

pub drive_is : (plan : Plan) (drives : List (List ℕ)) (i : ℕ) (d : List ℕ) → drives ≡ drives_of (outcome_of plan) → i < length plan.nodes
    → get_or drives i d ≡ table_of plan i
drive_is plan drives i d is b =
    ap (λ (xs : List (List ℕ)). get_or xs i d) (drives_are plan drives is) ∙ get_or-map-range_with_len (table_of plan) 0 (length plan.nodes) i i d b (zero-add i)

pub drives_all : (plan : Plan) (drives : List (List ℕ)) → drives ≡ drives_of (outcome_of plan) → length drives ≡ length plan.nodes
drives_all plan drives is = ap length (drives_are plan drives is) ∙ length-map-range_with_len (table_of plan) 0 (length plan.nodes)

module _ (laws : SimulationLaws) (plan : Plan) (sound : IsSound (line_of plan)) (i : ℕ) (b : i < length plan.nodes) where
  -- what comes from a node
  came : (delay u : ℕ) → drove (table_of plan i) delay u ≡ (nat_le delay u && level (line_of plan) i (u - delay))
  came delay u =
      ap (λ v. nat_le delay u && v)
      (ap (λ n. odd (count_below n (table_of plan i))) (add-one (u - delay)) ∙ sym (laws.level_odd (line_of plan) i (u - delay) sound.causal b))

  -- one node more
  pub driven_more : (j t delay : ℕ) (ticks : List ℕ) (from : Pulse) → delay ≡ delay_of plan.topology i j → ticks ≡ table_of plan i → Lasts (drove ticks delay) t from
      → Lasts (λ u. nat_le (delay_of plan.topology i j) u && level (line_of plan) i (u - delay_of plan.topology i j)) t from
  driven_more j t delay ticks from is are h =
      holds_as (drove ticks delay) (λ u. nat_le (delay_of plan.topology i j) u && level (line_of plan) i (u - delay_of plan.topology i j)) t from
      (λ u. ap₂ (λ d xs. drove xs d u) is are ∙ came (delay_of plan.topology i j) u) h

-- what a node drives at a tick, by what it has seen up to it
pub driven_then : SimulationLaws → (plan : Plan) → IsSound (line_of plan) → (i : ℕ) → i < length plan.nodes → (t : ℕ)
    → level (line_of plan) i t ≡ is_dominant (snapshot_then plan i t).drive
driven_then laws plan sound i b t =
    laws.level_is (line_of plan) i t sound.causal b
    ∙ ap (λ (ls : List Level). is_dominant (history_of (setup_at plan i) ls).drive) (sym (laws.history_seen (line_of plan) i (suc t) sound.causal b))
