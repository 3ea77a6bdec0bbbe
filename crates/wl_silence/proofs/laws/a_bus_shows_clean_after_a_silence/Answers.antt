use Rattle.std.proofs.Common.{inl, inr, ℕ, List, length}
use Rattle.std.specs.Prelude.{nat_lt}
use Rattle.std.proofs.lemmas.Bool.{cases_Bool, ltb-true}
use Rattle.wl_topology.specs.Driven.{any_below}
use Rattle.wl_topology.proofs.Callers.{any_one}
use Rattle.wl_node.specs.declared.setup.Queued.{Queued}
use Rattle.wl_node.specs.History.{unsent_of}
use Rattle.wl_node.proofs.Callers.{none_left}
use Rattle.wl_plan.specs.PlanLine.{line_of, setup_at}
use Rattle.wl_bound.specs.Rooms.{plain_bus}
use Rattle.wl_buses.specs.OneFrame.Stations.{AreStations}
use Rattle.wl_buses.specs.FamilyPlans.FamilyStations.{stations_of}
use Rattle.wl_buses.specs.CleanLines.Lines.{line_history}
use Rattle.wl_buses.proofs.Callers.{none_below}
use Rattle.wl_silence.specs.Silences.{after_eleventh}
use Rattle.wl_silence.specs.SilentPlans.{undisturbed_plan}
use Rattle.wl_silence.proofs.SilentPlans.{line_since_of, plan_with}
use Rattle.wl_silence.proofs.laws.a_bus_shows_clean_after_a_silence.Goals as goal

pub returns : goal.returns
returns c = λ f plan clocks from until first checked steady of speaks contents sends verdict room passed silent.
    (let s = stations_of f plan clocks in
    let left : ℕ → List Queued = λ i. unsent_of (setup_at plan i) (line_history (line_of plan) (setup_at plan) i (after_eleventh (line_of plan) (setup_at plan) first i)) in
    elim (cases_Bool (any_below (length plan.nodes) (λ i. nat_lt 0 (length (left i))))) [
      | inl some ↦
          (let x = any_one (length plan.nodes) (λ i. nat_lt 0 (length (left i))) some in
          c.what_a_clean_line_shows.ensures (line_of plan) (setup_at plan) s from first (c.a_plan_has_stations.ensures.plan f (undisturbed_plan plan) clocks steady of speaks).count
          (c.a_bus_is_clean_after_a_silence.ensures.tested f plan clocks from until x.0 first checked steady of speaks contents sends verdict room passed silent x.1
          (ltb-true 0 (length (left x.0)) x.2)))
      | inr none ↦
          (let p = plan_with plan s checked (c.a_plan_has_stations.ensures.plan f (undisturbed_plan plan) clocks steady of speaks) in
          let on = c.a_plan_is_on_a_line.ensures plan s p in
          let bus = c.a_plan_has_stations.ensures.bus f (undisturbed_plan plan) clocks of speaks in
          let are : AreStations s = record { line = on; ways = c.a_sound_bus_has_room.ensures.ways (plain_bus f) s on bus } in
          c.a_line_without_frames_stays_silent.ensures.shows (line_of plan) (setup_at plan) s from until first (line_since_of c.checked_is_sound.ensures plan s from p passed) silent are
          (λ i inside. none_left (left i) (none_below (length plan.nodes) (λ i. nat_lt 0 (length (left i))) none i inside)))
    ])
