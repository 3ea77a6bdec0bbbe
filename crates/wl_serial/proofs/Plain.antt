-- A node that ran on by what the nodes have told, where all that comes to it is known, ran as the simulation does.
use Rattle.std.proofs.Common.{ℕ, ◌<◌, ◌≤◌, inl, inr, List, length, get_or, arith}
use Rattle.wl_topology.specs.Delays.{delay_of}
use Rattle.wl_record_core.specs.TableLaws.{TableLaws}
use Rattle.wl_plan.specs.declared.plan.Plan.{Plan}
use Rattle.wl_plan.specs.PlanLine.{line_of, table_of, disturbed}
use Rattle.wl_plan.specs.SimulationLaws.{SimulationLaws}
use Rattle.wl_plan.specs.Sound.{IsSound}
use Rattle.wl_serial.specs.declared.running_node.Running.{Running}
use Rattle.wl_serial.specs.LineAt.{sees}
use Rattle.wl_serial.specs.Running.{AreRunning, GoesOn, HasRun, IsKnownOn, IsRunning, KnowsOthers, RunsOn}
use Rattle.wl_serial.proofs.Hearing.{sees_it}

-- what is known of the drive of a node that ran on
pub has_run : (plan : Plan) (i k m : ℕ) (r s : Running) → TableLaws → HasRun plan i r k → RunsOn plan (line_of plan) i s m → IsKnownOn r s → r.next ≤ s.next → HasRun plan i s m
has_run plan i k m r s table run on known later = record {
  runs = on;
  promised = known.promised run.promised;
  known = elim known.known [
    | inl old ↦
        (let a = table.count_less s.known r.known (table_of plan i) old in
        let c = run.known in
        let e = run.runs.at.next in
        let f = on.at.next in
        let g = table.count_less ((line_of plan).instant i k) ((line_of plan).instant i m) (table_of plan i) (omega (arith, e, f, later)) in
        omega (arith, a, c, g))
    | inr new ↦ (let f = on.at.next in table.count_less s.known ((line_of plan).instant i m) (table_of plan i) (omega (arith, new, f)))
  ];
}

pub runs_plain : (plan : Plan) (rs : List Running) (j horizon : ℕ) (d r : Running) → SimulationLaws → TableLaws → IsSound (line_of plan) → AreRunning plan rs → KnowsOthers plan j horizon rs
    → j < length rs → GoesOn plan j (sees plan rs d j) horizon (get_or rs j d) r → IsKnownOn (get_or rs j d) r → (get_or rs j d).next < r.next → IsRunning plan j r
runs_plain plan rs j horizon d r laws table sound running known b goes on later =
    let run = running.each j d b in
    let ran = goes (delay_of plan.topology) (disturbed plan) run.0 sound.causal run.1.runs
    (λ t after before early told. sees_it plan rs j horizon t d laws table sound running known before told) in
    (ran.0, has_run plan j run.0 ran.0 (get_or rs j d) r table run.1 ran.1 on (omega (arith, later)))
