-- What one quantum does to a node that runs, by the laws of the simulation.
use Rattle.std.proofs.Common.{◌≡◌, ℕ, zero, suc, ◌+◌, ◌<◌, ◌≤◌, List, [], length, take, sym, ◌∙◌, ap, subst, arith, All}
use Rattle.std.proofs.Math.Seq.{take-length}
use Rattle.wl_level.specs.declared.Level.{Level}
use Rattle.wl_level.specs.Levels.{same}
use Rattle.wl_node.specs.Extremes.{phase_totals}
use Rattle.wl_node.specs.History.{history_of, counters_of, phases_of, hards_of, error_count, unsent_count}
use Rattle.wl_record_core.specs.Truth.{count_below, IsIncreasing}
use Rattle.wl_plan.specs.declared.plan.Plan.{Plan}
use Rattle.wl_plan.specs.Limits.{most_quanta}
use Rattle.wl_plan.specs.Line.{Line, reach}
use Rattle.wl_plan.specs.PlanLine.{setup_at, line_of, table_of}
use Rattle.wl_plan.specs.Simulation.{seen, changes, ran, AreInside}
use Rattle.wl_plan.specs.SimulationLaws.{SimulationLaws}
use Rattle.wl_plan.specs.Sound.{IsSound}
use Rattle.wl_node.specs.Reached.{IsNode, node_setup, quanta_of}
use Rattle.wl_node.specs.declared.node.Node.{Node}
use Rattle.wl_serial.specs.declared.running_node.Running.{Running}
use Rattle.wl_serial.specs.declared.outcome.NodeOutcome.{NodeOutcome}
use Rattle.wl_serial.specs.declared.outcome.NodeTotals.{NodeTotals}
use Rattle.wl_serial.specs.Outcome.{outcome_of_history, node_outcome_of, node_totals}
use Rattle.wl_serial.specs.Running.{IsAt, IsRunning, IsSomewhere, RunsOn}

as_many : (ts : List ℕ) (t u : ℕ) → t ≡ u → count_below t ts ≤ count_below u ts
as_many ts t u e = (let f = ap (λ v. count_below v ts) e in omega (arith, f))

-- before its first quantum
pub begins : (plan : Plan) (i : ℕ) (r : Running) → SimulationLaws → IsSound (line_of plan) → i < length plan.nodes
    → r.next ≡ (line_of plan).instant i 0 → r.known ≡ r.next → node_setup r.node ≡ setup_at plan i → quanta_of r.node ≡ 0 → IsNode [] r.node → r.changes ≡ [] → IsRunning plan i r
unfolding seen
begins plan i r laws sound b next known setup quanta node empty = (
  0,
  record {
    runs = record {
      at = record {
        setup = setup;
        quanta = quanta;
        next = next;
        order = subst IsIncreasing (sym empty) tt;
        below = subst (All (λ t. t < r.next)) (sym empty) (λ k d c. absurd (omega (arith, c)));
      };
      inside = λ j h. absurd (omega arith);
      node = node;
      changes = empty ∙ sym (ap (λ n. take n (table_of plan i)) (laws.none_at_first (line_of plan) i sound.causal b));
    };
    promised = omega (arith, known);
    known = as_many (table_of plan i) r.known ((line_of plan).instant i 0) (known ∙ next);
  },
)

-- before its next quantum it has run at most so many
pub quanta_most : (plan : Plan) (i : ℕ) (r : Running) (n : ℕ) → SimulationLaws → IsSound (line_of plan) → i < length plan.nodes → (run : IsRunning plan i r)
    → n ≡ quanta_of r.node → n ≤ most_quanta
quanta_most plan i r n laws sound b run count = most run.0 run.1.runs.inside (count ∙ run.1.runs.at.quanta)
  where
    most : (k : ℕ) → AreInside (line_of plan) i k → n ≡ k → n ≤ most_quanta
    most zero inside e = omega (arith, e)
    most (suc k) inside e =
        let f : k < most_quanta = sound.few_quanta i k b (inside k (omega arith)) in
        omega (arith, e, f)

-- and fewer, where the next one begins before the end
pub quanta_below : (plan : Plan) (i n : ℕ) (r : Running) → IsSound (line_of plan) → i < length plan.nodes → (some : IsSomewhere plan i r) → n ≡ quanta_of r.node → r.next < plan.end → n < most_quanta
quanta_below plan i n r sound b some count before =
    let e = some.1.quanta in
    let next = some.1.next in
    let f = sound.few_quanta i some.0 b (omega (arith, next, before)) in
    omega (arith, count, e, f)

-- the same, where only what is known of the drive is another
pub at_alike : (plan : Plan) (i : ℕ) (k : ℕ) (r s : Running) → s.next ≡ r.next → s.node ≡ r.node → s.changes ≡ r.changes → IsAt plan i r k → IsAt plan i s k
at_alike plan i k r s next node changes at = record {
  setup = ap node_setup node ∙ at.setup;
  quanta = ap quanta_of node ∙ at.quanta;
  next = next ∙ at.next;
  order = subst IsIncreasing (sym changes) at.order;
  below = subst (λ n. All (λ t. t < n) s.changes) (sym next) (subst (All (λ t. t < r.next)) (sym changes) at.below);
}

pub told_alike : (plan : Plan) (l : Line) (i k : ℕ) (r s : Running) → s.next ≡ r.next → s.node ≡ r.node → s.changes ≡ r.changes → RunsOn plan l i r k → RunsOn plan l i s k
told_alike plan l i k r s next node changes runs = record {
  at = at_alike plan i k r s next node changes runs.at;
  inside = runs.inside;
  node = subst (IsNode (seen l i k)) (sym node) runs.node;
  changes = changes ∙ runs.changes;
}

-- up to its reach its drive is known
pub promises : (plan : Plan) (i : ℕ) (r s : Running) → SimulationLaws → IsSound (line_of plan) → i < length plan.nodes → (run : IsRunning plan i r)
    → s.next ≡ r.next → s.node ≡ r.node → s.changes ≡ r.changes → s.known ≡ reach (line_of plan) i (seen (line_of plan) i run.0) → IsRunning plan i s
promises plan i r s laws sound b run next node changes known = (
  run.0,
  record {
    runs = told_alike plan (line_of plan) i run.0 r s next node changes run.1.runs;
    promised =
        (let e = laws.length_seen (line_of plan) i run.0 in
        let h = laws.clock_later (line_of plan) i run.0 (length (seen (line_of plan) i run.0) + (line_of plan).quiet i (seen (line_of plan) i run.0)) sound.causal b (omega (arith, e)) in
        let f = run.1.runs.at.next in
        omega (arith, next, f, h, known));
    known =
        (let e = ap (λ t. count_below t (table_of plan i)) known ∙ laws.reach_count (line_of plan) i run.0 sound.causal b run.1.runs.inside in
        omega (arith, e));
  },
)

-- where the next quantum is not below the end, all quanta of the simulation have run, and all changes are kept
pub ends : (plan : Plan) (i : ℕ) (r : Running) → SimulationLaws → IsSound (line_of plan) → i < length plan.nodes → (run : IsRunning plan i r)
    → plan.end ≤ r.next → (ran (line_of plan) i plan.end ≡ run.0) × (r.changes ≡ table_of plan i)
ends plan i r laws sound b run past =
    let late : plan.end ≤ (line_of plan).instant i run.0 = subst (λ v. plan.end ≤ v) run.1.runs.at.next past in (
      laws.ran_at_end (line_of plan) i run.0 sound.causal b run.1.runs.inside late,
      run.1.runs.changes
          ∙ (ap (λ n. take n (table_of plan i)) (laws.all_at_end (line_of plan) i ((line_of plan).instant i run.0) sound.causal b late) ∙ take-length (table_of plan i)),
    )

-- What the readers of a node answer where these levels put it.
pub record AreRead (node : Node) (o : NodeOutcome) : Type 0 where
  pub samples : (levels : List Level) → IsNode levels node → o.samples ≡ (history_of (node_setup node) levels).samples
  pub frames : (levels : List Level) → IsNode levels node → o.frames ≡ (history_of (node_setup node) levels).frames
  pub counters : (levels : List Level) → IsNode levels node → o.counters ≡ counters_of (history_of (node_setup node) levels)
  pub phases : (levels : List Level) → IsNode levels node → o.phases ≡ phases_of (history_of (node_setup node) levels)
  pub hards : (levels : List Level) → IsNode levels node → o.hards ≡ hards_of (history_of (node_setup node) levels)
  pub errors : (levels : List Level) → IsNode levels node → o.errors ≡ error_count (history_of (node_setup node) levels)
  pub unsent : (levels : List Level) → IsNode levels node → o.unsent ≡ unsent_count (node_setup node) (history_of (node_setup node) levels)

told_as : (node : Node) (levels : List Level) (o : NodeOutcome) → IsNode levels node → AreRead node o → o ≡ outcome_of_history (node_setup node) o.changes (history_of (node_setup node) levels)
told_as node levels o is read = λ i. record {
  changes = o.changes;
  samples = read.samples levels is i;
  frames = read.frames levels is i;
  counters = read.counters levels is i;
  phases = read.phases levels is i;
  hards = read.hards levels is i;
  errors = read.errors levels is i;
  unsent = read.unsent levels is i;
}

-- and so what the node did is what the simulation says
pub outcome_is : (plan : Plan) (i : ℕ) (r : Running) (o : NodeOutcome) → SimulationLaws → IsSound (line_of plan) → i < length plan.nodes → (run : IsRunning plan i r)
    → plan.end ≤ r.next → o.changes ≡ r.changes → AreRead r.node o → o ≡ node_outcome_of plan i
outcome_is plan i r o laws sound b run past same read =
    let e = ends plan i r laws sound b run past in
    told_as r.node (seen (line_of plan) i run.0) o run.1.runs.node read
    ∙ (ap (λ u. outcome_of_history u o.changes (history_of u (seen (line_of plan) i run.0))) run.1.runs.at.setup
    ∙ (ap (λ xs. outcome_of_history (setup_at plan i) xs (history_of (setup_at plan i) (seen (line_of plan) i run.0))) (same ∙ e.1)
    ∙ ap (λ levels. outcome_of_history (setup_at plan i) (table_of plan i) (history_of (setup_at plan i) levels))
    (ap (λ k. seen (line_of plan) i k) (sym e.0) ∙ sym (laws.history_seen (line_of plan) i plan.end sound.causal b))))

-- The same of what a report says of it.
pub record AreTotals (node : Node) (t : NodeTotals) : Type 0 where
  pub samples : (levels : List Level) → IsNode levels node → t.samples ≡ length (history_of (node_setup node) levels).samples
  pub frames : (levels : List Level) → IsNode levels node → t.frames ≡ (history_of (node_setup node) levels).frames
  pub counters : (levels : List Level) → IsNode levels node → t.counters ≡ counters_of (history_of (node_setup node) levels)
  pub phases : (levels : List Level) → IsNode levels node → t.phases ≡ phase_totals (phases_of (history_of (node_setup node) levels))
  pub hards : (levels : List Level) → IsNode levels node → t.hards ≡ hards_of (history_of (node_setup node) levels)
  pub errors : (levels : List Level) → IsNode levels node → t.errors ≡ error_count (history_of (node_setup node) levels)
  pub unsent : (levels : List Level) → IsNode levels node → t.unsent ≡ unsent_count (node_setup node) (history_of (node_setup node) levels)

pub totals_as : (node : Node) (levels : List Level) (t : NodeTotals) → IsNode levels node → AreTotals node t
    → t ≡ node_totals (outcome_of_history (node_setup node) [] (history_of (node_setup node) levels))
totals_as node levels t is read = λ i. record {
  samples = read.samples levels is i;
  frames = read.frames levels is i;
  counters = read.counters levels is i;
  phases = read.phases levels is i;
  hards = read.hards levels is i;
  errors = read.errors levels is i;
  unsent = read.unsent levels is i;
}

pub totals_are : (plan : Plan) (i : ℕ) (r : Running) (t : NodeTotals) → SimulationLaws → IsSound (line_of plan) → i < length plan.nodes → (run : IsRunning plan i r)
    → plan.end ≤ r.next → AreTotals r.node t → t ≡ node_totals (node_outcome_of plan i)
totals_are plan i r t laws sound b run past read =
    let e = ends plan i r laws sound b run past in
    totals_as r.node (seen (line_of plan) i run.0) t run.1.runs.node read
    ∙ (ap (λ u. node_totals (outcome_of_history u [] (history_of u (seen (line_of plan) i run.0)))) run.1.runs.at.setup
    ∙ ap (λ levels. node_totals (outcome_of_history (setup_at plan i) [] (history_of (setup_at plan i) levels)))
    (ap (λ k. seen (line_of plan) i k) (sym e.0) ∙ sym (laws.history_seen (line_of plan) i plan.end sound.causal b)))
