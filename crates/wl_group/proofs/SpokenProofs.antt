-- What a member says after its last quantum is what its node says then in the simulation.
use Rattle.std.proofs.Common.{◌≡◌, ℕ, suc, ◌+◌, ◌-◌, ◌<◌, ◌≤◌, true, false, List, [], ◌∷◌, ◌++◌, length, sym, ◌∙◌, ap, arith, if◌then◌else◌}
use Rattle.wl_level.specs.declared.Level.{Level}
use Rattle.wl_level.specs.Levels.{level_of}
use Rattle.wl_clock.specs.Timing.{tick_of}
use Rattle.wl_record_core.specs.declared.record.Record.TheVariants.{Edge, Silence}
use Rattle.wl_node.specs.Quiet.{quiet_of}
use Rattle.wl_node.specs.declared.setup.NodeSetup.{NodeSetup}
use Rattle.wl_node.specs.Reached.{IsNode, node_setup, quanta_of}
use Rattle.wl_plan.specs.declared.plan.Plan.{Plan}
use Rattle.wl_plan.specs.Limits.{most_quanta}
use Rattle.wl_plan.specs.Line.{found, reach}
use Rattle.wl_plan.specs.PlanLine.{setup_at, line_of}
use Rattle.wl_plan.specs.Simulation.{level, seen, AreInside}
use Rattle.wl_plan.specs.SimulationLaws.{SimulationLaws}
use Rattle.wl_plan.specs.Sound.{IsSound}
use Rattle.wl_group.specs.declared.cell.Cell.{Cell}
use Rattle.wl_group.specs.Kept.{IsCell}
use Rattle.wl_group.specs.Member.{Member, next_tick, member_after_quantum}
use Rattle.wl_group.specs.GroupValue.{member_after}
use Rattle.wl_group.specs.Through.{said_last, turned_last}
use Rattle.wl_group.proofs.ThroughProofs.{next_is}

module _ (sims : SimulationLaws) (plan : Plan) (s : IsSound (line_of plan)) (i : ℕ) (b : i < length plan.nodes) (cell : Cell) (is : IsCell plan i cell)
    (some : 0 < quanta_of cell.node) (inside : AreInside (line_of plan) i (quanta_of cell.node)) where
  pub few_quanta : quanta_of cell.node ≤ most_quanta
  few_quanta = (let e = inside (quanta_of cell.node - 1) (omega arith) in let f = s.few_quanta i (quanta_of cell.node - 1) b e in omega arith)

  -- the last quantum, the member before it, and the one after it
  abbrev last : ℕ
  last = quanta_of cell.node - 1

  abbrev before : Member
  before = member_after (line_of plan) i (quanta_of cell.node - 1)

  abbrev after : Member
  after = member_after_quantum (line_of plan) i before (level_of (found (line_of plan) (level (line_of plan)) i ((line_of plan).instant i (quanta_of cell.node - 1))))

  last_is : suc (quanta_of cell.node - 1) ≡ quanta_of cell.node
  last_is = omega arith

  after_is : after ≡ member_after (line_of plan) i (quanta_of cell.node)
  after_is = next_is sims (line_of plan) s i b (quanta_of cell.node - 1) (λ j c. inside j (omega arith)) ∙ ap (member_after (line_of plan) i) last_is

  count_is : after.changed ≡ cell.changed
  count_is = ap (λ (m : Member). m.changed) after_is ∙ sym is.changed

  pub one_more : turned_last plan i cell ≡ true → suc before.changed ≡ cell.changed
  one_more changes = sym (ap (λ v. if v then suc before.changed else before.changed) changes) ∙ count_is

  pub promise_is : (setup : NodeSetup) → setup ≡ node_setup cell.node → (quiet : ℕ) → ((levels : List Level) → IsNode levels cell.node → quiet ≡ quiet_of (node_setup cell.node) levels)
      → tick_of setup.clock (quanta_of cell.node + quiet) ≡ reach (line_of plan) i (seen (line_of plan) i (quanta_of cell.node))
  promise_is setup e quiet quiet_is =
      let levels = seen (line_of plan) i (quanta_of cell.node) in
      ap (λ (x : NodeSetup). tick_of x.clock (quanta_of cell.node + quiet)) (e ∙ is.setup)
      ∙ (ap (λ k. tick_of (setup_at plan i).clock (k + quiet)) (sym (sims.length_seen (line_of plan) i (quanta_of cell.node)))
      ∙ ap (λ q. tick_of (setup_at plan i).clock (length levels + q)) (quiet_is levels is.node ∙ ap (λ (x : NodeSetup). quiet_of x levels) is.setup))

  until_is : reach (line_of plan) i after.saw ≡ reach (line_of plan) i (seen (line_of plan) i (quanta_of cell.node))
  until_is = ap (λ (m : Member). reach (line_of plan) i m.saw) after_is

  pub says_no : turned_last plan i cell ≡ false → (until : ℕ) → until ≡ reach (line_of plan) i (seen (line_of plan) i (quanta_of cell.node))
      → Silence i cell.changed until ∷ [] ≡ said_last plan i cell
  says_no stays until is_until =
      sym (ap (λ v. (if v then Edge i before.changed (next_tick (line_of plan) i before) ∷ [] else []) ++ Silence i after.changed (reach (line_of plan) i after.saw) ∷ []) stays
      ∙ (ap (λ c. Silence i c (reach (line_of plan) i after.saw) ∷ []) count_is
      ∙ ap (λ u. Silence i cell.changed u ∷ []) (until_is ∙ sym is_until)))

  pub says_change : turned_last plan i cell ≡ true → (setup : NodeSetup) → setup ≡ node_setup cell.node → (until : ℕ) → until ≡ reach (line_of plan) i (seen (line_of plan) i (quanta_of cell.node))
      → Edge i (cell.changed - 1) (tick_of setup.clock (quanta_of cell.node - 1)) ∷ Silence i cell.changed until ∷ [] ≡ said_last plan i cell
  says_change changes setup e until is_until =
      let seq : before.changed ≡ cell.changed - 1 = (let m = one_more changes in omega arith) in
      let tick : next_tick (line_of plan) i before ≡ tick_of setup.clock (quanta_of cell.node - 1) =
      ap ((line_of plan).instant i) (sims.length_seen (line_of plan) i (quanta_of cell.node - 1)) ∙ sym (ap (λ (x : NodeSetup). tick_of x.clock (quanta_of cell.node - 1)) (e ∙ is.setup)) in
      sym (ap (λ v. (if v then Edge i before.changed (next_tick (line_of plan) i before) ∷ [] else []) ++ Silence i after.changed (reach (line_of plan) i after.saw) ∷ []) changes
      ∙ (ap (λ k. Edge i k (next_tick (line_of plan) i before) ∷ Silence i after.changed (reach (line_of plan) i after.saw) ∷ []) seq
      ∙ (ap (λ t. Edge i (cell.changed - 1) t ∷ Silence i after.changed (reach (line_of plan) i after.saw) ∷ []) tick
      ∙ (ap (λ c. Edge i (cell.changed - 1) (tick_of setup.clock (quanta_of cell.node - 1)) ∷ Silence i c (reach (line_of plan) i after.saw) ∷ []) count_is
      ∙ ap (λ u. Edge i (cell.changed - 1) (tick_of setup.clock (quanta_of cell.node - 1)) ∷ Silence i cell.changed u ∷ []) (until_is ∙ sym is_until)))))
