-- A first silence reaches as far as the fresh node promises, and no change comes before that.
use Rattle.std.proofs.Common.{◌≡◌, ◌+◌, [], ◌∙◌, ap, arith}
use Rattle.wl_record_core.specs.Limits.{most_nodes-is}
use Rattle.wl_record_core.specs.declared.record.Record.TheVariants.{Silence}
use Rattle.wl_record_core.specs.Truth.{count_below}
use Rattle.wl_clock.specs.Timing.{tick_of}
use Rattle.wl_node.specs.declared.setup.NodeSetup.{NodeSetup}
use Rattle.wl_node.specs.Quiet.{quiet_of}
use Rattle.wl_plan.specs.Line.{reach}
use Rattle.wl_plan.specs.Limits.{most_quiet, most_quiet-is}
use Rattle.wl_plan.specs.PlanLine.{line_of, table_of}
use Rattle.wl_plan.specs.Simulation.{seen}
use Rattle.wl_group.proofs.begin.first_silence.Goals as goal

pub at-until-requires : goal.at-until-requires
at-until-requires c = (let q = c.first_quiet.ensures.most in omega (arith, most_quiet-is))

until_is : (c : goal.After-at-until) → c.at-until.result ≡ reach (line_of c.args.plan.now) c.args.node []
until_is c =
    c.at-until.ensures.tick
    ∙ ap (tick_of c.node-setup.result.now.clock) (let q = c.first_quiet.ensures.value in let e : c.first_quiet.result ≡ 0 + quiet_of c.node-setup.result.now [] = omega arith in e)
    ∙ ap (λ (s : NodeSetup). tick_of s.clock (0 + quiet_of s [])) c.node-setup.ensures

-- it has not changed by then
none_yet : (c : goal.After-at-until) → count_below c.at-until.result (table_of c.args.plan.now c.args.node) ≡ 0
unfolding seen
none_yet c =
    let s = c.laws.ensures.sound in
    ap (λ u. count_below u (table_of c.args.plan.now c.args.node)) (until_is c)
    ∙ c.simulation_laws.ensures.reach_count (line_of c.args.plan.now) c.args.node 0 s.causal c.requires.node (λ j b. absurd (omega arith))
    ∙ c.simulation_laws.ensures.none_at_first (line_of c.args.plan.now) c.args.node s.causal c.requires.node

pub returns-clause-value : goal.returns-clause-value
returns-clause-value c = ap (Silence c.args.node 0) (until_is c)

pub returns-clause-truth : goal.returns-clause-truth
returns-clause-truth c = (
  c.requires.node,
  none_yet c,
  (
    (let f = c.laws.ensures.checked.few_nodes in let b = c.requires.node in let m = most_nodes-is in omega arith),
    omega arith,
    (let s = c.laws.ensures.sound in
        let e = until_is c in
        let q = s.little_quiet c.args.node [] c.requires.node in
        let near = c.simulation_laws.ensures.clock_later (line_of c.args.plan.now) c.args.node (0 + (line_of c.args.plan.now).quiet c.args.node []) most_quiet s.causal c.requires.node (omega arith) in
        let f = s.first_fits c.args.node c.requires.node in
        omega arith),
  ),
)
