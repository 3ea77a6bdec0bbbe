-- The records of an outcome are true.
use Rattle.std.proofs.Common.{arith}
use Rattle.std.proofs.lemmas.Option.{slice_get_within}
use Rattle.wl_plan.specs.Simulation.{changes}
use Rattle.wl_plan.specs.SimulationLaws.{SimulationLaws, OutcomeIsTrue}

pub outcome_is_true : SimulationLaws → OutcomeIsTrue
outcome_is_true laws l s i b = (
  λ n t h. (
    b,
    h,
    ((let f = s.few_nodes in omega arith), (let g = slice_get_within (changes l i) n t h in let f = s.few_changes i b in omega arith), (let g = laws.changes_inside l i n t h in let f = s.end_fits in omega arith)),
  ),
  (b, laws.all_at_end l i l.stop s.causal b (omega arith), ((let f = s.few_nodes in omega arith), s.few_changes i b, s.end_fits)),
)
