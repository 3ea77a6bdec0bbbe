-- The line of a plan is that of its stations.
use Rattle.std.proofs.Common.{◌≡◌, ap, sym, [], arith}
use Rattle.std.specs.List.{list_any}
use Rattle.wl_phase.proofs.Callers.{rate_tick}
use Rattle.wl_plan.specs.declared.plan.Plan.{Plan}
use Rattle.wl_plan.specs.Checked.{CheckedIsSound}
use Rattle.wl_plan.specs.PlanLine.{is_at, line_of, setup_at}
use Rattle.wl_buses.specs.OneFrame.Lines.{IsLineOf}
use Rattle.wl_buses.specs.OneFrame.Plans.{IsPlanOf}
use Rattle.wl_buses.specs.OneFrame.Stations.{Stations}
use Rattle.wl_level.specs.Levels.{is_dominant}
use Rattle.wl_node.proofs.Callers.{stays_on}

pub line_of_plan : CheckedIsSound → (plan : Plan) (s : Stations) → IsPlanOf plan s → plan.disturbances ≡ [] → IsLineOf (line_of plan) (setup_at plan) s
line_of_plan sound plan s of calm =
    let count = of.count in
    record {
      causal = (sound plan of.checked).causal;
      nodes = count;
      drives = λ i levels less. ap (λ h. is_dominant h.drive) (stays_on (setup_at plan i) levels (of.stays i (omega arith)));
      ticks = λ i k less. rate_tick (of.rates i (omega arith)) k;
      segments = λ i less. sym (of.lengths i (omega arith));
      delays = λ i k ni nk. of.delays i k (omega arith) (omega arith);
      undisturbed = λ i t less. ap (list_any (is_at plan i t)) calm;
    }
