-- A plan whose disturbances have passed, as a line.
use Rattle.std.proofs.Common.{ap, sym, ℕ, arith}
use Rattle.wl_level.specs.Levels.{is_dominant}
use Rattle.wl_node.proofs.Callers.{stays_on}
use Rattle.wl_phase.proofs.Callers.{rate_tick}
use Rattle.wl_plan.specs.declared.plan.Plan.{Plan}
use Rattle.wl_plan.specs.Checked.{CheckedIsSound, IsChecked}
use Rattle.wl_plan.specs.PlanLine.{line_of, setup_at}
use Rattle.wl_buses.specs.OneFrame.Plans.{IsPlanOf}
use Rattle.wl_buses.specs.OneFrame.Stations.{Stations}
use Rattle.wl_silence.specs.Silences.{IsLineOfSince}
use Rattle.wl_silence.specs.SilentPlans.{NoneDisturbsSince, undisturbed_plan}

pub line_since_of : CheckedIsSound → (plan : Plan) (s : Stations) (from : ℕ) → IsPlanOf plan s → NoneDisturbsSince plan from → IsLineOfSince (line_of plan) (setup_at plan) s from
line_since_of sound plan s from of passed =
    let count = of.count in
    record {
      causal = (sound plan of.checked).causal;
      nodes = count;
      drives = λ i levels less. ap (λ h. is_dominant h.drive) (stays_on (setup_at plan i) levels (of.stays i (omega arith)));
      ticks = λ i k less. rate_tick (of.rates i (omega arith)) k;
      segments = λ i less. sym (of.lengths i (omega arith));
      delays = λ i k ni nk. of.delays i k (omega arith) (omega arith);
      undisturbed = passed;
    }

-- the nodes of a plan are those of the plan without its disturbances
pub plan_with : (plan : Plan) (s : Stations) → IsChecked plan → IsPlanOf (undisturbed_plan plan) s → IsPlanOf plan s
plan_with plan s checked p =
    record { checked = checked; count = p.count; rates = p.rates; lengths = p.lengths; book = p.book; delays = p.delays; stays = p.stays; speaks = p.speaks }
