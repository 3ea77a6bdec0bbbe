use Rattle.std.proofs.Common.{◌≡◌}
use Rattle.wl_hub.specs.Passes.{IsPassOf, pass_name}
use Rattle.wl_worker.specs.Handed.{Took, TellsNews}
use Rattle.wl_worker.specs.Seen.{SawOnlyOf, HasChanges}
use Rattle.wl_worker.specs.PlanName.{IsOfPlan}
use Rattle.wl_worker.proofs.fetch.learn_edges.Given as goal

abbrev pub invariant-loop-seq : goal.invariant-loop-seq
invariant-loop-seq l =
    IsPassOf l.hub l.pass × (pass_name l.pass ≡ pass_name l.fn.pass) × IsOfPlan l.hub l.pass l.group.plan
    × Took l.fn.group l.group × TellsNews l.fn.group l.group l.came
    × (l.next ≡ l.seq) × SawOnlyOf l.node l.fn.pass l.pass × (HasChanges l.fn.group l.node l.first → HasChanges l.group l.node l.seq)
