-- The lines of one node more after those of the nodes before it.
use Rattle.std.proofs.Common.{◌∙◌, false, string_bytes}
use Rattle.wl_confine.specs.declared.Mode.TheVariants.{Active}
use Rattle.wl_machine.specs.declared.doing.Doing.TheVariants.{Integrating}
use Rattle.wl_views.specs.declared.signals.NodeSignals.{NodeSignals}
use Rattle.wl_views.specs.Vcd.{node_values}
use Rattle.wl_report.proofs.Callers.{piece_more}
use Rattle.wl_views.proofs.dump.push_all_values.Goals as goal

abbrev low : NodeSignals
low = record { tx = false; rx = false; cable = false; disturbance = false; sample = false; start = false; state = record { tec = 0; rec = 0; mode = Active; doing = Integrating } }

pub loop-i-preserved : goal.loop-i-preserved
loop-i-preserved c =
    c.in_ok-push_values.ensures
    ∙ piece_more node_values (string_bytes c.args.text.now) (string_bytes c.loop-i.text) c.args.now.now c.loop-i.i low c.loop-i-test.true c.loop-i.invariant
