use Rattle.wl_settings.proofs.MadeTables.{AreMade}
use Rattle.wl_settings.proofs.read.read_controllers.Given as goal

abbrev pub invariant-loop-value : goal.invariant-loop-value
invariant-loop-value l = AreMade l.joint l.all l.value-index l.values
