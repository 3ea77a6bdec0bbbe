-- The laws of nodes and of the simulation make it.
use Rattle.wl_plan.proofs.FewProofs.{changes_are_few}
use Rattle.wl_plan.proofs.laws.changes_are_few.Goals as goal

pub returns : goal.returns
returns c = changes_are_few c.place_laws.ensures c.drive_laws.ensures.few_changes c.simulation_laws.ensures c.checked_is_sound.ensures
