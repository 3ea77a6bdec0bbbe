-- What is true of a table with few changes is within.
use Rattle.wl_serial.proofs.WithinLimits.{records_are_within}
use Rattle.wl_serial.proofs.laws.records_are_within.Goals as goal

pub returns : goal.returns
returns c = records_are_within c.true_is_within.ensures c.simulation_laws.ensures c.changes_are_few.ensures c.checked_is_sound.ensures c.records_are_true.ensures
