-- Each edge and each silence of a sound line's outcome is true of it.
use Rattle.wl_serial.proofs.Told.{records_are_true}
use Rattle.wl_serial.proofs.laws.records_are_true.Goals as goal

pub returns : goal.returns
returns c = records_are_true c.checked_is_sound.ensures c.outcome_is_true.ensures
