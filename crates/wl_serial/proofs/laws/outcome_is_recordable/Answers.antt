-- A sound line keeps the limits of records.
use Rattle.wl_serial.proofs.Told.{outcome_is_recordable}
use Rattle.wl_serial.proofs.laws.outcome_is_recordable.Goals as goal

pub returns : goal.returns
returns c = outcome_is_recordable c.checked_is_sound.ensures
