-- At the end all changes are there.
use Rattle.wl_serial.proofs.Steps.{ends}
use Rattle.wl_serial.proofs.recorded.drive_at_end.Goals as goal

pub returns : goal.returns
returns c plan i checked b run past =
    (ends plan i c.args.node c.simulation_laws.ensures (c.checked_is_sound.ensures plan checked) b run past).1
