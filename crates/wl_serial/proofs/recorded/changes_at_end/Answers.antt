-- At the end all changes are there.
use Rattle.std.proofs.Common.{◌∙◌}
use Rattle.wl_serial.proofs.Steps.{ends}
use Rattle.wl_serial.proofs.recorded.changes_at_end.Goals as goal

pub returns : goal.returns
returns c plan i checked b run past =
    c.as_slice.ensures ∙ (ends plan i c.args.node.now c.simulation_laws.ensures (c.checked_is_sound.ensures plan checked) b run past).1
