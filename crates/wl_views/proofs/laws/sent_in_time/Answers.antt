use Rattle.wl_views.proofs.InTime.{in_time}
use Rattle.wl_views.proofs.laws.sent_in_time.Goals as goal

pub returns : goal.returns
returns c plan checked = in_time c.simulation_laws.ensures plan (c.checked_is_sound.ensures plan checked)
