-- The laws of clocks, of nodes and of the simulation make it.
use Rattle.wl_plan.proofs.SoundProofs.{checked_is_sound}
use Rattle.wl_plan.proofs.laws.checked_is_sound.Goals as goal

pub returns : goal.returns
returns c =
    checked_is_sound c.place_laws.ensures
    (record { later = c.ticks_increase.ensures.later; first = c.ticks_increase.ensures.first; high = c.ticks_increase.ensures.high })
    (record { stays = c.drive_laws.ensures.quiet; most = c.drive_laws.ensures.most; few = c.drive_laws.ensures.few_changes })
    c.simulation_laws.ensures
