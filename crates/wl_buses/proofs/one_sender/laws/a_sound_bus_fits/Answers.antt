use Rattle.wl_buses.proofs.OneSender.Bounded.{clocks_fit}
use Rattle.wl_buses.proofs.one_sender.laws.a_sound_bus_fits.Goals as goal

pub returns : goal.returns
returns c = λ bus t b is of sound. clocks_fit bus t b is of sound
