use Rattle.wl_sync.proofs.Recessive.{recessive_laws}
use Rattle.wl_sync.proofs.laws.recessive_samples_are_bits_apart.Goals as goal

pub returns : goal.returns
returns c = recessive_laws c.place_laws.ensures
