use Rattle.wl_lattice.specs.KeyByKey.{map_laws}
use Rattle.wl_lattice.proofs.laws.maps_join_key_by_key.Goals as goal

pub returns : goal.returns
returns g c = λ R o exact. map_laws g.met.W.Join.laws o exact
