use Rattle.wl_judge.proofs.Promises.{proved_law}
use Rattle.wl_judge.proofs.laws.a_proved_bus_has_a_proved_margin.Goals as goal

pub returns : goal.returns
returns c = proved_law
