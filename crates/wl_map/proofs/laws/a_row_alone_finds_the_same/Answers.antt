use Rattle.wl_map.proofs.Alone.{finds_the_same}
use Rattle.wl_map.proofs.laws.a_row_alone_finds_the_same.Goals as goal

pub returns : goal.returns
returns c = finds_the_same
