use Rattle.wl_map.proofs.Coloured.{clean_is_clean}
use Rattle.wl_map.proofs.laws.a_clean_cell_is_clean.Goals as goal

pub returns : goal.returns
returns c = clean_is_clean
