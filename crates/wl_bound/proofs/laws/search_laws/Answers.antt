use Rattle.wl_bound.proofs.Grown.{less}
use Rattle.wl_bound.proofs.laws.search_laws.Goals as goal

pub returns : goal.returns
returns c = record { less = less }
