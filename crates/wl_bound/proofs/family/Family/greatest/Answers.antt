use Rattle.wl_bound.proofs.Grown.{found}
use Rattle.wl_bound.proofs.family.Family.greatest.Goals as goal

pub returns : goal.returns
returns c = found c.args.self.now c.args.senders c.args.growth c.args.limit c.border.result c.border.ensures
