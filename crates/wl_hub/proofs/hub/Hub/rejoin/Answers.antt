use Rattle.wl_hub.proofs.Passes.{takes_in}
use Rattle.wl_hub.proofs.hub.Hub.rejoin.Goals as goal

pub returns-clause-both : goal.returns-clause-both
returns-clause-both g c = takes_in c.args.other c.args.pass.now _ c.rejoin.ensures.both c.rejoin-2.ensures.both
