use Rattle.std.proofs.Common.{sym}
use Rattle.wl_longest.proofs.Counted.{most_is}
use Rattle.wl_longest.proofs.ending.Ending.most_stuffed.Goals as goal

pub returns-clause-value : goal.returns-clause-value
returns-clause-value c = sym (most_is c.args.self.last c.args.self.run c.args.self.stuffed c.args.count c.requires.some c.requires.few)
