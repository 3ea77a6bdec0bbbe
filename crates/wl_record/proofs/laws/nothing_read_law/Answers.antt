use Rattle.wl_record.proofs.ReadLemmas.{nothing_read}
use Rattle.wl_record.proofs.laws.nothing_read_law.Goals as goal

pub returns : goal.returns
returns g c = λ limits. nothing_read limits g.R.Source.gives c.args._reader.now
