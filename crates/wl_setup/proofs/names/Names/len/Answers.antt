use Rattle.wl_setup.proofs.NameLemmas.{distinct_no_repeat}
use Rattle.wl_setup.proofs.names.Names.len.Goals as goal

pub returns-clause-distinct : goal.returns-clause-distinct
returns-clause-distinct c = rw (← c.self.view_is) (distinct_no_repeat c.self.inside.names.keys c.len.ensures.unique)
