use Rattle.std.proofs.Common.{◌∙◌, not, ap}
use Rattle.wl_setup.proofs.NameLemmas.{among-bytes}
use Rattle.wl_setup.proofs.names.Names.add.Goals as goal

pub returns-clause-added : goal.returns-clause-added
returns-clause-added c =
    rw (← c.self.view_is, ← c.in_ok-name.ensures.ok) (c.in_ok-insert.ensures.added ∙ ap not (among-bytes c.in_ok-name.name c.self.inside.names.keys))
