use Rattle.std.proofs.Common.{◌∙◌, ap}
use Rattle.toml.specs.View.{members_view}
use Rattle.wl_plain.proofs.TableLemmas.{removed}
use Rattle.wl_plain.proofs.tables.without.Goals as goal

pub returns : goal.returns
returns c = ap members_view c.remove.ensures.entries ∙ removed c.args.key.now c.args.table.now.entries
