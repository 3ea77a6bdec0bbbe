use Rattle.toml.proofs.Views.{table_get}
use Rattle.wl_setup.proofs.values.value_named.Goals as goal

pub returns : goal.returns
returns c = table_get c.get.result c.args.name.now c.args.table.now.entries c.get.ensures.value
