use Rattle.toml.specs.View.{table_view}
use Rattle.wl_setup.specs.Keys.{controller_keys}
use Rattle.wl_setup.proofs.TableLemmas.{by_keys}
use Rattle.wl_setup.proofs.document.check_controller_table.Goals as goal

pub returns : goal.returns
returns c =
    by_keys c.controller_keys.result.required.now c.controller_keys.result.optional.now controller_keys (table_view c.args.table.now) c.check_table.result c.controller_keys.ensures.required c.controller_keys.ensures.optional c.check_table.ensures
