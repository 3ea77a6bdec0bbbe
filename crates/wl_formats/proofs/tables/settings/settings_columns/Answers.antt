use Rattle.std.proofs.Common.{refl}
use Rattle.wl_formats.proofs.tables.settings.settings_columns.Goals as goal

pub returns : goal.returns
returns c = refl
