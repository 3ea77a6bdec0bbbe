use Rattle.std.proofs.Common.{refl}
use Rattle.wl_formats.proofs.tables.spikes.spikes_table.Goals as goal

pub returns : goal.returns
returns c = refl
