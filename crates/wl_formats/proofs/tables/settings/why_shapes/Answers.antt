use Rattle.std.proofs.Common.{refl}
use Rattle.wl_formats.proofs.tables.settings.why_shapes.Goals as goal

pub returns : goal.returns
returns c = refl
