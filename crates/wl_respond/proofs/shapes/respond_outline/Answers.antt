use Rattle.std.proofs.Common.{refl}
use Rattle.wl_respond.proofs.shapes.respond_outline.Goals as goal

pub returns : goal.returns
returns c = refl
