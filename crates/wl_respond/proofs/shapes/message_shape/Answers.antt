use Rattle.std.proofs.Common.{refl}
use Rattle.wl_respond.proofs.shapes.message_shape.Goals as goal

pub returns : goal.returns
returns c = refl
