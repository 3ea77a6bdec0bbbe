-- What the node told at the mark comes first in what it told.
use Rattle.std.proofs.Common.{refl}
use Rattle.wl_serial.proofs.Back.{is_back}
use Rattle.wl_serial.proofs.running_node.Running.back.Goals as goal

pub returns : goal.returns
returns c old is later =
    is_back old c.args.self.now _ c.args.before.now is later c.back.ensures.node c.back.ensures.setup c.back.ensures.keeps c.back.ensures.quanta refl refl c.in_ok-cut.ensures
