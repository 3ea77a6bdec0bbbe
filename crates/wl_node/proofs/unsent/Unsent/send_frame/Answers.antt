use Rattle.std.proofs.Common.{◌∙◌, ap, sym}
use Rattle.wl_node.specs.Unsent.{place_of}
use Rattle.wl_node.proofs.Unsents.{none_by_priority}
use Rattle.wl_node.proofs.unsent.Unsent.send_frame.Goals as goal

pub returns-in_default-clause-passed : goal.returns-in_default-clause-passed
returns-in_default-clause-passed c order passed quantum is =
    none_by_priority c.args.setup.now c.args.self.now passed quantum c.args.frame.now order is
    (ap (place_of c.args.frame.now) (sym c.frames.ensures) ∙ sym c.place_of.ensures ∙ c.in_default.is)
