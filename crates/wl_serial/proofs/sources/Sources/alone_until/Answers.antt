-- If no more nodes drive dominant than that one does, no other does.
use Rattle.std.proofs.Common.{false, length, get_or, arith}
use Rattle.wl_serial.proofs.Only.{alone_passes}
use Rattle.wl_serial.proofs.sources.Sources.alone_until.Goals as goal

pub returns : goal.returns
returns c = record {
  nexts = c.others_until.ensures.few;
  drives = λ some k other inside.
      alone_passes (λ m. get_or c.args.self.now.drives m false) (length c.args.plan.now.nodes) c.args.j k c.requires.node
      (let f = c.if-from-self.false in let g = c.requires.kept.driving in let e = c.from.ensures in omega (arith, e, f, g)) inside other;
}
