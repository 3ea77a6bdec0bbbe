use Rattle.std.proofs.Common.{◌<◌, sym, subst}
use Rattle.wl_hub.specs.Rule.{kind}
use Rattle.wl_hub.proofs.Joined.{laws_of}
use Rattle.wl_hub.proofs.Kept.{looks, some_of}
use Rattle.wl_hub.proofs.board.Board.look.Goals as goal

pub load-requires : goal.load-requires
load-requires g c =
    let laws = laws_of g.J.Join.least g.J.Join.joined g.J.Cell.word g.J.Cell.value g.J.Cell.at g.met.J.Join.laws g.met.J.Cell.whole in
    let mine = some_of c.args.part.now.seat.me.0.name c.args.part.now.named in
    let key = c.args.self.now.table.shared.key in (
      c.requires.here,
      subst (λ n. c.args.i < n) (sym c.args.self.now.counted) c.requires.inside,
      looks (λ shape. kind g.J.Join.least g.J.Join.joined g.J.Cell.word g.J.Cell.value (g.J.Cell.at shape)) laws g.T.Truth.is_true key.name.value key.shape.value.items _ _ _ _ _ mine.0 mine.1 c.requires.inside,
    )
