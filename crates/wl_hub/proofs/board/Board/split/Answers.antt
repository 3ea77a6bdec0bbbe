use Rattle.std.proofs.Common.{◌<◌, sym, subst}
use Rattle.wl_hub.specs.Rule.{kind}
use Rattle.wl_hub.proofs.Joined.{laws_of}
use Rattle.wl_hub.proofs.Kept.{splits}
use Rattle.wl_hub.proofs.board.Board.split.Goals as goal

pub split_seat-seat-requires : goal.split_seat-seat-requires
split_seat-seat-requires g c =
    let laws = laws_of g.J.Join.least g.J.Join.joined g.J.Cell.word g.J.Cell.value g.J.Cell.at g.met.J.Join.laws g.met.J.Cell.whole in
    let key = c.args.self.now.table.shared.key in (
      c.requires.here,
      subst (λ n. 0 < n) (sym c.args.self.now.counted) c.args.self.now.some,
      splits (kind g.J.Join.least g.J.Join.joined g.J.Cell.word g.J.Cell.value (g.J.Cell.at key.shape.value.items)) (laws key.shape.value.items) g.T.Truth.is_true key.name.value key.shape.value.items _ _ _,
    )
