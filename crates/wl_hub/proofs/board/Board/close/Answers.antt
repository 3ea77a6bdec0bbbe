use Rattle.std.proofs.Common.{ap, sym, take, length}
use Rattle.wl_hub.specs.Rule.{kind}
use Rattle.wl_hub.proofs.Joined.{laws_of}
use Rattle.wl_hub.proofs.Kept.{closes, closes_first, length_behind}
use Rattle.std.specs.Mem.Slots.{slots_items}
use Rattle.wl_hub.proofs.board.Board.close.Goals as goal

pub returns-clause-words : goal.returns-clause-words
returns-clause-words g c =
    let laws = laws_of g.J.Join.least g.J.Join.joined g.J.Cell.word g.J.Cell.value g.J.Cell.at g.met.J.Join.laws g.met.J.Cell.whole in
    let key = c.args.self.table.shared.key in
    let kinds = λ (shape : _). kind g.J.Join.least g.J.Join.joined g.J.Cell.word g.J.Cell.value (g.J.Cell.at shape) in
    let row = slots_items c.close_with-closed.result.words in (
      take c.args.count row,
      length_behind c.args.words.items (take c.args.count row) (length c.copied-words.result.items) c.args.count (sym (ap length c.copied-words.ensures.words)) (sym c.copied-words.ensures.room.1),
      c.copied-words.ensures.words,
      closes_first kinds g.T.Truth.is_true key.words c.args.count row c.args.part.seat.me.0 c.requires.count
          (closes kinds laws g.T.Truth.is_true key.name.value key.shape.value.items key.words
          c.args.part.seat.id c.args.part.seat.me.0 row (slots_items c.close_with-closed.result.slots) c.close_with-closed.ensures.values.2),
    )
