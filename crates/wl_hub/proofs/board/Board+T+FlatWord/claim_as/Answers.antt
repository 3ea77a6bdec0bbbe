use Rattle.std.proofs.Common.{◌≡◌, ◌<◌, ◌+◌, sym, subst, ◌∙◌, false}
use Rattle.wl_hub.proofs.Kept.{some_of}
use Rattle.wl_hub.proofs.Edges.{claims, clashes_after, unsettled}
use Rattle.wl_hub.specs.Rule.{is_settled}
use Rattle.wl_hub.proofs.board.Board+T+FlatWord.claim_as.Goals as goal

pub compare_exchange-found-requires : goal.compare_exchange-found-requires
compare_exchange-found-requires g c =
    let mine = some_of c.args.part.now.seat.me.0.name c.args.part.now.named in
    let key = c.args.self.now.table.shared.key in (
      c.requires.here,
      subst (λ n. c.args.i < n) (sym c.args.self.now.counted) c.requires.inside,
      rw (c.value_number-number.ensures, c.requires.pick) (claims g.T.Truth.is_true key.name.value key.shape.value.items _ _ _ c.args.part.now.seat.me c.args.i mine.0 c.args.gift c.args.tick mine.1 c.requires.inside (c.requires.told mine.0 mine.1) c.requires.place c.requires.value),
    )

pub fetch_max-requires : goal.fetch_max-requires
fetch_max-requires g c =
    let mine = some_of c.args.part.now.seat.me.0.name c.args.part.now.named in
    let key = c.args.self.now.table.shared.key in
    let told = rw c.value_number-number.ensures at c.compare_exchange-found.ensures in
    let number = c.value_number-number.ensures in
    let apart = rw number at c.if-found-number.false in
    let other : is_settled c.compare_exchange-found.result (c.args.tick + 1) ≡ false = unsettled c.compare_exchange-found.result (c.args.tick + 1) c.if-found-eq0.false apart c.if-found.false in
    let seen = rw other at told.2 in (
      told.0 ∙ c.requires.here,
      subst (λ n. c.args.i < n) (sym c.args.self.now.counted) c.requires.inside,
      rw c.requires.pick (clashes_after g.T.Truth.is_true key.name.value key.shape.value.items _ _ _ c.args.part.now.seat.me c.compare_exchange-found.new.seat.me c.args.i c.compare_exchange-found.result mine.0 c.args.gift c.args.tick mine.1 c.requires.inside
          (c.requires.told mine.0 mine.1) c.requires.place c.requires.value seen.1 seen.0 other),
    )
