use Rattle.std.proofs.Common.{◌<◌, sym, subst, max}
use Rattle.wl_lattice.specs.declared.numbers.TheConstants.{CLASH}
use Rattle.wl_hub.specs.Places.{edge_apart}
use Rattle.wl_hub.proofs.Kept.{gives, some_of}
use Rattle.wl_hub.proofs.Edges.{edge_kind, edge_laws, clash_top}
use Rattle.wl_hub.proofs.board.Board+T+FlatWord.clash_as.Goals as goal

pub fetch_max-requires : goal.fetch_max-requires
fetch_max-requires g c =
    let mine = some_of c.args.part.now.seat.me.0.name c.args.part.now.named in
    let key = c.args.self.now.table.shared.key in (
      c.requires.here,
      subst (λ n. c.args.i < n) (sym c.args.self.now.counted) c.requires.inside,
      rw c.requires.pick (gives edge_kind edge_laws g.T.Truth.is_true key.name.value key.shape.value.items _ (λ n. max n CLASH) _ _ _ _ CLASH 0 mine.0 c.args.gift mine.1 c.requires.inside
          (c.requires.told mine.0 mine.1) edge_apart c.requires.place (λ x below small. rw c.requires.value (clash_top x small))),
    )
