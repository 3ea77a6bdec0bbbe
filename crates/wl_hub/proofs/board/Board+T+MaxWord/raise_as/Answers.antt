use Rattle.std.proofs.Common.{◌<◌, ℕ, sym, subst, ap, max}
use Rattle.wl_hub.specs.Places.{silence_apart}
use Rattle.wl_hub.proofs.Kept.{gives, some_of}
use Rattle.wl_hub.proofs.Silences.{silence_kind, silence_laws}
use Rattle.wl_hub.proofs.board.Board+T+MaxWord.raise_as.Goals as goal

pub fetch_max-requires : goal.fetch_max-requires
fetch_max-requires g c =
    let mine = some_of c.args.part.now.seat.me.0.name c.args.part.now.named in
    let key = c.args.self.now.table.shared.key in
    let value = c.requires.value in (
      c.requires.here,
      subst (λ n. c.args.i < n) (sym c.args.self.now.counted) c.requires.inside,
      rw c.requires.pick (gives silence_kind silence_laws g.T.Truth.is_true key.name.value key.shape.value.items _ (λ n. max n c.args.until) _ _ _ _ c.args.until 0 mine.0 c.args.gift mine.1 c.requires.inside
          (c.requires.told mine.0 mine.1) silence_apart c.requires.place (λ x below small. ap (λ (k : ℕ). max x.word k) (sym c.requires.value))),
    )
