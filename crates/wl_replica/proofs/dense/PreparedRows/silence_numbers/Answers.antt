use Rattle.std.proofs.Common.{◌≡◌, ap, ◌∙◌, arith}
use Rattle.wl_lattice.specs.declared.MaxWord.{MaxWord}
use Rattle.wl_lattice.specs.Words.{max_word}
use Rattle.wl_replica.specs.Prepared.{PreparedState}
use Rattle.wl_replica.specs.State.{silence_at}
use Rattle.wl_replica.proofs.States.{silence_maps}
use Rattle.wl_replica.proofs.Tells.{tells_silence}
use Rattle.wl_replica.proofs.DenseShown.{row_words}
use Rattle.wl_replica.proofs.dense.PreparedRows.silence_numbers.Goals as goal

pub numbers_of-requires : goal.numbers_of-requires
numbers_of-requires c =
    let same : c.self.inside.nodes ≡ c.args.self.now.known.nodes = ap (λ (p : PreparedState). p.known.nodes) c.self.view_is in
    omega (arith, c.requires, c.self.invariant.kept.silence_rows, same)

pub returns : goal.returns
returns c n = ap (λ (w : MaxWord). w.word) (row_words max_word silence_maps tells_silence c.self.inside.silences.rows.items c.args.node c.numbers_of.result.now c.numbers_of.ensures.value n ∙ ap (λ (p : PreparedState). silence_at p.known (c.args.node, n)) c.self.view_is)
