use Rattle.std.proofs.Common.{ap, refl, ◌∙◌}
use Rattle.wl_lattice.specs.Words.{max_word}
use Rattle.wl_replica.specs.State.{State, silence_at}
use Rattle.wl_replica.specs.Dense.{row_of}
use Rattle.wl_replica.proofs.States.{silence_maps}
use Rattle.wl_replica.proofs.Tells.{tells_silence}
use Rattle.wl_replica.proofs.DenseShown.{row_words}
use Rattle.wl_replica.proofs.dense.Rows.silence.Goals as goal

pub returns : goal.returns
returns c =
    let rows = c.self.inside.silences.rows.items in
    c.word.ensures ∙ (row_words max_word silence_maps tells_silence rows c.args.node (row_of rows c.args.node) refl c.args.count
    ∙ ap (λ (s : State). silence_at s (c.args.node, c.args.count)) c.self.view_is)
