use Rattle.std.proofs.Common.{ap, refl, ◌∙◌}
use Rattle.wl_lattice.specs.Numbers.{number_word}
use Rattle.wl_replica.specs.State.{State, edge_at}
use Rattle.wl_replica.specs.Dense.{row_of}
use Rattle.wl_replica.proofs.States.{edge_maps}
use Rattle.wl_replica.proofs.Tells.{tells_edge}
use Rattle.wl_replica.proofs.DenseShown.{row_words}
use Rattle.wl_replica.proofs.dense.Rows.edge.Goals as goal

pub returns : goal.returns
returns c =
    let rows = c.self.inside.edges.rows.items in
    c.word.ensures ∙ (row_words number_word edge_maps tells_edge rows c.args.node (row_of rows c.args.node) refl c.args.seq
    ∙ ap (λ (s : State). edge_at s (c.args.node, c.args.seq)) c.self.view_is)
