use Rattle.std.proofs.Common.{◌≡◌, ℕ, List, subst, ◌∙◌}
use Rattle.std.specs.Prelude.{IfOk}
use Rattle.wl_replica.specs.State.{slots_of}
use Rattle.wl_replica.specs.Dense.{row_number, edges_of_row}
use Rattle.wl_replica.proofs.RunsKept.{run_by, wave_read}
use Rattle.wl_replica.proofs.WaveAfter.{all_from_first}
use Rattle.wl_replica.proofs.dense.Rows.wave.Goals as goal

pub returns : goal.returns
returns c =
    let w = slots_of c.args.self.now in
    let run = run_by w c.args.node (edges_of_row c.edge_numbers-edges.result.now) (row_number c.silence_numbers.result.now) c.known_of.result c.edge_numbers-edges.ensures.words c.silence_numbers.ensures.words c.known_of.ensures in
    subst (λ (ps : List (ℕ × ℕ)). IfOk c.wave_of.result (λ set. set ≡ ps))
    (all_from_first (edges_of_row c.edge_numbers-edges.result.now) c.known_of.result.run.length c.known_of.result.horizon
    ∙ wave_read w c.args.node c.known_of.result run (edges_of_row c.edge_numbers-edges.result.now) c.edge_numbers-edges.ensures.words) c.wave_of.ensures
