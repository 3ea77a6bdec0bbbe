use Rattle.std.proofs.Common.{◌≡◌, ap, ◌∙◌, arith}
use Rattle.wl_replica.specs.State.{State, slots_of}
use Rattle.wl_replica.specs.Known.{run_length}
use Rattle.wl_replica.proofs.RunsKept.{run_held, length_told}
use Rattle.wl_replica.proofs.replica.Replica.run_length.Goals as goal

pub returns-clause-length : goal.returns-clause-length
returns-clause-length c =
    let same : c.self.inside.rows.nodes ≡ c.args.self.now.nodes = ap (λ (s : State). s.nodes) c.self.view_is in
    let w = slots_of c.self.inside.rows in
    let run = run_held w c.self.inside.rows.nodes c.self.inside.runs.items c.self.invariant c.args.node c.index.result.now c.index.ensures (omega (arith, c.requires, same)) in
    length_told w c.args.node c.index.result.now run ∙ ap (λ (s : State). run_length (slots_of s) c.args.node) c.self.view_is
