use Rattle.std.proofs.Common.{◌≡◌, ap, ◌∙◌, arith}
use Rattle.wl_replica.specs.State.{State, slots_of}
use Rattle.wl_replica.specs.Known.{after_edges, run_length}
use Rattle.wl_replica.proofs.RunsKept.{run_held, end_told, end_early}
use Rattle.wl_replica.proofs.replica.Replica.run_end.Goals as goal

pub returns-clause-tick : goal.returns-clause-tick
returns-clause-tick c =
    let same : c.self.inside.rows.nodes ≡ c.args.self.now.nodes = ap (λ (s : State). s.nodes) c.self.view_is in
    let w = slots_of c.self.inside.rows in
    let run = run_held w c.self.inside.rows.nodes c.self.inside.runs.items c.self.invariant c.args.node c.index.result.now c.index.ensures (omega (arith, c.requires, same)) in
    end_told w c.args.node c.index.result.now run
    ∙ ap (λ (s : State). after_edges ((slots_of s).edge c.args.node) (run_length (slots_of s) c.args.node)) c.self.view_is

pub returns-clause-early : goal.returns-clause-early
returns-clause-early c =
    let same : c.self.inside.rows.nodes ≡ c.args.self.now.nodes = ap (λ (s : State). s.nodes) c.self.view_is in
    let w = slots_of c.self.inside.rows in
    let run = run_held w c.self.inside.rows.nodes c.self.inside.runs.items c.self.invariant c.args.node c.index.result.now c.index.ensures (omega (arith, c.requires, same)) in
    end_early w c.args.node c.index.result.now run c.self.invariant.limits
