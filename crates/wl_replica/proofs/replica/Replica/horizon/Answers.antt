use Rattle.std.proofs.Common.{◌≡◌, ap, ◌∙◌, arith}
use Rattle.wl_replica.specs.State.{State, slots_of}
use Rattle.wl_replica.specs.Known.{horizon}
use Rattle.wl_replica.proofs.RunsKept.{run_held, horizon_told, horizon_early}
use Rattle.wl_replica.proofs.ChangesStand.{changes_stand}
use Rattle.wl_replica.proofs.replica.Replica.horizon.Goals as goal

pub returns-clause-tick : goal.returns-clause-tick
returns-clause-tick c =
    let same : c.self.inside.rows.nodes ≡ c.args.self.now.nodes = ap (λ (s : State). s.nodes) c.self.view_is in
    let w = slots_of c.self.inside.rows in
    let run = run_held w c.self.inside.rows.nodes c.self.inside.runs.items c.self.invariant c.args.node c.index.result.now c.index.ensures (omega (arith, c.requires, same)) in
    horizon_told w c.args.node c.index.result.now run ∙ ap (λ (s : State). horizon (slots_of s) c.args.node) c.self.view_is

pub returns-clause-early : goal.returns-clause-early
returns-clause-early c =
    let same : c.self.inside.rows.nodes ≡ c.args.self.now.nodes = ap (λ (s : State). s.nodes) c.self.view_is in
    let w = slots_of c.self.inside.rows in
    let run = run_held w c.self.inside.rows.nodes c.self.inside.runs.items c.self.invariant c.args.node c.index.result.now c.index.ensures (omega (arith, c.requires, same)) in
    horizon_early w c.args.node c.index.result.now run c.self.invariant.limits

pub returns-clause-changes : goal.returns-clause-changes
returns-clause-changes c table order holds =
    let e = returns-clause-tick c in
    changes_stand c.table_laws.ensures c.known_laws.ensures c.args.self.now.nodes table (slots_of c.args.self.now) c.args.node c.index.result.now.horizon order holds (omega arith)
