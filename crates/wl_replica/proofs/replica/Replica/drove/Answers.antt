use Rattle.std.proofs.Common.{◌≡◌, ◌-◌, ◌&&◌, sym, ap, ◌∙◌, arith, nat_le}
use Rattle.std.proofs.lemmas.Bool.{le-leb}
use Rattle.wl_intervals.specs.Pairs.{covers}
use Rattle.wl_topology.specs.Delays.{delay_of}
use Rattle.wl_replica.specs.State.{State, slots_of}
use Rattle.wl_replica.specs.Dense.{edges_of_row}
use Rattle.wl_replica.specs.Known.{horizon, wave_at}
use Rattle.wl_replica.proofs.RunsKept.{run_held, horizon_told, run_read, wave_read}
use Rattle.wl_replica.proofs.replica.Replica.drove.Goals as goal

pub is_dominant_at-requires-clause-run : goal.is_dominant_at-requires-clause-run
is_dominant_at-requires-clause-run c =
    let same : c.self.inside.rows.nodes ≡ c.args.self.now.nodes = ap (λ (s : State). s.nodes) c.self.view_is in
    let w = slots_of c.self.inside.rows in
    let run = run_held w c.self.inside.rows.nodes c.self.inside.runs.items c.self.invariant c.args.i c.index.result.now c.index.ensures (omega (arith, c.requires.from, same)) in
    run_read w c.args.i c.index.result.now run (edges_of_row c.edge_numbers.result.now) c.edge_numbers.ensures.words

pub is_dominant_at-requires-clause-known : goal.is_dominant_at-requires-clause-known
is_dominant_at-requires-clause-known c =
    let same : c.self.inside.rows.nodes ≡ c.args.self.now.nodes = ap (λ (s : State). s.nodes) c.self.view_is in
    let w = slots_of c.self.inside.rows in
    let run = run_held w c.self.inside.rows.nodes c.self.inside.runs.items c.self.invariant c.args.i c.index.result.now c.index.ensures (omega (arith, c.requires.from, same)) in
    let h = horizon_told w c.args.i c.index.result.now run ∙ ap (λ (s : State). horizon (slots_of s) c.args.i) c.self.view_is in
    omega (arith, h, c.requires.known, c.delay-delay.ensures.ticks, c.if-delay-t.true)

pub returns-then-delay-t : goal.returns-then-delay-t
returns-then-delay-t c =
    let delay = delay_of c.args.topology.now c.args.i c.args.j in
    let same : c.self.inside.rows.nodes ≡ c.args.self.now.nodes = ap (λ (s : State). s.nodes) c.self.view_is in
    let w = slots_of c.self.inside.rows in
    let run = run_held w c.self.inside.rows.nodes c.self.inside.runs.items c.self.invariant c.args.i c.index.result.now c.index.ensures (omega (arith, c.requires.from, same)) in
    let level = c.is_dominant_at.ensures
    ∙ (ap (λ ps. covers ps (c.args.t - c.delay-delay.result)) (wave_read w c.args.i c.index.result.now run (edges_of_row c.edge_numbers.result.now) c.edge_numbers.ensures.words)
    ∙ (ap (λ (s : State). wave_at (slots_of s) c.args.i (c.args.t - c.delay-delay.result)) c.self.view_is
    ∙ ap (λ d. wave_at (slots_of c.args.self.now) c.args.i (c.args.t - d)) c.delay-delay.ensures.ticks)) in
    level ∙ ap (λ b. b && wave_at (slots_of c.args.self.now) c.args.i (c.args.t - delay)) (sym (ap (λ d. nat_le d c.args.t) (sym c.delay-delay.ensures.ticks) ∙ le-leb c.delay-delay.result c.args.t c.if-delay-t.true))
