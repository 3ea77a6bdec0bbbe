use Rattle.std.proofs.Common.{◌≡◌, ◌≤◌, ℕ, List, ap, subst, ◌∙◌, nat_lt, arith}
use Rattle.std.specs.Prelude.{IfOk, filter}
use Rattle.std.proofs.lemmas.Result.{IfOk-weaker}
use Rattle.wl_intervals.specs.Pairs.{covers}
use Rattle.wl_replica.specs.State.{State, slots_of}
use Rattle.wl_replica.specs.Dense.{edges_of_row}
use Rattle.wl_replica.specs.Known.{wave, wave_after, wave_at}
use Rattle.wl_replica.proofs.RunsKept.{run_held, run_read, wave_read}
use Rattle.wl_replica.proofs.WaveAfter.{covers_after}
use Rattle.wl_replica.proofs.replica.Replica.wave_after.Goals as goal

pub wave_after_of-requires : goal.wave_after_of-requires
wave_after_of-requires c =
    let same : c.self.inside.rows.nodes ≡ c.args.self.now.nodes = ap (λ (s : State). s.nodes) c.self.view_is in
    let w = slots_of c.self.inside.rows in
    let run = run_held w c.self.inside.rows.nodes c.self.inside.runs.items c.self.invariant c.args.node c.index.result.now c.index.ensures (omega (arith, c.requires, same)) in
    run_read w c.args.node c.index.result.now run (edges_of_row c.edge_numbers.result.now) c.edge_numbers.ensures.words

pub returns-clause-set : goal.returns-clause-set
returns-clause-set c =
    let same : c.self.inside.rows.nodes ≡ c.args.self.now.nodes = ap (λ (s : State). s.nodes) c.self.view_is in
    let w = slots_of c.self.inside.rows in
    let run = run_held w c.self.inside.rows.nodes c.self.inside.runs.items c.self.invariant c.args.node c.index.result.now c.index.ensures (omega (arith, c.requires, same)) in
    subst (λ (ps : List (ℕ × ℕ)). IfOk c.wave_after_of.result (λ set. set ≡ filter (λ p. nat_lt c.args.tick p.1) ps))
    (wave_read w c.args.node c.index.result.now run (edges_of_row c.edge_numbers.result.now) c.edge_numbers.ensures.words
    ∙ ap (λ (s : State). wave (slots_of s) c.args.node) c.self.view_is) c.wave_after_of.ensures

pub returns-clause-level : goal.returns-clause-level
returns-clause-level c =
    let w = slots_of c.args.self.now in
    IfOk-weaker c.wave_after_of.result (λ (set : List (ℕ × ℕ)). set ≡ wave_after w c.args.node c.args.tick) (λ (set : List (ℕ × ℕ)). (t : ℕ) → c.args.tick ≤ t → covers set t ≡ wave_at w c.args.node t)
    (λ (set : List (ℕ × ℕ)) is t le. ap (λ ps. covers ps t) is ∙ covers_after c.args.tick t (wave w c.args.node) le) (returns-clause-set c)
