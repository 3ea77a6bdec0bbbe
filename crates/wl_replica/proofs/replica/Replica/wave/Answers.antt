use Rattle.std.proofs.Common.{◌≡◌, ℕ, List, ap, subst, sym, ◌∙◌, arith}
use Rattle.std.specs.Prelude.{IfOk, IfSome, ◌≤◌}
use Rattle.std.proofs.lemmas.Result.{IfOk-weaker}
use Rattle.wl_intervals.specs.Pairs.{last_end}
use Rattle.wl_record_core.specs.Limits.{tick_end}
use Rattle.wl_replica.specs.State.{State, slots_of}
use Rattle.wl_replica.specs.Dense.{edges_of_row}
use Rattle.wl_replica.specs.Known.{wave}
use Rattle.wl_replica.proofs.WaveAfter.{all_from_first}
use Rattle.wl_replica.proofs.RunsKept.{run_held, run_read, wave_told, wave_read, wave_early}
use Rattle.wl_replica.proofs.replica.Replica.wave.Goals as goal

pub wave_of-requires-clause-run : goal.wave_of-requires-clause-run
wave_of-requires-clause-run c =
    let same : c.self.inside.rows.nodes ≡ c.args.self.now.nodes = ap (λ (s : State). s.nodes) c.self.view_is in
    let w = slots_of c.self.inside.rows in
    let run = run_held w c.self.inside.rows.nodes c.self.inside.runs.items c.self.invariant c.args.node c.index.result.now c.index.ensures (omega (arith, c.requires, same)) in
    run_read w c.args.node c.index.result.now run (edges_of_row c.edge_numbers.result.now) c.edge_numbers.ensures.words

pub returns-clause-set : goal.returns-clause-set
returns-clause-set c =
    let same : c.self.inside.rows.nodes ≡ c.args.self.now.nodes = ap (λ (s : State). s.nodes) c.self.view_is in
    let w = slots_of c.self.inside.rows in
    let run = run_held w c.self.inside.rows.nodes c.self.inside.runs.items c.self.invariant c.args.node c.index.result.now c.index.ensures (omega (arith, c.requires, same)) in
    subst (λ (ps : List (ℕ × ℕ)). IfOk c.wave_of.result (λ set. set ≡ ps))
    (all_from_first (edges_of_row c.edge_numbers.result.now) c.index.result.now.run.length c.index.result.now.horizon
    ∙ (wave_read w c.args.node c.index.result.now run (edges_of_row c.edge_numbers.result.now) c.edge_numbers.ensures.words
    ∙ ap (λ (s : State). wave (slots_of s) c.args.node) c.self.view_is)) c.wave_of.ensures

pub returns-clause-early : goal.returns-clause-early
returns-clause-early c =
    let same : c.self.inside.rows.nodes ≡ c.args.self.now.nodes = ap (λ (s : State). s.nodes) c.self.view_is in
    let w = slots_of c.self.inside.rows in
    let run = run_held w c.self.inside.rows.nodes c.self.inside.runs.items c.self.invariant c.args.node c.index.result.now c.index.ensures (omega (arith, c.requires, same)) in
    let early = wave_early w c.args.node c.index.result.now run c.self.invariant.limits in
    let told = wave_told w c.args.node c.index.result.now run ∙ ap (λ (s : State). wave (slots_of s) c.args.node) c.self.view_is in
    IfOk-weaker c.wave_of.result (λ (set : List (ℕ × ℕ)). set ≡ wave (slots_of c.args.self.now) c.args.node)
    (λ (set : List (ℕ × ℕ)). IfSome (last_end set) (λ end. end ≤ tick_end))
    (λ (set : List (ℕ × ℕ)) is. subst (λ (ps : List (ℕ × ℕ)). IfSome (last_end ps) (λ end. end ≤ tick_end)) (sym (is ∙ sym told)) early) (returns-clause-set c)
