use Rattle.std.proofs.Common.{◌≡◌, ℕ, List, sym, subst, ◌∙◌}
use Rattle.std.specs.Prelude.{IfOk}
use Rattle.wl_replica.specs.Dense.{edges_of_row}
use Rattle.wl_replica.proofs.WaveAfter.{none_after, those_after}
use Rattle.wl_replica.proofs.waves.wave_after_of.Goals as goal

pub returns-then-known-tick : goal.returns-then-known-tick
returns-then-known-tick c = c.new.ensures ∙ sym (none_after (edges_of_row c.args.edges.now) c.requires.0 c.args.known c.requires.1 c.args.tick c.if-known-tick.true)

pub returns : goal.returns
returns c =
    let told = c.changes_up_to-count.ensures in
    subst (λ (ps : List (ℕ × ℕ)). IfOk c.wave_of.result (λ set. set ≡ ps))
    (those_after (edges_of_row c.args.edges.now) c.requires.0 c.args.known c.requires.1 c.args.tick c.changes_up_to-count.result c.if-known-tick.false told.few told.before told.after) c.wave_of.ensures
