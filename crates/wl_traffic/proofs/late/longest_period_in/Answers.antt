use Rattle.std.proofs.Common.{◌∙◌, ap₂, sym, ℕ, max}
use Rattle.wl_traffic.specs.Late.{period_at}
use Rattle.wl_traffic.proofs.Growing.{fold_below_more}
use Rattle.wl_traffic.proofs.late.longest_period_in.Goals as goal

pub loop-k-preserved : goal.loop-k-preserved
loop-k-preserved c =
    c.max-longest.ensures ∙ ap₂ max c.loop-k.invariant c.in_ok-period_at.ensures
    ∙ sym (fold_below_more (λ (most k : ℕ). max most (period_at c.args.queue.now k)) 0 c.loop-k.k)
