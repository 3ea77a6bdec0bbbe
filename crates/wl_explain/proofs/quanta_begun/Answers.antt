use Rattle.std.proofs.Common.{◌≡◌, ◌∙◌, sym, ap, min, max}
use Rattle.wl_clock.specs.Timing.{Timing, tick_of}
use Rattle.wl_plan.specs.Limits.{most_quanta, most_quanta-is}
use Rattle.wl_explain.proofs.Means.{counted_below}
use Rattle.wl_explain.proofs.quanta_begun.Goals as goal

pub returns-clause-quanta : goal.returns-clause-quanta
returns-clause-quanta c =
    let r = c.first_not_before.result in
    let t : Timing = c.args.clock.now in
    let first = c.first_not_before.ensures in
    let e = counted_below (tick_of t) (c.ticks_increase.ensures.later t first.timing) c.args.end most_quanta r first.reached first.least first.near in
    let f : c.min.result ≡ min r most_quanta = c.min.ensures ∙ ap (λ n. min r n) (sym most_quanta-is) in
    c.max.ensures ∙ ap (λ n. max n 1) (f ∙ sym e)
