use Rattle.std.proofs.Common.{ℕ, ◌+◌, ◌≤◌, min, ◌∙◌, arith}
use Rattle.wl_replica.specs.State.{slots_of}
use Rattle.wl_replica.specs.Known.{horizon}
use Rattle.wl_replica.proofs.Callers.{least_more}
use Rattle.wl_group.specs.Ways.{way_in}
use Rattle.wl_group.proofs.heard.known_by.Goals as goal

pub loop-i-preserved : goal.loop-i-preserved
loop-i-preserved c =
    let f : ℕ → ℕ = λ i. horizon (slots_of c.args.replica.now) i + way_in c.args.ways.now i in
    let from : 1 ≤ c.loop-i.i = omega arith in
    c.min-least.ensures ∙ ((λ i. min (c.loop-i.invariant i) (c.known_of.ensures i)) ∙ least_more f c.loop-i.i from)
