use Rattle.std.proofs.Common.{◌∙◌, ℕ, ◌/◌, ◌<◌, ◌≤◌, arith, get_or-set_other}
use Rattle.wl_views.proofs.Calendars.{settled}
use Rattle.wl_views.proofs.calendar.settle.Goals as goal

pub loop-at-preserved : goal.loop-at-preserved
loop-at-preserved c =
    let inv = c.loop-at.invariant in
    let at : ℕ = c.loop-at.at / 2 in
    let n : ℕ = c.args.nodes in
    let some : 1 ≤ at = omega (arith, c.loop-at-test.true) in
    let inner : at < n = omega (arith, inv.inside) in
    record {
      some = some;
      inside = omega arith;
      tree = settled n c.loop-at.tree at c.min.result c.requires.few some inner inv.tree c.min.ensures;
      leaves = λ k leaf. get_or-set_other c.loop-at.tree at k c.min.result 0 (omega arith) ∙ inv.leaves k leaf;
    }
