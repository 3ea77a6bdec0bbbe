use Rattle.std.proofs.Common.{suc, ◌-◌, ◌≤◌}
use Rattle.wl_node.specs.declared.setup.NodeSetup.{NodeSetup}
use Rattle.wl_node.specs.Kept.{HasProgressedBy, KeepsCounts, KeepsDrive}
use Rattle.wl_node.proofs.progress.NodeProgress.to_unkept_sample.Given as goal

-- so many quanta have run, and the drive stays
abbrev pub invariant-loop-done : goal.invariant-loop-done
invariant-loop-done l =
    ((setup : NodeSetup) → HasProgressedBy setup l.level l.done l.fn.self l.self)
    × ((setup : NodeSetup) → KeepsDrive setup l.level (suc l.done) l.fn.self)
    × (l.done ≤ l.most)
    × KeepsCounts l.done l.fn.self l.self

abbrev pub decreases-loop-done : goal.decreases-loop-done
decreases-loop-done l = l.most - l.done
