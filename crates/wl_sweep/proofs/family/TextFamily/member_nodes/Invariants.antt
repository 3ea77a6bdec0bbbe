use Rattle.std.proofs.Common.{◌≡◌, ◌++◌, drop}
use Rattle.std.specs.List.{enumerate_from}
use Rattle.wl_sweep.specs.Family.{member_nodes}
use Rattle.wl_sweep.proofs.family.TextFamily.member_nodes.Given as goal

abbrev pub invariant-loop-i : goal.invariant-loop-i
invariant-loop-i l = l.nodes ++ member_nodes l.self.free l.self.step l.draws (enumerate_from l.i (drop l.i l.self.text.node)) ≡ member_nodes l.self.free l.self.step l.initial.draws (enumerate_from 0 l.self.text.node)
