use Rattle.std.proofs.Common.{◌≡◌, drop}
use Rattle.std.specs.List.{enumerate_from, list_any}
use Rattle.wl_apply.specs.Labels.{fits_node, is_for_some}
use Rattle.wl_apply.proofs.labels.is_for_some.Given as goal

abbrev pub invariant-loop-i : goal.invariant-loop-i
invariant-loop-i l = list_any (fits_node l.labels l.chosen) (enumerate_from l.i (drop l.i l.nodes)) ≡ is_for_some l.labels l.nodes l.chosen
