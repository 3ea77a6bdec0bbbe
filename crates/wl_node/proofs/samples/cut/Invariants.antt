use Rattle.std.proofs.Common.{◌≡◌, length, take}
use Rattle.wl_node.specs.Runs.{samples_by}
use Rattle.wl_node.proofs.samples.cut.Given as goal

-- only samples that are not to be kept have left
abbrev pub invariant-loop-left : goal.invariant-loop-left
invariant-loop-left l = (take l.most (samples_by l.runs.items) ≡ take l.most (samples_by l.fn.runs.items)) × (l.left ≡ length (samples_by l.runs.items))

abbrev pub decreases-loop-left : goal.decreases-loop-left
decreases-loop-left l = length l.runs.items
