use Rattle.std.proofs.Common.{◌≡◌, ◌^◌, ◌-◌, min}
use Rattle.wl_counts.specs.Counts.{sum_below}
use Rattle.wl_respond.specs.Parts.{share_of_node}
use Rattle.wl_respond.proofs.parts.shares_of_node.Given as goal

abbrev pub invariant-loop-e : goal.invariant-loop-e
invariant-loop-e l = l.shares ≡ min (sum_below (share_of_node l.common.lead l.common.wake l.rows l.own l.m l.it.j l.it.window) l.e) (2 ^ 128 - 1)
