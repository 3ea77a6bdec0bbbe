use Rattle.std.proofs.Common.{◌≡◌, [], take}
use Rattle.wl_node.specs.declared.setup.QueueOrder.TheVariants.{Priority}
use Rattle.wl_node.specs.Unsent.{IsUnsent}
use Rattle.wl_node.proofs.unsent.Unsent.send_again.Given as goal

abbrev pub invariant-loop-k : goal.invariant-loop-k
invariant-loop-k l = (l.self.place ≡ l.initial.self.place)
    × (l.fn.setup.order ≡ Priority → IsUnsent l.fn.setup l.initial.self [] → IsUnsent l.fn.setup l.self (take l.k l.fn.passed))
