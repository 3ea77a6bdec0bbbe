use Rattle.std.proofs.Common.{◌≡◌, take, fold, max, length}
use Rattle.wl_traffic.proofs.reason.most_passed.Given as goal

-- the most so far
abbrev pub invariant-loop-node : goal.invariant-loop-node
invariant-loop-node l = l.most ≡ fold (λ most n. max most (length n.frames)) 0 (take l.node-index l.nodes)
