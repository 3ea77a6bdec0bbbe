use Rattle.std.proofs.Common.{◌≡◌, ◌*◌, ◌≤◌, take}
use Rattle.std.specs.List.{sum_by}
use Rattle.wl_explain.specs.Doubts.{frame_bits}
use Rattle.wl_explain.proofs.doubts.queue_bits.Given as goal

-- the frames so far have so many bits
abbrev pub invariant-loop-waiting : goal.invariant-loop-waiting
invariant-loop-waiting l =
    (l.bits ≡ sum_by (λ w. frame_bits w.frame) (take l.waiting-index l.waiting-items)) × (l.bits ≤ 131 * l.waiting-index)
