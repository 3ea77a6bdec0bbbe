use Rattle.std.proofs.Common.{◌≡◌, take}
use Rattle.wl_delivery.specs.Messages.{message_ticks}
use Rattle.wl_delivery.proofs.message.message_ticks.Given as goal

-- those of the frames so far
abbrev pub invariant-loop-passed : goal.invariant-loop-passed
invariant-loop-passed l = l.ticks.items ≡ message_ticks l.clock l.sent l.frame (take l.passed-index l.frames)
