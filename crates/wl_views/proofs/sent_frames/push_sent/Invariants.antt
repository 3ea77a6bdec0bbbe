use Rattle.std.proofs.Common.{◌≡◌, ◌++◌, take}
use Rattle.wl_views.specs.SentFrames.{sent_by}
use Rattle.wl_views.proofs.sent_frames.push_sent.Given as goal

-- those of the frames so far stand after the others
abbrev pub invariant-loop-passed : goal.invariant-loop-passed
invariant-loop-passed l = l.sent.items ≡ l.initial.sent.items ++ sent_by l.clock (take l.passed-index l.frames)
