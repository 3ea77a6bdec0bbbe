use Rattle.std.proofs.Common.{◌≡◌, take}
use Rattle.std.specs.List.{enumerate_from, flat_map}
use Rattle.wl_plan.specs.PlanLine.{setup_at}
use Rattle.wl_views.specs.SentFrames.{sent_by}
use Rattle.wl_views.proofs.sent_frames.all_sent.Given as goal

-- those of the nodes so far
abbrev pub invariant-loop-i : goal.invariant-loop-i
invariant-loop-i l = l.sent.items ≡ flat_map (λ n. sent_by (setup_at l.plan n.0).clock n.1.frames) (enumerate_from 0 (take l.i l.totals))
