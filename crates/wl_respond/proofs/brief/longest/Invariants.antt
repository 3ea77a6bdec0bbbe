use Rattle.std.proofs.Common.{◌≡◌, ◌<◌, length}
use Rattle.std.specs.Prelude.{IfSome}
use Rattle.wl_respond.specs.Briefs.{longest_below}
use Rattle.wl_respond.proofs.brief.longest.Given as goal

-- the longest of those so far
abbrev pub invariant-loop-e : goal.invariant-loop-e
invariant-loop-e l = (l.first ≡ longest_below l.lines l.e) × IfSome l.first (λ k. k < length l.lines)
