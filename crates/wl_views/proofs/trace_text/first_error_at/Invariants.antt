use Rattle.std.proofs.Common.{◌≡◌, drop}
use Rattle.wl_views.specs.TraceText.{first_error_at}
use Rattle.wl_views.proofs.trace_text.first_error_at.Given as goal

-- the first error is one of those that are left
abbrev pub invariant-loop-tick : goal.invariant-loop-tick
invariant-loop-tick l = first_error_at (drop l.tick-index l.told) ≡ first_error_at l.told
