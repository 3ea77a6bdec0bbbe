use Rattle.std.proofs.Common.{◌≡◌, ◌<◌, length}
use Rattle.std.specs.Prelude.{IfSome}
use Rattle.wl_level.specs.Places.{first_place}
use Rattle.wl_respond.specs.Asks.{has_no_period}
use Rattle.wl_respond.proofs.verdict.first_jittered.Given as goal

-- the first of those so far
abbrev pub invariant-loop-e : goal.invariant-loop-e
invariant-loop-e l = (l.first ≡ first_place (has_no_period l.asked) l.e) × IfSome l.first (λ e. e < length l.asked)
