use Rattle.std.proofs.Common.{◌≡◌, ◌<◌, length}
use Rattle.std.specs.Prelude.{IfSome}
use Rattle.wl_level.specs.Places.{first_place}
use Rattle.wl_respond.specs.Senders.{is_of_node}
use Rattle.wl_respond.proofs.senders.first_of_node.Given as goal

-- the first of those so far
abbrev pub invariant-loop-e : goal.invariant-loop-e
invariant-loop-e l = (l.first ≡ first_place (is_of_node l.messages l.i) l.e) × IfSome l.first (λ e. e < length l.messages)
