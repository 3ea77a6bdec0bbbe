use Rattle.std.proofs.Common.{◌≡◌, take, map}
use Rattle.wl_respond.specs.Asks.{message_in}
use Rattle.wl_respond.proofs.asked.messages_in.Given as goal

abbrev pub invariant-loop-one : goal.invariant-loop-one
invariant-loop-one l = l.messages ≡ map message_in (take l.one-index l.asked)
