use Rattle.std.proofs.Common.{◌≡◌, take, map}
use Rattle.wl_bound.specs.Rooms.{plain_bus}
use Rattle.wl_respond.specs.Asks.{asked_of}
use Rattle.wl_respond.proofs.asked.all_asked.Given as goal

abbrev pub invariant-loop-message : goal.invariant-loop-message
invariant-loop-message l = l.all ≡ map (asked_of (plain_bus l.family) l.any l.text) (take l.message-index l.messages)
