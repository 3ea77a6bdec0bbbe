use Rattle.std.proofs.Common.{◌≡◌, take, map}
use Rattle.wl_bound.specs.Rooms.{plain_bus}
use Rattle.wl_respond.specs.Tests.{row_for}
use Rattle.wl_respond.proofs.message.rows.Given as goal

abbrev pub invariant-loop-message : goal.invariant-loop-message
invariant-loop-message l = l.rows ≡ map (row_for (plain_bus l.family) l.times) (take l.message-index l.messages)
