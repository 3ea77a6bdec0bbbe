use Rattle.std.proofs.Common.{◌≡◌, ◌++◌, ◌-◌, ℕ, List}
use Rattle.wl_device.specs.Devices.{Answer}
use Rattle.wl_device.proofs.Runs.{SoFar}
use Rattle.wl_device.proofs.device.send.Given as goal

abbrev pub invariant-loop-made : goal.invariant-loop-made
invariant-loop-made g l = (answers : List Answer) × (sent : List ℕ) × SoFar g.W.Sink.takes l.fn.writer sent (l.made - l.calls) l.writer answers × (sent ++ l.rest ≡ l.piece)
