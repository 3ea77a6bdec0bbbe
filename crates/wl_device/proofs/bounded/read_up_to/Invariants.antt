use Rattle.std.proofs.Common.{◌≤◌, List, length}
use Rattle.wl_device.specs.Devices.{Answer}
use Rattle.wl_device.proofs.Runs.{SoFar}
use Rattle.wl_device.proofs.bounded.read_up_to.Given as goal

-- what was read came in answers that went on, and is no more than was to come
abbrev pub invariant-loop : goal.invariant-loop
invariant-loop g l = (answers : List Answer) × SoFar g.R.Source.gives l.fn.reader l.text.items l.counter l.reader answers × (length l.text.items ≤ l.most)
