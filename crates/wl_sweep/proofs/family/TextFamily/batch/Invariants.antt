use Rattle.std.proofs.Common.{◌≡◌, ◌-◌}
use Rattle.wl_sweep.specs.Tallies.{findings_from, part_start, tally_of}
use Rattle.wl_sweep.proofs.family.TextFamily.batch.Given as goal

abbrev pub invariant-loop-w : goal.invariant-loop-w
invariant-loop-w g l = l.tally ≡ tally_of (findings_from l.self.options l.self.text l.from (part_start l.from l.to l.size l.w - l.from))
