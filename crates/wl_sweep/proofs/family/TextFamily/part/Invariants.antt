use Rattle.std.proofs.Common.{◌≡◌, ◌-◌}
use Rattle.wl_sweep.specs.Tallies.{findings_from, tally_of}
use Rattle.wl_sweep.proofs.family.TextFamily.part.Given as goal

abbrev pub invariant-loop-run : goal.invariant-loop-run
invariant-loop-run l = l.tally ≡ tally_of (findings_from l.self.options l.self.text l.from (l.run - l.from))
