use Rattle.std.proofs.Common.{◌≡◌}
use Rattle.test_replica.proofs.row.answers_of.Given as goal

abbrev pub invariant-loop-step : goal.invariant-loop-step
invariant-loop-step g l = (g.F.Form.count l.first ≡ 64) × (g.F.Form.count l.second ≡ 64)
