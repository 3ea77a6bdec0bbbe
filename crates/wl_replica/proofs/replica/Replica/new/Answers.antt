use Rattle.std.proofs.Common.{◌≡◌, length, refl, rules, arith}
use Rattle.std.proofs.lemmas.Grind.{common_steps}
use Rattle.wl_replica.proofs.RunsTaken.{nothing_runs}
use Rattle.wl_replica.proofs.replica.Replica.new.Goals as goal

pub invariant_of-result : goal.invariant_of-result
invariant_of-result c =
    let count : length c.resize.new.self.items ≡ c.args.nodes = first_of (search rules, grind (arith, common_steps)) in
    nothing_runs c.args.nodes c.in_ok-new.field-0 c.in_ok-new.ensures c.resize.new.self.items count
    (λ i d lt. c.in_ok-resize.ensures.by_index.1 i d refl (omega (arith, c.new-runs.ensures.len)) lt)
