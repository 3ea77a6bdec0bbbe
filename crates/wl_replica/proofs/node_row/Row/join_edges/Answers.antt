use Rattle.std.proofs.Common.{refl, arith}
use Rattle.wl_lattice.specs.Numbers.{joined_numbers}
use Rattle.wl_replica.proofs.RowSteps.{one_place_more, all_places}
use Rattle.wl_replica.proofs.node_row.Row.join_edges.Goals as goal

pub loop-at-init : goal.loop-at-init
loop-at-init c = record { same = refl; below = λ n lt. absurd (omega arith); from = λ n le. refl }

pub join_number-requires : goal.join_number-requires
join_number-requires c = omega (arith, c.loop-at.invariant.same, c.loop-at-test.true, c.len-at-end.ensures.value, c.requires)

pub loop-at-preserved : goal.loop-at-preserved
loop-at-preserved c =
    one_place_more joined_numbers c.args.self.now c.args.other.now c.loop-at.self c.loop-at.at c.loop-at.invariant c.join_number.new.self c.number.result c.number.ensures c.join_number.ensures.value c.join_number.ensures.same

pub returns-clause-joined : goal.returns-clause-joined
returns-clause-joined c =
    all_places joined_numbers c.args.self.now c.args.other.now c.loop-at.self c.loop-at.at c.loop-at.invariant (λ a. refl) (omega (arith, c.loop-at-test.false, c.len-at-end.ensures.value))

pub returns-clause-same : goal.returns-clause-same
returns-clause-same c = c.loop-at.invariant.same
