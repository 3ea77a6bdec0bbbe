use Rattle.std.proofs.Common.{max, refl, arith}
use Rattle.wl_replica.proofs.RowSteps.{one_place_more, all_places}
use Rattle.wl_replica.proofs.node_row.Row.join_silences.Goals as goal

pub loop-at-init : goal.loop-at-init
loop-at-init c = record { same = refl; below = λ n lt. absurd (omega arith); from = λ n le. refl }

pub join_silence-requires : goal.join_silence-requires
join_silence-requires c = omega (arith, c.loop-at.invariant.same, c.loop-at-test.true, c.len-at-end.ensures.value, c.requires)

pub loop-at-preserved : goal.loop-at-preserved
loop-at-preserved c =
    one_place_more max c.args.self.now c.args.other.now c.loop-at.self c.loop-at.at c.loop-at.invariant c.join_silence.new.self c.number.result c.number.ensures c.join_silence.ensures.value c.join_silence.ensures.same

pub returns-clause-joined : goal.returns-clause-joined
returns-clause-joined c =
    all_places max c.args.self.now c.args.other.now c.loop-at.self c.loop-at.at c.loop-at.invariant (λ a. omega arith) (omega (arith, c.loop-at-test.false, c.len-at-end.ensures.value))

pub returns-clause-same : goal.returns-clause-same
returns-clause-same c = c.loop-at.invariant.same
