use Rattle.wl_plan.specs.PlanLine.{setup_at}
use Rattle.wl_respond.specs.Plans.{GoInOrder, HasMessages, eleventh_sample}
use Rattle.wl_respond.proofs.Ordered.{goes_in_order, in_order, one_more}
use Rattle.wl_respond.proofs.plan.keeps_table.Goals as goal

pub loop-i-preserved : goal.loop-i-preserved
loop-i-preserved c =
    let messages = c.args.messages.now in
    let plan = c.args.plan.now in
    one_more c.loop-i.keeps c.node_keeps-here.result c.both-keeps.result c.loop-i.i
    (λ j. HasMessages messages j (eleventh_sample plan j) (setup_at plan j).queue)
    (λ j. GoInOrder messages j (eleventh_sample plan j) (setup_at plan j).queue) c.both-keeps.ensures
    (λ j go. in_order messages j (eleventh_sample plan j) (setup_at plan j).queue go) (λ j has. goes_in_order messages j (eleventh_sample plan j) (setup_at plan j).queue has)
    c.loop-i.invariant c.node_keeps-here.ensures
