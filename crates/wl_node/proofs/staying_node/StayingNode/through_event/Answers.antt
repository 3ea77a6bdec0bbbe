-- The quanta in which nothing happens, and one more.
use Rattle.std.proofs.Common.{◌<◌, arith}
use Rattle.wl_node.proofs.Gone.{gone_same, gone_one, gone_more, on_err}
use Rattle.wl_node.specs.Staying.{StayingHasStopped}
use Rattle.wl_node.proofs.staying_node.StayingNode.through_event.Goals as goal

pub returns-in_err-prepare-clause-stopped : goal.returns-in_err-prepare-clause-stopped
returns-in_err-prepare-clause-stopped c =
    let few : c.to_event-passed.result < c.args.most = omega (arith, c.to_event-passed.ensures.few, c.if-passed-most.false) in
    let stopped : StayingHasStopped c.args.level c.args.most c.args.self.now c.prepare.new.self = record {
      n = c.to_event-passed.result;
      few = few;
      gone = gone_same c.to_event-passed.ensures.gone c.prepare.ensures.node c.prepare.ensures.setup c.prepare.ensures.quanta c.prepare.ensures.keeps;
      stands = c.to_event-passed.ensures.stands;
    } in
    on_err c.from_residual.result stopped

pub returns-clause-gone : goal.returns-clause-gone
returns-clause-gone c =
    gone_more c.args.level c.to_event-passed.result 1 c.args.self.now c.prepare.new.self c.run.new.self
    (gone_same c.to_event-passed.ensures.gone c.prepare.ensures.node c.prepare.ensures.setup c.prepare.ensures.quanta c.prepare.ensures.keeps)
    c.to_event-passed.ensures.stands (gone_one c.run.ensures.node c.run.ensures.setup c.run.ensures.quanta c.run.ensures.keeps)
