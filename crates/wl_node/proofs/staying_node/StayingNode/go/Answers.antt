-- The quanta in which the node only listens, and those after them.
use Rattle.std.proofs.Common.{◌≡◌, ◌+◌, ◌-◌, arith, subst}
use Rattle.wl_node.specs.Staying.{StayingHasStopped}
use Rattle.wl_node.proofs.Gone.{gone_more, on_err, stopped_more, turns_more}
use Rattle.wl_node.proofs.staying_node.StayingNode.go.Goals as goal

pub returns-in_err-to_drive_change-clause-stopped : goal.returns-in_err-to_drive_change-clause-stopped
returns-in_err-to_drive_change-clause-stopped c =
    on_err c.from_residual.result
    (subst (λ n. StayingHasStopped c.args.level n c.args.self.now c.to_drive_change.new.self)
    (let e : c.to_unkept_sample-heard.result + (c.args.most - c.to_unkept_sample-heard.result) ≡ c.args.most = omega (arith, c.to_unkept_sample-heard.ensures.few) in e)
    (stopped_more c.args.level c.to_unkept_sample-heard.result (c.args.most - c.to_unkept_sample-heard.result) c.args.self.now c.to_unkept_sample-heard.new.self c.to_drive_change.new.self
    c.to_unkept_sample-heard.ensures.gone c.to_unkept_sample-heard.ensures.stands c.in_err-to_drive_change.ensures.stopped))

pub returns-clause-gone : goal.returns-clause-gone
returns-clause-gone c =
    gone_more c.args.level c.to_unkept_sample-heard.result c.in_ok-to_drive_change.field-0 c.args.self.now c.to_unkept_sample-heard.new.self c.to_drive_change.new.self
    c.to_unkept_sample-heard.ensures.gone c.to_unkept_sample-heard.ensures.stands c.in_ok-to_drive_change.ensures.gone

pub returns-clause-turned : goal.returns-clause-turned
returns-clause-turned c less =
    turns_more c.args.level c.to_unkept_sample-heard.result c.in_ok-to_drive_change.field-0 c.args.self.now c.to_unkept_sample-heard.new.self c.to_drive_change.new.self
    c.to_unkept_sample-heard.ensures.gone c.to_unkept_sample-heard.ensures.stands c.in_ok-to_drive_change.ensures.gone (c.in_ok-to_drive_change.ensures.turned (omega (arith, less)))
