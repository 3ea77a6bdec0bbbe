-- The quanta that are passed at once, or else some more.
use Rattle.std.proofs.Common.{◌≡◌, ◌+◌, ◌-◌, arith, subst}
use Rattle.wl_node.specs.Staying.{StayingHasStopped}
use Rattle.wl_node.proofs.Gone.{gone_more, on_err, stopped_more}
use Rattle.wl_node.proofs.staying_node.StayingNode.to_sample_or_event.Goals as goal

pub returns-in_err-through_event-clause-stopped : goal.returns-in_err-through_event-clause-stopped
returns-in_err-through_event-clause-stopped c =
    on_err c.from_residual.result
    (subst (λ n. StayingHasStopped c.args.level n c.args.self.now c.through_event.new.self)
    (let e : c.whole_idle_bits_or_to_sample-passed.result + (c.args.most - c.whole_idle_bits_or_to_sample-passed.result) ≡ c.args.most = omega (arith, c.whole_idle_bits_or_to_sample-passed.ensures.few) in e)
    (stopped_more c.args.level c.whole_idle_bits_or_to_sample-passed.result (c.args.most - c.whole_idle_bits_or_to_sample-passed.result) c.args.self.now c.whole_idle_bits_or_to_sample-passed.new.self c.through_event.new.self
    c.whole_idle_bits_or_to_sample-passed.ensures.gone c.whole_idle_bits_or_to_sample-passed.ensures.stands c.in_err-through_event.ensures.stopped))

pub returns-clause-gone : goal.returns-clause-gone
returns-clause-gone c =
    gone_more c.args.level c.whole_idle_bits_or_to_sample-passed.result c.in_ok-through_event.field-0 c.args.self.now c.whole_idle_bits_or_to_sample-passed.new.self c.through_event.new.self
    c.whole_idle_bits_or_to_sample-passed.ensures.gone c.whole_idle_bits_or_to_sample-passed.ensures.stands c.in_ok-through_event.ensures.gone
