use Rattle.wl_node.proofs.Gone.{gone_more, stands_more}
use Rattle.wl_node.proofs.staying_node.StayingNode.whole_idle_bits_or_to_sample.Goals as goal

pub returns-clause-gone : goal.returns-clause-gone
returns-clause-gone c =
    gone_more c.args.level c.whole_idle_bits-rested.result c.to_sample.result c.args.self.now c.whole_idle_bits-rested.new.self c.to_sample.new.self
    c.whole_idle_bits-rested.ensures.gone c.whole_idle_bits-rested.ensures.stands c.to_sample.ensures.gone

pub returns-clause-stands : goal.returns-clause-stands
returns-clause-stands c =
    stands_more c.args.level c.whole_idle_bits-rested.result c.to_sample.result c.args.self.now c.whole_idle_bits-rested.new.self c.to_sample.new.self
    c.whole_idle_bits-rested.ensures.gone c.whole_idle_bits-rested.ensures.stands c.to_sample.ensures.gone c.to_sample.ensures.stands
