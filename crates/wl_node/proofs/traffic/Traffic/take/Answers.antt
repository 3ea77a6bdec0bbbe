-- A sample that isn't only kept leaves all where it was.
use Rattle.wl_node.proofs.traffic.Traffic.take.Goals as goal

pub returns-then-not-keep-clause-traffic : goal.returns-then-not-keep-clause-traffic
returns-then-not-keep-clause-traffic c h n old = c.sample.ensures.traffic h n (c.keep.ensures.same c.if-not-keep.true c.args.setup.now h old)
