-- What the machine does is what it does after that past.
use Rattle.wl_trace.specs.Replay.{IsSampledNode, past_after}
use Rattle.wl_trace.proofs.sampled_node.SampledNode.take.Goals as goal

pub returns-clause-past : goal.returns-clause-past
returns-clause-past c p r = c.sample_at.ensures p r

pub returns-clause-doing : goal.returns-clause-doing
returns-clause-doing c p r =
    let after : IsSampledNode c.args.setup.now c.sample_at.new.self (past_after c.args.setup.now p (c.args.quantum, c.args.level)) = c.sample_at.ensures p r in
    c.doing.ensures (past_after c.args.setup.now p (c.args.quantum, c.args.level)).inputs after.machine
