use Rattle.wl_worker.proofs.Took.{edge_there}
use Rattle.wl_worker.proofs.fetch.learn_edge.Goals as goal

pub returns-clause-known : goal.returns-clause-known
returns-clause-known c = edge_there c.slots_of_states.ensures c.args.group.now c.take.new.self c.args.node c.args.seq c.args.tick c.in_ok-take.ensures.ok
