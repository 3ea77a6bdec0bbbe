use Rattle.wl_worker.proofs.Took.{silence_there}
use Rattle.wl_worker.proofs.fetch.learn_silence.Goals as goal

pub returns-clause-known : goal.returns-clause-known
returns-clause-known c = silence_there c.slots_of_states.ensures c.args.group.now c.take.new.self c.args.node c.args.count c.args.until c.in_ok-take.ensures.ok
