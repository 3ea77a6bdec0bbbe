-- The nodes keep their samples as the first ones did.
use Rattle.wl_serial.proofs.engine.simulate.Goals as goal

pub returns-clause-keeps : goal.returns-clause-keeps
returns-clause-keeps c = c.in_ok-run.ensures.keeps c.args.keeps c.in_ok-engine.ensures.keeps
