-- Where the drives are known further, which node goes next stays, and no more ticks are left.
use Rattle.wl_serial.proofs.engine.Engine.plain.Goals as goal

pub turn-requires-clause-next : goal.turn-requires-clause-next
turn-requires-clause-next c = c.rest.ensures.lifted.next c.args.j c.requires.next

pub returns-clause-keeps : goal.returns-clause-keeps
returns-clause-keeps c k all = c.turn.ensures.keeps k (c.rest.ensures.keeps k all)
