-- What was heard began no later than the next quantum.
use Rattle.std.proofs.Common.{arith}
use Rattle.wl_serial.proofs.Known.{one_of}
use Rattle.wl_serial.proofs.line_at.LineAt.refresh.Goals as goal

pub returns-else-self-t-clause-from : goal.returns-else-self-t-clause-from
returns-else-self-t-clause-from c =
    let r = one_of c.args.running.now c.args.j (omega (arith, c.requires.node, c.requires.somewhere.all)) in
    let begun = c.requires.heard.begun r in
    let next = c.requires.next r in
    omega (arith, begun, next)
