use Rattle.std.proofs.Common.{ap, length, arith}
use Rattle.wl_frame.specs.Grammar.{bits_of}
use Rattle.wl_respond.proofs.table.bits_in.Goals as goal

pub returns-clause-within : goal.returns-clause-within
returns-clause-within c = λ y stuffs.
    (let same = ap length (c.a_list_has_one_stuffing.ensures (bits_of c.args.frame.now) y c.stuffed.result.items stuffs c.stuffed.ensures) in
    let long = c.len.ensures.value in
    omega arith)
