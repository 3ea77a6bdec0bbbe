use Rattle.std.proofs.Common.{arith, sym}
use Rattle.wl_trace.proofs.Taken.{past_arbitration}
use Rattle.wl_trace.proofs.stretch.is_lost.Goals as goal

pub returns-then-bits-gt-EXTENDED_RTR : goal.returns-then-bits-gt-EXTENDED_RTR
returns-then-bits-gt-EXTENDED_RTR c head sent kept =
    sym (past_arbitration head c.args.own.now c.args.bits.now c.args.level kept (omega (arith, c.if-bits-gt-EXTENDED_RTR.true)))
