use Rattle.std.proofs.Common.{arith, ◌+◌}
use Rattle.wl_record.specs.Limits.{most_line, most_line-is}
use Rattle.wl_record.proofs.LineLemmas.{no_newline_to}
use Rattle.wl_record.proofs.parse.newline_at.Goals as goal

pub returns-then-bytes-at-eq10-clause-found : goal.returns-then-bytes-at-eq10-clause-found
returns-then-bytes-at-eq10-clause-found c = (omega (arith, most_line-is), omega arith, c.loop-at.invariant, c.if-bytes-at-eq10.true)

pub returns-clause-none : goal.returns-clause-none
returns-clause-none c = no_newline_to c.args.bytes.now c.loop-at.at (most_line + 1) (omega (arith, most_line-is)) (omega (arith, most_line-is)) c.loop-at.invariant
