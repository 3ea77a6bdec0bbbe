use Rattle.std.proofs.Common.{[]}
use Rattle.wl_record.proofs.ParseLemmas.{spelled_begins}
use Rattle.wl_record.proofs.LineLemmas.{no_line_before}
use Rattle.wl_device.proofs.Runs.{some_left}
use Rattle.wl_record.proofs.parse.parse_line.Goals as goal

pub returns-in_default-clause-fault : goal.returns-in_default-clause-fault
returns-in_default-clause-fault c = λ r s. c.in_default.ensures.none r [] (spelled_begins c.args.line.now r s)

pub returns-then-not-is_empty-clause-fault : goal.returns-then-not-is_empty-clause-fault
returns-then-not-is_empty-clause-fault c = no_line_before c.args.limits c.args.line.now c.in-Some.told c.in-Some.rest.now c.in-Some.ensures.found (some_left c.in-Some.rest.now c.is_empty.result c.is_empty.ensures c.if-not-is_empty.true)
