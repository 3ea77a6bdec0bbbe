use Rattle.std.proofs.Common.{arith, subst, ◌≡◌, get_or, Some}
use Rattle.wl_record.specs.Parsing.{IsRecordFront}
use Rattle.wl_record.proofs.LineLemmas.{front_line, first_and_rest}
use Rattle.wl_record.proofs.parse.plain_line.Goals as goal

pub returns-in-10-clause-told : goal.returns-in-10-clause-told
returns-in-10-clause-told c =
    let more = c.in-Some-Some-default.more.now in
    let head : get_or c.in-Some-Some-default.more.now 0 0 ≡ 10 = omega arith in
    let found : IsRecordFront c.args.limits c.args.bytes.now (Some c.in-Some-Some-default.told) c.in-Some-Some-default.more.now = subst (λ t. IsRecordFront c.args.limits c.args.bytes.now t c.in-Some-Some-default.more.now) c.in-Some-Some-default.field-0-0-is c.in-Some-Some-default.ensures.found in
    front_line c.args.limits c.args.bytes.now c.in-Some-Some-default.told more _ found.0 found.1 (first_and_rest more 10 (omega arith) head)
