use Rattle.wl_record.proofs.ParseLemmas.{clash_found, clash_none}
use Rattle.wl_record.proofs.parse.clash_front.Goals as goal

pub returns-in_default-clause-none : goal.returns-in_default-clause-none
returns-in_default-clause-none c = clash_none _ c.in_default.ensures.none

pub returns-clause-found : goal.returns-clause-found
returns-clause-found c = clash_found c.args.limits _ _ _ c.in-Some.node c.in-Some.seq c.in-Some.ensures.found c.clash.ensures
