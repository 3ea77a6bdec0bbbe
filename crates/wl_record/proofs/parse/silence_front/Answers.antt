use Rattle.wl_record.proofs.ParseLemmas.{silence_found, silence_none}
use Rattle.wl_record.proofs.parse.silence_front.Goals as goal

pub returns-in_default-clause-none : goal.returns-in_default-clause-none
returns-in_default-clause-none c = silence_none _ c.in_default.ensures.none

pub returns-clause-found : goal.returns-clause-found
returns-clause-found c = silence_found c.args.limits _ _ _ c.in-Some.node c.in-Some.count c.in-Some.until c.in-Some.ensures.found c.silence.ensures
