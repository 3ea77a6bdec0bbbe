use Rattle.wl_record.proofs.ParseLemmas.{edge_found, edge_none}
use Rattle.wl_record.proofs.parse.edge_front.Goals as goal

pub returns-in_default-clause-none : goal.returns-in_default-clause-none
returns-in_default-clause-none c = edge_none _ c.in_default.ensures.none

pub returns-clause-found : goal.returns-clause-found
returns-clause-found c = edge_found c.args.limits _ _ _ c.in-Some.node c.in-Some.seq c.in-Some.tick c.in-Some.ensures.found c.edge.ensures
