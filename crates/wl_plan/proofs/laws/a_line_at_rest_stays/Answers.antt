-- The law rests on those of lines and of tables.
use Rattle.wl_plan.proofs.RestProofs.{rest_law}
use Rattle.wl_plan.proofs.laws.a_line_at_rest_stays.Goals as goal

pub returns : goal.returns
returns c = rest_law c.driven_laws.ensures c.table_laws.ensures
