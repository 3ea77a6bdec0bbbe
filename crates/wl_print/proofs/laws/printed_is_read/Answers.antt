use Rattle.wl_print.proofs.PlanBack.{printed_document}
use Rattle.wl_print.proofs.laws.printed_is_read.Goals as goal

pub returns : goal.returns
returns c = printed_document
