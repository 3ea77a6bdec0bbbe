use Rattle.wl_print.proofs.PlanBack.{printed_after}
use Rattle.wl_print.proofs.laws.printed_after_comment.Goals as goal

pub returns : goal.returns
returns c = printed_after
