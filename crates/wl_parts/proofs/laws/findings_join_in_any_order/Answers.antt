use Rattle.wl_parts.proofs.Joining.{joins_in_any_order}
use Rattle.wl_parts.proofs.laws.findings_join_in_any_order.Goals as goal

pub returns : goal.returns
returns c = joins_in_any_order
