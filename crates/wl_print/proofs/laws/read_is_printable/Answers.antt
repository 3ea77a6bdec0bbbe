use Rattle.wl_print.proofs.PlanRead.{read_is_printable}
use Rattle.wl_print.proofs.laws.read_is_printable.Goals as goal

pub returns : goal.returns
returns c = read_is_printable
