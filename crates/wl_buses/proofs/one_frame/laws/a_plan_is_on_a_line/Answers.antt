use Rattle.wl_buses.proofs.OneFrame.Planned.{on_a_line}
use Rattle.wl_buses.proofs.one_frame.laws.a_plan_is_on_a_line.Goals as goal

pub returns : goal.returns
returns c = λ plan s is. on_a_line plan s is
