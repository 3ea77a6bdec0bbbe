use Rattle.wl_counts.proofs.Instances.{one_is_enough}
use Rattle.wl_counts.proofs.laws.one_window_is_enough_for_each_instance.Goals as goal

pub returns : goal.returns
returns c = λ t period w r own grows enough. one_is_enough t period w r own grows enough
