-- What a group emitted is true of its plan.
use Rattle.wl_group.specs.GroupValue.{GroupValue, IsGroupValue}
use Rattle.wl_mail.specs.Truth.{AreTrueOfPlan}

pub emitted_true : (g : GroupValue) → IsGroupValue g → AreTrueOfPlan g.plan g.emitted
emitted_true g is = is.emitted_true
