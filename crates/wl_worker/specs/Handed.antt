-- What a link hands to a group. This project's profile; for a reader who knows simulation: the messages of other processes that have
-- arrived, in any number and order (Chandy and Misra 1979).
use Rattle.wl_group.specs.GroupValue.{GroupValue}
pub use Rattle.wl_mail.specs.Truth.{AreTrueOfPlan}
pub use Rattle.wl_mail.specs.Handed.{Took, TellsNews}

-- a group that is as it was took no records
abbrev pub NothingIsTaken : Type 0
NothingIsTaken = (group : GroupValue) → Took group group
