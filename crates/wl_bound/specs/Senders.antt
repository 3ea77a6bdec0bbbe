-- The setting in which one node alone sends. This project's.
use Rattle.std.specs.Prelude.{ℕ}
use Rattle.wl_bound.specs.declared.family.Setting.{Setting}
use Rattle.wl_bound.specs.declared.family.Source.TheVariants.{Alone}
use Rattle.wl_bound.specs.Conditions.{plain}

-- the plan's own cable and tolerances, and this node alone sends
abbrev pub lone_sender : ℕ → Setting
lone_sender k = record plain { source = Alone k }
