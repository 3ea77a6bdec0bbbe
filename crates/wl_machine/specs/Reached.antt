-- Where a machine is, by all that reached it.
use Rattle.std.specs.Prelude.{List}
use Rattle.wl_machine.specs.declared.Machine.{Machine}
use Rattle.wl_machine.specs.Stretch.{Input}
use Rattle.wl_machine.specs.States.{IsReachedBy}

-- the machine is where this list of samples and switchings off puts it
abbrev pub IsMachine : Machine → List Input → Type 0
IsMachine machine past = IsReachedBy machine.progress past
