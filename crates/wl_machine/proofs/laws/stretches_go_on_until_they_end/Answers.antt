use Rattle.wl_machine.specs.Stretch.Input.{SwitchedOff}
use Rattle.wl_machine.proofs.Cut.{goes_on_with, ends_with}
use Rattle.wl_machine.proofs.Runs.{stretch_next}
use Rattle.wl_machine.proofs.laws.stretches_go_on_until_they_end.Goals as goal

pub returns : goal.returns
returns c = record { on = goes_on_with; end = ends_with; off = λ past. stretch_next past SwitchedOff }
