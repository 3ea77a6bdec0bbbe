use Rattle.std.proofs.Common.{◌≡◌, take}
use Rattle.wl_group.specs.GroupValue.{with_records}
use Rattle.wl_mail.specs.Handed.{TellsNews}
use Rattle.wl_mail.proofs.hand_over.take_all.Given as goal

abbrev pub invariant-loop-i : goal.invariant-loop-i
invariant-loop-i l = (l.group ≡ with_records (take l.i l.records) l.fn.group) × TellsNews l.fn.group l.group l.changed
