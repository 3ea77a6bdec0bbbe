use Rattle.std.proofs.Common.{◌≡◌, take}
use Rattle.wl_record_core.specs.Text.{text_of}
use Rattle.wl_record.proofs.write.text_of.Given as goal

abbrev pub invariant-loop-told : goal.invariant-loop-told
invariant-loop-told l = l.text.items ≡ text_of (take l.told-index l.records)
