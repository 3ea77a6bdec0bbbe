use Rattle.std.proofs.Common.{◌≡◌, ◌-◌, List}
use Rattle.wl_device.specs.Limits.{most_calls}
use Rattle.wl_device.specs.Devices.{Answer}
use Rattle.wl_record.specs.Reading.{HasRead}
use Rattle.wl_record.proofs.read.read_records_within.Given as goal

abbrev pub invariant-loop-records : goal.invariant-loop-records
invariant-loop-records g l = (answers : List Answer) × HasRead g.R.Source.gives l.fn.reader answers l.records.items l.text l.reader × (l.text.limits ≡ l.fn.limits)

abbrev pub decreases-loop-records : goal.decreases-loop-records
decreases-loop-records g l = most_calls - l.text.calls
