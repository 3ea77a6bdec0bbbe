use Rattle.std.proofs.Common.{◌≡◌, ◌-◌, List}
use Rattle.wl_record_core.specs.declared.record.Record.{Record}
use Rattle.wl_device.specs.Devices.{Answer}
use Rattle.wl_device.specs.Limits.{most_calls}
use Rattle.wl_record.specs.Reading.{HasRead}
use Rattle.wl_engines.specs.Gather.{state_of_all}
use Rattle.wl_engines.proofs.gather.gather.Given as goal

-- the rows are the state of all records that were read so far
abbrev pub invariant-pieces : goal.invariant-pieces
invariant-pieces g l =
    (told : List Record) × (l.rows ≡ state_of_all l.fn.limits told) × (answers : List Answer) × HasRead g.R.Source.gives l.fn.reader answers told l.input l.reader × (l.input.limits ≡ l.fn.limits)

abbrev pub decreases-pieces : goal.decreases-pieces
decreases-pieces g l = most_calls - l.input.calls
