use Rattle.std.proofs.Common.{◌≡◌, ◌++◌, List, length}
use Rattle.wl_record_core.specs.declared.record.Record.{Record}
use Rattle.wl_record.specs.Parsing.{TakesLines}
use Rattle.wl_record.proofs.parse.take_lines.Given as goal

abbrev pub invariant-loop-told : goal.invariant-loop-told
invariant-loop-told l = (rs : List Record) × TakesLines l.limits l.bytes rs l.rest × (l.records.items ≡ l.fn.records.items ++ rs)

abbrev pub decreases-loop-told : goal.decreases-loop-told
decreases-loop-told l = length l.rest
