use Rattle.std.proofs.Common.{◌≡◌, List, ◌++◌, take}
use Rattle.wl_record_core.specs.declared.record.Record.{Record}
use Rattle.wl_replica.specs.State.{state_of}
use Rattle.wl_engines.proofs.gather.take_batch.Given as goal

-- what was taken so far is in
abbrev pub invariant-loop-told : goal.invariant-loop-told
invariant-loop-told l =
    (l.rows.nodes ≡ l.initial.rows.nodes)
    × ((before : List Record) → l.initial.rows ≡ state_of l.initial.rows.nodes before → l.rows ≡ state_of l.initial.rows.nodes (before ++ take l.told-index l.batch))
