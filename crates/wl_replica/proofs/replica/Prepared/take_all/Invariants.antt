use Rattle.std.proofs.Common.{◌≡◌, take}
use Rattle.wl_replica.specs.State.{state_with_records, slots_of}
use Rattle.wl_replica.specs.Runs.{AreRuns}
use Rattle.wl_replica.proofs.replica.Prepared.take_all.Given as goal

-- what was taken so far
abbrev pub invariant-loop-record : goal.invariant-loop-record
invariant-loop-record l = record {
  known : l.rows.known ≡ state_with_records l.fn.self.known (take l.record-index l.told);
  slots : l.rows.slots ≡ l.fn.self.slots;
  runs : AreRuns l.rows.known.nodes (slots_of l.rows.known) l.runs.items;
}
