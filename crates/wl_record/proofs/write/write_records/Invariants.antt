use Rattle.std.proofs.Common.{◌≡◌, ◌≤◌, ◌++◌, take, ℕ, List}
use Rattle.wl_device.specs.Limits.{most_calls}
use Rattle.wl_device.specs.Devices.{Answer}
use Rattle.wl_record_core.specs.Text.{text_of}
use Rattle.wl_device.proofs.Runs.{SoFar}
use Rattle.wl_record.proofs.write.write_records.Given as goal

abbrev pub invariant-loop-told : goal.invariant-loop-told
invariant-loop-told g l = (answers : List Answer) × (sent : List ℕ) × SoFar g.W.Sink.takes l.fn.writer sent l.calls l.writer answers × (sent ++ take l.filled l.chunk ≡ text_of (take l.told-index l.records)) × (l.filled ≤ 4096) × (l.calls ≤ most_calls)
