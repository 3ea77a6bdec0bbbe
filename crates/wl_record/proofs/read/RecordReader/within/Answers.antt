use Rattle.std.proofs.Common.{sym}
use Rattle.wl_record.proofs.ReadLemmas.{new_piece}
use Rattle.wl_record.proofs.read.RecordReader.within.Goals as goal

pub invariant_of-result : goal.invariant_of-result
invariant_of-result c = new_piece c.in_ok-vec.field-0.items c.in_ok-vec.field-0.len (sym c.in_ok-vec.field-0.ok.0) c.in_ok-vec.ensures.len
