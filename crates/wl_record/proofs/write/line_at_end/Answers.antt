use Rattle.std.proofs.Common.{arith}
use Rattle.wl_record.proofs.WriteLemmas.{edge_line, clash_line, silence_line}
use Rattle.wl_record.proofs.write.line_at_end.Goals as goal

pub returns-in-Edge-clause-put : goal.returns-in-Edge-clause-put
returns-in-Edge-clause-put c = edge_line _ _ _ _ c.args.line.now _ _ _ c.in-Edge.is (omega arith) c.put_before-end.ensures.put c.field_before-end.ensures.put c.place_before.ensures.put

pub returns-in-Clash-clause-put : goal.returns-in-Clash-clause-put
returns-in-Clash-clause-put c = clash_line _ _ _ c.args.line.now _ _ c.in-Clash.is (omega arith) c.put_before-end.ensures.put c.place_before-in-Clash.ensures.put

pub returns-in-Silence-clause-put : goal.returns-in-Silence-clause-put
returns-in-Silence-clause-put c = silence_line _ _ _ _ c.args.line.now _ _ _ c.in-Silence.is (omega arith) c.put_before-end.ensures.put c.field_before-end-in-Silence.ensures.put c.place_before-in-Silence.ensures.put
