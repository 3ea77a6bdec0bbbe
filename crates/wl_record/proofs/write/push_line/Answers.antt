use Rattle.std.proofs.Common.{arith, ap, sym, ◌∙◌, ◌≡◌, ◌-◌, length, drop, length-drop}
use Rattle.std.proofs.lemmas.List.{take_all}
use Rattle.wl_record_core.specs.Text.{text_line}
use Rattle.wl_record.proofs.WriteLemmas.{put_behind}
use Rattle.wl_record.proofs.write.push_line.Goals as goal

pub returns-clause-put : goal.returns-clause-put
returns-clause-put c =
    let size : length (drop c.line_at_end-at.result c.line_at_end-at.new.line) ≡ 40 - c.line_at_end-at.result = omega (arith, length-drop c.line_at_end-at.result c.line_at_end-at.new.line, c.line_at_end-at.array_long) in
    let piece = take_all (40 - c.line_at_end-at.result) (drop c.line_at_end-at.result c.line_at_end-at.new.line) (omega (arith, size)) in
    put_behind c.args.filled (40 - c.line_at_end-at.result) c.args.chunk.now c.copy_from_slice.new.self (text_line c.args.told.now) _ (omega arith) (omega (arith, c.requires)) (c.copy_from_slice.ensures.after ∙ (piece ∙ c.line_at_end-at.ensures.put)) (sym (ap length c.line_at_end-at.ensures.put) ∙ size)
