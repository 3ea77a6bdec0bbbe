use Rattle.std.proofs.Common.{arith, ap, sym, subst, ◌∙◌, ◌≡◌, ◌++◌, take, drop, List, ℕ, append_assoc, length-append, get_or, []}
use Rattle.std.proofs.lemmas.List.{append-nil, take_all}
use Rattle.wl_record_core.specs.declared.record.Record.TheVariants.{Edge}
use Rattle.wl_device.specs.Devices.{Answer}
use Rattle.wl_record_core.specs.Text.{text_line, text_of}
use Rattle.wl_device.proofs.Runs.{SoFar, sent_more, broke_off_after, went_out_after}
use Rattle.wl_record.proofs.WriteLemmas.{text_of-cut, text_of-one}
use Rattle.wl_record.proofs.write.write_records.Goals as goal
use Rattle.wl_record.proofs.write.write_records.Goals.{then-filled-gt-CHUNK+in-Ok, else-filled-gt-CHUNK}

pub returns-in-Err : goal.returns-in-Err
returns-in-Err g c =
    let rs = c.args.records.now in
    let i = c.loop-told.told-index in
    let inv = c.loop-told.invariant in
    let off = c.in-Err.ensures in
    let whole : inv.1 ++ (take c.loop-told.filled c.loop-told.chunk ++ text_of (drop i rs)) ≡ text_of rs = sym (append_assoc inv.1 (take c.loop-told.filled c.loop-told.chunk) (text_of (drop i rs))) ∙ (ap (λ z. z ++ text_of (drop i rs)) inv.3 ∙ text_of-cut i rs) in
    (_, broke_off_after g.W.Sink.takes c.args.writer.now inv.1 c.loop-told.calls c.loop-told.writer inv.0 (take c.loop-told.filled c.loop-told.chunk) (text_of (drop i rs)) (text_of rs) c.send.new.writer off.0 inv.2 off.1 whole)

pub loop-told-preserved : goal.loop-told-preserved
loop-told-preserved g c =
    let takes = g.W.Sink.takes in
    let rs = c.args.records.now in
    let i = c.loop-told.told-index in
    let inv = c.loop-told.invariant in
    let put = c.push_line-filled.ensures.put in
    let line = text_line (get_or c.args.records.now c.loop-told.told-index (Edge 0 0 0)) in
    let one = text_of-one i rs (Edge 0 0 0) c.loop-told-test.true in
    let room = c.push_line-filled.ensures.within in
    let P : ℕ → g.row.W.Denot → List ℕ → List Answer → Type 0 = λ n t sent answers. SoFar takes c.args.writer.now sent n t answers in
    elim c.if-filled-gt-CHUNK.branch [
      | then-filled-gt-CHUNK+in-Ok w ↦
          let out = w.in-Ok.ensures in
          let sent = inv.1 ++ take c.loop-told.filled c.loop-told.chunk in
          let more = sent_more takes c.args.writer.now inv.1 c.loop-told.calls c.loop-told.writer inv.0 (take c.loop-told.filled c.loop-told.chunk) w.send.new.writer out.0 w.in-Ok.made inv.2 out.1 out.2 in
          let first : take c.if-filled-gt-CHUNK.filled c.loop-told.chunk ≡ [] = ap (λ n. take n c.loop-told.chunk) w.filled-is in (
            inv.0 ++ out.0,
            sent,
            subst (λ n. P n c.if-filled-gt-CHUNK.writer sent (inv.0 ++ out.0)) (sym w.calls-is) (subst (λ t. P w.in-Ok.made t sent (inv.0 ++ out.0)) (sym w.writer-is) more),
            ap (λ z. sent ++ z) (put ∙ ap (λ z. z ++ line) first) ∙ (ap (λ z. z ++ line) inv.3 ∙ sym one),
            omega (arith, room, c.push_line-filled.ensures.len),
            omega (arith, w.calls-is, out.3),
          )
      | else-filled-gt-CHUNK w ↦
          let first : take c.if-filled-gt-CHUNK.filled c.loop-told.chunk ≡ take c.loop-told.filled c.loop-told.chunk = ap (λ n. take n c.loop-told.chunk) w.filled-is in (
            inv.0,
            inv.1,
            subst (λ n. P n c.if-filled-gt-CHUNK.writer inv.1 inv.0) (sym w.calls-is) (subst (λ t. P c.loop-told.calls t inv.1 inv.0) (sym w.writer-is) inv.2),
            ap (λ z. inv.1 ++ z) (put ∙ ap (λ z. z ++ line) first) ∙ (sym (append_assoc inv.1 (take c.loop-told.filled c.loop-told.chunk) line) ∙ (ap (λ z. z ++ line) inv.3 ∙ sym one)),
            omega (arith, room, c.push_line-filled.ensures.len),
            omega (arith, w.calls-is, inv.5),
          )
    ]

pub returns-in-Ok-send : goal.returns-in-Ok-send
returns-in-Ok-send g c =
    let inv = c.loop-told.invariant in
    let out = c.in-Ok-send.ensures in
    let whole : inv.1 ++ take c.loop-told.filled c.loop-told.chunk ≡ text_of c.args.records.now = inv.3 ∙ ap text_of (take_all c.loop-told.told-index c.args.records.now (omega (arith, c.loop-told-test.false))) in (
      inv.0 ++ out.0,
      went_out_after g.W.Sink.takes c.args.writer.now inv.1 c.loop-told.calls c.loop-told.writer inv.0 (take c.loop-told.filled c.loop-told.chunk) (text_of c.args.records.now) c.send-2.new.writer out.0 inv.2 out.1 whole,
      omega (arith, length-append inv.0 out.0, inv.2.calls, out.2, out.3),
    )

pub returns-in-Err-send : goal.returns-in-Err-send
returns-in-Err-send g c =
    let inv = c.loop-told.invariant in
    let off = c.in-Err-send.ensures in
    let whole : inv.1 ++ (take c.loop-told.filled c.loop-told.chunk ++ []) ≡ text_of c.args.records.now = ap (λ z. inv.1 ++ z) (append-nil (take c.loop-told.filled c.loop-told.chunk)) ∙ (inv.3 ∙ ap text_of (take_all c.loop-told.told-index c.args.records.now (omega (arith, c.loop-told-test.false)))) in
    (_, broke_off_after g.W.Sink.takes c.args.writer.now inv.1 c.loop-told.calls c.loop-told.writer inv.0 (take c.loop-told.filled c.loop-told.chunk) [] (text_of c.args.records.now) c.send-2.new.writer off.0 inv.2 off.1 whole)
