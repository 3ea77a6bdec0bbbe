use Rattle.std.proofs.Common.{◌≡◌, ◌+◌, ◌∙◌, sym, ap, cond}
use Rattle.std.proofs.lemmas.List.{take_more}
use Rattle.wl_level.specs.declared.Level.TheVariants.{Dominant}
use Rattle.wl_frame.proofs.Stuffed.{stuffing_more, stuffing_stuffed}
use Rattle.wl_frame.proofs.stuffing.stuff.Goals as goal
use Rattle.wl_frame.proofs.stuffing.stuff.Goals.{then-run-eq-LONGEST_RUN, else-run-eq-LONGEST_RUN, then-is, else-is}

pub loop-bit-preserved : goal.loop-bit-preserved
loop-bit-preserved c =
    let run : c.if-is.run ≡ cond c.is.result (c.loop-bit.run + 1) 1 = elim c.if-is.branch [
      | then-is w ↦ w.run-is ∙ sym (ap (λ s. cond s (c.loop-bit.run + 1) 1) w.if-is.true)
      | else-is w ↦ w.run-is ∙ sym (ap (λ s. cond s (c.loop-bit.run + 1) 1) w.if-is.false)
    ] in
    let next = run ∙ ap (λ s. cond s (c.loop-bit.run + 1) 1) c.is.ensures in
    elim c.if-run-eq-LONGEST_RUN.branch [
      | then-run-eq-LONGEST_RUN w ↦
          rw (w.stuffed-is, w.last-is, w.run-is, w.push-then-run-eq-LONGEST_RUN.ensures.items, w.opposite-last.ensures, c.push.ensures.items, take_more c.args.bits.now c.loop-bit.bit-index Dominant c.loop-bit-test.true)
          (stuffing_stuffed _ _ _ _ _ c.loop-bit.invariant (sym w.if-run-eq-LONGEST_RUN.true ∙ next))
      | else-run-eq-LONGEST_RUN w ↦
          rw (w.stuffed-is, w.last-is, w.run-is, c.push.ensures.items, take_more c.args.bits.now c.loop-bit.bit-index Dominant c.loop-bit-test.true)
          (stuffing_more _ _ _ _ _ _ c.loop-bit.invariant next w.if-run-eq-LONGEST_RUN.false)
    ]
