use Rattle.std.proofs.Common.{ap₂, string_bytes}
use Rattle.std.proofs.lemmas.Bool.{ne_eqb}
use Rattle.wl_margin.specs.Sentences.{amount_words, drift_words, early_words, late_words}
use Rattle.wl_margin.proofs.Said.{said, same_four}
use Rattle.wl_margin.proofs.sentences.push_failure.Goals as goal

pub returns-in-DriftFitsJump : goal.returns-in-DriftFitsJump
returns-in-DriftFitsJump c =
    rw c.in-DriftFitsJump.is (said c.push_drift.result (string_bytes c.args.text.now) (string_bytes c.push_drift.new.text)
    (same_four drift_words c.name_of-a.ensures c.name_of-b.ensures (ap₂ amount_words c.around-taken.ensures.picoseconds c.around-taken.ensures.quanta)
    (ap₂ amount_words c.within-there.ensures.picoseconds c.within-there.ensures.quanta)) c.push_drift.ensures)

pub returns-else-failure : goal.returns-else-failure
returns-else-failure c =
    let other = ne_eqb c.args.failure.node c.args.failure.other c.if-failure.false in
    rw (c.in-BitIsThereAtSample.is, other) (said c.push_late.result (string_bytes c.args.text.now) (string_bytes c.push_late.new.text)
    (same_four late_words c.name_of-a.ensures c.name_of-b.ensures (ap₂ amount_words c.around-taken.ensures.picoseconds c.around-taken.ensures.quanta)
    (ap₂ amount_words c.within-there.ensures.picoseconds c.within-there.ensures.quanta)) c.push_late.ensures)

pub returns-in-NoBitTooEarly : goal.returns-in-NoBitTooEarly
returns-in-NoBitTooEarly c =
    rw c.in-NoBitTooEarly.is (said c.push_early.result (string_bytes c.args.text.now) (string_bytes c.push_early.new.text)
    (same_four early_words c.name_of-a.ensures c.name_of-b.ensures (ap₂ amount_words c.around-taken.ensures.picoseconds c.around-taken.ensures.quanta)
    (ap₂ amount_words c.within-there.ensures.picoseconds c.within-there.ensures.quanta)) c.push_early.ensures)
