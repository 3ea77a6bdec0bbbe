use Rattle.std.proofs.Common.{◌∙◌, ap, ap₂, sym, ℕ, max, List, take}
use Rattle.std.proofs.lemmas.List.Sums.{fold_more}
use Rattle.wl_traffic.specs.declared.entries.Entry.{Entry}
use Rattle.wl_traffic.specs.Late.{longest_wait, ticks_waited}
use Rattle.wl_traffic.proofs.late.longest_wait.Goals as goal

pub loop-entry-preserved : goal.loop-entry-preserved
loop-entry-preserved c =
    let late : List Entry = c.args.late.now in
    let k : ℕ = c.loop-entry.entry-index in
    let d : Entry = c.entry-item.result in
    c.max-longest.ensures ∙ ap₂ max c.loop-entry.invariant c.ticks_waited.ensures
    ∙ ap (λ (e : Entry). max (longest_wait c.args.queue.now (take k late)) (ticks_waited c.args.queue.now e)) c.entry-item.is
    ∙ sym (fold_more (λ (most : ℕ) (e : Entry). max most (ticks_waited c.args.queue.now e)) 0 late k d c.loop-entry-test.true)
