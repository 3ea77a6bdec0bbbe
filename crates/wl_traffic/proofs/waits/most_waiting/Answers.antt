use Rattle.std.proofs.Common.{◌∙◌, ap, sym, ℕ, List, fold, take}
use Rattle.std.proofs.lemmas.List.Sums.{fold_more}
use Rattle.wl_traffic.specs.declared.entries.Entry.{Entry}
use Rattle.wl_traffic.specs.Waits.{more_waiting}
use Rattle.wl_traffic.proofs.waits.most_waiting.Goals as goal

pub loop-entry-preserved : goal.loop-entry-preserved
loop-entry-preserved c =
    let mine : List Entry = c.args.mine.now in
    let i : ℕ = c.loop-entry.entry-index in
    let d : Entry = c.entry-item.result in
    c.more_waiting-most.ensures
    ∙ ap (λ (m : ℕ). more_waiting mine c.args.last m d) c.loop-entry.invariant
    ∙ ap (λ (e : Entry). more_waiting mine c.args.last (fold (more_waiting mine c.args.last) 0 (take i mine)) e) c.entry-item.is
    ∙ sym (fold_more (more_waiting mine c.args.last) 0 mine i d c.loop-entry-test.true)
