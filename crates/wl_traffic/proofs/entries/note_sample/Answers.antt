use Rattle.std.proofs.Common.{◌∙◌, ap, fold, ℕ, List, Option}
use Rattle.std.specs.Option.{option_copied}
use Rattle.std.proofs.lemmas.List.Folds.{fold-map}
use Rattle.wl_frame.specs.Grammar.{Content}
use Rattle.wl_node.specs.declared.setup.NodeSetup.{NodeSetup}
use Rattle.wl_trace.specs.declared.event.NodeEvent.{NodeEvent}
use Rattle.wl_trace.specs.declared.event.Noted.{Noted}
use Rattle.wl_trace.specs.Events.{noted}
use Rattle.wl_trace.specs.Replay.{then_events}
use Rattle.wl_traffic.specs.declared.entries.Entry.{Entry}
use Rattle.wl_traffic.specs.Entries.{entries_after_event}
use Rattle.wl_traffic.proofs.entries.note_sample.Goals as goal

-- the events of the sample are at its quantum
pub returns-clause-entries : goal.returns-clause-entries
returns-clause-entries c p is =
    let setup : NodeSetup = c.args.setup.now in
    let quantum : ℕ = c.args.sample.0 in
    let old : List Entry = c.args.entries.now.items in
    let told : Option Content = option_copied c.as_ref.result in
    let events : List NodeEvent = then_events setup p quantum c.args.sample.1 in
    c.note_events.ensures
    ∙ ap (fold (λ (es : List Entry) (n : Noted). entries_after_event told n.quantum es n.event) old) (c.deref.ensures.value ∙ c.in_ok-events.ensures.events p is)
    ∙ fold-map (λ (es : List Entry) (n : Noted). entries_after_event told n.quantum es n.event) (noted quantum 0) old events
    ∙ ap (λ (h : Option Content). fold (entries_after_event h quantum) old events) (c.as_ref.ensures.value ∙ c.head-head.ensures setup p is)
