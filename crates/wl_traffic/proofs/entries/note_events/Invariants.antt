use Rattle.std.proofs.Common.{◌≡◌, List, fold, take}
use Rattle.std.specs.Option.{option_copied}
use Rattle.wl_trace.specs.declared.event.Noted.{Noted}
use Rattle.wl_traffic.specs.declared.entries.Entry.{Entry}
use Rattle.wl_traffic.specs.Entries.{entries_after_event}
use Rattle.wl_traffic.proofs.entries.note_events.Given as goal

-- after the events so far
abbrev pub invariant-loop-noted : goal.invariant-loop-noted
invariant-loop-noted l =
    l.entries.items ≡ fold (λ (es : List Entry) (n : Noted). entries_after_event (option_copied l.head) n.quantum es n.event) l.initial.entries.items (take l.noted-index l.events)
