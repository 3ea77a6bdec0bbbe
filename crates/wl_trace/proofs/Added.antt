-- Notes that were added one after the other.
use Rattle.std.proofs.Common.{◌∙◌, ap, ap₂, sym, ℕ, List, ◌++◌, map, append_assoc, Result, Ok, Err, OnOk}
use Rattle.std.proofs.lemmas.List.{map-append}
use Rattle.wl_trace.specs.declared.event.NodeEvent.{NodeEvent}
use Rattle.wl_trace.specs.declared.notes.Notes.{Notes}
use Rattle.wl_trace.specs.Events.{noted}
use Rattle.wl_trace.specs.Notes.{Adds}

pub adds_both : (a b c : Notes) (xs ys : List NodeEvent) → Adds a b xs → Adds b c ys → Adds a c (xs ++ ys)
adds_both a b c xs ys p q = record {
  events =
      q.events
      ∙ ap₂ (λ (k l : ℕ). b.events.items ++ map (noted k l) ys) p.quantum p.bit
      ∙ ap (λ es. es ++ map (noted a.quantum a.bit) ys) p.events
      ∙ append_assoc a.events.items (map (noted a.quantum a.bit) xs) (map (noted a.quantum a.bit) ys)
      ∙ ap (λ es. a.events.items ++ es) (sym (map-append (noted a.quantum a.bit) xs ys));
  quantum = q.quantum ∙ p.quantum;
  bit = q.bit ∙ p.bit;
}

pub on_ok : {A E : Type 0} (r : Result A E) (P Q : Type 0) → (P → Q) → OnOk r P → OnOk r Q
on_ok (Ok x) P Q f p = f p
on_ok (Err e) P Q f p = tt
