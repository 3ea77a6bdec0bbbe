-- What became of the first pending frame of a queue, and of all that are sent at known quanta.
use Rattle.std.proofs.Common.{◌≡◌, ◌∙◌, sym, ap, arith, ℕ, suc, ◌+◌, ◌<◌, ◌&&◌, not, Bool, true, false, cond, Option, Some, None, List, [], ◌∷◌, ◌++◌, length, map, fold, get_or, set, take, drop}
use Rattle.std.specs.List.{All}
use Rattle.std.proofs.lemmas.List.{drop_more, length-take, set_at, take-append-drop}
use Rattle.std.proofs.lemmas.List.Elements.{All-cons, All-nil}
use Rattle.wl_level.specs.declared.Level.{Level}
use Rattle.wl_frame.specs.Grammar.{Content}
use Rattle.wl_node.specs.declared.setup.NodeSetup.{NodeSetup}
use Rattle.wl_node.specs.declared.setup.Queued.{Queued}
use Rattle.wl_trace.specs.declared.event.NodeEvent.{NodeEvent}
use Rattle.wl_trace.specs.declared.event.NodeEvent.TheVariants as events
use Rattle.wl_trace.specs.Replay.{SampledPast, then_events}
use Rattle.wl_machine.specs.Judged.{head_of, stretch_of}
use Rattle.wl_traffic.specs.declared.entries.Entry.{Entry}
use Rattle.wl_traffic.specs.declared.entries.Fate.{Fate}
use Rattle.wl_traffic.specs.declared.entries.Fate.TheVariants.{Sent, Lost, Broken}
use Rattle.wl_traffic.specs.Entries.{entries_after_event, entries_by, entries_tried, entries_with, entry_with, is_delimiter, is_pending, queue_with_sample, queue_before, waiting_entry}

-- one of a list in the place of another
set_there : (xs : List Entry) (k : ℕ) (d new : Entry) → k < length xs → set xs k new ≡ take k xs ++ new ∷ drop (k + 1) xs
set_there xs k d new b =
    let split : xs ≡ take k xs ++ get_or xs k d ∷ drop (k + 1) xs = sym (take-append-drop k xs) ∙ ap (λ (r : List Entry). take k xs ++ r) (drop_more xs k d b) in
    ap (λ (l : List Entry). set l k new) split
    ∙ set_at (take k xs) (get_or xs k d) (drop (k + 1) xs) new k (let t = length-take k xs in omega (arith, t, b))

-- where the frame at a place is the first one that is meant
pub found : (fate : Fate) (frame : Content) (xs : List Entry) (k : ℕ) (d : Entry) → k < length xs → is_pending frame (get_or xs k d) ≡ true
    → entries_with fate frame xs ≡ take k xs ++ entries_with fate frame (drop k xs)
    → set xs k (entry_with fate (get_or xs k d)) ≡ entries_with fate frame xs
found fate frame xs k d b pending later =
    set_there xs k d (entry_with fate (get_or xs k d)) b
    ∙ ap (λ (es : List Entry). take k xs ++ es)
    (sym (ap (entries_with fate frame) (drop_more xs k d b)
    ∙ ap (λ p. cond p (entry_with fate (get_or xs k d) ∷ drop (k + 1) xs) (get_or xs k d ∷ entries_with fate frame (drop (k + 1) xs))) pending))
    ∙ sym later

-- what holds of the quanta at which samples come holds of those at which frames are sent
module _ (P : Option ℕ → Type 0) (none : P None) where
  abbrev Holds : Entry → Type 0
  Holds e = P e.sent

  abbrev Fits : Fate → Type 0
  Fits (Sent quantum) = P (Some quantum)
  Fits Lost = Unit {0}
  Fits Broken = Unit {0}

  entry_holds : (fate : Fate) (e : Entry) → Fits fate → Holds e → Holds (entry_with fate e)
  entry_holds (Sent quantum) e fits holds = fits
  entry_holds Lost e fits holds = holds
  entry_holds Broken e fits holds = holds

  with_holds : (fate : Fate) (frame : Content) → Fits fate → (es : List Entry) → All Holds es → All Holds (entries_with fate frame es)
  with_holds fate frame fits [] h = h
  with_holds fate frame fits (e ∷ es) h = by (with_holds fate frame fits es (λ i d b. h (suc i) d (omega arith))) (is_pending frame e)
    where
      by : All Holds (entries_with fate frame es) → (b : Bool) → All Holds (cond b (entry_with fate e ∷ es) (e ∷ entries_with fate frame es))
      by rest true = All-cons Holds (entry_with fate e) es (entry_holds fate e fits (h 0 e (omega arith))) (λ i d b. h (suc i) d (omega arith))
      by rest false = All-cons Holds e (entries_with fate frame es) (h 0 e (omega arith)) rest

  tried_holds : (fate : Fate) (head : Option Content) → Fits fate → (es : List Entry) → All Holds es → All Holds (entries_tried fate head es)
  tried_holds fate None fits es h = h
  tried_holds fate (Some frame) fits es h = with_holds fate frame fits es h

  event_holds : (head : Option Content) (quantum : ℕ) → P (Some quantum) → (es : List Entry) (event : NodeEvent) → All Holds es
      → All Holds (entries_after_event head quantum es event)
  event_holds head quantum p es (events.Sent frame) h = with_holds (Sent quantum) frame p es h
  event_holds head quantum p es (events.ArbitrationLost at) h = tried_holds Lost head tt es h
  event_holds head quantum p es (events.Error kind sends stuff at) h = by (sends && not (is_delimiter at.field))
    where
      by : (b : Bool) → All Holds (cond b (entries_tried Broken head es) es)
      by true = tried_holds Broken head tt es h
      by false = h
  event_holds head quantum p es (events.Flag form) h = h
  event_holds head quantum p es (events.Received frame) h = h
  event_holds head quantum p es (events.ModeChanged counts) h = h
  event_holds head quantum p es events.HardSynchronised h = h
  event_holds head quantum p es (events.Resynchronised error) h = h

  events_hold : (head : Option Content) (quantum : ℕ) → P (Some quantum) → (told : List NodeEvent) (es : List Entry) → All Holds es
      → All Holds (fold (entries_after_event head quantum) es told)
  events_hold head quantum p [] es h = h
  events_hold head quantum p (event ∷ told) es h =
      events_hold head quantum p told (entries_after_event head quantum es event) (event_holds head quantum p es event h)

  samples_hold : (setup : NodeSetup) (samples : List (ℕ × Level)) (r : SampledPast × List Entry) → All (λ s. P (Some s.0)) samples → All Holds r.1
      → All Holds (fold (queue_with_sample setup) r samples).1
  samples_hold setup [] r p h = h
  samples_hold setup (s ∷ samples) r p h =
      samples_hold setup samples (queue_with_sample setup r s) (λ i d b. p (suc i) d (omega arith))
      (events_hold (head_of (stretch_of r.0.inputs).sort) s.0 (p 0 s (omega arith)) (then_events setup r.0 s.0 s.1) r.1 h)

  first_hold : (queue : List Queued) → All Holds (map waiting_entry queue)
  first_hold [] = All-nil Holds
  first_hold (q ∷ queue) = All-cons Holds (waiting_entry q) (map waiting_entry queue) none (first_hold queue)

  pub all_hold : (setup : NodeSetup) (samples : List (ℕ × Level)) → All (λ s. P (Some s.0)) samples → All Holds (entries_by setup samples)
  unfolding entries_by
  all_hold setup samples p = samples_hold setup samples (queue_before setup) p (first_hold setup.queue)
