-- If no synchronisation may be picked, none is, and of a node that isn't asked for no event is.
use Rattle.std.proofs.Common.{◌≡◌, refl, arith, ℕ, suc, ◌&&◌, Bool, true, false, List, [], ◌∷◌, fold, Option, None, Some, option_map}
use Rattle.std.specs.List.{All, filter}
use Rattle.std.proofs.lemmas.List.Elements.{All-append, All-cons, All-nil}
use Rattle.wl_level.specs.declared.Level.{Level}
use Rattle.wl_clock.specs.Timing.{Timing, tick_of}
use Rattle.wl_sync.specs.declared.Sync.{Sync}
use Rattle.wl_sync.specs.declared.Sync.TheVariants.{Hard, Error}
use Rattle.wl_node.specs.declared.setup.NodeSetup.{NodeSetup}
use Rattle.wl_node.specs.History.{History, no_history, history_after, levels_there}
use Rattle.wl_trace.specs.declared.event.NodeEvent.{NodeEvent}
use Rattle.wl_trace.specs.declared.event.NodeEvent.TheVariants as events
use Rattle.wl_trace.specs.declared.event.Noted.{Noted}
use Rattle.wl_trace.specs.Events.{noted}
use Rattle.wl_trace.specs.Synced.{staying_syncs, sync_event, sync_next, synced_after, syncs_of, with_next}
use Rattle.wl_views.specs.declared.pick.EventKind.{EventKind}
use Rattle.wl_views.specs.declared.pick.EventKind.TheVariants as kinds
use Rattle.wl_views.specs.declared.pick.Pick.{Pick}
use Rattle.wl_views.specs.Picks.{asks_for_syncs, is_asked_kind, is_asked_node, is_event_of, is_picked}
use Rattle.wl_views.specs.Windows.{is_within}
use Rattle.wl_views.specs.TraceText.{told_by}

abbrev IsSyncEvent : NodeEvent → Type 0
IsSyncEvent events.HardSynchronised = Unit {0}
IsSyncEvent (events.Resynchronised error) = Unit {0}
IsSyncEvent event = ⊥

abbrev IsSync : Noted → Type 0
IsSync n = IsSyncEvent n.event

event_is : (s : Sync) → IsSyncEvent (sync_event s)
event_is Hard = tt
event_is (Error error) = tt

next_are : (es : List Noted) (quantum bit : ℕ) (o : Option Sync) → All IsSync es → All IsSync (with_next es (option_map (λ s. noted quantum bit (sync_event s)) o))
next_are es quantum bit None h = h
next_are es quantum bit (Some s) h = All-append IsSync es (noted quantum bit (sync_event s) ∷ []) h (All-cons IsSync (noted quantum bit (sync_event s)) [] (event_is s) (All-nil IsSync))

module _ (setup : NodeSetup) where
  fold_are : (levels : List Level) (h : History) (es : List Noted) → All IsSync es → All IsSync (fold (synced_after setup) (h, es) levels).1
  fold_are [] h es are = are
  fold_are (level ∷ levels) h es are =
      fold_are levels (history_after setup h level) (with_next es (sync_next setup h level)) (next_are es _ _ _ are)

  staying_are : (levels : List Level) → All IsSync (staying_syncs setup levels)
  unfolding staying_syncs
  staying_are levels = fold_are levels no_history [] (All-nil IsSync)

  pub syncs_are : (levels : List Level) → All IsSync (syncs_of setup levels)
  syncs_are levels = staying_are (levels_there setup.until levels)

-- an event of another kind that is asked for is no synchronisation
not_of : (kind : EventKind) (event : NodeEvent) → IsSyncEvent event → asks_for_syncs (Some kind) ≡ false → is_event_of kind event ≡ false
not_of kind (events.ArbitrationLost place) is none = absurd is
not_of kind (events.Error which sends stuff place) is none = absurd is
not_of kind (events.Flag form) is none = absurd is
not_of kind (events.Sent frame) is none = absurd is
not_of kind (events.Received frame) is none = absurd is
not_of kind (events.ModeChanged counts) is none = absurd is
not_of kinds.Lost events.HardSynchronised is none = refl
not_of kinds.Error events.HardSynchronised is none = refl
not_of kinds.Flag events.HardSynchronised is none = refl
not_of kinds.Frame events.HardSynchronised is none = refl
not_of kinds.Mode events.HardSynchronised is none = refl
not_of kinds.Sync events.HardSynchronised is none = none
not_of kinds.Logged events.HardSynchronised is none = refl
not_of kinds.Lost (events.Resynchronised error) is none = refl
not_of kinds.Error (events.Resynchronised error) is none = refl
not_of kinds.Flag (events.Resynchronised error) is none = refl
not_of kinds.Frame (events.Resynchronised error) is none = refl
not_of kinds.Mode (events.Resynchronised error) is none = refl
not_of kinds.Sync (events.Resynchronised error) is none = none
not_of kinds.Logged (events.Resynchronised error) is none = refl

not_asked : (only : Option EventKind) (event : NodeEvent) → IsSyncEvent event → asks_for_syncs only ≡ false → is_asked_kind only event ≡ false
not_asked None event is none = none
not_asked (Some kind) event is none = not_of kind event is none

both_false : (a b c : Bool) → c ≡ false → (a && (b && c)) ≡ false
both_false true true c none = none
both_false true false c none = refl
both_false false b c none = refl

not_picked : (pick : Pick) (t i : ℕ) (n : Noted) → IsSync n → asks_for_syncs pick.only ≡ false → is_picked pick (t, (i, n)) ≡ false
not_picked pick t i n is none =
    both_false (is_within pick.window t) (is_asked_node pick.node i) (is_asked_kind pick.only n.event) (not_asked pick.only n.event is none)

pub no_sync_picked : (pick : Pick) (clock : Timing) (i : ℕ) (es : List Noted) → asks_for_syncs pick.only ≡ false → All IsSync es
    → filter (is_picked pick) (told_by clock i es) ≡ []
no_sync_picked pick clock i [] none are = refl
no_sync_picked pick clock i (n ∷ es) none are =
    rw (not_picked pick (tick_of clock n.quantum) i n (are 0 n (omega arith)) none) (no_sync_picked pick clock i es none (λ k d b. are (suc k) d (omega arith)))

middle_false : (a b c : Bool) → b ≡ false → (a && (b && c)) ≡ false
middle_false true b c none = rw none refl
middle_false false b c none = refl

not_of_node : (pick : Pick) (t i : ℕ) (n : Noted) → is_asked_node pick.node i ≡ false → is_picked pick (t, (i, n)) ≡ false
not_of_node pick t i n none = middle_false (is_within pick.window t) (is_asked_node pick.node i) (is_asked_kind pick.only n.event) none

pub none_of_node : (pick : Pick) (clock : Timing) (i : ℕ) (es : List Noted) → is_asked_node pick.node i ≡ false → filter (is_picked pick) (told_by clock i es) ≡ []
none_of_node pick clock i [] none = refl
none_of_node pick clock i (n ∷ es) none = rw (not_of_node pick (tick_of clock n.quantum) i n none) (none_of_node pick clock i es none)
