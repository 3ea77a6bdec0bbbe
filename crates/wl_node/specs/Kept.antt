-- Where its history puts what a node keeps.
use Rattle.std.specs.Prelude.{◌≡◌, ℕ, ◌+◌, ◌<◌, ◌≤◌, true, List, [], ◌∷◌, ◌++◌, length, replicate, count_by, Some, vec_len, vec_capacity}
use Rattle.std.specs.List.{flat_map}
use Rattle.wl_level.specs.declared.Level.{Level}
use Rattle.wl_sync.specs.declared.Sync.{Sync}
use Rattle.wl_sync.specs.Running.{clock_after}
use Rattle.wl_confine.specs.Counts.{counts_of}
use Rattle.wl_frame.specs.Grammar.{Content}
use Rattle.wl_machine.specs.Judged.{stretch_of, drive_of, head_of}
use Rattle.wl_machine.specs.Reached.{IsMachine}
use Rattle.wl_node.specs.declared.setup.NodeSetup.{NodeSetup}
use Rattle.wl_node.specs.declared.syncs.Syncs.{Syncs}
use Rattle.wl_node.specs.declared.traffic.Traffic.{Traffic}
use Rattle.wl_node.specs.declared.progress.NodeProgress.{NodeProgress}
use Rattle.wl_node.specs.History.{History, staying_history, unsent_of, error_count, phase_of, is_hard}
use Rattle.wl_node.specs.Extremes.{phase_totals}
use Rattle.wl_node.specs.Runs.{samples_by}
use Rattle.wl_node.specs.Unsent.{IsChosen, IsUnsent}

-- how many synchronisations are kept
abbrev pub sync_count : Syncs → ℕ
sync_count kept = kept.hards + kept.totals.count

-- What is kept of the synchronisations. The resynchronising edges are listed, or only what a report says of them is kept.
pub record AreSyncs (kept : Syncs) (syncs : List (ℕ × Sync)) : Type 0 where
  pub phases : kept.keeps ≡ true → kept.phases.items ≡ flat_map phase_of syncs
  pub totals : kept.totals ≡ phase_totals (flat_map phase_of syncs)
  pub hards : kept.hards ≡ count_by is_hard syncs

-- What is kept of the samples, which are listed or only counted, and of what came of them. The frame that the machine sends is the one that was chosen of those that were not sent yet.
pub record IsTraffic (setup : NodeSetup) (kept : Traffic) (h : History) : Type 0 where
  pub machine : IsMachine kept.machine h.inputs
  pub counters : kept.counters ≡ counts_of h.happened
  pub pending : kept.pending ≡ drive_of (stretch_of h.inputs)
  pub unsent : IsUnsent setup kept.unsent h.frames
  pub errors : kept.errors ≡ error_count h
  pub samples : kept.samples.keeps ≡ true → samples_by kept.samples.runs.items ≡ h.samples
  pub sampled : kept.samples.count ≡ length h.samples
  pub frames : kept.frames.items ≡ h.frames
  pub sends : (frame : Content) → head_of (stretch_of h.inputs).sort ≡ Some frame → IsChosen setup.order (unsent_of setup h) frame kept.unsent.place

-- a node is where its history puts it; it lists both its samples and its phase errors, or neither
pub record FitsHistory (setup : NodeSetup) (kept : NodeProgress) (h : History) : Type 0 where
  pub clock : kept.clock ≡ clock_after setup.segments h.seen
  pub drive : kept.drive ≡ h.drive
  pub quanta : kept.quanta ≡ length h.seen
  pub syncs : AreSyncs kept.syncs h.syncs
  pub traffic : IsTraffic setup kept.traffic h
  pub same : kept.syncs.keeps ≡ kept.traffic.samples.keeps

-- a node is where these levels put it, one for each of its quanta
pub record IsProgress (setup : NodeSetup) (kept : NodeProgress) (levels : List Level) : Type 0 where
  pub counted : length (staying_history setup levels).seen ≡ length levels
  pub place : FitsHistory setup kept (staying_history setup levels)

-- whatever setup and levels put the old one where it is, put the new one where that is
abbrev pub IsSameProgress : NodeProgress → NodeProgress → Type 0
IsSameProgress old new = (setup : NodeSetup) (levels : List Level) → IsProgress setup old levels → IsProgress setup new levels

-- at one quantum more, a node of this setup has seen this level
abbrev pub HasProgressed : NodeSetup → Level → NodeProgress → NodeProgress → Type 0
HasProgressed setup level old new = (levels : List Level) → IsProgress setup old levels → IsProgress setup new (levels ++ level ∷ [])

-- at so many quanta more, a node of this setup has seen this level
abbrev pub HasProgressedBy : NodeSetup → Level → ℕ → NodeProgress → NodeProgress → Type 0
HasProgressedBy setup level n old new = (levels : List Level) → IsProgress setup old levels → IsProgress setup new (levels ++ replicate n level)

-- before the last of so many quanta of this level, a node of this setup drives what it drove before them
abbrev pub KeepsDrive : NodeSetup → Level → ℕ → NodeProgress → Type 0
KeepsDrive setup level n kept =
    (m : ℕ) → m < n → (levels : List Level) → IsProgress setup kept levels
    → (staying_history setup (levels ++ replicate m level)).drive ≡ (staying_history setup levels).drive

-- what is counted fits the quanta that ran: at most a synchronisation, an error and a sample each
pub record FitsQuanta (kept : NodeProgress) : Type 0 where
  pub syncs : sync_count kept.syncs ≤ kept.quanta
  pub errors : kept.traffic.errors ≤ kept.quanta
  pub samples : kept.traffic.samples.count ≤ kept.quanta

-- so many quanta more are counted, what is counted fits them, and lists are kept or not as before
pub record KeepsCounts (n : ℕ) (old new : NodeProgress) : Type 0 where
  pub quanta : new.quanta ≡ old.quanta + n
  pub fits : FitsQuanta new
  pub lists : new.traffic.samples.keeps ≡ old.traffic.samples.keeps

-- there is room for what one more quantum stores
pub record IsRoomy (kept : NodeProgress) : Type 0 where
  pub samples : vec_len kept.traffic.samples.runs < vec_capacity kept.traffic.samples.runs
  pub frames : vec_len kept.traffic.frames < vec_capacity kept.traffic.frames
  pub phases : vec_len kept.syncs.phases < vec_capacity kept.syncs.phases
