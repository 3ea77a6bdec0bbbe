-- What is seen of a node that runs again, sample by sample, and when it finds the bus busy (this project's profile).
use Rattle.std.specs.Prelude.{◌≡◌, ℕ, ◌≤◌, ◌||◌, max, Bool, false, List, fold, Option, Some, None}
use Rattle.std.specs.List.{list_any}
use Rattle.wl_delivery.specs.Joining.{joining_with, no_joining}
use Rattle.wl_intervals.specs.Pairs.{covers, has_tick}
use Rattle.wl_level.specs.declared.Level.{Level}
use Rattle.wl_machine.specs.declared.doing.Doing.{Doing}
use Rattle.wl_node.specs.declared.setup.NodeSetup.{NodeSetup}
use Rattle.wl_trace.specs.Replay.{IsWatchedNode, SampledPast}
use Rattle.wl_traffic.specs.declared.bus.BusyTicks.{BusyTicks}
use Rattle.wl_traffic.specs.declared.entries.Entry.{Entry}
use Rattle.wl_traffic.specs.declared.watch.Watch.{Watch}
use Rattle.wl_traffic.specs.Healing.{HasTrouble}
use Rattle.wl_traffic.specs.Bus.{is_busy_span, is_off_doing}
use Rattle.wl_traffic.specs.Entries.{queue_before, queue_with_sample}
use Rattle.wl_traffic.specs.States.{spans_of}
use Rattle.wl_traffic.specs.Waits.{final_sample}

-- what the node has been doing since its last sample makes the bus busy at tick t, if it goes on up to an end
abbrev pub is_busy_since : (end : ℕ) → Option (Doing × ℕ) → ℕ → Bool
is_busy_since end None t = false
is_busy_since end (Some (doing, from)) t = is_busy_span t (record { doing = doing; from = from; until = max from end })

-- the ticks up to the last sample, and those with what the node does up to an end
abbrev pub found_so_far : BusyTicks → ℕ → Bool
found_so_far b t = covers b.busy t || has_tick b.run t

abbrev pub finds_up_to : (end : ℕ) → BusyTicks → ℕ → Bool
finds_up_to end b t = found_so_far b t || is_busy_since end b.doing t

-- they are those of a node of this setup that had these samples, whatever the end is
pub record HasFound (setup : NodeSetup) (samples : List (ℕ × Level)) (b : BusyTicks) : Type 0 where
  pub order : b.run.0 ≤ b.run.1
  pub ticks : (end t : ℕ) → finds_up_to end b t ≡ list_any (is_busy_span t) (spans_of setup end samples)
  pub off : (end : ℕ) → b.off ≡ list_any (λ s. is_off_doing s.doing) (spans_of setup end samples)

-- what came before, and the frames of the queue, after these samples
abbrev pub queue_by_samples : NodeSetup → List (ℕ × Level) → SampledPast × List Entry
queue_by_samples setup samples = fold (queue_with_sample setup) (queue_before setup) samples

-- this was seen of a node of this setup that had these samples
pub record HasWatched (setup : NodeSetup) (samples : List (ℕ × Level)) (w : Watch) : Type 0 where
  pub kept : IsWatchedNode setup w.kept (queue_by_samples setup samples).0
  pub entries : w.entries.items ≡ (queue_by_samples setup samples).1
  pub joining : w.joining ≡ fold joining_with no_joining samples
  pub last : w.last ≡ final_sample samples
  pub found : HasFound setup samples w.found
  pub trouble : HasTrouble setup samples w.trouble
