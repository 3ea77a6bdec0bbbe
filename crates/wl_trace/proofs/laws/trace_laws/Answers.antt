-- Nothing happens to a node after it has left the bus.
use Rattle.std.proofs.Common.{◌∙◌, ◌<◌, ◌≤◌, ℕ, List, length, sym, ap, arith}
use Rattle.std.specs.Prelude.{count_by}
use Rattle.std.specs.List.{All, flat_map}
use Rattle.wl_confine.specs.Counts.{is_error}
use Rattle.wl_level.specs.declared.Level.{Level}
use Rattle.wl_node.specs.declared.setup.NodeSetup.{NodeSetup}
use Rattle.wl_node.specs.History.{is_hard, levels_there, phase_of}
use Rattle.wl_node.proofs.Callers.{same_past, there_and_away}
use Rattle.wl_trace.specs.declared.event.Noted.{Noted}
use Rattle.wl_trace.proofs.Told.{errors_told, frames_told}
use Rattle.wl_trace.proofs.InTime.{quanta_in_time}
use Rattle.wl_trace.proofs.Syncing.{hards_told, phases_told, sync_quanta_in_time}
use Rattle.wl_trace.proofs.laws.trace_laws.Goals as goal

-- what is before a quantum is before a later one
before_later : (n m : ℕ) (es : List Noted) → n ≤ m → All (λ e. e.quantum < n) es → All (λ e. e.quantum < m) es
before_later n m es less h = λ k d b. let q = h k d b in omega (arith, q, less)

fewer_there : (setup : NodeSetup) (levels : List Level) → length (levels_there setup.until levels) ≤ length levels
fewer_there setup levels = (let all = there_and_away setup.until levels in omega (arith, all))

pub returns : goal.returns
returns c = record {
  errors = λ setup levels. errors_told setup (levels_there setup.until levels) ∙ sym (ap (count_by is_error) (same_past setup levels).happened);
  frames = λ setup levels. frames_told setup (levels_there setup.until levels) ∙ sym (same_past setup levels).frames;
  hards = λ setup levels. hards_told setup (levels_there setup.until levels) ∙ sym (ap (count_by is_hard) (same_past setup levels).syncs);
  phases = λ setup levels. phases_told setup (levels_there setup.until levels) ∙ sym (ap (flat_map phase_of) (same_past setup levels).syncs);
  sync_quanta = λ setup levels. before_later _ (length levels) _ (fewer_there setup levels) (sync_quanta_in_time setup (levels_there setup.until levels));
  quanta = λ setup levels. before_later _ (length levels) _ (fewer_there setup levels) (quanta_in_time setup (levels_there setup.until levels));
}
