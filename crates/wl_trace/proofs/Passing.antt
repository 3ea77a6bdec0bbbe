-- Quanta that neither sample nor begin a bit leave what a waveform shows as it is.
use Rattle.std.proofs.Common.{◌≡◌, ◌∙◌, ap, ap₂, arith, ℕ, zero, suc, ◌≤◌, List, ◌++◌, length, replicate, append-nil}
use Rattle.wl_level.specs.declared.Level.{Level}
use Rattle.wl_level.proofs.Callers.{snoc}
use Rattle.wl_sync.specs.declared.Beat.{Beat}
use Rattle.wl_sync.specs.declared.Beat.TheVariants.{Plain}
use Rattle.wl_sync.specs.declared.Seen.{Seen}
use Rattle.wl_sync.specs.Bits.{beat_of}
use Rattle.wl_sync.specs.Skips.{IsPlain}
use Rattle.wl_machine.specs.Judged.{stretch_of}
use Rattle.wl_node.specs.declared.setup.NodeSetup.{NodeSetup}
use Rattle.wl_node.specs.History.{History, staying_history, seen_next}
use Rattle.wl_trace.specs.Replay.{SampledPast}
use Rattle.wl_trace.specs.Snapshot.{mark, staying_snapshot}
use Rattle.wl_trace.specs.Starts.{is_start, staying_starts, with_start}
use Rattle.wl_confine.specs.Counts.{counts_of}
use Rattle.wl_trace.specs.declared.snapshot.NodeState.{NodeState}
use Rattle.wl_trace.specs.States.{state_by}
use Rattle.wl_trace.proofs.Skipping.{IsSkippable, IsSkipped, all_skipped, seen_same}
use Rattle.wl_trace.proofs.Starting.{starts_more}

-- the history of more levels is this one, that has seen more, and begun no bit
pub record IsPassed (setup : NodeSetup) (levels : List Level) (level : Level) (m : ℕ) : Type 0 where
  pub same : IsSkipped setup levels level m
  pub starts : staying_starts setup (levels ++ replicate m level) ≡ staying_starts setup levels

-- plain quanta are no samples, and begin no bit
pub plain_skippable : (setup : NodeSetup) (h : History) (level : Level) (n : ℕ) → IsPlain setup.segments h.seen (seen_next h level) n → IsSkippable setup h level n
plain_skippable setup h level n plain = record {
  unsampled = λ m v less e. (let f = plain m less in cc);
  starts = λ m less e. (let f = plain m less in cc);
}

module _ (setup : NodeSetup) (levels : List Level) (level : Level) where
  pub all_passed : (n m : ℕ) → n ≤ m → IsPlain setup.segments (staying_history setup levels).seen (seen_next (staying_history setup levels) level) m → IsPassed setup levels level n
  all_passed zero m less plain = record {
    same = all_skipped setup levels level zero m less (plain_skippable setup (staying_history setup levels) level m plain);
    starts = ap (staying_starts setup) (append-nil levels);
  }
  all_passed (suc n) m less plain =
      let able = plain_skippable setup (staying_history setup levels) level m plain in
      let is = all_skipped setup levels level n m (omega arith) able in
      let more : List Level = levels ++ replicate n level in
      let h : History = staying_history setup levels in
      let g : History = staying_history setup more in
      let same : seen_next g level ≡ seen_next h level = seen_same g h level is.past is.drive in
      let beat : beat_of setup.segments g.seen (seen_next g level) ≡ Plain =
      ap₂ (λ (s : List Seen) (y : Seen). beat_of setup.segments s y) is.seen same ∙ plain n (omega arith) in
      record {
        same = all_skipped setup levels level (suc n) m less able;
        starts =
            ap (staying_starts setup) (snoc levels level n) ∙ starts_more setup more level
            ∙ ap (λ (b : Beat). with_start (staying_starts setup more) (length g.seen) (is_start b)) beat
            ∙ append-nil (staying_starts setup more) ∙ (all_passed n m (omega arith) plain).starts;
      }

-- what a node is at, by its past
abbrev state_past : SampledPast → NodeState
state_past p = state_by (counts_of p.happened) (stretch_of p.inputs)

pub shown_same : (setup : NodeSetup) (levels : List Level) (level : Level) (m : ℕ) → IsPassed setup levels level m
    → staying_snapshot setup (levels ++ replicate m level) ≡ staying_snapshot setup levels
shown_same setup levels level m is i = record {
  drive = is.same.drive i;
  sampled = ap (λ (p : SampledPast). mark (length p.samples)) is.same.past i;
  started = ap (λ (qs : List ℕ). mark (length qs)) is.starts i;
  state = ap (λ (p : SampledPast). state_past p) is.same.past i;
}
