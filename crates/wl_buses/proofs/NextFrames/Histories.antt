-- A node rests before a frame as well if it finds the same up to then.
use Rattle.std.proofs.Common.{◌≡◌, ◌∙◌, ap, ℕ, suc, ◌+◌, ◌≤◌, arith}
use Rattle.wl_level.specs.declared.Level.{Level}
use Rattle.wl_confine.specs.Counts.{counts_of}
use Rattle.wl_segments.specs.Lengths.{sample_at}
use Rattle.wl_sync.specs.Bits.{beat_of}
use Rattle.wl_sync.specs.Running.{clock_after}
use Rattle.wl_machine.specs.Judged.{stretch_of}
use Rattle.wl_node.specs.declared.setup.NodeSetup.{NodeSetup}
use Rattle.wl_node.specs.History.{staying_history, seen_next}
use Rattle.wl_phase.specs.InStep.{seen_before}
use Rattle.wl_buses.specs.OneFrame.Stations.{Stations}
use Rattle.wl_buses.specs.OneFrame.Expected.{Outset}
use Rattle.wl_buses.specs.OneFrame.Lines.{RestsBefore, node_after}
use Rattle.wl_buses.specs.OneFrame.Nodes.{clock_sees}
use Rattle.wl_buses.proofs.OneFrame.Nodes.{seen_before_same}
use Rattle.wl_buses.proofs.FrameEnd.LineEnds.{levels_agree}

module _ (s : Stations) (o : Outset) (i : ℕ) (setup : NodeSetup) (new old : ℕ → Level) (rest : ℕ) (same : (q : ℕ) → q ≤ rest + sample_at (s.lengths i) → new q ≡ old q)
    (r : RestsBefore s o i old (node_after setup old) rest) where
  abbrev R : ℕ
  R = rest + sample_at (s.lengths i)

  same_node : (q : ℕ) → q ≤ suc R → node_after setup new q ≡ node_after setup old q
  same_node q by = ap (staying_history setup) (levels_agree new old q (λ j less. same j (omega arith)))

  same_sees : (q : ℕ) → q ≤ R → clock_sees new (node_after setup new) q ≡ clock_sees old (node_after setup old) q
  same_sees q by = ap (λ h. seen_next h (new q)) (same_node q (omega arith)) ∙ ap (seen_next (node_after setup old q)) (same q by)

  seen_up_to : (k : ℕ) → k ≤ suc R → seen_before (clock_sees new (node_after setup new)) k ≡ seen_before (clock_sees old (node_after setup old)) k
  seen_up_to k by = seen_before_same (clock_sees new (node_after setup new)) (clock_sees old (node_after setup old)) k (λ j less. same_sees j (omega arith))

  pub rests_as : RestsBefore s o i new (node_after setup new) rest
  rests_as = record {
    sampled =
        ap (λ v. beat_of (s.lengths i) v (clock_sees new (node_after setup new) R)) (seen_up_to R (omega arith))
        ∙ ap (beat_of (s.lengths i) (seen_before (clock_sees old (node_after setup old)) R)) (same_sees R (omega arith)) ∙ r.sampled;
    clock = ap (clock_after (s.lengths i)) (seen_up_to (suc R) (omega arith)) ∙ r.clock;
    stretch = ap (λ h. stretch_of h.inputs) (same_node (suc R) (omega arith)) ∙ r.stretch;
    over = r.over;
    counts = ap (λ h. counts_of h.happened) (same_node (suc R) (omega arith)) ∙ r.counts;
    drive = λ q by. ap (λ h. h.drive) (same_node q by) ∙ r.drive q by;
  }
