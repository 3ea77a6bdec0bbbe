-- A node that begins a frame takes no sample from that by which it rests to that of its start of frame.
use Rattle.std.proofs.Common.{◌≡◌, ◌⊎◌, inl, inr, ℕ, suc, ◌+◌, ◌<◌, ◌≤◌, arith}
use Rattle.wl_level.specs.declared.Level.{Level}
use Rattle.wl_level.specs.declared.Level.TheVariants.{Recessive}
use Rattle.wl_segments.specs.Lengths.{bit_quanta, sample_at}
use Rattle.wl_sync.specs.declared.Seen.{Seen}
use Rattle.wl_phase.specs.Clocks.{steady_tick}
use Rattle.wl_phase.specs.Ways.{WayLaws}
use Rattle.wl_buses.specs.OneFrame.Clocked.{NoEdgeLaws, SamplesBy}
use Rattle.wl_buses.specs.OneFrame.Expected.{Outset, expected_sample}
use Rattle.wl_buses.specs.OneFrame.Lines.{BeginsAfter}
use Rattle.wl_buses.specs.OneFrame.Starts.{BeginsAlone, Drives, FollowsHard, reaches_at}
use Rattle.wl_buses.specs.OneFrame.Stations.{AreStations, Stations}
use Rattle.wl_buses.proofs.OneFrame.Measures.{tick_next}
use Rattle.wl_buses.proofs.PassedFrames.Distance.{none_before}
use Rattle.wl_buses.proofs.PassedFrames.Samples.{NoneSamples}

module _ (ways : WayLaws) (calm : NoEdgeLaws) (s : Stations) (are : AreStations s) (o : Outset) (i : ℕ) (inside : i < s.count) (rest : ℕ) (after : BeginsAfter s o i rest) (seen : ℕ → Seen)
    (v w : Level) (first : SamplesBy (s.lengths i) seen (rest + sample_at (s.lengths i)) v) (next : SamplesBy (s.lengths i) seen (expected_sample s o 0 i) w)
    (silent : (q : ℕ) → rest + sample_at (s.lengths i) < q → q ≤ o.start.from i → ((k : ℕ) → Drives s o.start i k → steady_tick (s.clocks i) q < reaches_at s o.start k i)
    → (seen q).level ≡ Recessive) where
  pub none_first : BeginsAlone s o.start i ⊎ FollowsHard s o.start i → NoneSamples (s.lengths i) seen (rest + sample_at (s.lengths i)) (expected_sample s o 0 i)
  none_first (inl itself) =
      let due = after.alone itself in
      let place = itself.place in
      let from = itself.from in
      none_before ways calm (s.lengths i) (are.line.book i inside) seen (rest + sample_at (s.lengths i)) (suc (rest + bit_quanta (s.lengths i))) (expected_sample s o 0 i) v w first next (omega arith)
      (λ q more less. silent q more (omega arith)
      (λ k d. (let unfound = itself.unfound k d in let up = tick_next s are i inside q (o.start.place i) (omega arith) in omega arith)))
      (omega arith)
  none_first (inr hard) =
      let place = hard.place in
      let from = hard.from in
      let by = after.inside hard in
      none_before ways calm (s.lengths i) (are.line.book i inside) seen (rest + sample_at (s.lengths i)) hard.found (expected_sample s o 0 i) v w first next (omega arith)
      (λ q more less. silent q more (omega arith) (λ k d. (let unseen = hard.finds.finds.unseen q less in let least = hard.finds.first k d in omega arith)))
      (omega arith)
