-- After a frame all machines are free with the third bit of the intermission, and all stations rest before the next frame.
use Rattle.std.proofs.Common.{◌≡◌, ◌∙◌, refl, ap, ℕ, suc, ◌+◌, ◌*◌, ◌<◌, ◌≤◌, [], ◌∷◌, ◌++◌, replicate, Option, arith}
use Rattle.std.specs.Prelude.{slice_get}
use Rattle.wl_level.specs.declared.Level.TheVariants.{Recessive}
use Rattle.wl_confine.specs.declared.Mode.TheVariants.{Active}
use Rattle.wl_segments.specs.Lengths.{bit_quanta}
use Rattle.wl_frame.specs.Grammar.{Content}
use Rattle.wl_machine.specs.declared.state.Role.{Role}
use Rattle.wl_machine.specs.declared.state.Role.TheVariants.{Rx, Tx}
use Rattle.wl_machine.specs.Stretch.{free}
use Rattle.wl_machine.specs.Stretch.Sort.{Intermission}
use Rattle.wl_machine.specs.Stretch.Input.{Sample}
use Rattle.wl_machine.specs.Judged.{stretch_after, stretch_of}
use Rattle.wl_machine.specs.Frames.{frame_role}
use Rattle.wl_machine.specs.States.{sample_of, stretch_by}
use Rattle.wl_machine.proofs.Callers.{stretch_next}
use Rattle.wl_phase.specs.Clocks.{steady_tick}
use Rattle.wl_wire.specs.Wire.{Handed, sampled}
use Rattle.wl_buses.specs.OneFrame.Stations.{AreStations, Stations}
use Rattle.wl_buses.specs.OneFrame.Expected.{IsOutset, Outset, expected_bits, expected_sample, past_at}
use Rattle.wl_buses.proofs.OneFrame.Measures.{tick_next}
use Rattle.wl_buses.specs.FrameEnd.Asked.{EndAsAsked, begun_frame, stuffed_levels}
use Rattle.wl_buses.specs.NextFrames.NextStarts.{AreResting, HaveMore, due_next, resting_after}

third : (r : Role) (head : Option Content) → stretch_after (stretch_by (Intermission r) (replicate 2 Recessive)) (Sample (sample_of Recessive head Active)) ≡ stretch_by (free head) []
third Tx head = refl
third Rx head = refl

module _ (s : Stations) (o : Outset) (end sender : ℕ) (frame : Content) (asked : EndAsAsked s o end sender frame) where
  pause : (k : ℕ) → k < s.count → stretch_of (past_at s o (end + 12) k) ≡ stretch_by (Intermission (frame_role (begun_frame s o end k) (stuffed_levels s o end))) (replicate 2 Recessive)
  pause k lt = asked.stretch 12 k (omega arith) lt

  pub free_after : (k : ℕ) (h : Handed) → k < s.count → h.mode ≡ Active
      → stretch_of (past_at s o (end + 12) k ++ Sample (sampled Recessive (o.frames k) h) ∷ []) ≡ stretch_by (free (slice_get (o.frames k) h.which)) []
  free_after k h lt active =
      stretch_next (past_at s o (end + 12) k) (Sample (sampled Recessive (o.frames k) h))
      ∙ ap (λ x. stretch_after x (Sample (sampled Recessive (o.frames k) h))) (pause k lt)
      ∙ ap (λ m. stretch_after (stretch_by (Intermission (frame_role (begun_frame s o end k) (stuffed_levels s o end))) (replicate 2 Recessive)) (Sample (sample_of Recessive (slice_get (o.frames k) h.which) m))) active
      ∙ third (frame_role (begun_frame s o end k) (stuffed_levels s o end)) (slice_get (o.frames k) h.which)

-- no start of frame comes before one that is due with the next bit
module _ (s : Stations) (are : AreStations s) (o : Outset) (is : IsOutset s o) (end : ℕ) (sent decides : ℕ → ℕ)
    (rest : (i k : ℕ) → i < s.count → k < s.count → steady_tick (s.clocks i) (expected_sample s o (end + 12) i)
    < steady_tick (s.clocks k) ((expected_bits s o (end + 12)).place k + bit_quanta (s.lengths k)) + s.delay k i) (more : HaveMore s o.frames sent) where
  later : (k : ℕ) → (expected_bits s o (end + 12)).place k + bit_quanta (s.lengths k) ≤ due_next (resting_after s o end sent decides) k
  later k = (let e : suc (decides k) * bit_quanta (s.lengths k) ≡ bit_quanta (s.lengths k) + decides k * bit_quanta (s.lengths k) = omega arith in omega arith)

  pub all_rest : AreResting (resting_after s o end sent decides)
  all_rest = record {
    frames = is.frames;
    inside = more.inside;
    may = more.may;
    some = more.some;
    idle = λ i k inside apart has. (let there = more.inside k has in
        let first = rest i k inside there in
        let up = tick_next s are k there ((expected_bits s o (end + 12)).place k + bit_quanta (s.lengths k)) (due_next (resting_after s o end sent decides) k) (later k) in
        omega arith);
  }
