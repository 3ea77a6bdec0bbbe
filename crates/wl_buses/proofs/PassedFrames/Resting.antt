-- So a node that rests finds nothing up to its last bit before the next frame.
use Rattle.std.proofs.Common.{◌≡◌, ◌∙◌, ◌⊎◌, inl, inr, refl, sym, subst, ℕ, suc, ◌+◌, ◌<◌, ◌≤◌, Bool, List, [], ◌∷◌, ◌++◌, arith}
use Rattle.std.specs.Prelude.{count_by, slice_get}
use Rattle.wl_level.specs.declared.Level.{Level}
use Rattle.wl_level.specs.declared.Level.TheVariants.{Recessive}
use Rattle.wl_confine.specs.declared.Happened.{Happened}
use Rattle.wl_confine.specs.declared.Mode.TheVariants.{Active}
use Rattle.wl_segments.specs.Lengths.{sample_at}
use Rattle.wl_machine.specs.Stretch.{Input}
use Rattle.wl_machine.specs.Stretch.Input.{Sample}
use Rattle.wl_machine.specs.Judged.{stretch_of}
use Rattle.wl_node.specs.declared.setup.NodeSetup.{NodeSetup}
use Rattle.wl_node.specs.History.{History}
use Rattle.wl_phase.specs.Ways.{ByTheBook}
use Rattle.wl_wire.specs.Wire.{Handed, sampled}
use Rattle.wl_buses.specs.OneFrame.Clocked.{EdgeLaws}
use Rattle.wl_buses.specs.OneFrame.Expected.{Outset}
use Rattle.wl_buses.specs.OneFrame.Lines.{BeginsAfter}
use Rattle.wl_buses.specs.OneFrame.Nodes.{IsRun}
use Rattle.wl_buses.specs.OneFrame.Starts.{BeginsAlone, FollowsHard}
use Rattle.wl_buses.specs.OneFrame.Stations.{AreOnALine, Stations}
use Rattle.wl_buses.specs.FrameEnd.Again.{RestsAgain}
use Rattle.wl_buses.specs.NextFrames.NextStarts.{AreFreeNext, Resting, last_next, outset_next, rest_next, rested, start_next}
use Rattle.wl_buses.proofs.PassedFrames.Quanta.{IsCalm}
use Rattle.wl_buses.proofs.PassedFrames.Waiting.{IsFree, free_is, waits_on}

-- a start of frame begins after the last sample before it
pub after_rest : (s : Stations) (o : Outset) (i rest : ℕ) → ByTheBook (s.lengths i) → BeginsAfter s o i rest → BeginsAlone s o.start i ⊎ FollowsHard s o.start i
    → rest + sample_at (s.lengths i) < o.start.from i
after_rest s o i rest book after (inl itself) = (let due = after.alone itself in let place = itself.place in let from = itself.from in let low = book.lengths.ps2_low in omega arith)
after_rest s o i rest book after (inr hard) = (let later = after.later hard in let from = hard.from in omega arith)

module _ (edges : EdgeLaws) (r : Resting) (before : ℕ → List Input) (line : AreOnALine r.stations) (frees : AreFreeNext r.stations.count r.frames before) (i : ℕ) (inside : i < r.stations.count)
    (setup : NodeSetup) (segments : setup.segments ≡ r.stations.lengths i) (levels : ℕ → Level) (node : ℕ → History) (run : IsRun setup levels node) (handed : Handed)
    (active : handed.mode ≡ Active) (since : ℕ) (early : since ≤ rested r i)
    (first : RestsAgain r.stations (before i ++ Sample (sampled Recessive (r.frames i) handed) ∷ []) i levels node (r.place i) since)
    (silent : (q : ℕ) → rested r i < q → q < (start_next r).from i → levels q ≡ Recessive)
    (by_from : rest_next r i + sample_at (r.stations.lengths i) < (start_next r).from i)
    (last : RestsAgain r.stations ((outset_next r before).past i) i levels node (rest_next r i) since) where
  free_first : IsFree (stretch_of (node (suc (rested r i))).inputs)
  free_first = subst IsFree (sym (first.stretch ∙ frees.free i handed inside active)) (free_is (slice_get (r.frames i) handed.which))

  pub found_none : (p : Happened → Bool) → IsCalm p → count_by p (node (suc (rest_next r i + sample_at (r.stations.lengths i)))).happened ≡ count_by p (node (suc (rested r i))).happened
  found_none p calm =
      (waits_on edges setup levels node run (r.stations.lengths i) segments (line.book i inside) p calm (r.place i) (count_by p (node (suc (rested r i))).happened) (last_next r i)
      (record { sampled = first.sampled; free = free_first; found = refl }) (λ q a b. silent q a (omega arith))
      (λ q a b. last.drive q (omega arith) b) (last_next r i) (omega arith)).found
