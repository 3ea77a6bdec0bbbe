-- How stations begin the next frame if its start of frame may reach some of them in the third bit of the intermission.
use Rattle.std.specs.Prelude.{◌≡◌, ◌<◌, ℕ, suc, ◌+◌, ◌&&◌, nat_lt, Bool, true, false, List, [], ◌∷◌, ◌++◌, Some, slice_get, if◌then◌else◌}
use Rattle.wl_level.specs.declared.Level.TheVariants.{Dominant, Recessive}
use Rattle.wl_confine.specs.declared.Mode.TheVariants.{Active}
use Rattle.wl_segments.specs.Lengths.{bit_quanta}
use Rattle.wl_frame.specs.Grammar.{Content}
use Rattle.wl_machine.specs.Stretch.{Input}
use Rattle.wl_machine.specs.Stretch.Input.{Sample}
use Rattle.wl_machine.specs.Judged.{stretch_of}
use Rattle.wl_wire.specs.Wire.{Handed, sampled}
use Rattle.wl_buses.specs.OneFrame.Stations.{Stations}
use Rattle.wl_buses.specs.OneFrame.Starts.{Start}
use Rattle.wl_buses.specs.OneFrame.Expected.{Outset, expected_bits}
use Rattle.wl_buses.specs.OneFrame.Machines.{joins_by}
use Rattle.wl_buses.specs.FirstFrame.FirstStarts.{hard_from, hard_place}
use Rattle.wl_buses.specs.FrameEnd.Third.{MayBeginFromThird}
use Rattle.wl_buses.specs.NextFrames.NextStarts.{AreFreeNext, Resting, begins_next, due_next, edge_next, handed_next, is_reached_next, past_next, rested, resting_after}

-- Stations as ones that rest. But of those in the third bit of their intermission (`third`) bit 0 is the second bit of that, and no machine has sampled the third bit. With its sample of the start of
-- frame each of them is handed what is given; each other one is handed the frame that it decides to send.
abbrev pub handed_third : Resting → (third : ℕ → Bool) → (given : ℕ → Handed) → ℕ → Handed
handed_third r third given k = if third k then given k else handed_next (r.which k)

abbrev pub past_from_third : Resting → (third : ℕ → Bool) → (before : ℕ → List Input) → ℕ → List Input
past_from_third r third before k = if third k then before k else past_next r before k

-- who is in its third bit joins the start of frame if it is handed a frame
abbrev pub joins_next : Resting → (third : ℕ → Bool) → (before : ℕ → List Input) → (given : ℕ → Handed) → ℕ → Bool
joins_next r third before given k =
    joins_by (stretch_of (past_from_third r third before k)).sort (sampled Dominant (r.frames k) (handed_third r third given k))

abbrev pub start_third : Resting → (third : ℕ → Bool) → (before : ℕ → List Input) → (given : ℕ → Handed) → Start
start_third r third before given = record {
  drives = begins_next r;
  joins = joins_next r third before given;
  due = due_next r;
  place = λ i. hard_place (due_next r i) (edge_next r i);
  from = λ i. hard_from (due_next r i) (edge_next r i);
}

-- so the frame begins, if this has reached the machines by the second bit of the intermission
abbrev pub outset_third : Resting → (third : ℕ → Bool) → (before : ℕ → List Input) → (given : ℕ → Handed) → Outset
outset_third r third before given = record {
  frames = r.frames;
  handed = λ n k. handed_third r third given k;
  past = λ k. if nat_lt k r.stations.count then past_from_third r third before k else [];
  start = start_third r third before given;
}

-- Machines that have sampled the second bit of the intermission. They are free with the third one, if they sample it recessive; and on one wire, whichever of the others than those in their third bit
-- have sampled it. A start of frame reaches each in its third bit by the quantum with whose sample that would end.
pub record AreFreeFromThird (r : Resting) (third : ℕ → Bool) (before : ℕ → List Input) : Type 0 where
  pub free : AreFreeNext r.stations.count r.frames before
  pub together : (handed : ℕ → Handed) → ((k : ℕ) → k < r.stations.count → (handed k).mode ≡ Active)
      → MayBeginFromThird r.stations.count r.frames third (λ k. if third k then before k else before k ++ Sample (sampled Recessive (r.frames k) (handed k)) ∷ [])
  pub inside : (k : ℕ) → third k ≡ true → k < r.stations.count
  pub decides : (k : ℕ) → third k ≡ true → 0 < r.decides k
  pub reached : (k : ℕ) → third k ≡ true → is_reached_next r k (rested r k + bit_quanta (r.stations.lengths k)) ≡ true

-- who is handed a frame in its third bit may send
abbrev pub MayJoin : Resting → (third : ℕ → Bool) → (given : ℕ → Handed) → Type 0
MayJoin r third given = (k : ℕ) (c : Content) → third k ≡ true → slice_get (r.frames k) (given k).which ≡ Some c → r.stations.may_send k ≡ true

-- Stations after a frame: a start of frame reaches station i by its sample of the third bit of the intermission, if each begins its own a bit after its third bit or later, with whose sample it
-- decides to send.
abbrev pub is_in_third : Stations → Outset → (end : ℕ) → (which decides : ℕ → ℕ) → ℕ → Bool
is_in_third s o end which decides i =
    nat_lt i s.count && is_reached_next (resting_after s o end which decides) i (rested (resting_after s o end which decides) i)

-- Each counts its bits from the third one of the intermission, or from the second one if it is reached so.
abbrev pub resting_from_second : Stations → Outset → (end : ℕ) → (which decides : ℕ → ℕ) → Resting
resting_from_second s o end which decides = record {
  stations = s;
  frames = o.frames;
  which = which;
  place = λ i. if is_in_third s o end which decides i then (expected_bits s o (end + 11)).place i else (expected_bits s o (end + 12)).place i;
  decides = λ i. if is_in_third s o end which decides i then suc (decides i) else decides i;
}
