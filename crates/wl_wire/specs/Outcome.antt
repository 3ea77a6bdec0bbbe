-- What the machines of a wire did: what happened to each, its error counters, and the frames that it began and
-- completed.
use Rattle.std.specs.Prelude.{◌≡◌, ◌⊎◌, ◌<◌, ℕ, ◌==◌, Bool, true, false, not, List, [], ◌∷◌, length, map, count_by, if◌then◌else◌}
use Rattle.std.specs.List.{All, flat_map}
use Rattle.wl_level.specs.declared.Level.{Level}
use Rattle.wl_confine.specs.declared.Happened.{Happened}
use Rattle.wl_confine.specs.declared.Happened.TheVariants.{Acked}
use Rattle.wl_confine.specs.Counts.{Counts, counts_of}
use Rattle.wl_frame.specs.Grammar.{Content}
use Rattle.wl_machine.specs.Stretch.{Sort, Stretch, Input, Ended, Judgement}
use Rattle.wl_machine.specs.Stretch.Sort.{Integration, Framing}
use Rattle.wl_machine.specs.Stretch.Input.{Sample, SwitchedOff}
use Rattle.wl_machine.specs.Stretch.Ended.{NoFrame, Sent, Received}
use Rattle.wl_machine.specs.Judged.{judged, stretch_after}
use Rattle.wl_machine.specs.States.{stretch_by}
use Rattle.wl_wire.specs.Wire.{Wire}
use Rattle.wl_wire.specs.InStep.{Has, AreBetween, AreInIntermission}

-- what each sample does to a machine in this stretch, and the stretch after each input; this project's profile
abbrev pub judgements : Stretch → List Input → List Judgement
judgements s [] = []
judgements s (Sample x ∷ inputs) = judged s x ∷ judgements (stretch_after s (Sample x)) inputs
judgements s (SwitchedOff ∷ inputs) = judgements (stretch_after s SwitchedOff) inputs

abbrev pub stretches : Stretch → List Input → List Stretch
stretches s [] = []
stretches s (input ∷ inputs) = stretch_after s input ∷ stretches (stretch_after s input) inputs

abbrev pub judgements_of : List Input → List Judgement
judgements_of inputs = judgements (stretch_by Integration []) inputs

-- the error counters after all inputs; Bosch CAN 2.0 part B, section 8
abbrev pub counts_after_all : List Input → Counts
counts_after_all inputs = counts_of (map (λ j. j.happened) (judgements_of inputs))

-- the frames that were completed, each as sent or as received, the first first; Bosch CAN 2.0 part B, section 5
abbrev pub completed : Ended → List Ended
completed NoFrame = []
completed (Sent frame) = Sent frame ∷ []
completed (Received frame) = Received frame ∷ []

abbrev pub frames_of : List Input → List Ended
frames_of inputs = flat_map (λ j. completed j.ended) (judgements_of inputs)

-- how many frames were acknowledged, each by a dominant bit that was driven and found; Bosch CAN 2.0 part B, section
-- 3.2.1 (ACK field)
abbrev pub is_acked : Happened → Bool
is_acked Acked = true
is_acked happened = false

abbrev pub acknowledged_by : List Input → ℕ
acknowledged_by inputs = count_by (λ j. is_acked j.happened) (judgements_of inputs)

-- how many frames were begun: a start of frame is the first sample of its stretch; Bosch CAN 2.0 part B, section
-- 3.2.1 (start of frame)
abbrev pub is_start_of_frame_by : Sort → List Level → Bool
is_start_of_frame_by (Framing head) own = length own == 1
is_start_of_frame_by sort own = false

abbrev pub is_start_of_frame : Stretch → Bool
is_start_of_frame s = is_start_of_frame_by s.sort s.own

abbrev pub begun_by : List Input → ℕ
begun_by inputs = count_by is_start_of_frame (stretches (stretch_by Integration []) inputs)

-- a frame that was sent, and by which machine; this project's profile
pub record Passage : Type 0 where
  pub sender : ℕ
  pub frame : Content

-- what it is to a machine
abbrev pub seen_by : ℕ → Passage → Ended
seen_by k passage = if k == passage.sender then Sent passage.frame else Received passage.frame

-- a machine is its receiver
abbrev pub is_received_by : ℕ → Passage → Bool
is_received_by k passage = not (k == passage.sender)

-- The frames that were begun on a wire are these, one after another: each was sent by one machine, of whose frames it
-- is one, and every other machine has acknowledged and received it.
pub record HaveGot (w : Wire) (passages : List Passage) : Type 0 where
  pub senders : All (λ p. (p.sender < w.count) × Has w.frames p.sender p.frame) passages
  pub begun : (k : ℕ) → k < w.count → begun_by (w.past k) ≡ length passages
  pub frames : (k : ℕ) → k < w.count → frames_of (w.past k) ≡ map (seen_by k) passages
  pub acknowledged : (k : ℕ) → k < w.count → acknowledged_by (w.past k) ≡ count_by (is_received_by k) passages

-- no frame is under way
abbrev pub IsFree : Wire → Type 0
IsFree w = AreBetween w ⊎ ((own : List Level) × AreInIntermission w own)
