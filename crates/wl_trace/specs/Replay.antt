-- The same from a node's samples alone: what reached its machine and what came of it, sample by sample.
use Rattle.std.specs.Prelude.{◌≡◌, ℕ, true, false, Option, None, Some, List, [], ◌∷◌, ◌++◌}
use Rattle.wl_level.specs.declared.Level.{Level}
use Rattle.wl_confine.specs.declared.Happened.{Happened}
use Rattle.wl_confine.specs.Counts.{counts_of, mode_of}
use Rattle.wl_machine.specs.Stretch.{Sampled, Input, Judgement}
use Rattle.wl_machine.specs.Stretch.Input.{Sample}
use Rattle.wl_machine.specs.Judged.{drive_of, head_of, judged, stretch_of}
use Rattle.wl_machine.specs.Doing.{doing_of}
use Rattle.wl_machine.specs.Reached.{IsMachine}
use Rattle.wl_frame.specs.Grammar.{Content}
use Rattle.wl_node.specs.declared.setup.NodeSetup.{NodeSetup}
use Rattle.wl_node.specs.declared.setup.Passed.{Passed}
use Rattle.wl_node.specs.Deciding.{looks_at_head}
use Rattle.wl_node.specs.History.{History, handed, passed_frames, switched_off}
use Rattle.wl_node.specs.Queues.{head_by, unsent_by}
use Rattle.wl_node.specs.Unsent.{IsChosen, IsUnsent}
use Rattle.wl_trace.specs.declared.event.NodeEvent.{NodeEvent}
use Rattle.wl_trace.specs.declared.sampled_node.SampledNode.{SampledNode}
use Rattle.wl_trace.specs.declared.replay.Replay.{Replay}
use Rattle.wl_trace.specs.declared.watched_node.WatchedNode.{WatchedNode}
use Rattle.wl_trace.specs.Events.{judged_events}
use Rattle.wl_trace.specs.Running.{KeepsStretch}

-- what came before a sample
pub record SampledPast : Type 0 where
  pub inputs : List Input
  pub happened : List Happened
  pub frames : List Passed
  pub samples : List (ℕ × Level)

abbrev pub no_past : SampledPast
no_past = record { inputs = []; happened = []; frames = []; samples = [] }

-- that of a history
abbrev pub past_of : History → SampledPast
past_of h = record { inputs = h.inputs; happened = h.happened; frames = h.frames; samples = h.samples }

-- the frame that is handed with a sample of this level at this quantum: the head of those that were not sent yet, by the order of the queue
abbrev pub head_then : NodeSetup → SampledPast → ℕ → Level → Option Content
head_then setup p quantum level = handed level setup.segments.sync (head_by setup.order (unsent_by setup.order setup.queue p.frames) quantum)

-- what the machine is given with a sample at this quantum
abbrev pub sampled_then : NodeSetup → SampledPast → ℕ → Level → Sampled
sampled_then setup p quantum level = record {
  level = level;
  head = head_then setup p quantum level;
  mode = mode_of (counts_of p.happened);
}

abbrev pub judged_then : NodeSetup → SampledPast → ℕ → Level → Judgement
judged_then setup p quantum level = judged (stretch_of p.inputs) (sampled_then setup p quantum level)

-- the past after a sample that was judged so
abbrev pub past_judged : SampledPast → ℕ → Sampled → Judgement → SampledPast
past_judged p quantum x j = record {
  inputs = (p.inputs ++ Sample x ∷ []) ++ switched_off x.mode (mode_of (counts_of (p.happened ++ j.happened ∷ [])));
  happened = p.happened ++ j.happened ∷ [];
  frames = p.frames ++ passed_frames quantum j.ended;
  samples = p.samples ++ (quantum, x.level) ∷ [];
}

abbrev pub past_after : NodeSetup → SampledPast → ℕ × Level → SampledPast
past_after setup p (quantum, level) = past_judged p quantum (sampled_then setup p quantum level) (judged_then setup p quantum level)

-- what a sample does
abbrev pub then_events : NodeSetup → SampledPast → ℕ → Level → List NodeEvent
then_events setup p quantum level = judged_events (stretch_of p.inputs) level (counts_of p.happened) (judged_then setup p quantum level)

-- Machine, counters and queue are those of this past. The frame that the machine sends is the one that was chosen.
pub record IsSampledNode (setup : NodeSetup) (kept : SampledNode) (p : SampledPast) : Type 0 where
  pub machine : IsMachine kept.machine p.inputs
  pub counters : kept.counters ≡ counts_of p.happened
  pub pending : kept.pending ≡ drive_of (stretch_of p.inputs)
  pub unsent : IsUnsent setup kept.unsent p.frames
  pub sends : (frame : Content) → head_of (stretch_of p.inputs).sort ≡ Some frame → IsChosen setup.order (unsent_by setup.order setup.queue p.frames) frame kept.unsent.place

-- It is the head that is handed with a sample of this level at this quantum, if the machine looks at it, and else none; its place was noted.
pub record IsGiven (setup : NodeSetup) (kept : SampledNode) (p : SampledPast) (quantum : ℕ) (level : Level) (head : Option Content) : Type 0 where
  pub looked : looks_at_head (doing_of (stretch_of p.inputs)) ≡ true → head ≡ head_then setup p quantum level
  pub unlooked : looks_at_head (doing_of (stretch_of p.inputs)) ≡ false → head ≡ None
  pub chosen : (frame : Content) → head ≡ Some frame → IsChosen setup.order (unsent_by setup.order setup.queue p.frames) frame kept.unsent.place

-- and so is the running stretch
pub record IsReplay (setup : NodeSetup) (kept : Replay) (p : SampledPast) : Type 0 where
  pub sampled_node : IsSampledNode setup kept.sampled_node p
  pub stretch : KeepsStretch kept.stretch (stretch_of p.inputs)

-- and what a watched node is at
pub record IsWatchedNode (setup : NodeSetup) (kept : WatchedNode) (p : SampledPast) : Type 0 where
  pub replay : IsReplay setup kept.replay p
