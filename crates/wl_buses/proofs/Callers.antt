-- What the proofs of upper crates may use, and no other lemma of this crate: of tests, of the greatest of some ticks, of the causes to say nothing of a plan, of the levels on a bus,
-- of what a queue hands its node and has left, of a node quantum by quantum, and on a silent line since its power-up, and of what the nodes of a line see and drive.
pub use Rattle.wl_buses.proofs.BothProofs.Small.{none_below}
pub use Rattle.wl_buses.proofs.OneFrame.Settling.{most_from}
pub use Rattle.wl_buses.proofs.OneFrame.Machines.{levels_length}
pub use Rattle.wl_buses.proofs.FamilyPlans.Waiting.{no_cause, neither}
pub use Rattle.wl_buses.proofs.BothProofs.Heads.{IsHandedBy, come_length, head_in, unsent_in, wakes_one}
pub use Rattle.wl_buses.proofs.FirstFrame.Deciding.{decided_after, hands, has_is, none_first, undecided, whole_begins}
pub use Rattle.wl_buses.proofs.NextFrames.Queueing.{has_none}
pub use Rattle.wl_buses.proofs.CleanPlans.Passed.{come_from, count_sent, left_is, many, sent_both, sent_one}
pub use Rattle.wl_buses.proofs.BothProofs.Heads.{head_early, head_late, head_none, unsent_first}
pub use Rattle.wl_buses.proofs.BothProofs.Expecting.{LastQuantum, last_quantum, level_first, level_then, levels_same, seen_by_quanta}
pub use Rattle.wl_buses.proofs.OneFrame.Nodes.{drive_by, frames_by, happened_by, inputs_by, seen_are, seen_before_same}
pub use Rattle.wl_buses.proofs.FirstFrame.Silent.{counts_last, drive_last, drive_up_to, nothing_up_to, quiet_after, seen_length, steady_last, still_at, stretch_last}
pub use Rattle.wl_buses.proofs.BothProofs.Orders.{left_none}
pub use Rattle.wl_buses.proofs.OneFrame.Lines.{run_of}
pub use Rattle.wl_buses.proofs.OneSender.Covering.{is_empty}
pub use Rattle.wl_buses.proofs.PassedFrames.Waiting.{idle_is}
pub use Rattle.wl_buses.proofs.CleanPlans.Verdicts.{of_verdict}
