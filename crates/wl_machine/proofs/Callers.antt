-- What the proofs of upper crates may use, and no other lemma of this crate: the running stretch one input later, which `stretches_go_on_until_they_end` says case by case, which
-- stretch a free bus is, and that who sends a frame is its transmitter at its start of frame; the end of the stuffed part one sample later; and what a transmitter that finds what it
-- sends has kept.
pub use Rattle.wl_machine.proofs.Framed.{role_first, end_more, end_stays, role_next, role_receives, tail_sends}
pub use Rattle.wl_machine.proofs.Free.{free_sort}
pub use Rattle.wl_machine.proofs.Runs.{stretch_next}
pub use Rattle.wl_machine.proofs.Stuffed.{ends_at, front_kept, kept_is_all, HasRest}
