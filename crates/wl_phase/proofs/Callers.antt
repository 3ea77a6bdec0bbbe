-- What the proofs of upper crates may use, and no other lemma of this crate: one quantum of a bit clock by the rules of the book, where no edge counts and where one is found by a
-- node that drives dominant; what the clock keeps at first and after a sample, and how long it has to the next one; where quanta and bits begin in ticks, and in parts of one.
pub use Rattle.wl_phase.proofs.Steps.{IsValid, edge_is, none_is, moved_is, late, zero_is, way_past, way_before, found_one, sync_fresh, going_soft}
pub use Rattle.wl_phase.proofs.Edges.{late_is, late_over, driving_late, soft_driving, beat_is, answer_not}
pub use Rattle.wl_phase.proofs.Runs.{Goes, IsSilent, first_silent, valid_after, valid_at, sync_is}
pub use Rattle.wl_phase.proofs.Listening.{before_dominant, cases_level, now_recessive, counts_then, looks_from, soft_from, unsampled_by}
pub use Rattle.wl_phase.proofs.Instants.{bit_next, quantum_more, unarrived_low, unarrived_from}
pub use Rattle.wl_phase.proofs.Floors.{floor_low, floor_high, rate_tick, tick_from}
pub use Rattle.wl_phase.proofs.Hearing.{tick_up}
pub use Rattle.wl_phase.proofs.Starting.{IsQuiet, hard_from}
pub use Rattle.wl_phase.proofs.Answering.{few_of}
