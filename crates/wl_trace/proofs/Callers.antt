-- What the proofs of upper crates may use, and no other lemma of this crate.
pub use Rattle.wl_trace.proofs.Syncing.{one_more, syncs_first, syncs_more}
pub use Rattle.wl_trace.proofs.Replayed.{events_replayed, replay_first, replay_next, replay_of, replayed_after}
