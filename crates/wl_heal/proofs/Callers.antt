-- What the proofs of upper crates may use, and no other lemma of this crate: a frame that is to begin drives its start of frame.
pub use Rattle.wl_heal.proofs.Silent.{first_dominant, two_levels}
