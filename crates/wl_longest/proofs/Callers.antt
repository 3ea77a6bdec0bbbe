-- What the proofs of upper crates may use, and no other lemma of this crate: the law `no_frame_is_longer`.
pub use Rattle.wl_longest.proofs.Headers.{no_longer}
