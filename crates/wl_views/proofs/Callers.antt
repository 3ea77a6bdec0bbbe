-- What the proofs of upper crates may use, and no other lemma of this crate.
pub use Rattle.wl_views.proofs.InTime.{few, frames_ran, inside, within}
