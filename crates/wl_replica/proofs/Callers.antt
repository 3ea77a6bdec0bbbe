-- What the proofs of upper crates may use, and no other lemma of this crate.
pub use Rattle.wl_replica.proofs.SmallFacts.{some_is, run_part, tick_is}
pub use Rattle.wl_replica.proofs.ChangesStand.{tick_within}
pub use Rattle.wl_replica.proofs.WalkLemmas.{greatest_is}
pub use Rattle.wl_replica.proofs.WaveLemmas.{goes_tick}
pub use Rattle.wl_replica.proofs.PlaceLemmas.{least_more}
pub use Rattle.wl_replica.proofs.Covers.{or_true}
