-- What the proofs of upper crates may use, and no other lemma of this crate. All of it stands on the contract of `place_laws`, or is a line on the two levels.
pub use Rattle.wl_level.proofs.Places.{length_more, snoc, at_new, at_old, at_front, before_front, before_old, count_cong, run_old, run_more, run_before_le, run_at_front, run_positive, run_le}
pub use Rattle.wl_level.proofs.Places.{same_self, same_equal, same_opposite, other_level, recessive_from, dominant_from}
pub use Rattle.wl_level.proofs.FirstPlace.{first_cong, first_not, first_none, none_first, first_is, first_found, or_at_here, or_at_cond}
pub use Rattle.wl_level.proofs.ByTick.{range_more, sorted_is_by_tick}
