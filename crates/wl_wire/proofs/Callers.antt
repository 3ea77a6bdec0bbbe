-- What the proofs of upper crates may use, and no other lemma of this crate: the two roles, what a sender sends at first and one bit later, the end of the stuffed part, that what is
-- fine counts nothing, and that a wire keeps its machines.
pub use Rattle.wl_wire.proofs.Deeds.{fine_counts}
pub use Rattle.wl_wire.proofs.Events.{count_after}
pub use Rattle.wl_wire.proofs.Stuffing.{role_cases, not_both_roles, some_same, sent_old, no_loss, end_there, end_is}
pub use Rattle.wl_wire.proofs.Quiet.{first_drive}
