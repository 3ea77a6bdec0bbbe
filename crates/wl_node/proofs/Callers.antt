-- What the proofs of upper crates may use: what the bit clock is given is what it sees, tests that all of a list pass, the history of a node that never leaves, what is
-- kept of one that does, and where there is a head.
pub use Rattle.wl_node.proofs.Leaving.{AreThere, HaveLeft, IsSamePast, all_of, are_there, are_there_now, away_drive, have_left, history_begins, history_there, left_is, next_there, none_yet, not_left, not_left_is, same_past, stays_on, there_and_away}
pub use Rattle.wl_node.proofs.Passing.{all_pass, passes_each}
pub use Rattle.wl_node.proofs.Turns.{seen_is, history_first, history_next}
pub use Rattle.wl_node.proofs.Unsents.{count_append, head_ready, no_head, no_head_of, none_left, received}
pub use Rattle.wl_node.proofs.Deciding.{same_judged, same_stretch}
pub use Rattle.wl_node.proofs.Sends.{sends_next}
