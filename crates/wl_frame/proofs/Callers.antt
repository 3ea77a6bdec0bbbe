-- What the proofs of upper crates may use, and no other lemma of this crate. All of it stands on the contracts of `a_front_is_read_to_its_end`,
-- `each_bit_takes_one_of_those_left`, `reading_by_places_is_the_grammar` and `stuffing_goes_on_bit_by_bit`, or follows from them for a list that is one bit longer.
pub use Rattle.wl_frame.proofs.Reading.{front_more, front_room, left_least, left_more, left_whole, sent_whole, whole_alone, frame_is_read, covered_some, arbitration_over}
pub use Rattle.wl_frame.proofs.Stuffed.{stuff_run, stuff_old, kept_old, length_more, run_more, before_more, destuffed_more}
pub use Rattle.wl_frame.proofs.OneStuffing.{front_stuffs, same_back}
