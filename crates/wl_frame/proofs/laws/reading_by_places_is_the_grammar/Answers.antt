use Rattle.wl_frame.specs.Header.{is_extended}
use Rattle.wl_frame.proofs.Reading.{frame_is_read, whole_alone, arbitration_begins, arbitration_ends}
use Rattle.wl_frame.proofs.laws.reading_by_places_is_the_grammar.Goals as goal

pub returns : goal.returns
returns c = record { grammar = frame_is_read; end = whole_alone; arbitration = λ bits. (arbitration_begins (is_extended bits) bits, arbitration_ends (is_extended bits) bits) }
