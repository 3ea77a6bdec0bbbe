use Rattle.std.proofs.Common.{suc, ◌+◌, true, arith}
use Rattle.wl_segments.specs.Lengths.{bit_quanta}
use Rattle.wl_buses.specs.OneFrame.Acknowledged.{answering, gathered_way, most_overrun}
use Rattle.wl_buses.specs.OneFrame.Course.{since_edge}
use Rattle.wl_buses.proofs.OneFrame.Measures.{drifted}
use Rattle.wl_buses.proofs.OneFrame.Passing.{same_places}
use Rattle.wl_buses.proofs.one_frame.ack.a_frame_is_acknowledged.Goals as goal

pub returns : goal.returns
returns c = λ s bits drove n until winner chase slot over after are room is inside wins catch enough few answered.
    (let near = c.any_two_stay_close.ensures.close s bits drove (suc n) until winner chase are room is inside wins catch n (omega arith) in
    c.all_sample_the_acknowledgement.ensures s (gathered_way s winner chase) (most_overrun s winner chase) winner (bits (suc n)).due slot over drove after (suc (since_edge s bits n))
    (c.any_two_stay_close.ensures.ways s winner chase are.line).0 (c.any_two_stay_close.ensures.fits s winner chase are.line) enough answered (omega arith)
    (same_places (answering s (gathered_way s winner chase)) (λ i. true) (suc (since_edge s bits n)) (λ i. (bits n).place i + bit_quanta (s.lengths i)) (bits (suc n)).due (λ i inside. is.due n i inside)
    (λ i k inside there other some. drifted (answering s (gathered_way s winner chase)) (since_edge s bits n) i k ((bits n).place i) ((bits n).place k) (near i k inside there other some))))
