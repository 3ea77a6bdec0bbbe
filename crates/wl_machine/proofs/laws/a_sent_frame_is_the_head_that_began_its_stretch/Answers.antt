use Rattle.std.proofs.Common.{◌∷◌, ◌++◌, [], ap}
use Rattle.wl_machine.specs.Judged.{or_next}
use Rattle.wl_machine.specs.States.{stretch_by}
use Rattle.wl_machine.proofs.Heads.{sent_head, sent_over, next_head}
use Rattle.wl_machine.proofs.laws.a_sent_frame_is_the_head_that_began_its_stretch.Goals as goal

pub returns : goal.returns
returns c = record { sent = sent_head; over = sent_over; head = next_head; on = λ s x h. ap (λ n. (or_next n (stretch_by s.sort (s.own ++ x.level ∷ []))).sort) h }
