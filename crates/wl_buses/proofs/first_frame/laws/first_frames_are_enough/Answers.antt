use Rattle.wl_plan.specs.PlanLine.{setup_at}
use Rattle.wl_buses.specs.BothProofs.Queues.{first_head}
use Rattle.wl_buses.proofs.FirstFrame.Deciding.{alone_begins, whole_begins}
use Rattle.wl_buses.proofs.FirstFrame.Plans.{alone}
use Rattle.wl_buses.proofs.first_frame.laws.first_frames_are_enough.Goals as goal

pub returns-clause-whole : goal.returns-clause-whole
returns-clause-whole c = λ plan i. whole_begins (setup_at plan i)

pub returns-clause-first : goal.returns-clause-first
returns-clause-first c = λ plan i. alone_begins (first_head (setup_at plan i))

pub returns-clause-alone : goal.returns-clause-alone
returns-clause-alone c = λ plan queues s first. alone plan queues s first
