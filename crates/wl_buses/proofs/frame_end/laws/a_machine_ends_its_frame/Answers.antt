use Rattle.wl_buses.proofs.FrameEnd.Ends.{drives, goes}
use Rattle.wl_buses.proofs.frame_end.laws.a_machine_ends_its_frame.Goals as goal

pub returns-clause-goes : goal.returns-clause-goes
returns-clause-goes c = λ head own place x over crc below level. goes head own over crc place x below level

pub returns-clause-drives : goal.returns-clause-drives
returns-clause-drives c = λ head own place over crc. drives head own over crc place
