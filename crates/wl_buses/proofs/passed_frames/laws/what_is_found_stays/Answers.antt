use Rattle.wl_confine.specs.Counts.{is_error}
use Rattle.wl_buses.specs.FirstFrame.Faults.{is_fault}
use Rattle.wl_buses.proofs.PassedFrames.Quanta.{count_stays, fine_between, fine_counters, frames_stay}
use Rattle.wl_buses.proofs.passed_frames.laws.what_is_found_stays.Goals as goal

pub returns-clause-errors : goal.returns-clause-errors
returns-clause-errors c = λ setup levels node k m run less. count_stays setup levels node run is_error k m less

pub returns-clause-faults : goal.returns-clause-faults
returns-clause-faults c = λ setup levels node k m run less. count_stays setup levels node run is_fault k m less

pub returns-clause-frames : goal.returns-clause-frames
returns-clause-frames c = λ setup levels node k m run less. frames_stay setup levels node run k m less

pub returns-clause-counters : goal.returns-clause-counters
returns-clause-counters c = λ h none. fine_counters h none

pub returns-clause-between : goal.returns-clause-between
returns-clause-between c = λ setup levels node k q m run low high same counts. fine_between setup levels node run k q m low high same counts
