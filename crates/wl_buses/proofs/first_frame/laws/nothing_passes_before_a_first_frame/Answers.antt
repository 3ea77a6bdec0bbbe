use Rattle.std.proofs.Common.{arith}
use Rattle.wl_buses.specs.OneFrame.Lines.{finds_expected, node_after}
use Rattle.wl_buses.specs.FirstFrame.FirstStarts.{first_outset}
use Rattle.wl_buses.proofs.OneFrame.Lines.{finds_what_comes, run_of}
use Rattle.wl_buses.proofs.FirstFrame.Resting.{nothing_first}
use Rattle.wl_buses.proofs.FirstFrame.Waits.{rests_then}
use Rattle.wl_buses.proofs.first_frame.laws.nothing_passes_before_a_first_frame.Goals as goal

pub returns-clause-silent : goal.returns-clause-silent
returns-clause-silent c = λ w setups line are hand i inside segments levels node run silent.
    (rests_then c.an_edge_moves_the_sample.ensures c.no_edge_counts_then.ensures c.a_station_begins_its_bits.ensures setups w line are hand i inside segments levels node run silent).nothing

pub returns-clause-line : goal.returns-clause-line
returns-clause-line c = λ l setups w length i line on room are hand valid inside.
    nothing_first c.idle_machines_may_begin_together.ensures c.nothing_is_found_before_a_frame.ensures c.an_edge_moves_the_sample.ensures c.no_edge_counts_then.ensures
    c.a_station_begins_its_bits.ensures setups w on room are hand (c.idle_stations_begin_a_first_frame.ensures.outset w on.line are) length valid i inside
    (line.segments i (let e = line.nodes in omega arith)) (finds_expected l w.stations (first_outset w) length i) (node_after (setups i) (finds_expected l w.stations (first_outset w) length i))
    (run_of (setups i) (finds_expected l w.stations (first_outset w) length i)) (λ q less. finds_what_comes l setups w.stations line (first_outset w) length i q inside)
