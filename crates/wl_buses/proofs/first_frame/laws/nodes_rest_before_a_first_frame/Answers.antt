use Rattle.wl_buses.specs.OneFrame.Lines.{finds_expected, node_after}
use Rattle.wl_buses.specs.FirstFrame.FirstStarts.{first_outset}
use Rattle.wl_buses.proofs.OneFrame.Lines.{finds_what_comes, run_of}
use Rattle.std.proofs.Common.{arith}
use Rattle.wl_buses.proofs.first_frame.laws.nodes_rest_before_a_first_frame.Goals as goal

pub returns : goal.returns
returns c = λ l setups w length i line on room are hand valid inside.
    c.a_node_rests_before_a_first_frame.ensures setups w length i on room are hand valid inside (line.segments i (let e = line.nodes in omega arith)) (finds_expected l w.stations (first_outset w) length i)
    (node_after (setups i) (finds_expected l w.stations (first_outset w) length i)) (run_of (setups i) (finds_expected l w.stations (first_outset w) length i))
    (λ q less. finds_what_comes l setups w.stations line (first_outset w) length i q inside)
