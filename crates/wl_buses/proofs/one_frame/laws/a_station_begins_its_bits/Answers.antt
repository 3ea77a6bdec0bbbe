use Rattle.wl_phase.specs.Ways.{WayLaws}
use Rattle.wl_phase.proofs.Callers.{Goes}
use Rattle.wl_buses.specs.OneFrame.Clocked.{EdgeLaws}
use Rattle.wl_buses.proofs.OneFrame.Beginning.{bit_start_laws}
use Rattle.wl_buses.proofs.OneFrame.Calm.{LevelGoes, SampleGoes, no_edge_laws}
use Rattle.wl_buses.proofs.OneFrame.Clocked.{bit_place_laws}
use Rattle.wl_buses.proofs.OneFrame.Counting.{edge_laws}
use Rattle.wl_buses.proofs.one_frame.laws.a_station_begins_its_bits.Goals as goal

from_laws : Goes → LevelGoes → SampleGoes → WayLaws → EdgeLaws
from_laws goes level sample ways = edge_laws goes level sample ways (bit_place_laws ways) (bit_start_laws goes ways) (no_edge_laws goes sample level ways)

pub returns : goal.returns
returns c =
    from_laws (record { clock = c.clock_goes_on.ensures.clock; beat = c.clock_goes_on.ensures.beat; sync = c.clock_goes_on.ensures.sync })
    c.clock_goes_on.ensures.level c.clock_goes_on.ensures.sample c.an_edge_moves_the_sample.ensures
