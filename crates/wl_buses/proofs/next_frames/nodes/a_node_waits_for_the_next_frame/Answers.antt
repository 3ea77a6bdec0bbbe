use Rattle.wl_buses.proofs.NextFrames.Resuming.{passed_none, resumes}
use Rattle.wl_buses.proofs.next_frames.nodes.a_node_waits_for_the_next_frame.Goals as goal

pub returns : goal.returns
returns c = λ r before line are frees i inside setup segments levels node run handed active since early first silent hands. (
  resumes c.idle_machines_may_wait.ensures c.a_station_begins_its_bits.ensures c.no_edge_counts_then.ensures r before line are frees i inside setup segments levels node run handed active since
      first early silent hands,
  passed_none c.idle_machines_may_wait.ensures c.a_station_begins_its_bits.ensures c.no_edge_counts_then.ensures r before line are frees i inside setup segments levels node run handed active since
      first early silent hands,
)
