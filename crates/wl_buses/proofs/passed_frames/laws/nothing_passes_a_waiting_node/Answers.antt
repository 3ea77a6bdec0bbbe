use Rattle.wl_confine.specs.Counts.{is_error}
use Rattle.wl_buses.specs.NextFrames.NextStarts.{outset_next, rest_next}
use Rattle.wl_buses.specs.FirstFrame.Faults.{is_fault}
use Rattle.wl_buses.proofs.PassedFrames.Quanta.{calm_error, calm_fault}
use Rattle.wl_buses.proofs.PassedFrames.Resting.{after_rest, found_none}
use Rattle.wl_buses.proofs.passed_frames.laws.nothing_passes_a_waiting_node.Goals as goal

pub returns : goal.returns
returns c = λ r before line are frees i inside setup segments levels node run handed active since early first silent hands.
    (let last = (c.a_node_waits_for_the_next_frame.ensures r before line are frees i inside setup segments levels node run handed active since early first silent hands).0 in
    let is = c.resting_stations_begin_the_next_frame.ensures.outset r before line are frees in
    let after = c.resting_stations_begin_the_next_frame.ensures.after r before line are i inside in
    let by_from = after_rest r.stations (outset_next r before) i (rest_next r i) (line.book i inside) after (is.begin i inside) in (
      found_none c.a_station_begins_its_bits.ensures r before line frees i inside setup segments levels node run handed active since early first silent by_from last is_error calm_error,
      found_none c.a_station_begins_its_bits.ensures r before line frees i inside setup segments levels node run handed active since early first silent by_from last is_fault calm_fault,
    ))
