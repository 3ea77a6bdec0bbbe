use Rattle.wl_buses.proofs.passed_frames.laws.a_frame_passes_a_node.Goals as goal

pub returns : goal.returns
returns c = λ s o end chase are room is some ends won can i rest since setup levels node inside segments run after rests early finds.
    c.a_frame_passes_a_node_that_finds_its_end.ensures s o end are room is some ends won i rest since setup levels node inside
    (c.all_find_the_end.ensures s o end chase are room is ends won can i inside) segments run after rests early finds
