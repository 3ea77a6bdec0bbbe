use Rattle.std.proofs.lemmas.Bool.{le-leb}
use Rattle.wl_bound.specs.Rooms.{plain_bus}
use Rattle.wl_proved.specs.Waits.{messages_in, wait_of}
use Rattle.wl_proved.proofs.Entries as entries
use Rattle.wl_proved.proofs.Paced as paced
use Rattle.wl_proved.proofs.Tables as table
use Rattle.wl_proved.proofs.waits.respond_law.Goals as goal

pub returns : goal.returns
returns c = λ f plan messages windows of sound room decide passes keeps levels.
    (let b = plain_bus f in
    let clocks = paced.clocks f plan of in
    let steady = c.a_covered_plan_is_one_of_these.ensures.steady plan clocks of.covered of.runs.checked (paced.rates f plan of) (paced.book f plan of) in
    let level = table.level_is b plan messages windows passes levels of.members in
    let node = table.node_is b plan messages windows passes levels of.members in
    let lesser = c.a_winner_has_the_lesser_field.ensures in
    let number = c.a_field_is_its_number.ensures in
    let delays = table.delays b plan messages windows passes levels of.members in
    let blocking = table.blocking b plan messages windows passes levels of.members in
    let window = table.window b plan messages windows passes levels of.members in
    let waits = c.waits_are_bounded.ensures.covered f plan clocks (messages_in plan messages) delays blocking window (wait_of messages)
    (table.window_of b plan messages windows passes levels of.members) steady (paced.of_family f plan of) of.runs.frames of.senders (paced.for_any_senders f plan of sound) of.covered room
    (c.a_tested_bus_has_room_to_decide.ensures f decide) (entries.have f plan messages clocks of keeps level node lesser number) (entries.late f plan messages clocks of keeps level node lesser number)
    (table.bus_delays b plan messages windows passes levels of.members) (table.block b plan messages windows passes levels of.members)
    (table.enough b plan messages windows passes levels of.members c.one_window_is_enough_for_each_instance.ensures
    (λ m less. le-leb _ _ (entries.level_high f plan messages clocks of keeps level node lesser number m less))) in
    record { clocks = clocks; rates = paced.rates f plan of; all = waits.0; waits = waits.1; passes = waits.2 })
