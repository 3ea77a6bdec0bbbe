use Rattle.wl_machine.specs.declared.state.State.TheVariants as states
use Rattle.wl_machine.proofs.Kept.{at_state, by_sort, integrating_small, sending_small, sending_room, receiving_small, receiving_room, sent_tail_small, received_tail_small, received_tail_whole, flag_within, flag_short, passive_small, wait_left, delimiter_small, intermission_small, suspended_small, off_few, off_short}
use Rattle.wl_machine.proofs.progress.Progress.step.Goals as goal

pub integrating-requires : goal.integrating-requires
integrating-requires c = integrating_small c.args.self.now c.in-Integrating.run' c.in-Integrating.is c.requires

pub sending-requires-clause-small : goal.sending-requires-clause-small
sending-requires-clause-small c = sending_small c.args.self.now c.in-Sending.last c.in-Sending.run' c.in-Sending.is c.requires

pub sending-requires-clause-room : goal.sending-requires-clause-room
sending-requires-clause-room c = sending_room c.args.self.now c.in-Sending.last c.in-Sending.run' c.in-Sending.is c.requires

pub receiving-requires-clause-small : goal.receiving-requires-clause-small
receiving-requires-clause-small c = receiving_small c.args.self.now c.in-Receiving.last c.in-Receiving.run' c.in-Receiving.is c.requires

pub receiving-requires-clause-room : goal.receiving-requires-clause-room
receiving-requires-clause-room c = receiving_room c.args.self.now c.in-Receiving.last c.in-Receiving.run' c.in-Receiving.is c.requires

pub sent_tail-requires : goal.sent_tail-requires
sent_tail-requires c = sent_tail_small c.args.self.now c.in-SentTail.place c.in-SentTail.is c.requires

pub received_tail-requires-clause-within : goal.received_tail-requires-clause-within
received_tail-requires-clause-within c = received_tail_small c.args.self.now c.in-ReceivedTail.place c.in-ReceivedTail.is_crc_right c.in-ReceivedTail.is c.requires

pub received_tail-requires-clause-whole : goal.received_tail-requires-clause-whole
received_tail-requires-clause-whole c = received_tail_whole c.args.self.now c.in-ReceivedTail.place c.in-ReceivedTail.is_crc_right c.in-ReceivedTail.is c.requires

pub dominant_flag-requires-clause-within : goal.dominant_flag-requires-clause-within
dominant_flag-requires-clause-within c = flag_within c.args.self.now c.in-Flag.cause c.in-Flag.role c.in-Flag.count c.in-Flag.run' c.in-Flag.is c.requires

pub dominant_flag-requires-clause-short : goal.dominant_flag-requires-clause-short
dominant_flag-requires-clause-short c = flag_short c.args.self.now c.in-Flag.cause c.in-Flag.role c.in-Flag.count c.in-Flag.run' c.in-Flag.is c.requires

pub passive_flag-requires : goal.passive_flag-requires
passive_flag-requires c = passive_small c.args.self.now c.in-PassiveFlag.role c.in-PassiveFlag.counts_missing_ack c.in-PassiveFlag.last c.in-PassiveFlag.run' c.in-PassiveFlag.is c.requires

pub waiting-requires : goal.waiting-requires
waiting-requires c = wait_left c.args.self.now c.in-Wait.role c.in-Wait.is_late c.in-Wait.until_long c.in-Wait.is c.requires

pub delimiting-requires : goal.delimiting-requires
delimiting-requires c = delimiter_small c.args.self.now c.in-Delimiter.role c.in-Delimiter.count c.in-Delimiter.is c.requires

pub intermission-requires : goal.intermission-requires
intermission-requires c = intermission_small c.args.self.now c.in-Intermission.role c.in-Intermission.count c.in-Intermission.is c.requires

pub suspended-requires : goal.suspended-requires
suspended-requires c = suspended_small c.args.self.now c.in-Suspended.count c.in-Suspended.is c.requires

pub bus_off_bit-requires-clause-few : goal.bus_off_bit-requires-clause-few
bus_off_bit-requires-clause-few c = off_few c.args.self.now c.in-BusOff.runs c.in-BusOff.run' c.in-BusOff.is c.requires

pub bus_off_bit-requires-clause-short : goal.bus_off_bit-requires-clause-short
bus_off_bit-requires-clause-short c = off_short c.args.self.now c.in-BusOff.runs c.in-BusOff.run' c.in-BusOff.is c.requires

pub returns-in-Integrating : goal.returns-in-Integrating
returns-in-Integrating c s i =
    let h = at_state c.args.self.now (states.Integrating c.in-Integrating.run') s c.in-Integrating.is i in
    by_sort _ _ s _ _ h.0 (c.integrating.ensures s.own c.args.mode h.1)

pub returns-in-Idle : goal.returns-in-Idle
returns-in-Idle c s i =
    let h = at_state c.args.self.now states.Idle s c.in-Idle.is i in
    by_sort _ _ s _ _ h (c.idle_bit.ensures s.own c.args.mode)

pub returns-in-Sending : goal.returns-in-Sending
returns-in-Sending c s i =
    let h = at_state c.args.self.now (states.Sending c.in-Sending.last c.in-Sending.run') s c.in-Sending.is i in
    by_sort _ _ s _ _ h.1 (c.sending.ensures h.0 _ s.own h.2 h.3 h.4)

pub returns-in-Receiving : goal.returns-in-Receiving
returns-in-Receiving c s i =
    let h = at_state c.args.self.now (states.Receiving c.in-Receiving.last c.in-Receiving.run') s c.in-Receiving.is i in
    by_sort _ _ s _ _ h.1 (c.receiving.ensures h.0 _ s.own h.2 h.3)

pub returns-in-SentTail : goal.returns-in-SentTail
returns-in-SentTail c s i =
    let h = at_state c.args.self.now (states.SentTail c.in-SentTail.place) s c.in-SentTail.is i in
    by_sort _ _ s _ _ h.1 (c.sent_tail.ensures h.0 _ s.own h.3 h.2 h.4)

pub returns-in-ReceivedTail : goal.returns-in-ReceivedTail
returns-in-ReceivedTail c s i =
    let h = at_state c.args.self.now (states.ReceivedTail c.in-ReceivedTail.place c.in-ReceivedTail.is_crc_right) s c.in-ReceivedTail.is i in
    by_sort _ _ s _ _ h.1 (c.received_tail.ensures h.0 _ s.own h.3 h.2 h.4)

pub returns-in-Flag : goal.returns-in-Flag
returns-in-Flag c s i =
    let h = at_state c.args.self.now (states.Flag c.in-Flag.cause c.in-Flag.role c.in-Flag.count c.in-Flag.run') s c.in-Flag.is i in
    by_sort _ _ s _ _ h.0 (c.dominant_flag.ensures s.own _ c.args.mode h.1 h.2)

pub returns-in-PassiveFlag : goal.returns-in-PassiveFlag
returns-in-PassiveFlag c s i =
    let h = at_state c.args.self.now (states.PassiveFlag c.in-PassiveFlag.role c.in-PassiveFlag.counts_missing_ack c.in-PassiveFlag.last c.in-PassiveFlag.run') s c.in-PassiveFlag.is i in
    by_sort _ _ s _ _ h.1 (c.passive_flag.ensures s.own _ c.args.mode h.0 h.2)

pub returns-in-Wait : goal.returns-in-Wait
returns-in-Wait c s i =
    let h = at_state c.args.self.now (states.Wait c.in-Wait.role c.in-Wait.is_late c.in-Wait.until_long) s c.in-Wait.is i in
    by_sort _ _ s _ _ h.2 (c.waiting.ensures s.own _ c.args.mode h.0 h.1 h.3)

pub returns-in-Delimiter : goal.returns-in-Delimiter
returns-in-Delimiter c s i =
    let h = at_state c.args.self.now (states.Delimiter c.in-Delimiter.role c.in-Delimiter.count) s c.in-Delimiter.is i in
    by_sort _ _ s _ _ h.0 (c.delimiting.ensures s.own _ h.1)

pub returns-in-Intermission : goal.returns-in-Intermission
returns-in-Intermission c s i =
    let h = at_state c.args.self.now (states.Intermission c.in-Intermission.role c.in-Intermission.count) s c.in-Intermission.is i in
    by_sort _ _ s _ _ h.0 (c.intermission.ensures s.own h.1)

pub returns-in-Suspended : goal.returns-in-Suspended
returns-in-Suspended c s i =
    let h = at_state c.args.self.now (states.Suspended c.in-Suspended.count) s c.in-Suspended.is i in
    by_sort _ _ s _ _ h.0 (c.suspended.ensures s.own c.args.mode h.1)

pub returns-in-BusOff : goal.returns-in-BusOff
returns-in-BusOff c s i =
    let h = at_state c.args.self.now (states.BusOff c.in-BusOff.runs c.in-BusOff.run') s c.in-BusOff.is i in
    by_sort _ _ s _ _ h.0 (c.bus_off_bit.ensures s.own c.args.mode h.1)
