use Rattle.wl_mail.proofs.News.{edge_found, clash_found, silence_found}
use Rattle.wl_mail.proofs.hand_over.is_news.Goals as goal

pub returns-in-Edge-Edge : goal.returns-in-Edge-Edge
returns-in-Edge-Edge c = edge_found c.taking_is_joining.ensures c.states_join_slot_by_slot.ensures c.slots_of_states.ensures c.args.known.now c.nodes.ensures.records c.args.entry c.slot.result c.slot-2.result
    c.in-Edge-Edge.word c.in-Edge-Edge.node-1 c.in-Edge-Edge.seq-1 c.in-Edge-Edge.tick c.adds.result c.in-Edge-Edge.is-1 c.slot.ensures c.slot-2.ensures c.in-Edge-Edge.is-0 c.adds.ensures

pub returns-in-Edge-Clash : goal.returns-in-Edge-Clash
returns-in-Edge-Clash c = clash_found c.taking_is_joining.ensures c.states_join_slot_by_slot.ensures c.slots_of_states.ensures c.args.known.now c.nodes.ensures.records c.args.entry c.slot.result c.slot-2.result
    c.in-Edge-Clash.word c.in-Edge-Clash.node-1 c.in-Edge-Clash.seq-1 c.adds-in-Edge-Clash.result c.in-Edge-Clash.is-1 c.slot.ensures c.slot-2.ensures c.in-Edge-Clash.is-0 c.adds-in-Edge-Clash.ensures

pub returns-in-Silence-Silence : goal.returns-in-Silence-Silence
returns-in-Silence-Silence c = silence_found c.taking_is_joining.ensures c.states_join_slot_by_slot.ensures c.slots_of_states.ensures c.args.known.now c.nodes.ensures.records c.args.entry c.slot.result c.slot-2.result
    c.in-Silence-Silence.word c.in-Silence-Silence.node-1 c.in-Silence-Silence.count-1 c.in-Silence-Silence.until c.adds-in-Silence-Silence.result c.in-Silence-Silence.is-1 c.slot.ensures c.slot-2.ensures c.in-Silence-Silence.is-0 c.adds-in-Silence-Silence.ensures
