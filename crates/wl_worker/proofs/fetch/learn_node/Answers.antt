use Rattle.std.proofs.Common.{refl, sym, subst, arith}
use Rattle.wl_worker.specs.Handed.{TellsNews}
use Rattle.wl_worker.proofs.Named.{still_of}
use Rattle.wl_worker.proofs.Seen.{saw_silence, saw_both, has_seen}
use Rattle.wl_worker.proofs.Took.{took_nothing, changed_both}
use Rattle.wl_worker.proofs.fetch.learn_node.Goals as goal

pub returns-clause-changed : goal.returns-clause-changed
returns-clause-changed c =
    subst (TellsNews c.args.group.now c.learn_silence.new.group) (sym c.either.ensures)
    (changed_both c.taking_laws.ensures c.args.group.now c.learn_edges.new.group c.learn_silence.new.group c.in_ok-edges.ensures.took c.in_ok-silence.ensures.took
    c.in_ok-edges.edges c.in_ok-silence.silence c.in_ok-edges.ensures.changed c.in_ok-silence.ensures.changed)

pub learn_silence-requires : goal.learn_silence-requires
learn_silence-requires c =
    c.in-Some.ensures.truth c.learn_edges.new.group.plan
    (still_of c.args.hub.now c.args.pass.now c.learn_edges.new.pass c.args.group.now c.learn_edges.new.group c.in_ok-edges.ensures.took c.in_ok-edges.ensures.name c.requires.of).name

pub returns-in_default-clause-others : goal.returns-in_default-clause-others
returns-in_default-clause-others c =
    saw_both c.args.node c.args.pass.now c.learn_edges.new.pass c.silence_seen.new.pass c.in_ok-edges.ensures.others
    (saw_silence c.args.node c.in_ok-edges.next c.learn_edges.new.pass c.silence_seen.new.pass c.silence_seen.ensures.others)

pub returns-in_err-silence-clause-others : goal.returns-in_err-silence-clause-others
returns-in_err-silence-clause-others c =
    saw_both c.args.node c.args.pass.now c.learn_edges.new.pass c.silence_seen.new.pass c.in_ok-edges.ensures.others
    (saw_silence c.args.node c.in_ok-edges.next c.learn_edges.new.pass c.silence_seen.new.pass c.silence_seen.ensures.others)

pub returns-clause-others : goal.returns-clause-others
returns-clause-others c =
    saw_both c.args.node c.args.pass.now c.learn_edges.new.pass c.silence_seen.new.pass c.in_ok-edges.ensures.others
    (saw_silence c.args.node c.in_ok-edges.next c.learn_edges.new.pass c.silence_seen.new.pass c.silence_seen.ensures.others)

pub returns-in_default-clause-known : goal.returns-in_default-clause-known
returns-in_default-clause-known c = λ out had.
    has_seen c.states_join_slot_by_slot.ensures c.args.hub.now c.learn_edges.new.pass c.silence_seen.new.pass c.learn_edges.new.group c.learn_edges.new.group
    (took_nothing c.taking_laws.ensures c.learn_edges.new.group c.learn_edges.new.group refl) c.args.node c.in_ok-edges.next 0 (c.in_ok-edges.ensures.known had)
    c.in_ok-edges.ensures.no_more c.silence_seen.ensures.others c.in_default.ensures.seen (omega arith)

pub returns-clause-known : goal.returns-clause-known
returns-clause-known c = λ out had.
    has_seen c.states_join_slot_by_slot.ensures c.args.hub.now c.learn_edges.new.pass c.silence_seen.new.pass c.learn_edges.new.group c.learn_silence.new.group
    c.in_ok-silence.ensures.took c.args.node c.in_ok-edges.next c.in-Some.until (c.in_ok-edges.ensures.known had)
    c.in_ok-edges.ensures.no_more c.silence_seen.ensures.others c.in-Some.ensures.seen c.in_ok-silence.ensures.known
