use Rattle.std.proofs.Common.{◌∙◌, refl, sym, subst, arith}
use Rattle.wl_worker.specs.Handed.{TellsNews}
use Rattle.wl_worker.proofs.Named.{still_of}
use Rattle.wl_worker.proofs.Seen.{changes_stay, one_change_more, saw_edge, saw_both, no_last_word}
use Rattle.wl_worker.proofs.Took.{took_both, changed_both}
use Rattle.wl_worker.proofs.fetch.learn_edges.Goals as goal

pub learn_edge-requires : goal.learn_edge-requires
learn_edge-requires c = c.in-Some.ensures.truth c.loop-seq.group.plan c.loop-seq.invariant.2.name

pub loop-seq-preserved : goal.loop-seq-preserved
loop-seq-preserved c =
    let was = c.loop-seq.invariant in
    let took = c.in_ok-taken.ensures.took in
    let joins = c.states_join_slot_by_slot.ensures in (
      c.edge_seen.ensures.here,
      c.edge_seen.ensures.name ∙ was.1,
      still_of c.args.hub.now c.loop-seq.pass c.edge_seen.new.pass c.loop-seq.group c.learn_edge.new.group took c.edge_seen.ensures.name was.2,
      took_both c.taking_laws.ensures c.args.group.now c.loop-seq.group c.learn_edge.new.group was.3 took,
      subst (TellsNews c.args.group.now c.learn_edge.new.group) (sym c.either-came.ensures)
          (changed_both c.taking_laws.ensures c.args.group.now c.loop-seq.group c.learn_edge.new.group was.3 took c.loop-seq.came c.in_ok-taken.taken was.4 c.in_ok-taken.ensures.changed),
      refl,
      saw_both c.args.node c.args.pass.now c.loop-seq.pass c.edge_seen.new.pass was.6 (saw_edge c.args.node c.loop-seq.seq c.loop-seq.pass c.edge_seen.new.pass c.edge_seen.ensures.others),
      (λ had. one_change_more c.learn_edge.new.group c.args.node c.loop-seq.seq
          (changes_stay joins c.loop-seq.group c.learn_edge.new.group took c.args.node c.loop-seq.seq (was.7 had)) c.in_ok-taken.ensures.known),
    )

pub returns-in_err-taken-clause-others : goal.returns-in_err-taken-clause-others
returns-in_err-taken-clause-others c =
    saw_both c.args.node c.args.pass.now c.loop-seq.pass c.edge_seen.new.pass c.loop-seq.invariant.6
    (saw_edge c.args.node c.loop-seq.seq c.loop-seq.pass c.edge_seen.new.pass c.edge_seen.ensures.others)

pub returns-in_default-clause-others : goal.returns-in_default-clause-others
returns-in_default-clause-others c =
    saw_both c.args.node c.args.pass.now c.loop-seq.pass c.edge_seen.new.pass c.loop-seq.invariant.6
    (saw_edge c.args.node c.loop-seq.seq c.loop-seq.pass c.edge_seen.new.pass c.edge_seen.ensures.others)

pub returns-after-loop-seq-clause-no_more : goal.returns-after-loop-seq-clause-no_more
returns-after-loop-seq-clause-no_more c =
    no_last_word c.checked_is_sound.ensures c.args.hub.now c.loop-seq.pass c.loop-seq.pass c.loop-seq.group.plan c.loop-seq.invariant.2 c.args.node c.loop-seq.next
    (let last = c.loop-seq-test.false in let same = c.loop-seq.invariant.5 in omega arith)
