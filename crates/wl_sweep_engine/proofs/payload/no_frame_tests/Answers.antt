use Rattle.std.proofs.Common.{◌≡◌, ◌∙◌, sym, subst, arith, true, false}
use Rattle.std.specs.Prelude.{All}
use Rattle.std.proofs.lemmas.List.{take_all}
use Rattle.std.proofs.lemmas.List.Elements.{All-more}
use Rattle.wl_node.specs.declared.setup.Queued.{Queued}
use Rattle.wl_sweep_engine.specs.Payload.{TestsClocks}
use Rattle.wl_sweep_engine.proofs.payload.no_frame_tests.Goals as goal

none : Queued → Type 0
none q = TestsClocks q.frame → ⊥

unlike : true ≡ false → ⊥
unlike e = absurd (cc)

pub returns-then-tests_clocks-clause-no : goal.returns-then-tests_clocks-clause-no
returns-then-tests_clocks-clause-no c is all =
    all c.loop-queued.queued-index c.queued-item.result (omega arith)
    (subst (λ (q : Queued). TestsClocks q.frame) c.queued-item.is (c.tests_clocks.ensures.0 c.if-tests_clocks.true))

pub loop-queued-preserved : goal.loop-queued-preserved
loop-queued-preserved c =
    All-more (λ (q : Queued). TestsClocks q.frame → ⊥) c.args.queue.now c.loop-queued.queued-index c.queued-item.result (omega arith) c.loop-queued.invariant
    (subst (λ (q : Queued). TestsClocks q.frame → ⊥) c.queued-item.is (λ t. unlike (sym (c.tests_clocks.ensures.1 t) ∙ c.if-tests_clocks.false)))

pub returns-clause-yes : goal.returns-clause-yes
returns-clause-yes c is =
    subst (All (λ (q : Queued). TestsClocks q.frame → ⊥)) (take_all c.loop-queued.queued-index c.args.queue.now (omega arith)) c.loop-queued.invariant
