use Rattle.std.proofs.Common.{◌≡◌, ◌∙◌, [], ◌∷◌, ◌++◌, Some, true, sym, ap, subst, refl}
use Rattle.wl_frame.specs.Grammar.{Content}
use Rattle.wl_machine.specs.declared.Done.{Done}
use Rattle.wl_machine.specs.declared.Done.TheVariants as dones
use Rattle.wl_machine.specs.Stretch.{Ended}
use Rattle.wl_machine.specs.Stretch.Ended.{NoFrame, Sent, Received}
use Rattle.wl_machine.specs.States.{done_of}
use Rattle.wl_node.specs.Unsent.{IsUnsent}
use Rattle.wl_node.specs.History.{passed_frames}
use Rattle.wl_node.proofs.traffic.pass.Goals as goal

-- a sample that sent a frame says which
sent_ended : (done : Done) (ended : Ended) → done ≡ dones.Sent → done ≡ done_of ended → (frame : Content) × (ended ≡ Sent frame)
sent_ended done NoFrame e f = (let bad : dones.Sent ≡ dones.Nothing = sym e ∙ f in cc)
sent_ended done (Received frame) e f = (let bad : dones.Sent ≡ dones.Received frame = sym e ∙ f in cc)
sent_ended done (Sent frame) e f = (frame, refl)

pub returns-in-Some-clause-passed : goal.returns-in-Some-clause-passed
returns-in-Some-clause-passed c ended past e was chosen =
    let is = sent_ended c.args.done ended c.in-Sent.is e in
    let made = c.send.ensures.sent past is.0 c.args.quantum was (chosen is.0 is.1) in
    let frame : c.in-Some.frame ≡ is.0 = (let both : Some c.in-Some.frame ≡ Some is.0 = sym c.in-Some.is ∙ made.0 in cc) in (
      c.push_reserved.ensures.items ∙ ap (λ f. c.args.frames.now.items ++ record { sent = true; quantum = c.args.quantum; frame = f } ∷ []) frame ∙ ap (λ d. c.args.frames.now.items ++ passed_frames c.args.quantum d) (sym is.1),
      subst (λ d. IsUnsent c.args.setup.now c.send.new.self (past ++ passed_frames c.args.quantum d)) (sym is.1) made.1,
    )

pub returns-in_default-clause-passed : goal.returns-in_default-clause-passed
returns-in_default-clause-passed c ended past e was chosen =
    let is = sent_ended c.args.done ended c.in-Sent.is e in
    let made = c.send.ensures.sent past is.0 c.args.quantum was (chosen is.0 is.1) in
    absurd (c.in_default.not-Some is.0 made.0)
