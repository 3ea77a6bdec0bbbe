use Rattle.std.proofs.Common.{◌≡◌, ap, subst, length, arith}
use Rattle.std.proofs.lemmas.List.{get_or_read}
use Rattle.wl_respond.specs.declared.message.MessageWait.{MessageWait}
use Rattle.wl_respond.specs.Tables.{IsBounded}
use Rattle.wl_respond.specs.Tests.{message_at, no_message}
use Rattle.wl_respond.proofs.Listing.{each_more}
use Rattle.wl_respond.proofs.bounds.with_bounds.Goals as goal

pub loop-e-init : goal.loop-e-init
loop-e-init c = (ap length c.new-all.ensures.items, λ k less. absurd (omega arith))

pub loop-e-preserved : goal.loop-e-preserved
loop-e-preserved c =
    let messages = c.args.messages.now in
    let here : c.index-messages-e.result ≡ message_at messages c.loop-e.e = get_or_read messages _ _ c.loop-e-test.true c.index-messages-e.is no_message in
    each_more (λ k y. IsBounded (message_at messages k) y) c.loop-e.all.items c.push.new.self.items c.with_bound.result c.loop-e.e
    c.in_ok-push.ensures.items c.loop-e.invariant.0 c.loop-e.invariant.1
    (subst (λ (x : MessageWait). IsBounded x c.with_bound.result) here c.with_bound.ensures)

pub returns : goal.returns
returns c =
    let long = c.loop-e.invariant.0 in
    let low = c.loop-e.auto.e-end in
    let high = c.loop-e-test.false in
    record { count = omega arith; each = λ e less. c.loop-e.invariant.1 e (omega arith) }
