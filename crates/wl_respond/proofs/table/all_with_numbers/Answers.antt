use Rattle.std.proofs.Common.{◌≡◌, ap, subst, length, arith}
use Rattle.std.proofs.lemmas.List.{get_or_read}
use Rattle.wl_respond.specs.declared.message.MessageWait.{MessageWait}
use Rattle.wl_respond.specs.Tables.{HasNumbers}
use Rattle.wl_respond.specs.Tests.{message_at, no_message}
use Rattle.wl_respond.proofs.Listing.{each_more}
use Rattle.wl_respond.proofs.table.all_with_numbers.Goals as goal

pub loop-e-init : goal.loop-e-init
loop-e-init c = (ap length c.new-table.ensures.items, λ k less. absurd (omega arith))

pub loop-e-preserved : goal.loop-e-preserved
loop-e-preserved c =
    let plan = c.args.plan.now in
    let messages = c.args.messages.now in
    let here : c.index-messages-e.result ≡ message_at messages c.loop-e.e = get_or_read messages _ _ c.loop-e-test.true c.index-messages-e.is no_message in
    each_more (λ k y. HasNumbers plan messages (message_at messages k) y) c.loop-e.table.items c.push.new.self.items c.with_numbers.result c.loop-e.e
    c.in_ok-push.ensures.items c.loop-e.invariant.0 c.loop-e.invariant.1
    (subst (λ (x : MessageWait). HasNumbers plan messages x c.with_numbers.result) here c.with_numbers.ensures)

pub returns : goal.returns
returns c =
    let long = c.loop-e.invariant.0 in
    let low = c.loop-e.auto.e-end in
    let high = c.loop-e-test.false in
    record { count = omega arith; each = λ e less. c.loop-e.invariant.1 e (omega arith) }
