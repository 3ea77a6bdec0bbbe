use Rattle.std.proofs.Common.{◌≡◌, ◌∙◌, ap, ap₂, sym, ℕ, length, map, List}
use Rattle.wl_bound.specs.Rooms.{plain_bus}
use Rattle.wl_level.specs.Places.{first_place}
use Rattle.wl_respond.specs.declared.asked.Asked.{Asked}
use Rattle.wl_respond.specs.declared.message.MessageWait.{MessageWait}
use Rattle.wl_respond.specs.Asks.{has_no_period, message_in}
use Rattle.wl_respond.specs.Bounds.{lines_shown}
use Rattle.wl_respond.specs.Parts.{load_at_most}
use Rattle.wl_respond.specs.Tests.{pass}
use Rattle.wl_respond.proofs.Waiting.{are_waits}
use Rattle.wl_respond.proofs.bounds.waits_of.Goals as goal

pub returns-clause-waits : goal.returns-clause-waits
returns-clause-waits c =
    let b = plain_bus c.args.family.now in
    let windows = c.args.found.windows.items in
    let passes : c.in_ok-passes.passes ≡ pass b c.as_slice-5.result.now windows =
    c.in_ok-passes.ensures ∙ ap₂ (λ (x : List MessageWait) (y : List ℕ). pass b x y) (c.as_slice-3.ensures ∙ sym c.as_slice-5.ensures) c.as_slice-2.ensures.value in
    are_waits c.args.tick c.args.bus.now c.args.family.now windows c.args.found.asked c.as_slice-4.result.now c.as_slice-5.result.now
    c.first_lacking-lacking.result c.in_ok-passes.passes c.first_jittered-jittered.result c.load_at_most-load.result c.in_ok-lines.lines
    c.as_slice-4.ensures (c.as_slice-5.ensures ∙ (c.in_ok-messages.ensures ∙ ap (map message_in) c.as_slice.ensures))
    passes
    (c.first_jittered-jittered.ensures.first ∙ ap (λ (x : List Asked). first_place (has_no_period x) (length x)) c.as_slice.ensures)
    (c.load_at_most-load.ensures ∙ ap (load_at_most b) (c.as_slice-6.ensures ∙ sym c.as_slice-5.ensures))
    (c.in_ok-lines.ensures ∙ ap₂ (λ (x : List Asked) (y : List ℕ). lines_shown c.args.tick b y c.in_ok-passes.passes x) c.as_slice.ensures c.as_slice-2.ensures.value)
    (c.first_lacking-lacking.ensures windows passes)
