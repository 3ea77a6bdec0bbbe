use Rattle.std.proofs.Common.{◌≡◌, ◌∙◌, ap₂, List, map}
use Rattle.std.proofs.lemmas.Result.{IfOk-weaker}
use Rattle.wl_bound.specs.BusTimes.{times_of}
use Rattle.wl_bound.specs.Rooms.{plain_bus}
use Rattle.wl_bound.specs.declared.times.BusTimes.{BusTimes}
use Rattle.wl_respond.specs.declared.message.MessageWait.{MessageWait}
use Rattle.wl_respond.specs.Asks.{message_in}
use Rattle.wl_respond.specs.Parts.{told_line}
use Rattle.wl_respond.specs.Rows.{MessageTerms}
use Rattle.wl_respond.specs.Tests.{row_for}
use Rattle.wl_respond.proofs.bounds.all_lines.Goals as goal

pub returns : goal.returns
returns c =
    let b = plain_bus c.args.family.now in
    let rows : c.as_slice-2.result.now ≡ map (row_for b (times_of b)) (map message_in c.args.it.now.asked.now) =
    c.as_slice-2.ensures ∙ c.in_ok-rows.ensures
    ∙ ap₂ (λ (t : BusTimes) (all : List MessageWait). map (row_for b t) all) c.times-times.ensures.value (c.as_slice.ensures ∙ c.in_ok-messages.ensures) in
    IfOk-weaker c.lines_of.result _ _
    (λ lines h. h ∙ ap₂ (λ (t : BusTimes) (all : List MessageTerms). map (told_line c.args.tick b t all c.args.it.now.windows.now c.args.shown) c.args.it.now.asked.now) c.times-times.ensures.value rows)
    c.lines_of.ensures
