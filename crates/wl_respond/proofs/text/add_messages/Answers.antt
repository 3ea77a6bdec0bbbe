use Rattle.std.proofs.Common.{◌∙◌, ap, [], ◌∷◌, ◌++◌}
use Rattle.wl_lines.proofs.Callers.{one_more}
use Rattle.wl_respond.specs.Texts.{line_of_message}
use Rattle.wl_respond.proofs.text.add_messages.Goals as goal

pub loop-e-preserved : goal.loop-e-preserved
loop-e-preserved c =
    one_more (line_of_message c.args.names.now c.args.asked.now c.args.lines.now) c.loop-e.e c.args.said.now.items c.loop-e.said.items c.push.new.self.items
    c.loop-e.invariant (c.in_ok-push.ensures.items ∙ ap (λ line. c.loop-e.said.items ++ line ∷ []) c.in_ok-line_of_message.ensures)
