use Rattle.std.proofs.Common.{string_bytes}
use Rattle.wl_margin.proofs.Callers.{grown_twice}
use Rattle.wl_explain.proofs.words.push_node.Goals as goal

pub returns : goal.returns
returns c =
    grown_twice c.push_early.result (string_bytes c.args.text.now) (string_bytes c.push_jump.new.text) (string_bytes c.push_late.new.text)
    (string_bytes c.push_early.new.text) _ _ _
    (rw (c.name_of-name.ensures, c.node-node.ensures) at c.in_ok-push_jump.ensures)
    (rw (c.name_of-name.ensures, c.first_late.ensures, c.node-node.ensures, c.deref.ensures.0) at c.in_ok-push_late.ensures)
    (rw (c.name_of-name.ensures, c.first_early.ensures, c.idle_from-idle.ensures.value, c.node-node.ensures) at c.push_early.ensures)
