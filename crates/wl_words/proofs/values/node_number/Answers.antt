-- A text that writes the number of a node says it.
use Rattle.std.proofs.Common.{◌∙◌}
use Rattle.wl_words.proofs.Words.{node_read, node_unread}
use Rattle.wl_words.proofs.values.node_number.Goals as goal

pub returns-in-Ok : goal.returns-in-Ok
returns-in-Ok c = c.as_node.ensures ∙ node_read c.args.text.now c.in-Ok.number c.in-Ok.ensures.value.0

pub returns-in-Err : goal.returns-in-Err
returns-in-Err c = node_unread c.args.text.now c.in-Err.ensures.value.0
