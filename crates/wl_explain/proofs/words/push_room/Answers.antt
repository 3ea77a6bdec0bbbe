use Rattle.std.proofs.Common.{string_bytes}
use Rattle.wl_explain.specs.Words.{room_doubts}
use Rattle.wl_margin.proofs.Callers.{each_more}
use Rattle.wl_explain.proofs.words.push_room.Goals as goal

pub loop-i-preserved : goal.loop-i-preserved
loop-i-preserved c =
    each_more (room_doubts c.args.plan.now c.args.names.now) c.loop-i.i (string_bytes c.args.text.now) (string_bytes c.loop-i.text) (string_bytes c.push_room_of.new.text)
    c.loop-i.invariant (rw (c.name_of.ensures, c.node.ensures, c.deref.ensures.0) at c.in_ok-push_room_of.ensures)
