use Rattle.wl_c.proofs.Ending.{done_ends, refused_ends}
use Rattle.wl_c.proofs.answer.answer_order.Goals as goal

pub returns-in-Output : goal.returns-in-Output
returns-in-Output c =
    done_ends c.args.out.now c.put_shown.new.out c.put_shown.new.needed c.args.text.now c.args.order
    c.in-Output.said.items c.shown.result c.put_shown.result c.in-Output.ensures c.shown.ensures.bytes c.shown.ensures.fault
    c.put_shown.ensures.bytes c.args.needed.now c.requires c.put_shown.ensures.none

pub returns-in-Refusal : goal.returns-in-Refusal
returns-in-Refusal c =
    refused_ends c.args.out.now c.put_shown-in-Refusal.new.out c.put_shown-in-Refusal.new.needed c.args.text.now c.args.order
    c.in-Refusal.said.items c.refusal_shown.result c.put_shown-in-Refusal.result c.in-Refusal.ensures c.refusal_shown.ensures.bytes
    c.refusal_shown.ensures.fault c.put_shown-in-Refusal.ensures.bytes c.args.needed.now c.requires c.put_shown-in-Refusal.ensures.none
