use Rattle.std.proofs.Common.{refl, [], ◌≡◌, ◌∙◌, ◌++◌, ap}
use Rattle.wl_record_core.specs.declared.record.Slot.TheVariants.{EdgeAt}
use Rattle.std.proofs.lemmas.List.Elements.{All-nil}
use Rattle.wl_record_core.specs.Slots.{slot_of}
use Rattle.wl_hub.proofs.Words.{join_of_true}
use Rattle.wl_hub.proofs.Passes.{saw_look, edge_answer, edge_else}
use Rattle.wl_hub.proofs.hub.Hub.look_edge.Goals as goal

pub returns-clause-saw : goal.returns-clause-saw
returns-clause-saw g c =
    let learnt = c.look.ensures.learns in
    let answer = edge_answer c.args.self.now.shape.items c.args.pass.now.edges.seat.me.0 c.look.new.part.seat.me.0 c.args.node c.args.seq c.edge_index-i.result c.look.result c.requires.here.1.1 c.edge_index-i.ensures.place c.look.ensures.word in
    let s = saw_look (EdgeAt c.args.node c.args.seq) learnt.0 c.args.pass.now.edges.seat.me.0 c.look.new.part.seat.me.0 c.look.result learnt.2 answer in
    record {
      answer = answer;
      kept = s.0;
      gifts = s.1;
      others = edge_else c.args.pass.now _ c.args.self.now.shape.items c.args.node c.args.seq c.edge_index-i.result [] learnt.0 c.requires.here.1.1 c.edge_index-i.ensures.place learnt.2 refl
          (All-nil (λ r. slot_of r ≡ EdgeAt c.args.node c.args.seq)) learnt.1;
    }

pub returns-clause-told : goal.returns-clause-told
returns-clause-told g c n called =
    let learnt = c.look.ensures.learns in
    let answer = edge_answer c.args.self.now.shape.items c.args.pass.now.edges.seat.me.0 c.look.new.part.seat.me.0 c.args.node c.args.seq c.edge_index-i.result c.look.result c.requires.here.1.1 c.edge_index-i.ensures.place c.look.ensures.word in
    join_of_true (g.T.Truth.is_true n) (EdgeAt c.args.node c.args.seq) (c.look.new.part.seat.me.0.given ++ c.look.new.part.seat.me.0.told) c.look.result (c.look.ensures.told n (ap (λ v. v.name) learnt.2 ∙ called)) answer
