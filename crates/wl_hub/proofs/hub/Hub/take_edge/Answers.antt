use Rattle.std.proofs.Common.{◌≡◌, refl, []}
use Rattle.std.proofs.lemmas.List.Elements.{All-cons, All-nil}
use Rattle.wl_record_core.specs.declared.record.Record.TheVariants.{Edge}
use Rattle.wl_record_core.specs.declared.record.Slot.TheVariants.{EdgeAt}
use Rattle.wl_record_core.specs.Slots.{slot_of}
use Rattle.wl_hub.proofs.Passes.{saw_gift, edge_else}
use Rattle.wl_hub.proofs.hub.Hub.take_edge.Goals as goal

pub returns-clause-seen : goal.returns-clause-seen
returns-clause-seen g c =
    let learnt = c.claim.ensures.learns in
    let slot = EdgeAt c.args.node c.args.seq in
    let s = saw_gift slot (Edge c.args.node c.args.seq c.args.tick) learnt.0 c.args.pass.now.edges.seat.me.0 c.claim.new.part.seat.me.0 learnt.2 in
    record {
      gift = s.0;
      kept = s.1;
      others = edge_else c.args.pass.now _ c.args.self.now.shape.items c.args.node c.args.seq c.edge_index-i.result _ learnt.0 c.requires.here.1.1 c.edge_index-i.ensures.place learnt.2 refl
          (All-cons (λ r. slot_of r ≡ slot) (Edge c.args.node c.args.seq c.args.tick) [] refl (All-nil (λ r. slot_of r ≡ slot))) learnt.1;
    }
