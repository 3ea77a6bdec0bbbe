use Rattle.std.proofs.Common.{◌≡◌, refl, []}
use Rattle.std.proofs.lemmas.List.Elements.{All-cons, All-nil}
use Rattle.wl_record_core.specs.declared.record.Record.TheVariants.{Clash}
use Rattle.wl_record_core.specs.declared.record.Slot.TheVariants.{EdgeAt}
use Rattle.wl_record_core.specs.Slots.{slot_of}
use Rattle.wl_hub.proofs.Passes.{saw_gift, edge_else}
use Rattle.wl_hub.proofs.hub.Hub.take_clash.Goals as goal

pub returns-clause-seen : goal.returns-clause-seen
returns-clause-seen g c =
    let learnt = c.clash.ensures.learns in
    let slot = EdgeAt c.args.node c.args.seq in
    let s = saw_gift slot (Clash c.args.node c.args.seq) learnt.0 c.args.pass.now.edges.seat.me.0 c.clash.new.part.seat.me.0 learnt.2 in
    record {
      gift = s.0;
      kept = s.1;
      others = edge_else c.args.pass.now _ c.args.self.now.shape.items c.args.node c.args.seq c.edge_index-i.result _ learnt.0 c.requires.here.1.1 c.edge_index-i.ensures.place learnt.2 refl
          (All-cons (λ r. slot_of r ≡ slot) (Clash c.args.node c.args.seq) [] refl (All-nil (λ r. slot_of r ≡ slot))) learnt.1;
    }
