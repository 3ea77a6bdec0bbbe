use Rattle.std.proofs.Common.{◌≡◌, refl, sym, ◌∙◌, []}
use Rattle.std.proofs.lemmas.List.Elements.{All-cons, All-nil}
use Rattle.wl_record_core.specs.declared.record.Record.TheVariants.{Silence}
use Rattle.wl_record_core.specs.declared.record.Slot.TheVariants.{SilenceAt}
use Rattle.wl_record_core.specs.Slots.{slot_of}
use Rattle.wl_hub.proofs.Passes.{saw_gift, silence_else}
use Rattle.wl_hub.proofs.hub.Hub.take_silence.Goals as goal

pub returns-clause-seen : goal.returns-clause-seen
returns-clause-seen g c =
    let learnt = c.raise.ensures.learns in
    let slot = SilenceAt c.args.node c.args.count in
    let s = saw_gift slot (Silence c.args.node c.args.count c.args.until) learnt.0 c.args.pass.now.silences.seat.me.0 c.raise.new.part.seat.me.0 learnt.2 in
    record {
      gift = s.0;
      kept = s.1;
      others = silence_else c.args.pass.now _ c.args.self.now.shape.items c.args.node c.args.count c.silence_index-i.result _ learnt.0 (sym c.args.pass.now.same_shape ∙ c.requires.here.1.1) c.silence_index-i.ensures.place learnt.2 refl
          (All-cons (λ r. slot_of r ≡ slot) (Silence c.args.node c.args.count c.args.until) [] refl (All-nil (λ r. slot_of r ≡ slot))) learnt.1;
    }
