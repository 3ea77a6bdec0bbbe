use Rattle.std.proofs.Common.{refl, [], ◌≡◌, ◌∙◌, ◌++◌, ap, sym}
use Rattle.wl_record_core.specs.declared.record.Slot.TheVariants.{SilenceAt}
use Rattle.std.proofs.lemmas.List.Elements.{All-nil}
use Rattle.wl_record_core.specs.Slots.{slot_of}
use Rattle.wl_hub.proofs.Words.{join_of_true}
use Rattle.wl_hub.proofs.Passes.{saw_look, silence_answer, silence_else}
use Rattle.wl_hub.proofs.hub.Hub.look_silence.Goals as goal

pub returns-clause-saw : goal.returns-clause-saw
returns-clause-saw g c =
    let learnt = c.look.ensures.learns in
    let answer = silence_answer c.args.self.now.shape.items c.args.pass.now.silences.seat.me.0 c.look.new.part.seat.me.0 c.args.node c.args.count c.silence_index-i.result c.look.result (sym c.args.pass.now.same_shape ∙ c.requires.here.1.1) c.silence_index-i.ensures.place c.look.ensures.word in
    let s = saw_look (SilenceAt c.args.node c.args.count) learnt.0 c.args.pass.now.silences.seat.me.0 c.look.new.part.seat.me.0 c.look.result learnt.2 answer in
    record {
      answer = answer;
      kept = s.0;
      gifts = s.1;
      others = silence_else c.args.pass.now _ c.args.self.now.shape.items c.args.node c.args.count c.silence_index-i.result [] learnt.0 (sym c.args.pass.now.same_shape ∙ c.requires.here.1.1) c.silence_index-i.ensures.place learnt.2 refl
          (All-nil (λ r. slot_of r ≡ SilenceAt c.args.node c.args.count)) learnt.1;
    }

pub returns-clause-told : goal.returns-clause-told
returns-clause-told g c n called =
    let learnt = c.look.ensures.learns in
    let answer = silence_answer c.args.self.now.shape.items c.args.pass.now.silences.seat.me.0 c.look.new.part.seat.me.0 c.args.node c.args.count c.silence_index-i.result c.look.result (sym c.args.pass.now.same_shape ∙ c.requires.here.1.1) c.silence_index-i.ensures.place c.look.ensures.word in
    join_of_true (g.T.Truth.is_true n) (SilenceAt c.args.node c.args.count) (c.look.new.part.seat.me.0.given ++ c.look.new.part.seat.me.0.told) c.look.result (c.look.ensures.told n (ap (λ v. v.name) learnt.2 ∙ sym c.args.pass.now.same_name ∙ called)) answer
