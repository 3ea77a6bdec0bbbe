use Rattle.std.proofs.Common.{◌≡◌, ◌∙◌, ap, sym, subst, cond, ◌&&◌, not, Bool, List, [], ◌∷◌, ◌++◌, length}
use Rattle.wl_level.specs.declared.Level.{Level}
use Rattle.wl_level.specs.Places.{or_at}
use Rattle.wl_frame.specs.Stuffing.{is_stuff}
use Rattle.wl_frame.specs.Grammar.{is_whole}
use Rattle.wl_machine.specs.Judged.{role_of}
use Rattle.wl_machine.specs.Roles.{RoleLaws, loses}
use Rattle.wl_trace.specs.Events.{is_transmitter}
use Rattle.wl_trace.specs.Running.{IsSent, KeepsSent, KeepsStretch, IsKind, way_of}
use Rattle.wl_trace.proofs.Taken.{goes_on, role_kept, bits_kept, end_kept}
use Rattle.wl_trace.proofs.stretch.RunningStretch.take.Goals as goal

pub returns-in_ok-take_bit : goal.returns-in_ok-take_bit
returns-in_ok-take_bit c s x r l none =
    let laws : RoleLaws = c.a_role_lasts_to_the_end_of_the_intermission.ensures in
    let own : List Level = c.args.self.now.own.items in
    let more : List Level = s.own ++ x.level ∷ [] in
    let next : List Level = c.take_bit.new.self.bits.items in
    let kind = subst (λ k. IsKind k c.args.self.now.bits.items s) c.in-Framing.is r.kind in
    let lost : c.loses-lost.result ≡ (is_transmitter (role_of s) && loses s x.level) =
    c.loses-lost.ensures s r ∙ ap (λ (k : Level). is_transmitter (role_of s) && loses s k) (sym l) in
    let grown : c.take_bit.new.self.own.items ≡ more =
    c.in_ok-take_bit.ensures.own ∙ c.in_ok-push.ensures.items ∙ ap (λ (k : List Level). k ++ c.args.level ∷ []) r.own ∙ ap (λ (k : Level). s.own ++ k ∷ []) (sym l) in
    let bits : next ≡ c.args.self.now.bits.items ++ cond (is_stuff s.own (length s.own)) [] (x.level ∷ []) =
    c.in_ok-take_bit.ensures.bits
    ∙ ap (λ (b : Bool). c.args.self.now.bits.items ++ cond b [] (c.args.level ∷ [])) (c.is_stuff_due-stuff.ensures ∙ ap (λ (k : List Level). is_stuff k (length k)) c.deref.ensures.value ∙ ap (λ (k : List Level). is_stuff k (length k)) r.own)
    ∙ ap (λ (k : Level). c.args.self.now.bits.items ++ cond (is_stuff s.own (length s.own)) [] (k ∷ [])) (sym l) in
    subst (KeepsStretch _) (sym (goes_on laws s x none)) (record {
      own = grown;
      kind = (
        kind.0,
        role_kept laws s x none c.in-Framing.head c.in-Framing.sends kind.0 kind.1 c.loses-lost.result lost ∙ ap way_of (sym c.still_sends.ensures),
        end_kept laws s x none c.args.self.now.bits.items next kind.3 bits c.in-Framing.end kind.2
            ∙ sym (c.end_after.ensures ∙ ap (λ (k : List Level). or_at c.in-Framing.end (is_whole next && not (is_stuff k (length k))) (length k)) grown),
        bits_kept laws s x none c.args.self.now.bits.items next kind.3 bits,
      );
      sent = subst (IsSent c.in-Framing.head) (sym c.in_ok-take_bit.ensures.sent) (subst (λ k. KeepsSent k c.args.self.now.sent.items) c.in-Framing.is r.sent);
    })
