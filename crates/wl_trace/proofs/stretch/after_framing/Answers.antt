use Rattle.std.proofs.Common.{◌≡◌, ◌∙◌, ap, sym, subst, ◌-◌, length, Option, ℕ}
use Rattle.wl_frame.specs.Stuffing.{destuffed_bits}
use Rattle.wl_machine.specs.Stretch.{Judgement}
use Rattle.wl_machine.specs.Frames.{framing, framing_by, framing_received, received_tail}
use Rattle.wl_trace.specs.Running.{ComesNext, way_of}
use Rattle.wl_trace.proofs.stretch.after_framing.Goals as goal

pub returns-in-false-Some : goal.returns-in-false-Some
returns-in-false-Some c x head own l m n role end h =
    let e : ℕ = c.in-false-Some.end in
    let place : length own - e ≡ c.saturating_sub.result = sym (c.saturating_sub.ensures ∙ ap (λ (k : ℕ). k - e) n) in
    let judged : framing head own x ≡ received_tail (destuffed_bits own e) c.saturating_sub.result x =
    ap (λ r. framing_by r head own x) (role ∙ ap way_of c.in-false-Some.is-0)
    ∙ ap (λ (o : Option ℕ). framing_received own o x) (end ∙ c.in-false-Some.is-1)
    ∙ ap (λ (k : ℕ). received_tail (destuffed_bits own e) k x) place in
    subst (λ (j : Judgement). ComesNext c.args.level c.after_received_tail.result j.next) (sym judged)
    (c.after_received_tail.ensures x (destuffed_bits own e) l m (h ∙ ap (λ (j : Judgement). j.happened) judged))
