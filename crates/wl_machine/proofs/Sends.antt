-- How many bits a transmitter has before it, by its state and by its running stretch.
use Rattle.std.proofs.Common.{◌≡◌, ◌∙◌, ◌-◌, Option, Some, None, List, length, refl, sym, ap}
use Rattle.wl_level.specs.declared.Level.{Level}
use Rattle.wl_frame.specs.Grammar.{Content, bits_of}
use Rattle.wl_frame.specs.Stuffing.{destuffed_bits}
use Rattle.wl_machine.specs.declared.progress.Progress.{Progress}
use Rattle.wl_machine.specs.declared.state.Role.TheVariants.{Tx, Rx}
use Rattle.wl_machine.specs.declared.state.State.{State}
use Rattle.wl_machine.specs.declared.state.State.TheVariants as states
use Rattle.wl_machine.specs.Frames.{stuffed_end, frame_role}
use Rattle.wl_machine.specs.Stretch.{Stretch}
use Rattle.wl_machine.specs.Stretch.Sort.{Framing}
use Rattle.wl_machine.specs.States.{IsIn, IsAtState}
use Rattle.wl_machine.specs.Sending.{bits_as, to_send_by, to_send, state_to_send}

received : (head : Option Content) (own : List Level) → frame_role head own ≡ Rx → to_send_by (Framing head) own ≡ 0
received None own h = refl
received (Some head) own h = ap (λ r. bits_as r (stuffed_end own) (length (bits_of head) - length (destuffed_bits own (length own)))) h

left_at : (state : State) (bits sent own : List Level) → (s : Stretch) → s.own ≡ own → IsAtState state bits sent s.sort own → state_to_send state bits sent ≡ to_send_by s.sort own
left_at (states.Integrating run) bits sent own s e h = sym (ap (λ x. to_send_by x own) h.0)
left_at states.Idle bits sent own s e h = sym (ap (λ x. to_send_by x own) h)
left_at (states.Sending last run) bits sent own s e h =
    sym (ap (λ x. to_send_by x own) h.1
    ∙ (ap (λ r. bits_as r (stuffed_end own) (length (bits_of h.0) - length (destuffed_bits own (length own)))) h.2
    ∙ (ap (λ x. bits_as Tx x (length (bits_of h.0) - length (destuffed_bits own (length own)))) h.4.going_on
    ∙ (ap (λ x. length x - length (destuffed_bits own (length own))) (sym h.3) ∙ ap (λ x. length sent - length x) (sym h.4.bits_are)))))
left_at (states.Receiving last run) bits sent own s e h = sym (ap (λ x. to_send_by x own) h.1 ∙ received h.0 own h.2)
left_at (states.SentTail place) bits sent own s e h =
    sym (ap (λ x. to_send_by x own) h.1
    ∙ (ap (λ r. bits_as r (stuffed_end own) (length (bits_of h.0) - length (destuffed_bits own (length own)))) h.2
    ∙ ap (λ x. bits_as Tx x (length (bits_of h.0) - length (destuffed_bits own (length own)))) h.4.found))
left_at (states.ReceivedTail place right) bits sent own s e h = sym (ap (λ x. to_send_by x own) h.1 ∙ received h.0 own h.2)
left_at (states.Flag cause role count run) bits sent own s e h = sym (ap (λ x. to_send_by x own) h.0)
left_at (states.PassiveFlag role owed last run) bits sent own s e h = sym (ap (λ x. to_send_by x own) h.1)
left_at (states.Wait role late left) bits sent own s e h = sym (ap (λ x. to_send_by x own) h.2)
left_at (states.Delimiter role count) bits sent own s e h = sym (ap (λ x. to_send_by x own) h.0)
left_at (states.Intermission role count) bits sent own s e h = sym (ap (λ x. to_send_by x own) h.0)
left_at (states.Suspended count) bits sent own s e h = sym (ap (λ x. to_send_by x own) h.0)
left_at (states.BusOff runs run) bits sent own s e h = sym (ap (λ x. to_send_by x own) h.0)

pub to_send_kept : (m : Progress) (s : Stretch) → IsIn m s → state_to_send m.state m.bits.items m.sent.items ≡ to_send s
to_send_kept m s h = left_at m.state m.bits.items m.sent.items s.own s refl h
