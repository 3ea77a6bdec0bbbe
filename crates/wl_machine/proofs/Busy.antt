-- What a machine does, by its state and by its running stretch.
use Rattle.std.proofs.Common.{◌≡◌, ◌∙◌, List, sym, ap}
use Rattle.wl_level.specs.declared.Level.{Level}
use Rattle.wl_machine.specs.declared.progress.Progress.{Progress}
use Rattle.wl_machine.specs.declared.state.Cause.TheVariants.{Error, Overload}
use Rattle.wl_machine.specs.declared.state.State.{State}
use Rattle.wl_machine.specs.declared.state.State.TheVariants as states
use Rattle.wl_machine.specs.Stretch.{Sort, Stretch}
use Rattle.wl_machine.specs.States.{IsIn, IsAtState}
use Rattle.wl_machine.specs.Doing.{doing_as, doing_by, doing_of, state_doing}

doing_at : (state : State) (bits sent : List Level) (sort : Sort) (own : List Level) → IsAtState state bits sent sort own → state_doing state ≡ doing_by sort own
doing_at (states.Integrating run) bits sent sort own h = sym (ap (λ s. doing_by s own) h.0)
doing_at states.Idle bits sent sort own h = sym (ap (λ s. doing_by s own) h)
doing_at (states.Sending last run) bits sent sort own h = sym (ap (λ s. doing_by s own) h.1 ∙ ap doing_as h.2)
doing_at (states.Receiving last run) bits sent sort own h = sym (ap (λ s. doing_by s own) h.1 ∙ ap doing_as h.2)
doing_at (states.SentTail place) bits sent sort own h = sym (ap (λ s. doing_by s own) h.1 ∙ ap doing_as h.2)
doing_at (states.ReceivedTail place right) bits sent sort own h = sym (ap (λ s. doing_by s own) h.1 ∙ ap doing_as h.2)
doing_at (states.Flag Error role count run) bits sent sort own h = sym (ap (λ s. doing_by s own) h.0)
doing_at (states.Flag Overload role count run) bits sent sort own h = sym (ap (λ s. doing_by s own) h.0)
doing_at (states.PassiveFlag role owed last run) bits sent sort own h = sym (ap (λ s. doing_by s own) h.1)
doing_at (states.Wait role late left) bits sent sort own h = sym (ap (λ s. doing_by s own) h.2)
doing_at (states.Delimiter role count) bits sent sort own h = sym (ap (λ s. doing_by s own) h.0)
doing_at (states.Intermission role count) bits sent sort own h = sym (ap (λ s. doing_by s own) h.0)
doing_at (states.Suspended count) bits sent sort own h = sym (ap (λ s. doing_by s own) h.0)
doing_at (states.BusOff runs run) bits sent sort own h = sym (ap (λ s. doing_by s own) h.0)

pub doing_kept : (m : Progress) (s : Stretch) → IsIn m s → state_doing m.state ≡ doing_of s
doing_kept m s h = doing_at m.state m.bits.items m.sent.items s.sort s.own h
