-- Where the bus is free to a machine: a recessive sample leaves it there.
use Rattle.std.proofs.Common.{◌≡◌, ◌∙◌, List, true, None, refl, sym, ap}
use Rattle.wl_level.specs.declared.Level.{Level}
use Rattle.wl_level.specs.declared.Level.TheVariants.{Recessive}
use Rattle.wl_confine.specs.declared.Mode.{Mode}
use Rattle.wl_machine.specs.declared.progress.Progress.{Progress}
use Rattle.wl_machine.specs.declared.state.State.{State}
use Rattle.wl_machine.specs.declared.state.State.TheVariants as states
use Rattle.wl_machine.specs.Stretch.{Sort, Stretch}
use Rattle.wl_machine.specs.Stretch.Input.{Sample}
use Rattle.wl_machine.specs.Stretch.Sort.{Integration, Idle, Framing, Flagging, Waiting, Delimiting, Intermission, Suspension, OffBus}
use Rattle.wl_machine.specs.Judged.{is_free_sort, stretch_after}
use Rattle.wl_machine.specs.States.{IsIn, IsAtState, is_free_state, sample_of, stretch_by}

-- whether the bus is free

free_at : (state : State) (bits sent : List Level) (sort : Sort) (own : List Level) → IsAtState state bits sent sort own → is_free_state state ≡ is_free_sort sort
free_at (states.Integrating run) bits sent sort own h = sym (ap is_free_sort h.0)
free_at states.Idle bits sent sort own h = sym (ap is_free_sort h)
free_at (states.Sending last run) bits sent sort own h = sym (ap is_free_sort h.1)
free_at (states.Receiving last run) bits sent sort own h = sym (ap is_free_sort h.1)
free_at (states.SentTail place) bits sent sort own h = sym (ap is_free_sort h.1)
free_at (states.ReceivedTail place right) bits sent sort own h = sym (ap is_free_sort h.1)
free_at (states.Flag cause role count run) bits sent sort own h = sym (ap is_free_sort h.0)
free_at (states.PassiveFlag role owed last run) bits sent sort own h = sym (ap is_free_sort h.1)
free_at (states.Wait role late left) bits sent sort own h = sym (ap is_free_sort h.2)
free_at (states.Delimiter role count) bits sent sort own h = sym (ap is_free_sort h.0)
free_at (states.Intermission role count) bits sent sort own h = sym (ap is_free_sort h.0)
free_at (states.Suspended count) bits sent sort own h = sym (ap is_free_sort h.0)
free_at (states.BusOff runs run) bits sent sort own h = sym (ap is_free_sort h.0)

pub free_kept : (m : Progress) (s : Stretch) → IsIn m s → is_free_state m.state ≡ is_free_sort s.sort
free_kept m s h = free_at m.state m.bits.items m.sent.items s.sort s.own h

-- a free bus stays free
pub free_sort : (sort : Sort) → is_free_sort sort ≡ true → sort ≡ Idle
free_sort Integration e = cc
free_sort Idle e = refl
free_sort (Framing head) e = cc
free_sort (Flagging flag role) e = cc
free_sort (Waiting flag role flagged) e = cc
free_sort (Delimiting role) e = cc
free_sort (Intermission role) e = cc
free_sort Suspension e = cc
free_sort OffBus e = cc

free_stays : (mode : Mode) (sort : Sort) (own : List Level) → sort ≡ Idle → (stretch_after (stretch_by sort own) (Sample (sample_of Recessive None mode))).sort ≡ Idle
free_stays mode sort own e = ap (λ t. (stretch_after (stretch_by t own) (Sample (sample_of Recessive None mode))).sort) e

free_in : (state : State) (bits sent : List Level) (sort : Sort) (own : List Level) → is_free_state state ≡ true → sort ≡ Idle → IsAtState state bits sent sort own
free_in states.Idle bits sent sort own e f = f
free_in (states.Integrating run) bits sent sort own e f = cc
free_in (states.Sending last run) bits sent sort own e f = cc
free_in (states.Receiving last run) bits sent sort own e f = cc
free_in (states.SentTail place) bits sent sort own e f = cc
free_in (states.ReceivedTail place right) bits sent sort own e f = cc
free_in (states.Flag cause role count run) bits sent sort own e f = cc
free_in (states.PassiveFlag role owed last run) bits sent sort own e f = cc
free_in (states.Wait role late left) bits sent sort own e f = cc
free_in (states.Delimiter role count) bits sent sort own e f = cc
free_in (states.Intermission role count) bits sent sort own e f = cc
free_in (states.Suspended count) bits sent sort own e f = cc
free_in (states.BusOff runs run) bits sent sort own e f = cc

pub free_next : (m : Progress) (s : Stretch) (mode : Mode) → IsIn m s → is_free_state m.state ≡ true → IsIn m (stretch_after s (Sample (sample_of Recessive None mode)))
free_next m s mode h e =
    let idle : s.sort ≡ Idle = free_sort s.sort (sym (free_kept m s h) ∙ e) in
    let next : Stretch = stretch_after s (Sample (sample_of Recessive None mode)) in
    free_in m.state m.bits.items m.sent.items next.sort next.own e (free_stays mode s.sort s.own idle)
