-- For how long a machine rests, by what it keeps.
use Rattle.std.proofs.Common.{◌≡◌, ◌∙◌, ℕ, ◌-◌, List, length, Option, Some, None, true, cond, refl, sym, ap, arith}
use Rattle.wl_level.specs.declared.Level.{Level}
use Rattle.wl_level.specs.declared.Level.TheVariants.{Dominant, Recessive}
use Rattle.wl_level.specs.Levels.{opposite}
use Rattle.wl_level.specs.Places.{run_at_end}
use Rattle.wl_frame.specs.Grammar.{Content, is_crc_right}
use Rattle.wl_machine.specs.declared.progress.Progress.{Progress}
use Rattle.wl_machine.specs.declared.state.Cause.{Cause}
use Rattle.wl_machine.specs.declared.state.Cause.TheVariants.{Error, Overload}
use Rattle.wl_machine.specs.declared.state.Role.{Role}
use Rattle.wl_machine.specs.declared.state.Role.TheVariants.{Tx, Rx}
use Rattle.wl_machine.specs.declared.state.State.{State}
use Rattle.wl_machine.specs.declared.state.State.TheVariants as states
use Rattle.wl_machine.specs.Stretch.{Sort, Stretch}
use Rattle.wl_machine.specs.Stretch.Flag.{PassiveFlag}
use Rattle.wl_machine.specs.Stretch.Sort.{Integration, Idle, Framing, Flagging, Waiting, Delimiting, Intermission, Suspension, OffBus}
use Rattle.wl_machine.specs.Frames.{stuffed_end, frame_role}
use Rattle.wl_machine.specs.RecessiveStay.{recessive_run, rest_at, rest_in_frame, rest_by, rest_of, state_rest}
use Rattle.wl_machine.specs.States.{IsIn, IsAtState, IsTail, flag_of}
use Rattle.wl_machine.proofs.KeptSilence.{silence_at}

sort_rest : (sort known : Sort) (own : List Level) (o : Option ℕ) → sort ≡ known → rest_by known own ≡ o → o ≡ rest_by sort own
sort_rest sort known own o e d = sym (ap (λ k. rest_by k own) e ∙ d)

in_part : (head : Option Content) (own : List Level) → stuffed_end own ≡ None → rest_by (Framing head) own ≡ None
in_part head own e = ap (λ o. rest_in_frame (frame_role head own) o own) e

behind_end : (head : Option Content) (own : List Level) (role : Role) (end : ℕ) → frame_role head own ≡ role → stuffed_end own ≡ Some end
    → rest_by (Framing head) own ≡ rest_in_frame role (Some end) own
behind_end head own role end r e = ap (λ o. rest_in_frame (frame_role head own) o own) e ∙ ap (λ r. rest_in_frame r (Some end) own) r

place_is : (place end : ℕ) (own : List Level) → IsTail place end own → rest_at (length own - end) ≡ rest_at place
place_is place end own t = ap rest_at (let e = t.place_is in let f : length own - end ≡ place = omega arith in f)

flag_rest : (cause : Cause) (role : Role) (own : List Level) → rest_by (Flagging (flag_of cause) role) own ≡ None
flag_rest Error role own = refl
flag_rest Overload role own = refl

recessive_is : (last : Level) (run : ℕ) (own : List Level) → run ≡ run_at_end last own → run_at_end (opposite last) own ≡ 0 → run_at_end Recessive own ≡ recessive_run last run
recessive_is Dominant run own e f = f
recessive_is Recessive run own e f = sym e

rest_in : (state : State) (bits sent : List Level) (sort : Sort) (own : List Level) → IsAtState state bits sent sort own → state_rest state bits ≡ rest_by sort own
rest_in (states.Integrating run) bits sent sort own h =
    sort_rest sort Integration own _ h.0 (ap Some (sym (silence_at true (states.Integrating run) bits sent Integration own (refl, h.1, h.2))))
rest_in states.Idle bits sent sort own h = sort_rest sort Idle own (Some 0) h refl
rest_in (states.Sending last run) bits sent sort own h = sort_rest sort (Framing (Some h.0)) own None h.1 (in_part (Some h.0) own h.4.going_on)
rest_in (states.Receiving last run) bits sent sort own h = sort_rest sort (Framing h.0) own None h.1 (in_part h.0 own h.3.going_on)
rest_in (states.SentTail place) bits sent sort own h =
    sort_rest sort (Framing (Some h.0)) own (rest_at place) h.1 (behind_end (Some h.0) own Tx h.3 h.2 h.4.found ∙ place_is place h.3 own h.4)
rest_in (states.ReceivedTail place right) bits sent sort own h =
    sort_rest sort (Framing h.0) own (cond right (rest_at place) None) h.1
    (behind_end h.0 own Rx h.3 h.2 h.4.tail.found
    ∙ ap (λ b. cond b (rest_at (length own - h.3)) None) (sym (h.4.right_is ∙ ap is_crc_right h.4.bits_are))
    ∙ ap (λ o. cond right o None) (place_is place h.3 own h.4.tail))
rest_in (states.Flag cause role count run) bits sent sort own h = sort_rest sort (Flagging (flag_of cause) role) own None h.0 (flag_rest cause role own)
rest_in (states.PassiveFlag role owed last run) bits sent sort own h =
    sort_rest sort (Flagging (PassiveFlag h.0) role) own (Some (16 - recessive_run last run)) h.1
    (ap (λ n. Some (16 - n)) (recessive_is last run own h.2.run_is h.2.alone))
rest_in (states.Wait role late left) bits sent sort own h = sort_rest sort (Waiting h.0 role h.1) own (Some 10) h.2 refl
rest_in (states.Delimiter role count) bits sent sort own h = sort_rest sort (Delimiting role) own (Some (10 - count)) h.0 (ap (λ n. Some (10 - n)) (sym h.1.is_length))
rest_in (states.Intermission role count) bits sent sort own h = sort_rest sort (Intermission role) own (Some (2 - count)) h.0 (ap (λ n. Some (2 - n)) (sym h.1.is_length))
rest_in (states.Suspended count) bits sent sort own h = sort_rest sort Suspension own (Some (7 - count)) h.0 (ap (λ n. Some (7 - n)) (sym h.1.is_length))
rest_in (states.BusOff runs run) bits sent sort own h =
    sort_rest sort OffBus own _ h.0 (ap Some (sym (silence_at true (states.BusOff runs run) bits sent OffBus own (refl, h.1))))

pub rest_kept : (m : Progress) (s : Stretch) → IsIn m s → state_rest m.state m.bits.items ≡ rest_of s
rest_kept m s h = rest_in m.state m.bits.items m.sent.items s.sort s.own h
