-- For how long a machine is silent, by what it keeps.
use Rattle.std.proofs.Common.{◌≡◌, ◌∙◌, ℕ, suc, ◌-◌, ◌*◌, ◌%◌, List, length, Option, Some, None, refl, sym, ap, arith, min, max}
use Rattle.std.specs.Prelude.{Bool, if◌then◌else◌}
use Rattle.wl_level.specs.declared.Level.{Level}
use Rattle.wl_level.specs.declared.Level.TheVariants.{Dominant, Recessive}
use Rattle.wl_level.specs.Levels.{opposite}
use Rattle.wl_level.specs.Places.{run_at_end}
use Rattle.wl_frame.specs.Stuffing.{destuffed_bits}
use Rattle.wl_frame.specs.Grammar.{Content, bits_left}
use Rattle.wl_machine.specs.declared.progress.Progress.{Progress}
use Rattle.wl_machine.specs.declared.state.Cause.{Cause}
use Rattle.wl_machine.specs.declared.state.Cause.TheVariants.{Error, Overload}
use Rattle.wl_machine.specs.declared.state.Role.{Role}
use Rattle.wl_machine.specs.declared.state.Role.TheVariants.{Tx, Rx}
use Rattle.wl_machine.specs.declared.state.State.{State}
use Rattle.wl_machine.specs.declared.state.State.TheVariants as states
use Rattle.wl_machine.specs.Stretch.{Sort, Stretch}
use Rattle.wl_machine.specs.Stretch.Flag.{PassiveFlag}
use Rattle.wl_machine.specs.Stretch.Sort.{Integration, Idle, Framing, Flagging, Waiting, Delimiting, Intermission, Suspension, OffBus}
use Rattle.wl_machine.specs.Frames.{stuffed_end, frame_role}
use Rattle.wl_machine.specs.Silence.{silence_in_frame, silence_by, silence_of, state_silence}
use Rattle.wl_machine.specs.States.{IsIn, IsAtState, flag_of}

sort_silence : (heads : Bool) (sort known : Sort) (own : List Level) (n : ℕ) → sort ≡ known → silence_by heads known own ≡ n → n ≡ silence_by heads sort own
sort_silence heads sort known own n e d = sym (ap (λ k. silence_by heads k own) e ∙ d)

in_part : (heads : Bool) (head : Option Content) (own : List Level) (role : Role) → frame_role head own ≡ role → stuffed_end own ≡ None → silence_by heads (Framing head) own ≡ silence_in_frame role None own
in_part heads head own role r e = ap (λ o. silence_in_frame (frame_role head own) o own) e ∙ ap (λ r. silence_in_frame r None own) r

behind_end : (heads : Bool) (head : Option Content) (own : List Level) (role : Role) (end : ℕ) → frame_role head own ≡ role → stuffed_end own ≡ Some end → silence_by heads (Framing head) own ≡ 0
behind_end heads head own Tx end r e = ap (λ o. silence_in_frame (frame_role head own) o own) e ∙ ap (λ r. silence_in_frame r (Some end) own) r
behind_end heads head own Rx end r e = ap (λ o. silence_in_frame (frame_role head own) o own) e ∙ ap (λ r. silence_in_frame r (Some end) own) r

flag_silence : (heads : Bool) (cause : Cause) (role : Role) (own : List Level) → silence_by heads (Flagging (flag_of cause) role) own ≡ 0
flag_silence heads Error role own = refl
flag_silence heads Overload role own = refl

longest_run : (last : Level) (run : ℕ) (own : List Level) → run ≡ run_at_end last own → run_at_end (opposite last) own ≡ 0
    → 7 - max (run_at_end Dominant own) (run_at_end Recessive own) ≡ 7 - run
longest_run Dominant run own e f = omega arith
longest_run Recessive run own e f = omega arith

pub silence_at : (heads : Bool) (state : State) (bits sent : List Level) (sort : Sort) (own : List Level) → IsAtState state bits sent sort own → state_silence heads state bits ≡ silence_by heads sort own
silence_at heads (states.Integrating run) bits sent sort own h = sort_silence heads sort Integration own (10 - run) h.0 (let e = h.1 in omega arith)
silence_at heads states.Idle bits sent sort own h = sort_silence heads sort Idle own (if heads then 0 else 5) h refl
silence_at heads (states.Sending last run) bits sent sort own h = sort_silence heads sort (Framing (Some h.0)) own 0 h.1 (in_part heads (Some h.0) own Tx h.2 h.4.going_on)
silence_at heads (states.Receiving last run) bits sent sort own h =
    sort_silence heads sort (Framing h.0) own (min (5 - run) (bits_left bits)) h.1
    (in_part heads h.0 own Rx h.2 h.3.going_on ∙ ap (λ r. min (5 - r) (bits_left (destuffed_bits own (length own)))) (sym h.3.run_is) ∙ ap (λ k. min (5 - run) (bits_left k)) (sym h.3.bits_are))
silence_at heads (states.SentTail place) bits sent sort own h = sort_silence heads sort (Framing (Some h.0)) own 0 h.1 (behind_end heads (Some h.0) own Tx h.3 h.2 h.4.found)
silence_at heads (states.ReceivedTail place right) bits sent sort own h = sort_silence heads sort (Framing h.0) own 0 h.1 (behind_end heads h.0 own Rx h.3 h.2 h.4.tail.found)
silence_at heads (states.Flag cause role count run) bits sent sort own h = sort_silence heads sort (Flagging (flag_of cause) role) own 0 h.0 (flag_silence heads cause role own)
silence_at heads (states.PassiveFlag role owed last run) bits sent sort own h =
    sort_silence heads sort (Flagging (PassiveFlag h.0) role) own (7 - run) h.1 (longest_run last run own h.2.run_is h.2.alone)
silence_at heads (states.Wait role late left) bits sent sort own h = sort_silence heads sort (Waiting h.0 role h.1) own 1 h.2 refl
silence_at heads (states.Delimiter role count) bits sent sort own h = sort_silence heads sort (Delimiting role) own 0 h.0 refl
silence_at heads (states.Intermission role count) bits sent sort own h = sort_silence heads sort (Intermission role) own 0 h.0 refl
silence_at heads (states.Suspended count) bits sent sort own h = sort_silence heads sort Suspension own (if heads then min (7 - count) 5 else 5) h.0 (ap (λ n. if heads then min (7 - n) 5 else 5) (sym h.1.is_length))
silence_at heads (states.BusOff runs run) bits sent sort own h =
    sort_silence heads sort OffBus own ((128 - runs) * 11 - suc run) h.0
    (ap (λ k. (128 - k) * 11 - suc (run_at_end Recessive own % 11)) (sym h.1.runs_are) ∙ ap (λ k. (128 - runs) * 11 - suc k) (sym h.1.run_is))

pub silence_kept : (heads : Bool) (m : Progress) (s : Stretch) → IsIn m s → state_silence heads m.state m.bits.items ≡ silence_of heads s
silence_kept heads m s h = silence_at heads m.state m.bits.items m.sent.items s.sort s.own h
