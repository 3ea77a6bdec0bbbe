-- What the state of a machine says of its running stretch.
use Rattle.std.proofs.Common.{◌≡◌, ℕ, suc, ◌+◌, ◌-◌, ◌<◌, ◌≤◌, ◌%◌, ◌∙◌, List, [], ◌∷◌, length, Bool, true, false, cond, ◌&&◌, Option, Some, refl, sym, ap, subst, arith}
use Rattle.std.specs.Prelude.{nat_le, nat_lt, nat_eq, ◌==◌}
use Rattle.std.proofs.lemmas.Bool.{ne_eqb}
use denote.Struct.Props.{props}
use Rattle.std.proofs.Math.Logic.{∥∥₁_elim}
use Rattle.wl_level.specs.declared.Level.{Level}
use Rattle.wl_level.specs.declared.Level.TheVariants.{Dominant, Recessive}
use Rattle.wl_level.specs.Levels.{opposite}
use Rattle.wl_level.specs.Places.{at, run_at, run_at_end}
use Rattle.wl_level.proofs.Callers.{run_before_le, run_positive}
use Rattle.wl_frame.specs.Stuffing.{destuffed_bits}
use Rattle.wl_frame.specs.Grammar.{Content, bits_of, is_whole, is_crc_right}
use Rattle.wl_frame.specs.Limits.{most_bits}
use Rattle.wl_frame.proofs.Callers.{front_room}
use Rattle.wl_machine.specs.declared.progress.Progress.{Progress}
use Rattle.wl_machine.specs.declared.progress.Step.{Step}
use Rattle.wl_machine.specs.declared.state.Cause.{Cause}
use Rattle.wl_machine.specs.declared.state.Cause.TheVariants.{Error, Overload}
use Rattle.wl_machine.specs.declared.state.Role.{Role}
use Rattle.wl_machine.specs.declared.state.Role.TheVariants.{Tx, Rx}
use Rattle.wl_machine.specs.declared.state.State.{State}
use Rattle.wl_machine.specs.declared.state.State.TheVariants as states
use Rattle.wl_machine.specs.Stretch.{Sort, Stretch, Sampled}
use Rattle.wl_machine.specs.Stretch.Sort.{Integration, Idle, Framing, Flagging}
use Rattle.wl_machine.specs.Flags.{long_from, dominant_run}
use Rattle.wl_machine.specs.Frames.{frame_role, frame_drive, drive_up_to, stuffed_drive, tail_drive}
use Rattle.wl_machine.specs.Judged.{awaits_by, awaits_start, drive_by, drive_of, is_idle_sort}
use Rattle.wl_machine.specs.States.{IsIn, IsAtState, IsCount, IsStuffedPart, IsTail, Meets, stretch_by, flag_of, state_drive, awaits_state, is_idle_state}
use Rattle.wl_machine.proofs.FlagSteps.{until_positive}
use Rattle.wl_machine.proofs.Framed.{not_whole, tail_whole}
use Rattle.wl_machine.proofs.FrameSteps.{sent_level_is}

-- in some stretch
abbrev pub IsSomewhere : Progress → Type 0
IsSomewhere m = ∥ ((s : Stretch) × IsIn m s) ∥₁

-- with its state known
pub at_state : (m : Progress) (state : State) (s : Stretch) → m.state ≡ state → IsIn m s → IsAtState state m.bits.items m.sent.items s.sort s.own
at_state m state s e h = subst (λ st. IsAtState st m.bits.items m.sent.items s.sort s.own) e h

-- a step in the stretch of a sort that is known
pub by_sort : (m : Progress) (step : Step) (s : Stretch) (x : Sampled) (sort : Sort) → s.sort ≡ sort → Meets m step (stretch_by sort s.own) x → Meets m step s x
by_sort m step s x sort e h = subst (λ k. Meets m step (stretch_by k s.own) x) (sym e) h

-- the numbers of each state are small

pub integrating_small : (m : Progress) (run : ℕ) → m.state ≡ states.Integrating run → IsSomewhere m → run < 11
integrating_small m run e t = ∥∥₁_elim t (hlevel props) (λ (s, h). (at_state m (states.Integrating run) s e h).2)

pub sending_small : (m : Progress) (last : Level) (run : ℕ) → m.state ≡ states.Sending last run → IsSomewhere m → run ≤ 5
sending_small m last run e t = ∥∥₁_elim t (hlevel props) (λ (s, h). (at_state m (states.Sending last run) s e h).4.run_small)

room : (last : Level) (run : ℕ) (bits own : List Level) → IsStuffedPart last run bits own → run < 5 → length bits < most_bits
room last run bits own p short =
    let few : length bits < 118 = front_room bits p.front (not_whole last run bits own p short) in
    omega arith

pub sending_room : (m : Progress) (last : Level) (run : ℕ) → m.state ≡ states.Sending last run → IsSomewhere m → run < 5 → length m.bits.items < most_bits
sending_room m last run e t short = ∥∥₁_elim t (hlevel props) (λ (s, h). room last run m.bits.items s.own (at_state m (states.Sending last run) s e h).4 short)

pub receiving_small : (m : Progress) (last : Level) (run : ℕ) → m.state ≡ states.Receiving last run → IsSomewhere m → run ≤ 5
receiving_small m last run e t = ∥∥₁_elim t (hlevel props) (λ (s, h). (at_state m (states.Receiving last run) s e h).3.run_small)

pub receiving_room : (m : Progress) (last : Level) (run : ℕ) → m.state ≡ states.Receiving last run → IsSomewhere m → run < 5 → length m.bits.items < most_bits
receiving_room m last run e t short = ∥∥₁_elim t (hlevel props) (λ (s, h). room last run m.bits.items s.own (at_state m (states.Receiving last run) s e h).3 short)

pub sent_tail_small : (m : Progress) (place : ℕ) → m.state ≡ states.SentTail place → IsSomewhere m → place < 10
sent_tail_small m place e t = ∥∥₁_elim t (hlevel props) (λ (s, h). (at_state m (states.SentTail place) s e h).4.below)

pub received_tail_small : (m : Progress) (place : ℕ) (right : Bool) → m.state ≡ states.ReceivedTail place right → IsSomewhere m → place < 10
received_tail_small m place right e t = ∥∥₁_elim t (hlevel props) (λ (s, h). (at_state m (states.ReceivedTail place right) s e h).4.tail.below)

pub received_tail_whole : (m : Progress) (place : ℕ) (right : Bool) → m.state ≡ states.ReceivedTail place right → IsSomewhere m → is_whole m.bits.items ≡ true
received_tail_whole m place right e t =
    ∥∥₁_elim t (hlevel props) (λ (s, h).
    let r = at_state m (states.ReceivedTail place right) s e h in
    ap is_whole r.4.bits_are ∙ tail_whole place r.3 s.own r.4.tail)

pub flag_within : (m : Progress) (cause : Cause) (role : Role) (count run : ℕ) → m.state ≡ states.Flag cause role count run → IsSomewhere m → count < 6
flag_within m cause role count run e t = ∥∥₁_elim t (hlevel props) (λ (s, h). (at_state m (states.Flag cause role count run) s e h).1.below)

pub flag_short : (m : Progress) (cause : Cause) (role : Role) (count run : ℕ) → m.state ≡ states.Flag cause role count run → IsSomewhere m → run < 6
flag_short m cause role count run e t =
    ∥∥₁_elim t (hlevel props) (λ (s, h).
    let f = at_state m (states.Flag cause role count run) s e h in
    omega (arith, f.1.is_length, f.1.below, f.2, run_before_le Dominant s.own (length s.own)))

pub passive_small : (m : Progress) (role : Role) (owed : Bool) (last : Level) (run : ℕ) → m.state ≡ states.PassiveFlag role owed last run → IsSomewhere m → run < 6
passive_small m role owed last run e t = ∥∥₁_elim t (hlevel props) (λ (s, h). (at_state m (states.PassiveFlag role owed last run) s e h).2.run_small)

pub wait_left : (m : Progress) (role : Role) (late : Bool) (left : ℕ) → m.state ≡ states.Wait role late left → IsSomewhere m → 0 < left
wait_left m role late left e t =
    ∥∥₁_elim t (hlevel props) (λ (s, h).
    let w = at_state m (states.Wait role late left) s e h in
    omega (arith, w.3.left_is, until_positive (long_from w.0) (dominant_run w.0 w.1 s.own)))

pub delimiter_small : (m : Progress) (role : Role) (count : ℕ) → m.state ≡ states.Delimiter role count → IsSomewhere m → count < 8
delimiter_small m role count e t = ∥∥₁_elim t (hlevel props) (λ (s, h). (at_state m (states.Delimiter role count) s e h).1.below)

pub intermission_small : (m : Progress) (role : Role) (count : ℕ) → m.state ≡ states.Intermission role count → IsSomewhere m → count < 3
intermission_small m role count e t = ∥∥₁_elim t (hlevel props) (λ (s, h). (at_state m (states.Intermission role count) s e h).1.below)

pub suspended_small : (m : Progress) (count : ℕ) → m.state ≡ states.Suspended count → IsSomewhere m → count < 8
suspended_small m count e t = ∥∥₁_elim t (hlevel props) (λ (s, h). (at_state m (states.Suspended count) s e h).1.below)

pub off_few : (m : Progress) (runs run : ℕ) → m.state ≡ states.BusOff runs run → IsSomewhere m → runs < 128
off_few m runs run e t = ∥∥₁_elim t (hlevel props) (λ (s, h). (at_state m (states.BusOff runs run) s e h).1.runs_small)

pub off_short : (m : Progress) (runs run : ℕ) → m.state ≡ states.BusOff runs run → IsSomewhere m → run < 11
off_short m runs run e t =
    ∥∥₁_elim t (hlevel props) (λ (s, h).
    let run_is : run ≡ run_at_end Recessive s.own % 11 = (at_state m (states.BusOff runs run) s e h).1.run_is in
    omega arith)

-- what is driven

sort_drive : (sort known : Sort) (own : List Level) (level : Level) → sort ≡ known → drive_by known own ≡ level → level ≡ drive_by sort own
sort_drive sort known own level e d = sym (ap (λ k. drive_by k own) e ∙ d)

sent_drive : (head : Content) (own : List Level) (last : Level) (run : ℕ) (bits sent : List Level) → frame_role (Some head) own ≡ Tx → sent ≡ bits_of head → IsStuffedPart last run bits own
    → frame_drive (Some head) own ≡ cond (nat_le 5 run) (opposite last) (at sent (length bits))
sent_drive head own last run bits sent role s p =
    ap (λ e. drive_up_to e (Some head) own) p.going_on ∙ ap (λ r. stuffed_drive r (Some head) own) role ∙ sym (sent_level_is head own last run bits sent p s)

received_drive : (head : Option Content) (own : List Level) (last : Level) (run : ℕ) (bits : List Level) → frame_role head own ≡ Rx → IsStuffedPart last run bits own
    → frame_drive head own ≡ Recessive
received_drive head own last run bits role p = ap (λ e. drive_up_to e head own) p.going_on ∙ ap (λ r. stuffed_drive r head own) role

tail_drive_is : (head : Option Content) (own : List Level) (role : Role) (place end : ℕ) → frame_role head own ≡ role → IsTail place end own
    → frame_drive head own ≡ tail_drive role (destuffed_bits own end) place
tail_drive_is head own role place end r t =
    let place_is : place + end ≡ length own = t.place_is in
    let here : length own - end ≡ place = omega arith in
    ap (λ e. drive_up_to e head own) t.found ∙ ap (λ r. tail_drive r (destuffed_bits own end) (length own - end)) r ∙ ap (tail_drive role (destuffed_bits own end)) here

flag_drive : (cause : Cause) (role : Role) (own : List Level) → drive_by (Flagging (flag_of cause) role) own ≡ Dominant
flag_drive Error role own = refl
flag_drive Overload role own = refl

drive_at : (state : State) (bits sent : List Level) (sort : Sort) (own : List Level) → IsAtState state bits sent sort own → state_drive state bits sent ≡ drive_by sort own
drive_at (states.Integrating run) bits sent sort own h = sort_drive sort Integration own Recessive h.0 refl
drive_at states.Idle bits sent sort own h = sort_drive sort Idle own Recessive h refl
drive_at (states.Sending last run) bits sent sort own h =
    sort_drive sort (Framing (Some h.0)) own (cond (nat_le 5 run) (opposite last) (at sent (length bits))) h.1 (sent_drive h.0 own last run bits sent h.2 h.3 h.4)
drive_at (states.Receiving last run) bits sent sort own h = sort_drive sort (Framing h.0) own Recessive h.1 (received_drive h.0 own last run bits h.2 h.3)
drive_at (states.SentTail place) bits sent sort own h = sort_drive sort (Framing (Some h.0)) own Recessive h.1 (tail_drive_is (Some h.0) own Tx place h.3 h.2 h.4)
drive_at (states.ReceivedTail place right) bits sent sort own h =
    sort_drive sort (Framing h.0) own (cond (nat_eq place 1 && right) Dominant Recessive) h.1
    (tail_drive_is h.0 own Rx place h.3 h.2 h.4.tail ∙ ap (λ b. cond (nat_eq place 1 && b) Dominant Recessive) (sym (h.4.right_is ∙ ap is_crc_right h.4.bits_are)))
drive_at (states.Flag cause role count run) bits sent sort own h = sort_drive sort (Flagging (flag_of cause) role) own Dominant h.0 (flag_drive cause role own)
drive_at (states.PassiveFlag role owed last run) bits sent sort own h = sort_drive sort _ own Recessive h.1 refl
drive_at (states.Wait role late left) bits sent sort own h = sort_drive sort _ own Recessive h.2 refl
drive_at (states.Delimiter role count) bits sent sort own h = sort_drive sort _ own Recessive h.0 refl
drive_at (states.Intermission role count) bits sent sort own h = sort_drive sort _ own Recessive h.0 refl
drive_at (states.Suspended count) bits sent sort own h = sort_drive sort _ own Recessive h.0 refl
drive_at (states.BusOff runs run) bits sent sort own h = sort_drive sort _ own Recessive h.0 refl

pub drive_kept : (m : Progress) (s : Stretch) → IsIn m s → state_drive m.state m.bits.items m.sent.items ≡ drive_of s
drive_kept m s h = drive_at m.state m.bits.items m.sent.items s.sort s.own h

-- whether the bus is idle

idle_at : (state : State) (bits sent : List Level) (sort : Sort) (own : List Level) → IsAtState state bits sent sort own → is_idle_state state ≡ is_idle_sort sort
idle_at (states.Integrating run) bits sent sort own h = sym (ap is_idle_sort h.0)
idle_at states.Idle bits sent sort own h = sym (ap is_idle_sort h)
idle_at (states.Sending last run) bits sent sort own h = sym (ap is_idle_sort h.1)
idle_at (states.Receiving last run) bits sent sort own h = sym (ap is_idle_sort h.1)
idle_at (states.SentTail place) bits sent sort own h = sym (ap is_idle_sort h.1)
idle_at (states.ReceivedTail place right) bits sent sort own h = sym (ap is_idle_sort h.1)
idle_at (states.Flag cause role count run) bits sent sort own h = sym (ap is_idle_sort h.0)
idle_at (states.PassiveFlag role owed last run) bits sent sort own h = sym (ap is_idle_sort h.1)
idle_at (states.Wait role late left) bits sent sort own h = sym (ap is_idle_sort h.2)
idle_at (states.Delimiter role count) bits sent sort own h = sym (ap is_idle_sort h.0)
idle_at (states.Intermission role count) bits sent sort own h = sym (ap is_idle_sort h.0)
idle_at (states.Suspended count) bits sent sort own h = sym (ap is_idle_sort h.0)
idle_at (states.BusOff runs run) bits sent sort own h = sym (ap is_idle_sort h.0)

pub idle_kept : (m : Progress) (s : Stretch) → IsIn m s → is_idle_state m.state ≡ is_idle_sort s.sort
idle_kept m s h = idle_at m.state m.bits.items m.sent.items s.sort s.own h

-- whether it awaits a start of frame

-- a frame has begun where its last samples are some equal ones
run_begun : (run : ℕ) (own : List Level) → run ≡ run_at own (length own) → (run == 0) ≡ (length own == 0)
run_begun run own e = by own e
  where
    by : (own : List Level) → run ≡ run_at own (length own) → (run == 0) ≡ (length own == 0)
    by [] e = ap (λ n. n == 0) e
    by (x ∷ xs) e = ne_eqb run 0 (λ f. let some = run_positive (x ∷ xs) (length xs) in omega arith) ∙ sym (ne_eqb (suc (length xs)) 0 (λ f. omega arith))

-- and where its stuffed part is over
tail_begun : (place end : ℕ) (own : List Level) → IsTail place end own → false ≡ (length own == 0)
tail_begun place end [] t = (let f = t.found in cc)
tail_begun place end (x ∷ xs) t = sym (ne_eqb (suc (length xs)) 0 (λ f. omega arith))

count_begun : (count : ℕ) (own : List Level) (limit : ℕ) → IsCount count own limit → nat_lt 0 count ≡ nat_lt 0 (length own)
count_begun count own limit c = ap (nat_lt 0) c.is_length

awaits_at : (state : State) (bits sent : List Level) (sort : Sort) (own : List Level) → IsAtState state bits sent sort own → awaits_state state ≡ awaits_by sort own
awaits_at (states.Integrating run) bits sent sort own h = sym (ap (λ s. awaits_by s own) h.0)
awaits_at states.Idle bits sent sort own h = sym (ap (λ s. awaits_by s own) h)
awaits_at (states.Sending last run) bits sent sort own h = run_begun run own h.4.run_is ∙ sym (ap (λ s. awaits_by s own) h.1)
awaits_at (states.Receiving last run) bits sent sort own h = run_begun run own h.3.run_is ∙ sym (ap (λ s. awaits_by s own) h.1)
awaits_at (states.SentTail place) bits sent sort own h = tail_begun place h.3 own h.4 ∙ sym (ap (λ s. awaits_by s own) h.1)
awaits_at (states.ReceivedTail place right) bits sent sort own h = tail_begun place h.3 own h.4.tail ∙ sym (ap (λ s. awaits_by s own) h.1)
awaits_at (states.Flag cause role count run) bits sent sort own h = sym (ap (λ s. awaits_by s own) h.0)
awaits_at (states.PassiveFlag role owed last run) bits sent sort own h = sym (ap (λ s. awaits_by s own) h.1)
awaits_at (states.Wait role late left) bits sent sort own h = sym (ap (λ s. awaits_by s own) h.2)
awaits_at (states.Delimiter role count) bits sent sort own h = sym (ap (λ s. awaits_by s own) h.0)
awaits_at (states.Intermission role count) bits sent sort own h = count_begun count own 3 h.1 ∙ sym (ap (λ s. awaits_by s own) h.0)
awaits_at (states.Suspended count) bits sent sort own h = sym (ap (λ s. awaits_by s own) h.0)
awaits_at (states.BusOff runs run) bits sent sort own h = sym (ap (λ s. awaits_by s own) h.0)

pub awaits_kept : (m : Progress) (s : Stretch) → IsIn m s → awaits_state m.state ≡ awaits_start s
awaits_kept m s h = awaits_at m.state m.bits.items m.sent.items s.sort s.own h
