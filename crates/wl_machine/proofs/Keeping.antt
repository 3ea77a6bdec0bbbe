-- Samples of which nothing comes but that they are kept.
use Rattle.std.proofs.Common.{◌≡◌, ◌∙◌, ℕ, ◌+◌, ◌-◌, ◌<◌, ◌≤◌, List, [], ◌∷◌, ◌++◌, length, inl, inr, ◌⊎◌, Bool, true, false, not, cond, ◌&&◌, Option, Some, None, refl, sym, ap, subst, arith}
use Rattle.std.specs.Prelude.{nat_eq, nat_le, nat_lt}
use Rattle.std.proofs.Math.Logic.{∥∥₁_map}
use Rattle.std.proofs.lemmas.Bool.{and_parts, cases_eq, eqb-false, le-leb, leb-true, ltb-true, ne_eqb}
use Rattle.wl_level.specs.declared.Level.{Level}
use Rattle.wl_level.specs.declared.Level.TheVariants.{Dominant, Recessive}
use Rattle.wl_level.specs.Levels.{is_dominant, same}
use Rattle.wl_level.specs.Places.{or_at}
use Rattle.wl_level.proofs.Callers.{length_more}
use Rattle.wl_confine.specs.declared.Mode.{Mode}
use Rattle.wl_confine.specs.declared.Mode.TheVariants.{Active}
use Rattle.wl_confine.specs.declared.Happened.TheVariants as happens
use Rattle.wl_frame.specs.Stuffing.{destuffed_bits}
use Rattle.wl_frame.specs.Grammar.{Content, is_crc_right}
use Rattle.wl_machine.specs.declared.progress.Progress.{Progress}
use Rattle.wl_machine.specs.declared.state.Role.{Role}
use Rattle.wl_machine.specs.declared.state.Role.TheVariants.{Rx, Tx}
use Rattle.wl_machine.specs.declared.state.State.{State}
use Rattle.wl_machine.specs.declared.state.State.TheVariants as states
use Rattle.wl_machine.specs.Stretch.{Sort, Stretch, Sampled, Input, Judgement, continues, begins}
use Rattle.wl_machine.specs.Stretch.Input.{Sample}
use Rattle.wl_machine.specs.Stretch.Sort.{Framing, Flagging, Delimiting, Intermission}
use Rattle.wl_machine.specs.Stretch.Flag.{OverloadFlag}
use Rattle.wl_machine.specs.Flags.{delimiter_error, delimiting, fails}
use Rattle.wl_machine.specs.BetweenFrames.{after_intermission, begun_head, intermission}
use Rattle.wl_machine.specs.Frames.{stuffed_end, frame_role, frame_drive, drive_up_to, stuffed_drive, tail_drive}
use Rattle.wl_machine.specs.Judged.{judged, or_next, stretch_of, drive_by, drive_of}
use Rattle.wl_machine.specs.Keeps.{keeps, keeps_by, keeps_in_delimiter, keeps_in_frame, keeps_in_intermission, keeps_in_sent_tail, keeps_in_tail, state_keeps, with_sample}
use Rattle.wl_machine.specs.States.{IsIn, IsAtState, IsReachedBy, IsStuffedPart, IsTaken, sample_of, state_drive, stretch_by}
use Rattle.wl_machine.proofs.Framed.{role_receives, tail_bits, tail_next, tail_sends, taken}
use Rattle.wl_machine.proofs.FrameSteps.{six_is, not_wrong, received_next, received_tail_is, receiving_on, sent_next, sent_tail_is}
use Rattle.wl_machine.proofs.Kept.{drive_kept}
use Rattle.wl_machine.proofs.Runs.{stretch_next}

-- whether a sample is only kept

sends_none : (own : List Level) (level : Level) (role : Role) (end : Option ℕ) → role ≡ Tx → end ≡ None → keeps_in_frame role end own level ≡ false
sends_none own level role end e none = ap (λ r. keeps_in_frame r end own level) e ∙ ap (λ k. keeps_in_frame Tx k own level) none

tail_so : (own : List Level) (level : Level) (role : Role) (end : Option ℕ) (at place : ℕ) (right : Bool) → role ≡ Rx → end ≡ Some at → place + at ≡ length own
    → right ≡ is_crc_right (destuffed_bits own at) → keeps_in_frame role end own level ≡ keeps_in_tail right place level
tail_so own level role end at place right receives found here is_right =
    let e : length own - at ≡ place = omega arith in
    ap (λ r. keeps_in_frame r end own level) receives ∙ ap (λ k. keeps_in_frame Rx k own level) found ∙ ap (λ b. keeps_in_tail b (length own - at) level) (sym is_right)
    ∙ ap (λ n. keeps_in_tail right n level) e

sent_tail_so : (own : List Level) (level : Level) (role : Role) (end : Option ℕ) (at place : ℕ) → role ≡ Tx → end ≡ Some at → place + at ≡ length own
    → keeps_in_frame role end own level ≡ keeps_in_sent_tail place level
sent_tail_so own level role end at place sends found here =
    let e : length own - at ≡ place = omega arith in
    ap (λ r. keeps_in_frame r end own level) sends ∙ ap (λ k. keeps_in_frame Tx k own level) found ∙ ap (λ n. keeps_in_sent_tail n level) e

receives_so : (head : Option Content) (own : List Level) (level last : Level) (run : ℕ) (bits : List Level) → frame_role head own ≡ Rx → IsStuffedPart last run bits own
    → keeps_by (Framing head) own level ≡ not (nat_le 5 run && same last level)
receives_so head own level last run bits role p =
    ap (λ r. keeps_in_frame r (stuffed_end own) own level) role ∙ ap (λ e. keeps_in_frame Rx e own level) p.going_on ∙ ap not (six_is own level last run bits p)

by_sort : (level : Level) (own : List Level) (sort known : Sort) (b : Bool) → sort ≡ known → keeps_by known own level ≡ b → b ≡ keeps_by sort own level
by_sort level own sort known b e k = sym (ap (λ t. keeps_by t own level) e ∙ k)

keeps_at : (level : Level) (state : State) (bits sent : List Level) (sort : Sort) (own : List Level) → IsAtState state bits sent sort own → state_keeps state level ≡ keeps_by sort own level
keeps_at level (states.Integrating run) bits sent sort own h = by_sort level own sort _ false h.0 refl
keeps_at level states.Idle bits sent sort own h = by_sort level own sort _ false h refl
keeps_at level (states.Sending last run) bits sent sort own h = by_sort level own sort _ false h.1 (sends_none own level _ (stuffed_end own) h.2 h.4.going_on)
keeps_at level (states.Receiving last run) bits sent sort own h = by_sort level own sort _ _ h.1 (receives_so h.0 own level last run bits h.2 h.3)
keeps_at level (states.SentTail place) bits sent sort own h =
    by_sort level own sort _ _ h.1 (sent_tail_so own level (frame_role (Some h.0) own) _ h.3 place h.2 h.4.found h.4.place_is)
keeps_at level (states.ReceivedTail place right) bits sent sort own h =
    by_sort level own sort _ _ h.1
    (tail_so own level (frame_role h.0 own) _ h.3 place right h.2 h.4.tail.found h.4.tail.place_is (h.4.right_is ∙ ap is_crc_right h.4.bits_are))
keeps_at level (states.Flag cause role count run) bits sent sort own h = by_sort level own sort _ false h.0 refl
keeps_at level (states.PassiveFlag role owed last run) bits sent sort own h = by_sort level own sort _ false h.1 refl
keeps_at level (states.Wait role late left) bits sent sort own h = by_sort level own sort _ false h.2 refl
keeps_at level (states.Delimiter role count) bits sent sort own h =
    by_sort level own sort (Delimiting role) _ h.0 (ap (λ n. keeps_in_delimiter n level) (sym h.1.is_length))
keeps_at level (states.Intermission role count) bits sent sort own h =
    by_sort level own sort (Intermission role) _ h.0 (ap (λ n. keeps_in_intermission n level) (sym h.1.is_length))
keeps_at level (states.Suspended count) bits sent sort own h = by_sort level own sort _ false h.0 refl
keeps_at level (states.BusOff runs run) bits sent sort own h = by_sort level own sort _ false h.0 refl

pub keeps_kept : (m : Progress) (s : Stretch) (level : Level) → IsIn m s → state_keeps m.state level ≡ keeps s level
keeps_kept m s level h = keeps_at level m.state m.bits.items m.sent.items s.sort s.own h

-- the sample is no sixth equal one
not_true : (b : Bool) → not b ≡ true → b ≡ false
not_true true e = cc
not_true false e = refl

pub no_sixth : (last level : Level) (run : ℕ) → not (nat_le 5 run && same last level) ≡ true → 5 ≤ run → same last level ≡ false
no_sixth last level run e due = not_true (same last level) (ap (λ b. not (b && same last level)) (sym (le-leb 5 run due)) ∙ e)

-- what comes of one that is only kept

none_driven : (head : Option Content) (own : List Level) (whole : Bool) → frame_role head own ≡ Rx → stuffed_end own ≡ or_at None whole (length own) → frame_drive head own ≡ Recessive
none_driven head own false role e = ap (λ o. drive_up_to o head own) e ∙ ap (λ r. stuffed_drive r head own) role
none_driven head own true role e =
    ap (λ o. drive_up_to o head own) e
    ∙ ap (λ r. tail_drive r (destuffed_bits own (length own)) (length own - length own)) role
    ∙ ap (λ (k : ℕ). tail_drive Rx (destuffed_bits own (length own)) k) (let z : length own - length own ≡ 0 = omega arith in z)

frame_next : (head : Option Content) (own : List Level) (level last : Level) (run : ℕ) (bits : List Level) → frame_role head own ≡ Rx → IsStuffedPart last run bits own
    → (5 ≤ run → same last level ≡ false) → frame_drive head (own ++ level ∷ []) ≡ Recessive
frame_next head own level last run bits role p due =
    let t : IsTaken level (cond (same last level) (run + 1) 1) (cond (nat_le 5 run) bits (bits ++ level ∷ [])) (own ++ level ∷ []) =
    taken last run bits own level _ _ p refl refl due in
    none_driven head (own ++ level ∷ []) _ (role_receives head own level role) t.end_is

abbrev JudgedSo : Sort → List Level → Level → Type 0
JudgedSo sort own level = (head : Option Content) (mode : Mode) → judged (stretch_by sort own) (sample_of level head mode) ≡ continues happens.Nothing

pub record OnlyKept (s : Stretch) (level : Level) : Type 0 where
  pub judged : JudgedSo s.sort s.own level
  pub before : drive_of s ≡ Recessive
  pub after : drive_of (with_sample s level) ≡ Recessive

at_receiving : (level last : Level) (run : ℕ) (m : Progress) (s : Stretch) → m.state ≡ states.Receiving last run → IsIn m s → not (nat_le 5 run && same last level) ≡ true → OnlyKept s level
at_receiving level last run m s at i e =
    let h = subst (λ st. IsAtState st m.bits.items m.sent.items s.sort s.own) at i in
    record {
      judged = λ head mode. ap (λ t. judged (stretch_by t s.own) (sample_of level head mode)) h.1
          ∙ receiving_on h.0 s.own (sample_of level head mode) last run m.bits.items h.2 h.3 (no_sixth last level run e);
      before = sym (drive_kept m s i) ∙ ap (λ st. state_drive st m.bits.items m.sent.items) at;
      after = ap (λ t. drive_by t (s.own ++ level ∷ [])) h.1 ∙ frame_next h.0 s.own level last run m.bits.items h.2 h.3 (no_sixth last level run e);
    }

-- a receiver's, at its ACK delimiter, where the CRC sequence is not found wrong, or within the end of frame
pub record IsInEnd (right : Bool) (place : ℕ) (level : Level) : Type 0 where
  pub no_crc_error : ((place ≡ 2) × (right ≡ true)) ⊎ (place ≡ 2 → ⊥)
  pub from : 2 ≤ place
  pub to : place ≤ 7
  pub recessive : is_dominant level ≡ false

end_from : (right : Bool) (place : ℕ) → nat_le (cond right 2 3) place ≡ true → (((place ≡ 2) × (right ≡ true)) ⊎ (place ≡ 2 → ⊥)) × (2 ≤ place)
end_from false place e = let from = leb-true 3 place e in (inr (λ o. omega arith), omega arith)
end_from true place e = elim (cases_eq place 2) [
  | inl two ↦ (inl (two, refl), leb-true 2 place e)
  | inr other ↦ (inr other, leb-true 2 place e)
]

pub in_end : (right : Bool) (place : ℕ) (level : Level) → keeps_in_tail right place level ≡ true → IsInEnd right place level
in_end right place level e =
    let p = and_parts (nat_le (cond right 2 3) place && nat_le place 7) (not (is_dominant level)) e in
    let q = and_parts (nat_le (cond right 2 3) place) (nat_le place 7) p.0 in
    let from = end_from right place q.0 in
    record { no_crc_error = from.0; from = from.1; to = leb-true place 7 q.1; recessive = not_true (is_dominant level) p.1 }

-- a place further
pub tail_on : (m : Progress) (s : Stretch) (place : ℕ) (right : Bool) (level : Level) → place ≤ 7 → m.state ≡ states.ReceivedTail place right → IsIn m s
    → IsIn (record m { state = states.ReceivedTail (place + 1) right }) (with_sample s level)
tail_on m s place right level to at i =
    let h = subst (λ st. IsAtState st m.bits.items m.sent.items s.sort s.own) at i in (
      h.0,
      h.1,
      role_receives h.0 s.own level h.2,
      h.3,
      record {
        tail = tail_next place h.3 s.own level h.4.tail (omega arith);
        bits_are = h.4.bits_are ∙ sym (tail_bits place h.3 s.own level h.4.tail);
        right_is = h.4.right_is;
      },
    )

at_tail : (level : Level) (place : ℕ) (right : Bool) (m : Progress) (s : Stretch) → m.state ≡ states.ReceivedTail place right → IsIn m s → IsInEnd right place level → OnlyKept s level
at_tail level place right m s at i e =
    let h = subst (λ st. IsAtState st m.bits.items m.sent.items s.sort s.own) at i in
    let next : Progress = record m { state = states.ReceivedTail (place + 1) right } in
    let from = e.from in
    let to = e.to in
    record {
      judged = λ head mode. ap (λ t. judged (stretch_by t s.own) (sample_of level head mode)) h.1
          ∙ received_tail_is h.0 s.own (sample_of level head mode) place h.3 h.2 h.4.tail
          ∙ received_next (destuffed_bits s.own h.3) place (sample_of level head mode) (λ o. omega arith) (λ o. omega arith) e.recessive
          (not_wrong place right (destuffed_bits s.own h.3) e.no_crc_error (h.4.right_is ∙ ap is_crc_right h.4.bits_are)) (λ o. omega arith);
      before = sym (drive_kept m s i) ∙ ap (λ st. state_drive st m.bits.items m.sent.items) at ∙ ap (λ b. cond (b && right) Dominant Recessive) (ne_eqb place 1 (λ o. omega arith));
      after = sym (drive_kept next (with_sample s level) (tail_on m s place right level to at i))
          ∙ ap (λ b. cond (b && right) Dominant Recessive) (ne_eqb (place + 1) 1 (λ o. omega arith));
    }

-- a transmitter's, outside the acknowledgement slot and before the last bit
pub record IsInSentTail (place : ℕ) (level : Level) : Type 0 where
  pub no_slot : place ≡ 1 → ⊥
  pub below : place < 9
  pub recessive : is_dominant level ≡ false

pub in_sent_tail : (place : ℕ) (level : Level) → keeps_in_sent_tail place level ≡ true → IsInSentTail place level
in_sent_tail place level e =
    let p = and_parts (not (nat_eq place 1) && nat_lt place 9) (not (is_dominant level)) e in
    let q = and_parts (not (nat_eq place 1)) (nat_lt place 9) p.0 in
    record { no_slot = eqb-false place 1 (not_true (nat_eq place 1) q.0); below = ltb-true place 9 q.1; recessive = not_true (is_dominant level) p.1 }

pub sent_tail_on : (m : Progress) (s : Stretch) (place : ℕ) (level : Level) → place < 9 → m.state ≡ states.SentTail place → IsIn m s
    → IsIn (record m { state = states.SentTail (place + 1) }) (with_sample s level)
sent_tail_on m s place level below at i =
    let h = subst (λ st. IsAtState st m.bits.items m.sent.items s.sort s.own) at i in
    (h.0, h.1, tail_sends h.0 place h.3 s.own level h.4 h.2, h.3, tail_next place h.3 s.own level h.4 below)

at_sent_tail : (level : Level) (place : ℕ) (m : Progress) (s : Stretch) → m.state ≡ states.SentTail place → IsIn m s → IsInSentTail place level → OnlyKept s level
at_sent_tail level place m s at i e =
    let h = subst (λ st. IsAtState st m.bits.items m.sent.items s.sort s.own) at i in
    let next : Progress = record m { state = states.SentTail (place + 1) } in
    let below = e.below in
    record {
      judged = λ head mode. ap (λ t. judged (stretch_by t s.own) (sample_of level head mode)) h.1
          ∙ sent_tail_is h.0 s.own (sample_of level head mode) place h.3 h.2 h.4
          ∙ sent_next h.0 place (sample_of level head mode) e.no_slot e.recessive (λ o. omega arith);
      before = sym (drive_kept m s i) ∙ ap (λ st. state_drive st m.bits.items m.sent.items) at;
      after = sym (drive_kept next (with_sample s level) (sent_tail_on m s place level below at i));
    }

-- the bits of a delimiter before its eighth
pub record IsInDelimiter (count : ℕ) (level : Level) : Type 0 where
  pub below : count < 7
  pub recessive : is_dominant level ≡ false

pub in_delimiter : (count : ℕ) (level : Level) → keeps_in_delimiter count level ≡ true → IsInDelimiter count level
in_delimiter count level e =
    let p = and_parts (nat_lt count 7) (not (is_dominant level)) e in
    record { below = ltb-true count 7 p.0; recessive = not_true (is_dominant level) p.1 }

pub delimiter_on : (m : Progress) (s : Stretch) (role : Role) (count : ℕ) (level : Level) → count < 7 → m.state ≡ states.Delimiter role count → IsIn m s
    → IsIn (record m { state = states.Delimiter role (count + 1) }) (with_sample s level)
delimiter_on m s role count level below at i =
    let h = subst (λ st. IsAtState st m.bits.items m.sent.items s.sort s.own) at i in
    let count_is : count ≡ length s.own = h.1.is_length in
    (h.0, record { is_length = omega (arith, length_more s.own level); below = omega arith })

abbrev delimiter_cond : Role → Sampled → Bool → Bool → Judgement
delimiter_cond role x eighth dominant =
    cond (not dominant) (cond eighth (begins happens.Nothing (Intermission role) []) (continues happens.Nothing))
    (cond eighth (begins happens.Nothing (Flagging OverloadFlag role) []) (fails role x.mode (delimiter_error role)))

delimiter_next : (role : Role) (own : List Level) (x : Sampled) → (length own ≡ 7 → ⊥) → is_dominant x.level ≡ false → delimiting role own x ≡ continues happens.Nothing
delimiter_next role own x eighth d =
    ap (λ b. delimiter_cond role x b (is_dominant x.level)) (ne_eqb (length own) 7 eighth) ∙ ap (delimiter_cond role x false) d

at_delimiter : (level : Level) (role : Role) (count : ℕ) (m : Progress) (s : Stretch) → m.state ≡ states.Delimiter role count → IsIn m s → IsInDelimiter count level → OnlyKept s level
at_delimiter level role count m s at i e =
    let h = subst (λ st. IsAtState st m.bits.items m.sent.items s.sort s.own) at i in
    let below = e.below in
    let count_is : count ≡ length s.own = h.1.is_length in
    record {
      judged = λ head mode. ap (λ t. judged (stretch_by t s.own) (sample_of level head mode)) h.0
          ∙ delimiter_next role s.own (sample_of level head mode) (λ o. omega arith) e.recessive;
      before = ap (λ t. drive_by t s.own) h.0;
      after = ap (λ t. drive_by t (s.own ++ level ∷ [])) h.0;
    }

-- the first two bits of an intermission
pub record IsInIntermission (count : ℕ) (level : Level) : Type 0 where
  pub below : count < 2
  pub recessive : is_dominant level ≡ false

pub in_intermission : (count : ℕ) (level : Level) → keeps_in_intermission count level ≡ true → IsInIntermission count level
in_intermission count level e =
    let p = and_parts (nat_lt count 2) (not (is_dominant level)) e in
    record { below = ltb-true count 2 p.0; recessive = not_true (is_dominant level) p.1 }

pub intermission_on : (m : Progress) (s : Stretch) (role : Role) (count : ℕ) (level : Level) → count < 2 → m.state ≡ states.Intermission role count → IsIn m s
    → IsIn (record m { state = states.Intermission role (count + 1) }) (with_sample s level)
intermission_on m s role count level below at i =
    let h = subst (λ st. IsAtState st m.bits.items m.sent.items s.sort s.own) at i in
    let count_is : count ≡ length s.own = h.1.is_length in
    (h.0, record { is_length = omega (arith, length_more s.own level); below = omega arith })

abbrev intermission_cond : Role → Sampled → Bool → Bool → Judgement
intermission_cond role x third dominant =
    cond third (cond dominant (begins happens.Nothing (Framing (begun_head role x.mode x.head)) (x.level ∷ [])) (begins happens.Nothing (after_intermission role x.mode x.head) []))
    (cond dominant (begins happens.Nothing (Flagging OverloadFlag role) []) (continues happens.Nothing))

intermission_next : (role : Role) (own : List Level) (x : Sampled) → (length own ≡ 2 → ⊥) → is_dominant x.level ≡ false → intermission role own x ≡ continues happens.Nothing
intermission_next role own x third d =
    ap (λ b. intermission_cond role x b (is_dominant x.level)) (ne_eqb (length own) 2 third) ∙ ap (intermission_cond role x false) d

at_intermission : (level : Level) (role : Role) (count : ℕ) (m : Progress) (s : Stretch) → m.state ≡ states.Intermission role count → IsIn m s → IsInIntermission count level → OnlyKept s level
at_intermission level role count m s at i e =
    let h = subst (λ st. IsAtState st m.bits.items m.sent.items s.sort s.own) at i in
    let below = e.below in
    let count_is : count ≡ length s.own = h.1.is_length in
    record {
      judged = λ head mode. ap (λ t. judged (stretch_by t s.own) (sample_of level head mode)) h.0
          ∙ intermission_next role s.own (sample_of level head mode) (λ o. omega arith) e.recessive;
      before = ap (λ t. drive_by t s.own) h.0;
      after = ap (λ t. drive_by t (s.own ++ level ∷ [])) h.0;
    }

kept_at : (level : Level) (state : State) (m : Progress) (s : Stretch) → m.state ≡ state → IsIn m s → state_keeps state level ≡ true → OnlyKept s level
kept_at level (states.Receiving last run) m s at i e = at_receiving level last run m s at i e
kept_at level (states.Integrating run) m s at i e = cc
kept_at level states.Idle m s at i e = cc
kept_at level (states.Sending last run) m s at i e = cc
kept_at level (states.SentTail place) m s at i e = at_sent_tail level place m s at i (in_sent_tail place level e)
kept_at level (states.ReceivedTail place right) m s at i e = at_tail level place right m s at i (in_end right place level e)
kept_at level (states.Flag cause role count run) m s at i e = cc
kept_at level (states.PassiveFlag role owed last run) m s at i e = cc
kept_at level (states.Wait role late left) m s at i e = cc
kept_at level (states.Delimiter role count) m s at i e = at_delimiter level role count m s at i (in_delimiter count level e)
kept_at level (states.Intermission role count) m s at i e = at_intermission level role count m s at i (in_intermission count level e)
kept_at level (states.Suspended count) m s at i e = cc
kept_at level (states.BusOff runs run) m s at i e = cc

pub only_kept : (m : Progress) (s : Stretch) (level : Level) → IsIn m s → state_keeps m.state level ≡ true → OnlyKept s level
only_kept m s level i e = kept_at level m.state m s refl i e

-- the running stretch after it
pub kept_next : (past : List Input) (level : Level) (head : Option Content) (mode : Mode) → OnlyKept (stretch_of past) level
    → stretch_of (past ++ Sample (sample_of level head mode) ∷ []) ≡ with_sample (stretch_of past) level
kept_next past level head mode k =
    stretch_next past (Sample (sample_of level head mode)) ∙ ap (λ (j : Judgement). or_next j.next (with_sample (stretch_of past) level)) (k.judged head mode)

-- the machine is somewhere, whether the sample was kept or not
pub reached_on : (old new : Progress) (level : Level) (kept : Bool) → kept ≡ state_keeps old.state level → (kept ≡ false → new ≡ old) → (kept ≡ true → (s : Stretch) → IsIn old s → IsIn new (with_sample s level))
    → ∥ ((past : List Input) × IsReachedBy old past) ∥₁ → ∥ ((past : List Input) × IsReachedBy new past) ∥₁
reached_on old new level false v same next r = ∥∥₁_map r (λ (past, h). (past, subst (λ m. IsReachedBy m past) (sym (same refl)) h))
reached_on old new level true v same next r =
    ∥∥₁_map r (λ (past, h). (
      past ++ Sample (sample_of level None Active) ∷ [],
      subst (IsIn new) (sym (kept_next past level None Active (only_kept old (stretch_of past) level h (sym v)))) (next refl (stretch_of past) h),
    ))
