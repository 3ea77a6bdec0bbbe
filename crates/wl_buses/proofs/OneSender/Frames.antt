-- A frame bit by bit, up to an ACK slot that is acknowledged: the machine that sends it, and one that receives it.
use Rattle.std.proofs.Common.{◌≡◌, ◌∙◌, ◌⊎◌, inl, inr, refl, sym, ap, subst, ℕ, zero, suc, ◌+◌, ◌-◌, ◌<◌, ◌≤◌, List, [], ◌∷◌, ◌++◌, length, take, drop, true, false, cond, not, ◌&&◌, Option, Some, None, arith, length-append, append_assoc, add-one}
use Rattle.std.proofs.lemmas.Bool.{cases_lt, cases_eq, cases_Bool, and_left, and_right}
use Rattle.std.proofs.lemmas.List.{get_or_past, take_more, length-take-le, take_all, take_at}
use Rattle.std.proofs.Math.ListN.{take-append-drop}
use Rattle.std.proofs.lemmas.Option.{none-some}
use Rattle.wl_level.specs.declared.Level.{Level}
use Rattle.wl_level.specs.declared.Level.TheVariants.{Dominant, Recessive}
use Rattle.wl_level.specs.Levels.{is_dominant, same, opposite}
use Rattle.wl_level.specs.Places.{at, before, IsFirstPlace}
use Rattle.wl_level.proofs.Callers.{at_front, before_front, at_new, first_is, same_self, length_more}
use Rattle.wl_confine.specs.declared.ErrorKind.TheVariants.{Bit, Stuff, Form}
use Rattle.wl_confine.specs.declared.Happened.TheVariants.{Nothing, Acked}
use Rattle.wl_frame.specs.Stuffing.{Stuffs, is_stuff, destuffed_bits}
use Rattle.wl_frame.specs.Grammar.{Content, IsContent, bits_of, content_of, is_arbitration, is_crc_right}
use Rattle.wl_frame.specs.Header.{sent_free}
use Rattle.wl_frame.specs.Laws.{up_to_ack}
use Rattle.wl_frame.proofs.Callers.{frame_is_read, same_back}
use Rattle.wl_machine.specs.declared.state.Role.TheVariants.{Tx, Rx}
use Rattle.wl_machine.specs.Stretch.{Sampled, continues}
use Rattle.wl_machine.specs.Stretch.Sort.{Framing}
use Rattle.wl_machine.specs.Frames.{stuffed_end, sent_at, is_lost, frame_role, differing, unanswered, sent_tail, received_tail, framing_by, framing_sent, framing_received, drive_up_to, stuffed_drive, tail_drive}
use Rattle.wl_machine.specs.Flags.{fails}
use Rattle.wl_machine.specs.Judged.{judged, drive_of}
use Rattle.wl_machine.specs.Laws.{FoundSent}
use Rattle.wl_machine.specs.States.{stretch_by}
use Rattle.wl_machine.proofs.Callers.{end_stays, ends_at, role_next, tail_sends}
use Rattle.wl_wire.proofs.Callers.{no_loss}

-- the laws of the crates below, of a stuffed list and of its fronts
pub record FrameGoes : Type 0 where
  pub found : (head : Content) (own : List Level) → IsContent head → Stuffs own (bits_of head) → FoundSent head own (length own)
  pub end : (head : Content) (own : List Level) → IsContent head → Stuffs own (bits_of head) → stuffed_end own ≡ Some (length own)
  pub stays : (y more : List Level) (n : ℕ) → n ≤ length y → is_stuff (y ++ more) n ≡ is_stuff y n
  pub keeps : (y more : List Level) (n : ℕ) → n ≤ length y → destuffed_bits (y ++ more) n ≡ destuffed_bits y n

pub crc_of : (c : Content) → IsContent c → is_crc_right (bits_of c) ≡ true
unfolding bits_of
crc_of c is = ((frame_is_read (bits_of c) c).0 (is, sent_free, refl)).crc

pub read_of : (c : Content) → IsContent c → content_of (bits_of c) ≡ c
unfolding bits_of
read_of c is = ((frame_is_read (bits_of c) c).0 (is, sent_free, refl)).content

first_of : (c : Content) → IsContent c → at (bits_of c) 0 ≡ Dominant
unfolding bits_of
first_of c is = ((frame_is_read (bits_of c) c).0 (is, sent_free, refl)).begins

not_both : (a b : Option ℕ) (n m : ℕ) → a ≡ Some n → a ≡ Some m → n ≡ m
not_both a b n m e f = some_same n m (sym e ∙ f)
  where
    some_same : (n m : ℕ) → Some n ≡ Some m → n ≡ m
    some_same n m e = cc

cases_option : (o : Option ℕ) → (o ≡ None) ⊎ ((n : ℕ) × (o ≡ Some n))
cases_option None = inl refl
cases_option (Some n) = inr (n, refl)

module _ (goes : FrameGoes) (head : Content) (c : IsContent head) (y : List Level) (is : Stuffs y (bits_of head)) where
  abbrev pub line : List Level
  line = up_to_ack y

  abbrev pub last : ℕ
  last = length y

  abbrev pub own : ℕ → List Level
  own n = take n line

  pub line_length : length line ≡ last + 2
  line_length = length-append (y ++ Recessive ∷ []) (Dominant ∷ []) ∙ ap (λ n. n + 1) (length-append y (Recessive ∷ [])) ∙ omega arith

  pub own_length : (n : ℕ) → n ≤ last + 2 → length (own n) ≡ n
  own_length n h = length-take-le n line (let e = line_length in omega arith)

  pub own_more : (n : ℕ) → n < last + 2 → own (suc n) ≡ own n ++ at line n ∷ []
  own_more n h = ap (λ k. take k line) (sym (add-one n)) ∙ take_more line n Recessive (let e = line_length in omega arith)

  pub line_front : (n : ℕ) → n < last → at line n ≡ at y n
  line_front n h = at_front (y ++ Recessive ∷ []) (Dominant ∷ []) n (let e = length_more y Recessive in omega arith) ∙ at_front y (Recessive ∷ []) n h

  pub line_delimiter : at line last ≡ Recessive
  line_delimiter = at_front (y ++ Recessive ∷ []) (Dominant ∷ []) last (let e = length_more y Recessive in omega arith) ∙ at_new y Recessive

  pub line_slot : at line (suc last) ≡ Dominant
  line_slot = ap (at line) (let e = length_more y Recessive in sym (e ∙ add-one last)) ∙ at_new (y ++ Recessive ∷ []) Dominant

  pub line_is : (n : ℕ) → n ≤ last → at line n ≡ at y n
  line_is n h = elim (cases_lt n last) [
    | inl less ↦ line_front n less
    | inr more ↦ (let e : n ≡ last = omega arith in ap (at line) e ∙ line_delimiter ∙ sym (get_or_past y n Recessive more))
  ]

  pub own_stuffed : own last ≡ y
  own_stuffed = ap (take last) (append_assoc y (Recessive ∷ []) (Dominant ∷ [])) ∙ take_at y (Recessive ∷ Dominant ∷ []) last refl

  -- what a front of the frame and the stuffed list have in common
  own_rest : (n : ℕ) → n ≤ last → (more : List Level) × (y ≡ own n ++ more)
  own_rest n h =
      let k : (n : ℕ) → n ≤ last → take n line ≡ take n y = fronts in
      (drop n y, sym (take-append-drop n y) ∙ ap (λ v. v ++ drop n y) (sym (k n h)))
    where
      fronts : (n : ℕ) → n ≤ last → take n line ≡ take n y
      fronts zero h = refl
      fronts (suc n) h =
          own_more n (omega arith) ∙ ap (λ v. v ++ at line n ∷ []) (fronts n (omega arith)) ∙ ap (λ l. take n y ++ l ∷ []) (line_front n h)
          ∙ sym (take_more y n Recessive h) ∙ ap (λ k. take k y) (add-one n)

  module _ (n m : ℕ) (below : n ≤ m) (inside : m ≤ last) where
    rest : (more : List Level) × (y ≡ own m ++ more)
    rest = own_rest m inside

    fits : n ≤ length (own m)
    fits = let e = own_length m (omega arith) in omega arith

    pub own_stuff : is_stuff (own m) n ≡ is_stuff y n
    own_stuff = sym (goes.stays (own m) rest.0 n fits) ∙ ap (λ v. is_stuff v n) (sym rest.1)

    pub own_kept : destuffed_bits (own m) n ≡ destuffed_bits y n
    own_kept = sym (goes.keeps (own m) rest.0 n fits) ∙ ap (λ v. destuffed_bits v n) (sym rest.1)

    pub own_before : before (own m) n ≡ before y n
    own_before = sym (before_front (own m) rest.0 n fits) ∙ ap (λ v. before v n) (sym rest.1)

    pub own_sent : sent_at head (own m) n ≡ sent_at head y n
    own_sent =
        ap (λ s. cond s (opposite (before (own m) n)) (at (bits_of head) (length (destuffed_bits (own m) n)))) own_stuff
        ∙ ap (λ l. cond (is_stuff y n) (opposite l) (at (bits_of head) (length (destuffed_bits (own m) n)))) own_before
        ∙ ap (λ ls. cond (is_stuff y n) (opposite (before y n)) (at (bits_of head) (length ls))) own_kept

  pub sent_is : (n m : ℕ) → n ≤ m → m ≤ last → n < last → sent_at head (own m) n ≡ at y n
  sent_is n m below inside less = own_sent n m below inside ∙ sym (goes.found head y c is n less)

  -- the end of the stuffed part
  end_there : (n : ℕ) → stuffed_end (own (last + n)) ≡ Some last ⊎ (2 < n)
  end_there zero = inl (ap stuffed_end (ap own (let e : last + 0 ≡ last = omega arith in e) ∙ own_stuffed) ∙ goes.end head y c is)
  end_there (suc n) = elim (cases_lt 2 (suc n)) [
    | inl far ↦ inr far
    | inr near ↦ elim (end_there n) [
      | inl e ↦ inl (ap stuffed_end (ap own (let f : last + suc n ≡ suc (last + n) = omega arith in f) ∙ own_more (last + n) (omega arith))
          ∙ end_stays (own (last + n)) (at line (last + n)) last e)
      | inr f ↦ absurd (omega arith)
    ]
  ]

  pub end_at : (n : ℕ) → last ≤ n → n ≤ last + 2 → stuffed_end (own n) ≡ Some last
  end_at n low high = elim (end_there (n - last)) [
    | inl e ↦ (let f : last + (n - last) ≡ n = omega arith in subst (λ k. stuffed_end (own k) ≡ Some last) f e)
    | inr far ↦ absurd (omega arith)
  ]

  end_goes : (n k m : ℕ) → n + k ≤ last → stuffed_end (own n) ≡ Some m → stuffed_end (own (n + k)) ≡ Some m
  end_goes n zero m h e = let f : n ≡ n + 0 = omega arith in subst (λ i. stuffed_end (own i) ≡ Some m) f e
  end_goes n (suc k) m h e =
      ap stuffed_end (ap own (let f : n + suc k ≡ suc (n + k) = omega arith in f) ∙ own_more (n + k) (omega arith))
      ∙ end_stays (own (n + k)) (at line (n + k)) m (end_goes n k m (omega arith) e)

  pub no_end : (n : ℕ) → n < last → stuffed_end (own n) ≡ None
  no_end n less = elim (cases_option (stuffed_end (own n))) [
    | inl none ↦ none
    | inr some ↦
        (let first : IsFirstPlace (ends_at (own n)) (suc (length (own n))) some.0 = first_is (ends_at (own n)) (suc (length (own n))) some.0 some.1 in
        let inside = first.inside in
        let length_is = own_length n (omega arith) in
        let e = not_both (stuffed_end (own last)) None some.0 last
        (subst (λ k. stuffed_end (own k) ≡ Some some.0) (let f : n + (last - n) ≡ last = omega arith in f) (end_goes n (last - n) some.0 (omega arith) some.1))
        (end_at last (omega arith) (omega arith)) in
        absurd (omega arith))
  ]

  -- the sender stays one
  unlost : (n : ℕ) → n < last → is_lost head (own n ++ at line n ∷ []) (length (own n)) ≡ false
  unlost n less =
      let e = own_length n (omega arith) in
      ap (λ v. is_lost head v (length (own n))) (sym (own_more n (omega arith))) ∙ ap (is_lost head (own (suc n))) e
      ∙ ap (λ l. not (is_stuff (own (suc n)) n) && is_arbitration (bits_of head) (length (destuffed_bits (own (suc n)) n)) && not (is_dominant l) && is_dominant (at (own (suc n)) n))
      (sent_is n (suc n) (omega arith) (omega arith) less)
      ∙ ap (λ l. not (is_stuff (own (suc n)) n) && is_arbitration (bits_of head) (length (destuffed_bits (own (suc n)) n)) && not (is_dominant (at y n)) && is_dominant l)
      (ap (λ v. at v n) (own_more n (omega arith)) ∙ ap (at (own n ++ at line n ∷ [])) (sym e) ∙ at_new (own n) (at line n) ∙ line_front n less)
      ∙ no_loss (is_stuff (own (suc n)) n) (is_arbitration (bits_of head) (length (destuffed_bits (own (suc n)) n))) (at y n)

  pub sends : (n : ℕ) → n ≤ last + 2 → frame_role (Some head) (own n) ≡ Tx
  sends zero h = refl
  sends (suc n) h = elim (cases_lt n last) [
    | inl less ↦ ap (frame_role (Some head)) (own_more n (omega arith)) ∙ role_next head (own n) (at line n)
        ∙ ap (λ b. cond b Rx (frame_role (Some head) (own n))) (unlost n less) ∙ sends n (omega arith)
    | inr more ↦ ap (frame_role (Some head)) (own_more n (omega arith))
        ∙ tail_sends head (n - last) last (own n) (at line n)
        (record { found = end_at n more (omega arith); place_is = (let e = own_length n (omega arith) in omega arith); below = omega arith })
        (sends n (omega arith))
  ]

  pub own_all : own (suc (suc last)) ≡ line
  own_all = take_all (suc (suc last)) line (let e = line_length in omega arith)

  pub own_delimited : own (suc last) ≡ y ++ Recessive ∷ []
  own_delimited = own_more last (omega arith) ∙ ap (λ v. v ++ at line last ∷ []) own_stuffed ∙ ap (λ l. y ++ l ∷ []) line_delimiter

  crc_there : is_crc_right (destuffed_bits (own (suc last)) last) ≡ true
  crc_there =
      ap (λ v. is_crc_right (destuffed_bits v last)) own_delimited
      ∙ ap is_crc_right (goes.keeps y (Recessive ∷ []) last (omega arith) ∙ is.content) ∙ crc_of head c

  -- what each drives
  pub sender_drives : (n : ℕ) → n ≤ last + 2 → drive_of (stretch_by (Framing (Some head)) (own n)) ≡ at y n
  sender_drives n h = elim (cases_lt n last) [
    | inl less ↦
        ap (λ e. drive_up_to e (Some head) (own n)) (no_end n less) ∙ ap (λ r. stuffed_drive r (Some head) (own n)) (sends n h)
        ∙ ap (sent_at head (own n)) (own_length n h) ∙ sent_is n n (omega arith) (omega arith) less
    | inr more ↦
        ap (λ e. drive_up_to e (Some head) (own n)) (end_at n more h)
        ∙ ap (λ r. tail_drive r (destuffed_bits (own n) last) (length (own n) - last)) (sends n h)
        ∙ sym (get_or_past y n Recessive more)
  ]

  pub receiver_is_silent : (n : ℕ) → n ≤ last → drive_of (stretch_by (Framing None) (own n)) ≡ Recessive
  receiver_is_silent n h = elim (cases_lt n last) [
    | inl less ↦ ap (λ e. drive_up_to e None (own n)) (no_end n less)
    | inr more ↦
        (let z : length (own n) - last ≡ 0 = (let e = own_length n (omega arith) in omega arith) in
        ap (λ e. drive_up_to e None (own n)) (end_at n more (omega arith)) ∙ ap (tail_drive Rx (destuffed_bits (own n) last)) z)
  ]

  pub receiver_answers : drive_of (stretch_by (Framing None) (own (suc last))) ≡ Dominant
  receiver_answers =
      let one : length (own (suc last)) - last ≡ 1 = (let e = own_length (suc last) (omega arith) in omega arith) in
      ap (λ e. drive_up_to e None (own (suc last))) (end_at (suc last) (omega arith) (omega arith))
      ∙ ap (tail_drive Rx (destuffed_bits (own (suc last)) last)) one
      ∙ ap (λ b. cond b Dominant Recessive) crc_there

  -- what each makes of the next bit
  pub sender_goes_on : (n : ℕ) (x : Sampled) → n < last + 2 → x.level ≡ at line n → judged (stretch_by (Framing (Some head)) (own n)) x ≡ continues Nothing
  sender_goes_on n x h e =
      ap (λ r. framing_by r (Some head) (own n) x) (sends n (omega arith))
      ∙ elim (cases_lt n last) [
        | inl less ↦
            ap (λ o. framing_sent head (own n) o x) (no_end n less)
            ∙ ap (λ b. cond b (continues Nothing) (differing head (own n) x))
            (ap (λ l. same l x.level) (ap (sent_at head (own n)) (own_length n (omega arith)) ∙ sent_is n n (omega arith) (omega arith) less)
            ∙ ap (same (at y n)) (e ∙ line_front n less) ∙ same_self (at y n))
        | inr more ↦
            ap (λ o. framing_sent head (own n) o x) (end_at n more (omega arith))
            ∙ ap (λ k. sent_tail head (k - last) x) (own_length n (omega arith))
            ∙ elim (cases_eq n last) [
              | inl here ↦
                  ap (λ k. sent_tail head k x) (let z : n - last ≡ 0 = omega arith in z)
                  ∙ ap (λ b. cond b (fails Tx x.mode Bit) (continues Nothing)) (ap is_dominant (e ∙ ap (at line) here ∙ line_delimiter))
              | inr later ↦
                  ap (λ k. sent_tail head k x) (let z : n - last ≡ 1 = omega arith in z)
                  ∙ ap (λ b. cond b (continues Nothing) (unanswered x.mode)) (ap is_dominant (e ∙ ap (at line) (let f : n ≡ suc last = omega arith in f) ∙ line_slot))
            ]
      ]

  no_sixth : (n : ℕ) → n < last → (is_stuff (own n) n && same (at y n) (before (own n) n)) ≡ false
  no_sixth n less = elim (cases_Bool (is_stuff (own n) n)) [
    | inl due ↦
        (let turned : at y n ≡ opposite (before y n) = is.opposite n less (sym (own_stuff n n (omega arith) (omega arith)) ∙ due) in
        and_right (is_stuff (own n) n) (same (at y n) (before (own n) n))
        (ap (λ l. same l (before (own n) n)) turned ∙ ap (same (opposite (before y n))) (own_before n n (omega arith) (omega arith)) ∙ same_back (before y n)))
    | inr free ↦ and_left (is_stuff (own n) n) (same (at y n) (before (own n) n)) free
  ]

  pub receiver_goes_on : (n : ℕ) (x : Sampled) → n ≤ last → x.level ≡ at line n → judged (stretch_by (Framing None) (own n)) x ≡ continues Nothing
  receiver_goes_on n x h e = elim (cases_lt n last) [
    | inl less ↦
        ap (λ o. framing_received (own n) o x) (no_end n less)
        ∙ ap (λ k. cond (is_stuff (own n) k && same x.level (before (own n) k)) (fails Rx x.mode Stuff) (continues Nothing)) (own_length n (omega arith))
        ∙ ap (λ l. cond (is_stuff (own n) n && same l (before (own n) n)) (fails Rx x.mode Stuff) (continues Nothing)) (e ∙ line_front n less)
        ∙ ap (λ b. cond b (fails Rx x.mode Stuff) (continues Nothing)) (no_sixth n less)
    | inr more ↦
        ap (λ o. framing_received (own n) o x) (end_at n more (omega arith))
        ∙ ap (λ k. received_tail (destuffed_bits (own n) last) k x) (let z : length (own n) - last ≡ 0 = (let f = own_length n (omega arith) in omega arith) in z)
        ∙ ap (λ b. cond b (fails Rx x.mode Form) (continues Nothing)) (ap is_dominant (e ∙ ap (at line) (let f : n ≡ last = omega arith in f) ∙ line_delimiter))
  ]

  pub receiver_acknowledges : (x : Sampled) → x.level ≡ Dominant → judged (stretch_by (Framing None) (own (suc last))) x ≡ continues Acked
  receiver_acknowledges x e =
      let one : length (own (suc last)) - last ≡ 1 = (let f = own_length (suc last) (omega arith) in omega arith) in
      ap (λ o. framing_received (own (suc last)) o x) (end_at (suc last) (omega arith) (omega arith))
      ∙ ap (λ k. received_tail (destuffed_bits (own (suc last)) last) k x) one
      ∙ ap (λ b. cond (not b) (continues Nothing) (cond (is_dominant x.level) (continues Acked) (fails Rx x.mode Bit))) crc_there
      ∙ ap (λ l. cond (is_dominant l) (continues Acked) (fails Rx x.mode Bit)) e

  -- the frame begins with a dominant bit
  pub some_bits : 0 < last
  some_bits = not_empty y (goes.end head y c is)
    where
      not_empty : (v : List Level) → stuffed_end v ≡ Some (length v) → 0 < length v
      not_empty [] e = absurd (none-some 0 e)
      not_empty (x ∷ v) e = omega arith

  pub begins_dominant : at y 0 ≡ Dominant
  begins_dominant = goes.found head y c is 0 some_bits ∙ first_of head c
