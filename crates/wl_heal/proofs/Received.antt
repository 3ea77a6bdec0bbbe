-- A frame that is sent is received: the other machine is in the same frame, or begins a flag that its sender finds.
use Rattle.std.proofs.Common.{◌≡◌, ◌≢◌, ◌∙◌, ℕ, zero, suc, ◌+◌, ◌-◌, ◌<◌, ◌≤◌, List, [], ◌∷◌, ◌++◌, length, Bool, true, false, cond, ◌&&◌, Option, Some, None, inl, inr, refl, sym, ap, subst, arith}
use Rattle.std.specs.Prelude.{◌==◌}
use Rattle.std.proofs.lemmas.Bool.{cases_lt, cases_eq, both_ways}
use Rattle.wl_level.specs.declared.Level.{Level}
use Rattle.wl_level.specs.declared.Level.TheVariants.{Dominant, Recessive}
use Rattle.wl_frame.specs.Stuffing.{destuffed_bits}
use Rattle.wl_frame.specs.Grammar.{Content, IsContent, bits_of, content_of, is_crc_right}
use Rattle.wl_confine.specs.declared.Mode.TheVariants.{Active}
use Rattle.wl_machine.specs.declared.state.Role.{Role}
use Rattle.wl_machine.specs.declared.state.Role.TheVariants.{Tx, Rx}
use Rattle.wl_machine.specs.Stretch.{Flag, Stretch, Sampled}
use Rattle.wl_machine.specs.Stretch.Ended.{Received}
use Rattle.wl_machine.specs.Stretch.Input.{Sample}
use Rattle.wl_machine.specs.Stretch.Sort.{Framing, Flagging}
use Rattle.wl_machine.specs.Frames.{stuffed_end, sent_at, frame_role, framing_by, framing_received, drive_up_to, tail_drive}
use Rattle.wl_machine.specs.Judged.{judged, stretch_after, drive_of, head_of}
use Rattle.wl_machine.specs.Laws.{HeadLaws, FoundSent}
use Rattle.wl_machine.specs.States.{sample_of, stretch_by}
use Rattle.wl_machine.proofs.Callers.{end_stays, role_receives, kept_is_all}
use Rattle.wl_frame.proofs.Callers.{kept_old}
use Rattle.wl_wire.specs.Wire.{Wire, is_between}
use Rattle.wl_wire.specs.Heads.{OwnHeads}
use Rattle.wl_wire.specs.InStep.{AreSoundFrames, Has}
use Rattle.wl_wire.proofs.Callers.{role_cases, not_both_roles}
use Rattle.wl_heal.specs.Disturbed.{Course, sample_found, wire_at, stretch_before, judged_at, TakesPart, IsSentFrom, IsClear}
use Rattle.wl_heal.proofs.Disturbance.{rest_at, downs_at, level_at, head_at, next_stretch, silent, heard, both_quiet, both_find, part_at, next_active, heads_at, has_at}
use Rattle.wl_heal.proofs.Heal.{IsDominantFlag, IsNewFlag, new_flag}
use Rattle.wl_heal.proofs.Possible.{possible, some_same, IsPossible, HasTail}
use Rattle.wl_heal.proofs.Rested.{rested_of, From, sends_from}
use Rattle.wl_heal.proofs.Rested.From.{goes, decided, third}
use Rattle.wl_heal.proofs.Samples.{longer}
use Rattle.wl_heal.proofs.Sent.{read_back, IsLast, last_is, found_next, found_more, end_back, got_there}
use Rattle.wl_heal.proofs.Settle.{is_new_flag, Settles, settle_most, settles_next, near_breaks, tail_breaks, IsEarly, early_on, TailOn, late_on}
use Rattle.wl_heal.proofs.Settle.TailOn.{on, over}
use Rattle.wl_heal.proofs.Silent.{two_levels, first_dominant}
use Rattle.wl_heal.proofs.Six.{down_of, is_down, is_down_by, IsDown}
use Rattle.wl_heal.proofs.Steps.{begun}
use Rattle.wl_heal.proofs.Wires.{level_cases}

pub flag_no_frame : (st : Stretch) (frame : Option Content) (own : List Level) → is_new_flag st ≡ true → st ≡ stretch_by (Framing frame) own → ⊥
flag_no_frame st frame own b e = both_ways (is_new_flag st) (ap is_new_flag e) b

tail_of : (st : Stretch) (f : Content) (ls : List Level) → st ≡ stretch_by (Framing (Some f)) ls → IsPossible st → HasTail ls
tail_of st f ls e p = subst IsPossible e p

abbrev pub flag_off : Bool → Type 0
flag_off b = (b ≡ true → ⊥) → b ≡ false

pub no_flag_is : (b : Bool) → flag_off b
no_flag_is true n = absurd (n refl)
no_flag_is false n = refl

module _ (laws : HeadLaws) (w : Wire) (c : Course) (s j n : ℕ) (f : Content) (start : ℕ) (ts : TakesPart w c s) (tj : TakesPart w c j)
    (sent : IsSentFrom w c s start n f) where
  abbrev pub S : ℕ → Stretch
  S i = stretch_before w c i s

  abbrev pub J : ℕ → Stretch
  J i = stretch_before w c i j

  abbrev pub own : ℕ → List Level
  own i = (S i).own

  abbrev pub x : ℕ → Level
  x i = level_at w c i s

  abbrev last_sample : Sampled
  last_sample = sample_found (wire_at w c (suc n)) (c.hit (suc n)) (c.handed (suc n)) s

  pub is_last : IsLast f (own (suc n)) last_sample
  is_last =
      last_is f f (own (suc n)) last_sample
      (ap (λ sort. (judged (stretch_by sort (own (suc n))) last_sample).ended) (sym (laws.sent (S (suc n)) last_sample f sent.sends)) ∙ sent.sends)

  abbrev pub end : ℕ
  end = is_last.end

  pub eighteen : end + (start + 8) ≡ n
  eighteen = let a : length (own (suc n)) - end ≡ 9 = is_last.place in let whole = sent.whole in omega arith

  -- the sender, back to its start of frame
  pub record At (i : ℕ) : Type 0 where
    pub sort : (S i).sort ≡ Framing (Some f)
    pub long : start + length (own i) ≡ i

  from : (i : ℕ) → (S (suc i)).sort ≡ Framing (Some f) → From f (S i).sort (own i) (x i) (S (suc i))
  from i e =
      subst (From f (S i).sort (own i) (x i)) (sym (next_stretch w c i s))
      (sends_from f (sample_found (wire_at w c i) (c.hit i) (c.handed i) s) (S i).sort (own i) (part_at w c s ts i) (ap (λ t. t.sort) (sym (next_stretch w c i s)) ∙ e))

  before_by : (i : ℕ) → start < i → At (suc i) → From f (S i).sort (own i) (x i) (S (suc i)) → At i × (own (suc i) ≡ own i ++ x i ∷ [])
  before_by i le a (goes e g) =
      let l = longer (own i) (x i) in
      let same : length (own (suc i)) ≡ length (own i ++ x i ∷ []) = ap length g in
      let long : start + length (own (suc i)) ≡ suc i = a.long in
      (record { sort = e; long = omega arith }, g)
  before_by i le a (decided g) =
      let long : start + length (own (suc i)) ≡ suc i = a.long in
      let none : length (own (suc i)) ≡ 0 = ap length g in
      absurd (omega arith)
  before_by i le a (third r d g) =
      let long : start + length (own (suc i)) ≡ suc i = a.long in
      let one : length (own (suc i)) ≡ 1 = ap length g in
      absurd (omega arith)

  at_last : At (suc n)
  at_last = record { sort = laws.sent (S (suc n)) last_sample f sent.sends; long = (let whole = sent.whole in omega arith) }

  at_by : (d i : ℕ) → i + d ≡ suc n → start < i → At i
  at_by zero i e le = subst At (let back : suc n ≡ i = omega arith in back) at_last
  at_by (suc d) i e le =
      let later : At (suc i) = at_by d (suc i) (omega arith) (omega arith) in
      (before_by i le later (from i later.sort)).0

  pub at_bit : (i : ℕ) → start < i → i ≤ suc n → At i
  at_bit i le most = at_by (suc n - i) i (omega arith) le

  pub more : (i : ℕ) → start < i → i ≤ n → own (suc i) ≡ own i ++ x i ∷ []
  more i le most = let later : At (suc i) = at_bit (suc i) (omega arith) (omega arith) in (before_by i le later (from i later.sort)).1

  pub stretch_is : (i : ℕ) → start < i → i ≤ suc n → S i ≡ stretch_by (Framing (Some f)) (own i)
  stretch_is i le most = ap (λ t. stretch_by t (own i)) (at_bit i le most).sort

  -- where the stuffed part ends
  over_by : (d i : ℕ) → i + d ≡ suc n → start < i → end ≤ length (own i) → stuffed_end (own i) ≡ Some end
  over_by zero i e le far = subst (λ k. stuffed_end (own k) ≡ Some end) (let back : suc n ≡ i = omega arith in back) is_last.over
  over_by (suc d) i e le far =
      let step : own (suc i) ≡ own i ++ x i ∷ [] = more i le (omega arith) in
      let l = longer (own i) (x i) in
      let same : length (own (suc i)) ≡ length (own i ++ x i ∷ []) = ap length step in
      let later : stuffed_end (own (suc i)) ≡ Some end = over_by d (suc i) (omega arith) (omega arith) (omega arith) in
      end_back (own i) (x i) end far (ap stuffed_end (sym step) ∙ later)

  pub over_at : (i : ℕ) → start < i → i ≤ suc n → end ≤ length (own i) → stuffed_end (own i) ≡ Some end
  over_at i le most far = over_by (suc n - i) i (omega arith) le far

  still_by : (d i k : ℕ) → i + d ≡ suc n → start < i → stuffed_end (own i) ≡ Some k → stuffed_end (own (suc n)) ≡ Some k
  still_by zero i k e le h = subst (λ m. stuffed_end (own m) ≡ Some k) (let there : i ≡ suc n = omega arith in there) h
  still_by (suc d) i k e le h = still_by d (suc i) k (omega arith) (omega arith) (ap stuffed_end (more i le (omega arith)) ∙ end_stays (own i) (x i) k h)

  pub none_at : (i : ℕ) → start < i → i ≤ suc n → length (own i) < end → stuffed_end (own i) ≡ None
  none_at i le most few = by (stuffed_end (own i)) refl
    where
      by : (o : Option ℕ) → stuffed_end (own i) ≡ o → o ≡ None
      by None e = refl
      by (Some k) e =
          let same : k ≡ end = some_same k end (sym (still_by (suc n - i) i k (omega arith) le e) ∙ is_last.over) in
          let low : k ≤ length (own i) = (has_tail k e).0 in
          absurd (omega arith)
        where
          has_tail : (k : ℕ) → stuffed_end (own i) ≡ Some k → (k ≤ length (own i)) × (length (own i) < k + 10)
          has_tail = tail_of (S i) f (own i) (stretch_is i le most) (possible ((wire_at w c i).past s))

  -- it found no dominant bit after the stuffed part, but in the ACK slot
  pub quiet_tail : (i : ℕ) → start < i → i ≤ n → end ≤ length (own i) → (length (own i) - end ≡ 1 → ⊥) → x i ≡ Recessive
  quiet_tail i le most far off_slot = elim (level_cases (x i)) [
    | inr r ↦ r
    | inl d ↦ absurd (flag_no_frame (S (suc i)) (Some f) (own (suc i))
        (ap is_new_flag (next_active w c s ts i ∙ ap (λ l. stretch_after (S i) (Sample (sample_of l (head_at w c i s) Active))) d
        ∙ ap (λ t. stretch_after t (Sample (sample_of Dominant (head_at w c i s) Active))) (stretch_is i le (omega arith)))
        ∙ tail_breaks (head_at w c i s) (frame_role (Some f) (own i)) (Some f) (own i) end (over_at i le (omega arith) far) off_slot)
        (stretch_is (suc i) (omega arith) (omega arith)))
  ]

  -- its first bit, and the ten before it
  pub record IsFirst : Type 0 where
    pub rest : 10 ≤ rested_of (S start)
    pub dominant : x start ≡ Dominant
    pub own_is : own (suc start) ≡ Dominant ∷ []

  first_by : From f (S start).sort (own start) (x start) (S (suc start)) → IsFirst
  first_by (goes e g) =
      let a : start + length (own (suc start)) ≡ suc start = (at_bit (suc start) (omega arith) (let h = eighteen in omega arith)).long in
      let l = longer (own start) (x start) in
      let same : length (own (suc start)) ≡ length (own start ++ x start ∷ []) = ap length g in
      let none : own start ≡ [] = empty (own start) (omega arith) in
      let there : S start ≡ stretch_by (Framing (Some f)) [] = ap (λ t. stretch_by t (own start)) e ∙ ap (stretch_by (Framing (Some f))) none in
      let d : x start ≡ Dominant = heard w c start s s ts.inside (ap drive_of there ∙ first_dominant f) in
      record { rest = subst (λ t. 10 ≤ rested_of t) (sym there) (omega arith); dominant = d; own_is = g ∙ ap (λ ls. ls ++ x start ∷ []) none ∙ ap (λ l. l ∷ []) d }
    where
      empty : (ls : List Level) → length ls ≡ 0 → ls ≡ []
      empty [] e = refl
      empty (l ∷ ls) e = absurd (omega (arith, e))
  first_by (decided g) =
      let a : start + length (own (suc start)) ≡ suc start = (at_bit (suc start) (omega arith) (let h = eighteen in omega arith)).long in
      let none : length (own (suc start)) ≡ 0 = ap length g in
      absurd (omega arith)
  first_by (third r d g) = record { rest = r; dominant = d; own_is = g ∙ ap (λ l. l ∷ []) d }

  pub first : IsFirst
  first = first_by (from start (at_bit (suc start) (omega arith) (let h = eighteen in omega arith)).sort)

  pub some_bits : 1 ≤ end
  some_bits = elim (cases_lt end 1) [
    | inr ge ↦ ge
    | inl none ↦
        (let h = eighteen in
        let a : start + length (own (suc start)) ≡ suc start = (at_bit (suc start) (omega arith) (omega arith)).long in
        let ends : stuffed_end (own (suc start)) ≡ Some end = over_at (suc start) (omega arith) (omega arith) (omega arith) in
        let wrong : stuffed_end (Dominant ∷ []) ≡ Some end = ap stuffed_end (sym first.own_is) ∙ ends in
        absurd (no_end wrong))
  ]
    where
      no_end : stuffed_end (Dominant ∷ []) ≡ Some end → ⊥
      no_end e = cc

  pub quiet_before : (m : ℕ) → m < start → start ≤ m + 10 → x m ≡ Recessive
  quiet_before m lt ten = rest_at w c s ts start m lt (let r : 10 ≤ rested_of (S start) = first.rest in omega arith)

  -- the other machine begins no flag
  flag_runs : (left i m : ℕ) (flag : Flag) → IsDominantFlag flag → (role : Role) (flags : List Level) → J i ≡ stretch_by (Flagging flag role) flags → length flags + left ≡ 6
      → i ≤ m → m < i + left → x m ≡ Dominant
  flag_runs zero i m flag is role flags e few le lt = absurd (omega arith)
  flag_runs (suc left) i m flag is role flags e few le lt = elim (cases_eq m i) [
    | inl same ↦ ap x same ∙ heard w c i j s tj.inside (ap drive_of e ∙ is.drive role flags)
    | inr ne ↦ elim (cases_lt (length flags) 5) [
      | inl going ↦
          (let l = longer flags (level_at w c i j) in
          flag_runs left (suc i) m flag is role (flags ++ level_at w c i j ∷ [])
          (next_active w c j tj i ∙ ap (λ t. stretch_after t (Sample (sample_of (level_at w c i j) (head_at w c i j) Active))) e
          ∙ is.goes role flags (sample_of (level_at w c i j) (head_at w c i j) Active) going)
          (omega arith) (omega (arith, ne)) (omega arith))
      | inr done ↦ absurd (omega (arith, ne))
    ]
  ]

  pub framed_not_down : (a : ℕ) → start < a → a ≤ suc n → down_of (S a) ≤ 0 → ⊥
  framed_not_down a le most h =
      let d : IsDown 6 (S a) = is_down (S a).sort (own a) (possible ((wire_at w c a).past s)) h in
      both_ways (is_down_by (S a).sort) (ap is_down_by (at_bit a le most).sort) d.down

  pub flag_dominant : (a : ℕ) → is_new_flag (J a) ≡ true → (m : ℕ) → a ≤ m → m < a + 6 → x m ≡ Dominant
  flag_dominant a b m le lt =
      let is : IsNewFlag (J a) = new_flag (J a).sort (J a).own b in
      flag_runs 6 a m is.flag is.dominant is.role [] is.is refl le lt

  pub recessive_there : (a : ℕ) → is_new_flag (J a) ≡ true → x a ≡ Recessive → ⊥
  recessive_there a b r = two_levels (x a) (flag_dominant a b a (omega arith) (omega arith)) r

  pub no_flag : (a : ℕ) → start ≤ a + 10 → a ≤ suc n → is_new_flag (J a) ≡ false
  no_flag a ten most = no_flag_is (is_new_flag (J a)) (λ b. elim (cases_lt a start) [
    | inl early ↦ recessive_there a b (quiet_before a early ten)
    | inr late ↦ elim (cases_lt (suc n) (a + 6)) [
      | inr far ↦ framed_not_down (a + 6) (omega arith) far (downs_at w c s ts a (flag_dominant a b))
      | inl near ↦ elim (cases_eq a (suc n)) [
        | inl same ↦ recessive_there a b (ap x same ∙ is_last.level)
        | inr ne ↦
            (let h = eighteen in
            let g : start + length (own a) ≡ a = (at_bit a (omega arith) most).long in
            recessive_there a b (quiet_tail a (omega arith) (omega (arith, ne)) (omega arith) (λ one. omega (arith, one))))
      ]
    ]
  ])

  -- the sender is its transmitter all along
  pub sender_by : (d i : ℕ) → i + d ≡ suc n → start < i → frame_role (Some f) (own i) ≡ Tx
  sender_by zero i e le = subst (λ m. frame_role (Some f) (own m) ≡ Tx) (let back : suc n ≡ i = omega arith in back) is_last.role
  sender_by (suc d) i e le = elim (role_cases (frame_role (Some f) (own i))) [
    | inl t ↦ t
    | inr r ↦ absurd (not_both_roles (frame_role (Some f) (own (suc i))) (sender_by d (suc i) (omega arith) (omega arith))
        (ap (frame_role (Some f)) (more i le (omega arith)) ∙ role_receives (Some f) (own i) (x i) r))
  ]

  module _ (clear : IsClear c s j start n) where
    -- it is between frames at the start of frame, and in the same frame after it
    near_by : (left i : ℕ) → i + left ≡ start → left ≤ 10 → Settles (6 + left) (J i) → Settles 6 (J start)
    near_by zero i e le old = subst (λ k. Settles 6 (J k)) (let there : i ≡ start = omega arith in there) old
    near_by (suc left) i e le old =
        let h = eighteen in
        let q : x i ≡ Recessive = quiet_before i (omega arith) (omega arith) in
        let r : level_at w c i j ≡ Recessive = both_quiet w c i j s (clear.clear_j i (omega arith) (omega arith)) q in
        let next : J (suc i) ≡ stretch_after (J i) (Sample (sample_of Recessive (head_at w c i j) Active)) =
        next_active w c j tj i ∙ ap (λ l. stretch_after (J i) (Sample (sample_of l (head_at w c i j) Active))) r in
        near_by left (suc i) (omega arith) (omega arith)
        (subst (Settles (6 + left)) (sym next)
        (settles_next (head_at w c i j) (6 + left) (J i).sort (J i).own (possible ((wire_at w c i).past j)) (part_at w c j tj i)
        (silent w c i j s tj.inside q) (subst (λ m. Settles m (J i)) (let up : 6 + suc left ≡ suc (6 + left) = omega arith in up) old)
        (ap is_new_flag (sym next) ∙ no_flag (suc i) (omega arith) (omega arith))))

    near : Settles 6 (J start)
    near = let ten = sent.room in near_by 10 (start - 10) (omega arith) (omega arith) (inr (settle_most (J (start - 10)).sort (J (start - 10)).own))

    finds_start : J (suc start) ≡ stretch_after (J start) (Sample (sample_of Dominant (head_at w c start j) Active))
    finds_start =
        let h = eighteen in
        let one = some_bits in
        next_active w c j tj start
        ∙ ap (λ l. stretch_after (J start) (Sample (sample_of l (head_at w c start j) Active))) (both_find w c start j s (clear.clear_j start (omega arith) (omega arith)) (clear.clear_s start (omega arith) (omega arith)) ∙ first.dominant)

    begins : (b : Bool) → is_between (J start) ≡ b → (head : Option Content) × (J (suc start) ≡ stretch_by (Framing head) (own (suc start)))
    begins true e =
        let is = begun (J start).sort (J start).own (head_at w c start j) Active e in
        (is.0, finds_start ∙ is.1 ∙ ap (stretch_by (Framing is.0)) (sym first.own_is))
    begins false e =
        let h = eighteen in
        absurd (both_ways (is_new_flag (J (suc start))) (no_flag (suc start) (omega arith) (omega arith)) (ap is_new_flag finds_start
        ∙ near_breaks (head_at w c start j) (J start).sort (J start).own (possible ((wire_at w c start).past j)) (part_at w c j tj start) near e))

    abbrev head : Option Content
    head = (begins (is_between (J start)) refl).0

    abbrev Same : ℕ → Type 0
    Same i = J i ≡ stretch_by (Framing head) (own i)

    goes_on : (i : ℕ) → start < i → i ≤ n → Same i → IsEarly (stuffed_end (own i)) (own i) → level_at w c i j ≡ x i → Same (suc i)
    goes_on i le most same early level =
        let next : J (suc i) ≡ stretch_after (stretch_by (Framing head) (own i)) (Sample (sample_of (x i) (head_at w c i j) Active)) =
        next_active w c j tj i ∙ ap (λ l. stretch_after (J i) (Sample (sample_of l (head_at w c i j) Active))) level
        ∙ ap (λ t. stretch_after t (Sample (sample_of (x i) (head_at w c i j) Active))) same in
        next ∙ early_on (head_at w c i j) (x i) (frame_role head (own i)) head (own i) early (ap is_new_flag (sym next) ∙ no_flag (suc i) (omega arith) (omega arith))
        ∙ ap (stretch_by (Framing head)) (sym (more i le most))

    stuffed_on : (i : ℕ) → start < i → i ≤ n → length (own i) < end → Same i → Same (suc i)
    stuffed_on i le most few same =
        let h = eighteen in
        let g : start + length (own i) ≡ i = (at_bit i le (omega arith)).long in
        goes_on i le most same (subst (λ o. IsEarly o (own i)) (sym (none_at i le (omega arith) few)) tt)
        (both_find w c i j s (clear.clear_j i (omega arith) (omega arith)) (clear.clear_s i (omega arith) (omega arith)))

    -- after the stuffed part it finds no dominant bit but in the ACK slot
    finds_quiet : (i : ℕ) → start < i → i ≤ n → end ≤ length (own i) → (length (own i) - end ≡ 1 → ⊥) → Same i → level_at w c i j ≡ Recessive
    finds_quiet i le most far off_slot same = elim (level_cases (level_at w c i j)) [
      | inr r ↦ r
      | inl d ↦ absurd (both_ways (is_new_flag (J (suc i))) (no_flag (suc i) (omega arith) (omega arith))
          (ap is_new_flag (next_active w c j tj i ∙ ap (λ l. stretch_after (J i) (Sample (sample_of l (head_at w c i j) Active))) d
          ∙ ap (λ t. stretch_after t (Sample (sample_of Dominant (head_at w c i j) Active))) same)
          ∙ tail_breaks (head_at w c i j) (frame_role head (own i)) head (own i) end (over_at i le (omega arith) far) off_slot))
    ]

    abbrev start_tail : ℕ
    start_tail = start + end

    -- up to the end of the stuffed part
    to_end : (d i : ℕ) → i + d ≡ start_tail → start < i → Same i → Same start_tail
    to_end zero i e le same = subst Same (let there : i ≡ start_tail = omega arith in there) same
    to_end (suc d) i e le same =
        let h = eighteen in
        let g : start + length (own i) ≡ i = (at_bit i le (omega arith)).long in
        to_end d (suc i) (omega arith) (omega arith) (stuffed_on i le (omega arith) (omega arith) same)

    abbrev SameBy : ℕ → Type 0
    SameBy i = (k : ℕ) → start < k → k ≤ i → Same k

    all_by : (d i : ℕ) → i + d ≡ start_tail → start < i → SameBy i → SameBy start_tail
    all_by zero i e le old = subst SameBy (let there : i ≡ start_tail = omega arith in there) old
    all_by (suc d) i e le old =
        let h = eighteen in
        let g : start + length (own i) ≡ i = (at_bit i le (omega arith)).long in
        let next : Same (suc i) = stuffed_on i le (omega arith) (omega arith) (old i le (omega arith)) in
        all_by d (suc i) (omega arith) (omega arith) (λ k from_first to. elim (cases_eq k (suc i)) [
          | inl same ↦ subst Same (sym same) next
          | inr ne ↦ old k from_first (omega (arith, ne))
        ])

    same_by : SameBy start_tail
    same_by = let one = some_bits in all_by (end - 1) (suc start) (omega arith) (omega arith) (λ k le most. subst Same (let there : suc start ≡ k = omega arith in there) (begins (is_between (J start)) refl).1)

    -- what a machine has sent that is in this frame and its transmitter at the end of the stuffed part
    module _ (k : ℕ) (g : Content) (is : (i : ℕ) → start < i → i ≤ start_tail → stretch_before w c i k ≡ stretch_by (Framing (Some g)) (own i))
        (finds : (i : ℕ) → start < i → i < start_tail → level_at w c i k ≡ x i) (role : frame_role (Some g) (own start_tail) ≡ Tx) where
      sends_by : (d i : ℕ) → i + d ≡ start_tail → start < i → frame_role (Some g) (own i) ≡ Tx
      sends_by zero i e le = subst (λ m. frame_role (Some g) (own m) ≡ Tx) (let back : start_tail ≡ i = omega arith in back) role
      sends_by (suc d) i e le = elim (role_cases (frame_role (Some g) (own i))) [
        | inl t ↦ t
        | inr r ↦
            (let h = eighteen in
            absurd (not_both_roles (frame_role (Some g) (own (suc i))) (sends_by d (suc i) (omega arith) (omega arith))
            (ap (frame_role (Some g)) (more i le (omega arith)) ∙ role_receives (Some g) (own i) (x i) r)))
      ]

      abbrev sample : ℕ → Sampled
      sample i = sample_found (wire_at w c i) (c.hit i) (c.handed i) k

      sent_here : (i : ℕ) → start < i → i < start_tail → sent_at g (own i) (length (own i)) ≡ x i
      sent_here i le lt =
          let h = eighteen in
          let a : start + length (own i) ≡ i = (at_bit i le (omega arith)).long in
          let l : level_at w c i k ≡ x i = finds i le lt in
          let longer_is : own (suc i) ≡ own i ++ level_at w c i k ∷ [] = more i le (omega arith) ∙ ap (λ m. own i ++ m ∷ []) (sym l) in
          found_next g (own i) (sample i) (sends_by (start_tail - i) i (omega arith) le)
          (ap (frame_role (Some g)) (sym longer_is) ∙ sends_by (start_tail - suc i) (suc i) (omega arith) (omega arith))
          (none_at i le (omega arith) (omega arith))
          (ap (λ t. stretch_after t (Sample (sample i))) (sym (is i le (omega arith))) ∙ sym (next_stretch w c i k) ∙ is (suc i) (omega arith) (omega arith)
          ∙ ap (stretch_by (Framing (Some g))) longer_is) ∙ l

      first_found : FoundSent g (own (suc start)) (length (own (suc start)))
      first_found = subst (λ ls. FoundSent g ls (length ls)) (sym first.own_is) one_bit
        where
          one_bit : FoundSent g (Dominant ∷ []) 1
          one_bit zero lt = sym (first_dominant g)
          one_bit (suc m) lt = absurd (omega (arith, lt))

      found_to : (d i : ℕ) → i + d ≡ start_tail → start < i → FoundSent g (own i) (length (own i)) → FoundSent g (own start_tail) (length (own start_tail))
      found_to zero i e le old = subst (λ m. FoundSent g (own m) (length (own m))) (let there : i ≡ start_tail = omega arith in there) old
      found_to (suc d) i e le old =
          let h = eighteen in
          found_to d (suc i) (omega arith) (omega arith)
          (subst (λ ls. FoundSent g ls (length ls)) (sym (more i le (omega arith))) (found_more g (own i) (x i) end old (sent_here i le (omega arith))))

      found_end : FoundSent g (own start_tail) end
      found_end m lt =
          let h = eighteen in
          let one = some_bits in
          let a : start + length (own start_tail) ≡ start_tail = (at_bit start_tail (omega arith) (omega arith)).long in
          found_to (end - 1) (suc start) (omega arith) (omega arith) first_found m (omega arith)

      kept : IsContent g → destuffed_bits (own start_tail) end ≡ bits_of g
      kept content =
          let h = eighteen in
          let one = some_bits in
          let a : start + length (own start_tail) ≡ start_tail = (at_bit start_tail (omega arith) (omega arith)).long in
          kept_is_all g (own start_tail) end content (over_at start_tail (omega arith) (omega arith) (omega arith)) found_end

    module _ (sound : AreSoundFrames w.count w.frames) (heads : OwnHeads w) (ne : s ≢ j) where
      has : (k : ℕ) (g : Content) → stretch_before w c start_tail k ≡ stretch_by (Framing (Some g)) (own start_tail) → Has w.frames k g
      has k g e = has_at w c start_tail k g (heads_at laws w c heads start_tail k g (ap (λ t. head_of t.sort) e))

      s_is : S start_tail ≡ stretch_by (Framing (Some f)) (own start_tail)
      s_is = let h = eighteen in let one = some_bits in stretch_is start_tail (omega arith) (omega arith)

      f_is : IsContent f
      f_is = sound.content s f ts.inside (has s f s_is)

      bits_are : destuffed_bits (own start_tail) end ≡ bits_of f
      bits_are =
          let h = eighteen in
          let one = some_bits in
          kept s f (λ i le most. stretch_is i le (omega arith)) (λ i le lt. refl) (sender_by (suc n - start_tail) start_tail (omega arith) (omega arith)) f_is

      finds_all : (i : ℕ) → start < i → i < start_tail → level_at w c i j ≡ x i
      finds_all i le lt = let h = eighteen in both_find w c i j s (clear.clear_j i (omega arith) (omega arith)) (clear.clear_s i (omega arith) (omega arith))

      -- so the other one receives
      no_sender : (o : Option Content) → head ≡ o → frame_role o (own start_tail) ≡ Tx → ⊥
      no_sender None e r = cc
      no_sender (Some g) e r =
          let one = some_bits in
          let there : J start_tail ≡ stretch_by (Framing (Some g)) (own start_tail) = same_by start_tail (omega arith) (omega arith) ∙ ap (λ o. stretch_by (Framing o) (own start_tail)) e in
          let g_is : IsContent g = sound.content j g tj.inside (has j g there) in
          let bits : bits_of f ≡ bits_of g = sym bits_are ∙ kept j g (λ i le most. same_by i le most ∙ ap (λ o. stretch_by (Framing o) (own i)) e) finds_all r g_is in
          let same : f ≡ g = sym (read_back f f_is).content ∙ ap content_of bits ∙ (read_back g g_is).content in
          sound.apart s j f g ts.inside tj.inside ne (has s f s_is) (has j g there) (ap (λ d. d.extended) same, ap (λ d. d.id) same, ap (λ d. d.remote) same)

      receives_at : frame_role head (own start_tail) ≡ Rx
      receives_at = elim (role_cases (frame_role head (own start_tail))) [
        | inl t ↦ absurd (no_sender head refl t)
        | inr r ↦ r
      ]

      -- after the stuffed part
      record InTail (i : ℕ) : Type 0 where
        same : Same i
        role : frame_role head (own i) ≡ Rx
        bits : destuffed_bits (own i) end ≡ bits_of f

      crc_right : is_crc_right (bits_of f) ≡ true
      crc_right = (read_back f f_is).crc

      tail_start : InTail start_tail
      tail_start = let one = some_bits in record { same = same_by start_tail (omega arith) (omega arith); role = receives_at; bits = bits_are }

      tail_next : (i : ℕ) → start < i → i ≤ n → end ≤ length (own i) → InTail i → Same (suc i) → InTail (suc i)
      tail_next i le most far t same = record {
        same = same;
        role = ap (frame_role head) (more i le most) ∙ role_receives head (own i) (x i) t.role;
        bits = ap (λ ls. destuffed_bits ls end) (more i le most) ∙ kept_old (own i) (x i) end far ∙ t.bits;
      }

      slot_driven : (i : ℕ) → start < i → i ≤ n → length (own i) - end ≡ 1 → InTail i → drive_of (J i) ≡ Dominant
      slot_driven i le most one t =
          ap drive_of t.same ∙ ap (λ o. drive_up_to o head (own i)) (over_at i le (omega arith) (omega arith))
          ∙ ap (λ r. tail_drive r (destuffed_bits (own i) end) (length (own i) - end)) t.role
          ∙ ap (λ ls. tail_drive Rx ls (length (own i) - end)) t.bits
          ∙ ap (λ b. cond ((length (own i) - end == 1) && b) Dominant Recessive) crc_right
          ∙ ap (λ m. cond ((m == 1) && true) Dominant Recessive) one

      tail_on : (i : ℕ) → start_tail ≤ i → i < n → InTail i → Same (suc i)
      tail_on i le lt t =
          let h = eighteen in
          let first_bit = some_bits in
          let a : start + length (own i) ≡ i = (at_bit i (omega arith) (omega arith)).long in
          let there : stuffed_end (own i) ≡ Some end = over_at i (omega arith) (omega arith) (omega arith) in
          elim (cases_lt (length (own i) - end) 2) [
            | inl early ↦ goes_on i (omega arith) (omega arith) t.same (subst (λ o. IsEarly o (own i)) (sym there) early) (elim (cases_eq (length (own i) - end) 1) [
              | inl one ↦ (let d = slot_driven i (omega arith) (omega arith) one t in heard w c i j j tj.inside d ∙ sym (heard w c i j s tj.inside d))
              | inr off_slot ↦ finds_quiet i (omega arith) (omega arith) (omega arith) off_slot t.same ∙ sym (quiet_tail i (omega arith) (omega arith) (omega arith) off_slot)
            ])
            | inr late ↦ late_by there late
          ]
        where
          late_by : stuffed_end (own i) ≡ Some end → 2 ≤ length (own i) - end → Same (suc i)
          late_by there late =
              let h = eighteen in
              let first_bit = some_bits in
              let a : start + length (own i) ≡ i = (at_bit i (omega arith) (omega arith)).long in
              let q : x i ≡ Recessive = quiet_tail i (omega arith) (omega arith) (omega arith) (λ one. omega (arith, one)) in
              let r : level_at w c i j ≡ Recessive = finds_quiet i (omega arith) (omega arith) (omega arith) (λ one. omega (arith, one)) t.same in
              let next : J (suc i) ≡ stretch_after (stretch_by (Framing head) (own i)) (Sample (sample_of Recessive (head_at w c i j) Active)) =
              next_active w c j tj i ∙ ap (λ l. stretch_after (J i) (Sample (sample_of l (head_at w c i j) Active))) r
              ∙ ap (λ s. stretch_after s (Sample (sample_of Recessive (head_at w c i j) Active))) t.same in
              by q (subst (TailOn head (own i) (length (own i) - end)) (sym next)
              (late_on (head_at w c i j) (frame_role head (own i)) head (own i) end there late (ap is_new_flag (sym next) ∙ no_flag (suc i) (omega arith) (omega arith))))
            where
              by : x i ≡ Recessive → TailOn head (own i) (length (own i) - end) (J (suc i)) → Same (suc i)
              by q (on early is) = is ∙ ap (λ l. stretch_by (Framing head) (own i ++ l ∷ [])) (sym q) ∙ ap (stretch_by (Framing head)) (sym (more i (let o = some_bits in omega arith) (omega arith)))
              by q (over nine role is) =
                  let h = eighteen in
                  let first_bit = some_bits in
                  let a : start + length (own i) ≡ i = (at_bit i (omega arith) (omega arith)).long in
                  absurd (omega arith)

      to_last : (d i : ℕ) → i + d ≡ n → start_tail ≤ i → InTail i → InTail n
      to_last zero i e le t = subst InTail (let there : i ≡ n = omega arith in there) t
      to_last (suc d) i e le t =
          let h = eighteen in
          let one = some_bits in
          let a : start + length (own i) ≡ i = (at_bit i (omega arith) (omega arith)).long in
          to_last d (suc i) (omega arith) (omega arith) (tail_next i (omega arith) (omega arith) (omega arith) t (tail_on i le (omega arith) t))

      pub received : (judged_at w c n j).ended ≡ Received f
      received =
          let h = eighteen in
          let one = some_bits in
          let a : start + length (own n) ≡ n = (at_bit n (omega arith) (omega arith)).long in
          let t : InTail n = to_last (n - start_tail) start_tail (omega arith) (omega arith) tail_start in
          let there : stuffed_end (own n) ≡ Some end = over_at n (omega arith) (omega arith) (omega arith) in
          let r : level_at w c n j ≡ Recessive = finds_quiet n (omega arith) (omega arith) (omega arith) (λ one. omega (arith, one)) t.same in
          let y : Sampled = sample_found (wire_at w c n) (c.hit n) (c.handed n) j in
          ap (λ st. (judged st y).ended) t.same ∙ ap (λ role. (framing_by role head (own n) y).ended) t.role ∙ ap (λ o. (framing_received (own n) o y).ended) there
          ∙ got_there (destuffed_bits (own n) end) (length (own n) - end) y (omega arith) r
          ∙ ap (λ ls. Received (content_of ls)) t.bits ∙ ap Received (read_back f f_is).content
