-- One disturbance of six bits or more at a machine: it begins a flag that the sender of a frame finds, or it comes from a flag too late not to do so.
use Rattle.std.proofs.Common.{◌≡◌, ◌≢◌, ◌∙◌, ℕ, zero, suc, ◌+◌, ◌-◌, ◌<◌, ◌≤◌, List, [], ◌∷◌, length, length-append, true, false, not, cond, Option, Some, None, inl, inr, refl, sym, ap, subst, arith}
use Rattle.std.specs.Prelude.{nat_le}
use Rattle.std.proofs.lemmas.Bool.{cases_lt, cases_Bool, both_ways, and_parts, leb-true, le-leb, and_from}
use Rattle.std.proofs.lemmas.Option.{none-some}
use Rattle.wl_level.specs.declared.Level.{Level}
use Rattle.wl_level.specs.declared.Level.TheVariants.{Dominant, Recessive}
use Rattle.wl_level.specs.Places.{IsFirstPlace, at}
use Rattle.wl_level.proofs.Callers.{first_is}
use Rattle.wl_frame.specs.Stuffing.{is_stuff, destuffed_bits}
use Rattle.wl_frame.specs.Grammar.{Content, is_whole, bits_left}
use Rattle.wl_frame.proofs.Callers.{left_least, left_whole}
use Rattle.wl_confine.specs.declared.Mode.TheVariants.{Active}
use Rattle.wl_machine.specs.declared.state.Role.TheVariants.{Tx}
use Rattle.wl_machine.specs.Stretch.{Stretch}
use Rattle.wl_machine.specs.Stretch.Ended.{Received}
use Rattle.wl_machine.specs.Stretch.Input.{Sample}
use Rattle.wl_machine.specs.Stretch.Sort.{Framing}
use Rattle.wl_machine.specs.Frames.{stuffed_end, framing_by, framing_sent, sent_tail}
use Rattle.wl_machine.specs.Judged.{stretch_after}
use Rattle.wl_machine.specs.Laws.{HeadLaws}
use Rattle.wl_machine.specs.States.{sample_of, stretch_by}
use Rattle.wl_machine.proofs.Callers.{ends_at}
use Rattle.wl_wire.specs.Wire.{Wire, bus, is_between_by}
use Rattle.wl_wire.specs.Heads.{OwnHeads}
use Rattle.wl_wire.specs.InStep.{AreSoundFrames, AreInStep}
use Rattle.wl_heal.specs.Disturbed.{Course, wire_at, stretch_before, judged_at, TakesPart, IsSentFrom, IsHitIn}
use Rattle.wl_heal.proofs.Disturbance.{count_at, level_at, head_at, silent, both_quiet, both_find, part_at, next_active, rest_at, downs_at}
use Rattle.wl_heal.proofs.Late.{is_raised_by, down_raised, between_not_raised, raised_next, is_late_by, IsLate, down_late, late_dominant, late_recessive, late_next}
use Rattle.wl_heal.proofs.Possible.{possible, some_same}
use Rattle.wl_heal.proofs.Received.{flag_no_frame, no_flag_is, at_bit, stretch_is, over_at, none_at, quiet_tail, first, quiet_before, some_bits, no_flag, end, eighteen, framed_not_down, flag_dominant, sender_by, received}
use Rattle.wl_heal.proofs.Rested.{rested_of}
use Rattle.wl_heal.proofs.Samples.{going, either}
use Rattle.wl_heal.proofs.Settle.{is_new_flag, Settles, settle_in_frame, settle_most, settles_next}
use Rattle.wl_heal.proofs.Silent.{two_levels}
use Rattle.wl_heal.proofs.Six.{is_down, is_down_by, flag_most, stays_down}

-- a machine that is hit is hit all along
record IsWhole (c : Course) (from many k i : ℕ) : Type 0 where
  low : from ≤ i
  high : i < from + many
  all : (m : ℕ) → from ≤ m → m < from + many → c.hit m k ≡ true

whole_of : (c : Course) (from many k i : ℕ) → IsHitIn c from many k → c.hit i k ≡ true → IsWhole c from many k i
whole_of c from many k i (inr never) h = absurd (both_ways (c.hit i k) (never i) h)
whole_of c from many k i (inl e) h =
    let both = and_parts (nat_le from i) (nat_le (suc i) (from + many)) (sym (e i) ∙ h) in
    record {
      low = leb-true from i both.0;
      high = leb-true (suc i) (from + many) both.1;
      all = λ m le lt. e m ∙ and_from (nat_le from m) (nat_le (suc m) (from + many)) (le-leb from m le) (le-leb (suc m) (from + many) lt);
    }

not_hit_after : (c : Course) (from many k i : ℕ) → IsHitIn c from many k → from + many ≤ i → c.hit i k ≡ false
not_hit_after c from many k i is le = no_flag_is (c.hit i k) (λ h. let whole : i < from + many = (whole_of c from many k i is h).high in omega (arith, whole))

kept_few : (y : List Level) (n : ℕ) → length (destuffed_bits y n) ≤ n
kept_few y zero = omega arith
kept_few y (suc n) =
    let old = kept_few y n in
    let more : length (destuffed_bits y (suc n)) ≡ length (destuffed_bits y n) + length (cond (is_stuff y n) [] (at y n ∷ [])) = length-append (destuffed_bits y n) (cond (is_stuff y n) [] (at y n ∷ [])) in
    let one : length (cond (is_stuff y n) [] (at y n ∷ [])) ≤ 1 = either (λ (l : List Level). length l ≤ 1) (is_stuff y n) [] (at y n ∷ []) (omega arith) (omega arith) in
    omega arith

-- no frame ends its stuffed part before 34 bits
end_least : (own : List Level) (end : ℕ) → stuffed_end own ≡ Some end → 34 ≤ end
end_least own end h =
    let there : IsFirstPlace (ends_at own) (suc (length own)) end = first_is (ends_at own) (suc (length own)) end h in
    let whole : is_whole (destuffed_bits own end) ≡ true = (and_parts (is_whole (destuffed_bits own end)) (not (is_stuff own end)) there.passes).0 in
    let left : bits_left (destuffed_bits own end) ≡ 0 = left_whole (destuffed_bits own end) whole in
    let least : 34 ≤ length (destuffed_bits own end) + bits_left (destuffed_bits own end) = left_least (destuffed_bits own end) in
    let few : length (destuffed_bits own end) ≤ end = kept_few own end in
    omega arith

not_between : (f : Content) (own : List Level) → 0 < length own → is_between_by (Framing (Some f)) own ≡ false
not_between f [] lt = absurd (omega (arith, lt))
not_between f (l ∷ own) lt = refl

-- a sender without an acknowledgement
slot_breaks : (f : Content) (own : List Level) (end : ℕ) (head : Option Content) → stuffed_end own ≡ Some end → length own - end ≡ 1
    → is_new_flag (going (Framing (Some f)) own Recessive (framing_by Tx (Some f) own (sample_of Recessive head Active))) ≡ true
slot_breaks f own end head over one =
    ap (λ o. is_new_flag (going (Framing (Some f)) own Recessive (framing_sent f own o (sample_of Recessive head Active)))) over
    ∙ ap (λ m. is_new_flag (going (Framing (Some f)) own Recessive (sent_tail f m (sample_of Recessive head Active)))) one

module _ (laws : HeadLaws) (w : Wire) (c : Course) (s j n : ℕ) (f : Content) (start : ℕ) (ts : TakesPart w c s) (tj : TakesPart w c j) (sent : IsSentFrom w c s start n f)
    (from many : ℕ) (six : 6 ≤ many) (most : many ≤ 51) (hs : IsHitIn c from many s) (hj : IsHitIn c from many j) (step : AreInStep (wire_at w c from)) where
  abbrev S : ℕ → Stretch
  S i = stretch_before w c i s

  abbrev J : ℕ → Stretch
  J i = stretch_before w c i j

  abbrev x : ℕ → Level
  x i = level_at w c i s

  abbrev stuffed : ℕ
  stuffed = end laws w c s j n f start ts tj sent

  size : stuffed + (start + 8) ≡ n
  size = eighteen laws w c s j n f start ts tj sent

  quiet : (m : ℕ) → m < start → start ≤ m + 10 → x m ≡ Recessive
  quiet = quiet_before laws w c s j n f start ts tj sent

  none_begun : (a : ℕ) → start ≤ a + 10 → a ≤ suc n → is_new_flag (J a) ≡ false
  none_begun = no_flag laws w c s j n f start ts tj sent

  long : (i : ℕ) → start < i → i ≤ suc n → start + length (S i).own ≡ i
  long i lt le = let a = at_bit laws w c s j n f start ts tj sent i lt le in a.long

  framed : (i : ℕ) → start < i → i ≤ suc n → S i ≡ stretch_by (Framing (Some f)) (S i).own
  framed = stretch_is laws w c s j n f start ts tj sent

  hit_dominant : (i k : ℕ) → c.hit i k ≡ true → level_at w c i k ≡ Dominant
  hit_dominant i k h = ap (λ b. cond b Dominant (bus (wire_at w c i))) h

  -- the sender
  clear_s : (i : ℕ) → start ≤ i + 10 → i + 8 < n → c.hit i s ≡ false
  clear_s i ten lt = no_flag_is (c.hit i s) (λ h. by (whole_of c from many s i hs h) h)
    where
      by : IsWhole c from many s i → c.hit i s ≡ true → ⊥
      by whole h =
          let z = size in
          let low : from ≤ i = whole.low in
          let high : i < from + many = whole.high in
          let room : 10 ≤ start = sent.room in
          elim (cases_lt i start) [
            | inl early ↦ two_levels (x i) (hit_dominant i s h) (quiet i early ten)
            | inr late ↦ elim (cases_lt from start) [
              | inl before ↦ two_levels (x (start - 1)) (hit_dominant (start - 1) s (whole.all (start - 1) (omega arith) (omega arith))) (quiet (start - 1) (omega arith) (omega arith))
              | inr inside ↦ framed_not_down laws w c s j n f start ts tj sent (from + 6) (omega arith) (omega arith)
                  (downs_at w c s ts from (λ m le few. hit_dominant m s (whole.all m le (omega arith))))
            ]
          ]

  -- the other one, in step at first
  not_raised : is_raised_by (J from).sort ≡ false
  not_raised = elim step [
    | inl b ↦ between_not_raised (J from).sort (J from).own (b j there)
    | inr rest ↦ elim rest [
      | inl i ↦ ap (λ (t : Stretch). is_raised_by t.sort) (i.1.each j there).1
      | inr fr ↦ ap (λ (t : Stretch). is_raised_by t.sort) (fr.1.each j there).1
    ]
  ]
    where
      there : j < (wire_at w c from).count
      there = subst (λ m. j < m) (sym (count_at w c from)) tj.inside

  next_level : (i : ℕ) (l : Level) → level_at w c i j ≡ l → J (suc i) ≡ stretch_after (J i) (Sample (sample_of l (head_at w c i j) Active))
  next_level i l e = next_active w c j tj i ∙ ap (λ l. stretch_after (J i) (Sample (sample_of l (head_at w c i j) Active))) e

  still : (d i : ℕ) → i + d ≡ from + 6 → from ≤ i → ((a : ℕ) → from < a → a ≤ from + 6 → is_new_flag (J a) ≡ false) → is_raised_by (J i).sort ≡ false
      → is_raised_by (J (from + 6)).sort ≡ false
  still zero i e le none old = subst (λ m. is_raised_by (J m).sort ≡ false) (let there : i ≡ from + 6 = omega arith in there) old
  still (suc d) i e le none old =
      let next = next_level i (level_at w c i j) refl in
      still d (suc i) (omega arith) (omega arith) none
      (ap (λ (t : Stretch). is_raised_by t.sort) next
      ∙ raised_next (level_at w c i j) (head_at w c i j) (J i).sort (J i).own (part_at w c j tj i) old (ap is_new_flag (sym next) ∙ none (suc i) (omega arith) (omega arith)))

  down_then : ((m : ℕ) → from ≤ m → m < from + many → c.hit m j ≡ true) → is_down_by (J (from + 6)).sort ≡ true
  down_then all =
      (is_down (J (from + 6)).sort (J (from + 6)).own (possible ((wire_at w c (from + 6)).past j)) (downs_at w c j tj from (λ m le few. hit_dominant m j (all m le (omega arith))))).down

  rises : ((m : ℕ) → from ≤ m → m < from + many → c.hit m j ≡ true) → ((a : ℕ) → from < a → a ≤ from + 6 → is_new_flag (J a) ≡ false) → ⊥
  rises all none =
      both_ways (is_raised_by (J (from + 6)).sort) (still 6 from (omega arith) (omega arith) none not_raised) (down_raised (J (from + 6)).sort (down_then all))

  -- a sender finds no six recessive bits in a row, up to the end of the stuffed part
  six_by : (d i a : ℕ) → i + d ≡ a + 6 → a ≤ i → start < a → a + 6 ≤ start + stuffed → ((m : ℕ) → a ≤ m → m < a + 6 → x m ≡ Recessive) → Settles (10 + d) (S i) → Settles 10 (S (a + 6))
  six_by zero i a e le lt few run old = subst (λ m. Settles 10 (S m)) (let there : i ≡ a + 6 = omega arith in there) old
  six_by (suc d) i a e le lt few run old =
      let z = size in
      let q : x i ≡ Recessive = run i le (omega arith) in
      let next : S (suc i) ≡ stretch_after (S i) (Sample (sample_of Recessive (head_at w c i s) Active)) =
      next_active w c s ts i ∙ ap (λ l. stretch_after (S i) (Sample (sample_of l (head_at w c i s) Active))) q in
      six_by d (suc i) a (omega arith) (omega arith) lt few run
      (subst (Settles (10 + d)) (sym next)
      (settles_next (head_at w c i s) (10 + d) (S i).sort (S i).own (possible ((wire_at w c i).past s)) (part_at w c s ts i) (silent w c i s s ts.inside q)
      (subst (λ m. Settles m (S i)) (let up : 10 + suc d ≡ suc (10 + d) = omega arith in up) old)
      (ap is_new_flag (sym next) ∙ ap is_new_flag (framed (suc i) (omega arith) (omega arith)))))

  six_not : (a : ℕ) → start < a → a + 6 ≤ start + stuffed → ((m : ℕ) → a ≤ m → m < a + 6 → x m ≡ Recessive) → ⊥
  six_not a lt few run =
      let z = size in
      let g : start + length (S (a + 6)).own ≡ a + 6 = long (a + 6) (omega arith) (omega arith) in
      by (subst (Settles 10) (framed (a + 6) (omega arith) (omega arith)) (six_by 6 a a (omega arith) (omega arith) lt few run (inr (settle_most (S a).sort (S a).own))))
    where
      settled : (o : Option ℕ) → stuffed_end (S (a + 6)).own ≡ o → settle_in_frame o (S (a + 6)).own ≤ 10 → ⊥
      settled None e h = omega (arith, h)
      settled (Some k) e h =
          let z = size in
          let g : start + length (S (a + 6)).own ≡ a + 6 = long (a + 6) (omega arith) (omega arith) in
          elim (cases_lt (length (S (a + 6)).own) stuffed) [
            | inl less ↦ none-some k (sym (none_at laws w c s j n f start ts tj sent (a + 6) (omega arith) (omega arith) less) ∙ e)
            | inr same ↦
                (let there : stuffed ≡ k = some_same stuffed k (sym (over_at laws w c s j n f start ts tj sent (a + 6) (omega arith) (omega arith) same) ∙ e) in
                omega (arith, h))
          ]

      by : Settles 10 (stretch_by (Framing (Some f)) (S (a + 6)).own) → ⊥
      by (inl b) =
          let z = size in
          let g : start + length (S (a + 6)).own ≡ a + 6 = long (a + 6) (omega arith) (omega arith) in
          both_ways (is_between_by (Framing (Some f)) (S (a + 6)).own) (not_between f (S (a + 6)).own (omega arith)) b
      by (inr h) = settled (stuffed_end (S (a + 6)).own) refl h

  -- a disturbance that began long before
  module _ (early : from + 17 ≤ start) (reaches : start < from + many + 10) (all : (m : ℕ) → from ≤ m → m < from + many → c.hit m j ≡ true) where
    abbrev ten_before : ℕ
    ten_before = start - 10

    abbrev tail : ℕ
    tail = start + stuffed

    down_by : (d i : ℕ) → i + d ≡ ten_before → from + 6 ≤ i → is_down_by (J i).sort ≡ true → is_down_by (J ten_before).sort ≡ true
    down_by zero i e le old = subst (λ m. is_down_by (J m).sort ≡ true) (let there : i ≡ ten_before = omega arith in there) old
    down_by (suc d) i e le old =
        let next = next_level i Dominant (hit_dominant i j (all i (omega arith) (omega arith))) in
        down_by d (suc i) (omega arith) (omega arith)
        (ap (λ (t : Stretch). is_down_by t.sort) next
        ∙ (stays_down (J i).sort (J i).own 6 (head_at w c i j) Active (possible ((wire_at w c i).past j)) (record { down = old; left = flag_most (J i).sort (J i).own })).down)

    late_first : IsLate (J ten_before)
    late_first =
        down_late (J ten_before).sort (J ten_before).own (down_by (ten_before - (from + 6)) (from + 6) (omega arith) (omega arith) (down_then all))
        (silent w c ten_before j s tj.inside (quiet ten_before (omega arith) (omega arith)))

    starts : level_at w c start j ≡ Dominant
    starts = elim (cases_Bool (c.hit start j)) [
      | inl h ↦ hit_dominant start j h
      | inr free ↦
          (let z = size in
          let some = some_bits laws w c s j n f start ts tj sent in
          let is = first laws w c s j n f start ts tj sent in
          both_find w c start j s free (clear_s start (omega arith) (omega arith)) ∙ is.dominant)
    ]

    few_at : (i : ℕ) → ten_before < i → i ≤ suc tail → rested_of (J i) ≤ 9
    few_at i gt le = elim (cases_lt 9 (rested_of (J i))) [
      | inr few ↦ few
      | inl big ↦ absurd (many_not (λ m lt near. rest_at w c j tj i m lt (omega arith)))
    ]
      where
        many_not : ((m : ℕ) → m < i → i ≤ m + 10 → level_at w c m j ≡ Recessive) → ⊥
        many_not run =
            let z = size in
            elim (cases_lt start i) [
              | inr before ↦ two_levels (level_at w c ten_before j) (hit_dominant ten_before j (all ten_before (omega arith) (omega arith))) (run ten_before gt (omega arith))
              | inl after ↦ elim (cases_lt (start + 10) i) [
                | inr near ↦ two_levels (level_at w c start j) starts (run start after near)
                | inl far ↦ six_not (i - 10) (omega arith) (omega arith)
                    (λ m low high. both_quiet w c m s j (clear_s m (omega arith) (omega arith)) (run m (omega arith) (omega arith)))
              ]
            ]

    late_by : (d i : ℕ) → i + d ≡ tail → ten_before ≤ i → IsLate (J i) → IsLate (J tail)
    late_by zero i e le old = subst (λ m. IsLate (J m)) (let there : i ≡ tail = omega arith in there) old
    late_by (suc d) i e le old =
        let z = size in
        let next = next_level i (level_at w c i j) refl in
        late_by d (suc i) (omega arith) (omega arith) (record {
          late =
              ap (λ (t : Stretch). is_late_by t.sort) next
              ∙ late_next (level_at w c i j) (J i).sort (J i).own (head_at w c i j) old (ap is_new_flag (sym next) ∙ none_begun (suc i) (omega arith) (omega arith));
          few = few_at (suc i) (omega arith) (omega arith);
        })

    too_late : ⊥
    too_late =
        let z = size in
        let some = some_bits laws w c s j n f start ts tj sent in
        let g : start + length (S tail).own ≡ tail = long tail (omega arith) (omega arith) in
        let over : stuffed_end (S tail).own ≡ Some stuffed = over_at laws w c s j n f start ts tj sent tail (omega arith) (omega arith) (omega arith) in
        let least : 34 ≤ stuffed = end_least (S tail).own stuffed over in
        let free : (i : ℕ) → tail ≤ i → (c.hit i j ≡ false) × (c.hit i s ≡ false) = λ i le. (not_hit_after c from many j i hj (omega arith), not_hit_after c from many s i hs (omega arith)) in
        let q : x tail ≡ Recessive = quiet_tail laws w c s j n f start ts tj sent tail (omega arith) (omega arith) (omega arith) (λ one. omega (arith, one)) in
        let next = next_level tail Recessive (both_quiet w c tail j s (free tail (omega arith)).0 q) in
        let old : IsLate (J tail) = late_by (tail - ten_before) ten_before (omega arith) (omega arith) late_first in
        let after = late_recessive (J tail).sort (J tail).own (head_at w c tail j) old in
        let late : IsLate (J (suc tail)) = record { late = ap (λ (t : Stretch). is_late_by t.sort) next ∙ after.0; few = few_at (suc tail) (omega arith) (omega arith) } in
        let some_rest : 1 ≤ rested_of (J (suc tail)) = subst (λ t. 1 ≤ rested_of t) (sym next) after.1 in
        let slot : level_at w c (suc tail) j ≡ Dominant = both_find w c (suc tail) j s (free (suc tail) (omega arith)).0 (free (suc tail) (omega arith)).1 ∙ slot_dominant in
        both_ways (is_new_flag (J (suc (suc tail)))) (none_begun (suc (suc tail)) (omega arith) (omega arith))
        (ap is_new_flag (next_level (suc tail) Dominant slot) ∙ late_dominant (J (suc tail)).sort (J (suc tail)).own (head_at w c (suc tail) j) late some_rest)
      where
        slot_by : (l : Level) → x (suc tail) ≡ l → l ≡ Dominant
        slot_by Dominant e = refl
        slot_by Recessive e =
            let z = size in
            let some = some_bits laws w c s j n f start ts tj sent in
            let g : start + length (S (suc tail)).own ≡ suc tail = long (suc tail) (omega arith) (omega arith) in
            let over : stuffed_end (S (suc tail)).own ≡ Some stuffed = over_at laws w c s j n f start ts tj sent (suc tail) (omega arith) (omega arith) (omega arith) in
            absurd (flag_no_frame (S (suc (suc tail))) (Some f) (S (suc (suc tail))).own
            (ap is_new_flag (next_active w c s ts (suc tail) ∙ ap (λ l. stretch_after (S (suc tail)) (Sample (sample_of l (head_at w c (suc tail) s) Active))) e
            ∙ ap (λ t. stretch_after t (Sample (sample_of Recessive (head_at w c (suc tail) s) Active))) (framed (suc tail) (omega arith) (omega arith)))
            ∙ ap (λ r. is_new_flag (going (Framing (Some f)) (S (suc tail)).own Recessive (framing_by r (Some f) (S (suc tail)).own (sample_of Recessive (head_at w c (suc tail) s) Active))))
            (sender_by laws w c s j n f start ts tj sent (suc n - suc tail) (suc tail) (omega arith) (omega arith))
            ∙ slot_breaks f (S (suc tail)).own stuffed (head_at w c (suc tail) s) over (omega arith))
            (framed (suc (suc tail)) (omega arith) (omega arith)))

        slot_dominant : x (suc tail) ≡ Dominant
        slot_dominant = slot_by (x (suc tail)) refl

  -- so it isn't disturbed there either
  begins_none : from + 10 < start → start ≤ from + 16 → (a : ℕ) → from < a → a ≤ from + 6 → is_new_flag (J a) ≡ false
  begins_none before near a gt le = no_flag_is (is_new_flag (J a)) (λ b. elim (cases_lt a (start - 10)) [
    | inl early ↦ two_levels (x (start - 10)) (flag_dominant laws w c s j n f start ts tj sent a b (start - 10) (omega arith) (omega arith)) (quiet (start - 10) (omega arith) (omega arith))
    | inr late ↦ two_levels (x a) (flag_dominant laws w c s j n f start ts tj sent a b a (omega arith) (omega arith)) (quiet a (omega arith) (omega arith))
  ])

  clear_j : (i : ℕ) → start ≤ i + 10 → i + 8 < n → c.hit i j ≡ false
  clear_j i ten lt = no_flag_is (c.hit i j) (λ h. by (whole_of c from many j i hj h))
    where
      by : IsWhole c from many j i → ⊥
      by whole =
          let z = size in
          let low : from ≤ i = whole.low in
          let high : i < from + many = whole.high in
          elim (cases_lt (from + 10) start) [
            | inr inside ↦ rises whole.all (λ a gt le. none_begun a (omega arith) (omega arith))
            | inl before ↦ elim (cases_lt (from + 16) start) [
              | inr near ↦ rises whole.all (begins_none before near)
              | inl early ↦ too_late (omega arith) (omega arith) whole.all
            ]
          ]

  pub received_all_the_same : AreSoundFrames w.count w.frames → OwnHeads w → s ≢ j → (judged_at w c n j).ended ≡ Received f
  received_all_the_same sound heads ne =
      received laws w c s j n f start ts tj sent (record { clear_s = clear_s; clear_j = clear_j }) sound heads ne
