-- The stretch of a frame, one sample later: who sends, what is kept, and where the stuffed part ends.
use Rattle.std.proofs.Common.{◌≡◌, ℕ, zero, suc, ◌+◌, ◌<◌, ◌≤◌, ◌∙◌, List, [], ◌∷◌, ◌++◌, length, Bool, true, false, not, cond, ◌&&◌, Option, Some, None, is_some, refl, sym, ap, subst, arith, add-one, append-nil, length-append, inl, inr}
use Rattle.std.specs.Prelude.{nat_le, nat_lt}
use Rattle.std.proofs.lemmas.Bool.{le-leb, lt-leb, cases_lt, and_parts}
use Rattle.wl_level.specs.declared.Level.{Level}
use Rattle.wl_level.specs.Levels.{same, is_dominant, opposite}
use Rattle.wl_level.specs.Places.{at, before, or_at, first_place, run_at, IsFirstPlace}
use Rattle.wl_level.proofs.Callers.{at_new, at_old, before_old, first_cong, first_none, first_is}
use Rattle.wl_frame.specs.Stuffing.{is_stuff, destuffed_bits}
use Rattle.wl_frame.specs.Grammar.{Content, bits_of, is_whole, is_front, is_arbitration, layout_by, layout_of}
use Rattle.wl_frame.specs.Header.{is_extended}
use Rattle.wl_frame.proofs.Callers.{front_more, arbitration_over as over, stuff_run, stuff_old, kept_old, length_more, run_more, before_more, destuffed_more}
use Rattle.wl_machine.specs.declared.state.Role.{Role}
use Rattle.wl_machine.specs.declared.state.Role.TheVariants.{Tx, Rx}
use Rattle.wl_machine.specs.Frames.{stuffed_end, is_lost, frame_role}
use Rattle.wl_machine.specs.States.{IsStuffedPart, IsTaken, IsTail}

-- whether a sender loses, by what it asks: whether a stuff bit is due, the bits kept, the sample before, and the sample
abbrev pub lost_by : Content → Bool → List Level → Level → Level → Bool
lost_by head stuff bits last here =
    not stuff && is_arbitration (bits_of head) (length bits) && not (is_dominant (cond stuff (opposite last) (at (bits_of head) (length bits)))) && is_dominant here

lost_old : (head : Content) (own : List Level) (x : Level) (k : ℕ) → k < length own → is_lost head (own ++ x ∷ []) k ≡ is_lost head own k
lost_old head own x k h =
    ap (λ s. lost_by head s (destuffed_bits (own ++ x ∷ []) k) (before (own ++ x ∷ []) k) (at (own ++ x ∷ []) k)) (stuff_old own x k (omega arith))
    ∙ ap (λ b. lost_by head (is_stuff own k) b (before (own ++ x ∷ []) k) (at (own ++ x ∷ []) k)) (kept_old own x k (omega arith))
    ∙ ap (λ l. lost_by head (is_stuff own k) (destuffed_bits own k) l (at (own ++ x ∷ []) k)) (before_old own x k (omega arith))
    ∙ ap (lost_by head (is_stuff own k) (destuffed_bits own k) (before own k)) (at_old own x k h)

-- whether a sender loses at the next sample
abbrev pub lost_next : Content → List Level → Level → Bool
lost_next head own x = lost_by head (is_stuff own (length own)) (destuffed_bits own (length own)) (before own (length own)) x

lost_new : (head : Content) (own : List Level) (x : Level) → is_lost head (own ++ x ∷ []) (length own) ≡ lost_next head own x
lost_new head own x =
    ap (λ s. lost_by head s (destuffed_bits (own ++ x ∷ []) (length own)) (before (own ++ x ∷ []) (length own)) (at (own ++ x ∷ []) (length own))) (stuff_old own x (length own) (omega arith))
    ∙ ap (λ b. lost_by head (is_stuff own (length own)) b (before (own ++ x ∷ []) (length own)) (at (own ++ x ∷ []) (length own))) (kept_old own x (length own) (omega arith))
    ∙ ap (λ l. lost_by head (is_stuff own (length own)) (destuffed_bits own (length own)) l (at (own ++ x ∷ []) (length own))) (before_old own x (length own) (omega arith))
    ∙ ap (lost_by head (is_stuff own (length own)) (destuffed_bits own (length own)) (before own (length own))) (at_new own x)

lost_more : (head : Content) (own : List Level) (x : Level)
    → first_place (is_lost head (own ++ x ∷ [])) (length (own ++ x ∷ [])) ≡ or_at (first_place (is_lost head own) (length own)) (lost_next head own x) (length own)
lost_more head own x =
    ap (first_place (is_lost head (own ++ x ∷ []))) (length_more own x)
    ∙ ap (λ o. or_at o (is_lost head (own ++ x ∷ []) (length own)) (length own))
    (first_cong (is_lost head (own ++ x ∷ [])) (is_lost head own) (length own) (λ k lt. lost_old head own x k lt))
    ∙ ap (λ b. or_at (first_place (is_lost head own) (length own)) b (length own)) (lost_new head own x)

abbrev role_at : Option ℕ → Role
role_at lost = cond (is_some lost) Rx Tx

still_lost : (o : Option ℕ) (b : Bool) (n : ℕ) → role_at o ≡ Rx → role_at (or_at o b n) ≡ Rx
still_lost (Some k) b n h = refl
still_lost None b n h = cc

not_lost : (o : Option ℕ) (b : Bool) (n : ℕ) → role_at o ≡ Tx → b ≡ false → role_at (or_at o b n) ≡ Tx
not_lost (Some k) b n h e = cc
not_lost None b n h e = ap (λ c. role_at (or_at None c n)) e

now_lost : (o : Option ℕ) (b : Bool) (n : ℕ) → b ≡ true → role_at (or_at o b n) ≡ Rx
now_lost (Some k) b n e = refl
now_lost None b n e = ap (λ c. role_at (or_at None c n)) e

-- a receiver stays one
pub role_receives : (head : Option Content) (own : List Level) (x : Level) → frame_role head own ≡ Rx → frame_role head (own ++ x ∷ []) ≡ Rx
role_receives None own x h = refl
role_receives (Some head) own x h = ap role_at (lost_more head own x) ∙ still_lost (first_place (is_lost head own) (length own)) (lost_next head own x) (length own) h

-- a transmitter stays one, or loses
pub role_sends : (head : Content) (own : List Level) (x : Level) → frame_role (Some head) own ≡ Tx → lost_next head own x ≡ false → frame_role (Some head) (own ++ x ∷ []) ≡ Tx
role_sends head own x h e = ap role_at (lost_more head own x) ∙ not_lost (first_place (is_lost head own) (length own)) (lost_next head own x) (length own) h e

pub role_loses : (head : Content) (own : List Level) (x : Level) → lost_next head own x ≡ true → frame_role (Some head) (own ++ x ∷ []) ≡ Rx
role_loses head own x e = ap role_at (lost_more head own x) ∙ now_lost (first_place (is_lost head own) (length own)) (lost_next head own x) (length own) e

role_by_place : (o : Option ℕ) (b : Bool) (n : ℕ) → role_at (or_at o b n) ≡ cond b Rx (role_at o)
role_by_place (Some k) true n = refl
role_by_place (Some k) false n = refl
role_by_place None true n = refl
role_by_place None false n = refl

-- the role after one more sample
pub role_next : (head : Content) (own : List Level) (x : Level)
    → frame_role (Some head) (own ++ x ∷ []) ≡ cond (is_lost head (own ++ x ∷ []) (length own)) Rx (frame_role (Some head) own)
role_next head own x =
    ap role_at (lost_more head own x) ∙ role_by_place (first_place (is_lost head own) (length own)) (lost_next head own x) (length own)
    ∙ ap (λ b. cond b Rx (frame_role (Some head) own)) (sym (lost_new head own x))

-- a start of frame is no bit of the arbitration, so who sends it is a transmitter still
starts_later : (extended : Bool) (bits : List Level) → nat_le (layout_by extended bits).start 0 ≡ false
starts_later true bits = refl
starts_later false bits = refl

pub role_first : (head : Content) (x : Level) → frame_role (Some head) (x ∷ []) ≡ Tx
role_first head x =
    role_sends head [] x refl
    (ap (λ b. b && nat_lt 0 (layout_of (bits_of head)).arbitration && not (is_dominant (at (bits_of head) 0)) && is_dominant x) (starts_later (is_extended (bits_of head)) (bits_of head)))

-- the end of the stuffed part

abbrev ends_at : List Level → ℕ → Bool
ends_at own n = is_whole (destuffed_bits own n) && not (is_stuff own n)

ends_old : (own : List Level) (x : Level) (n : ℕ) → n ≤ length own → ends_at (own ++ x ∷ []) n ≡ ends_at own n
ends_old own x n h =
    ap (λ ks. is_whole ks && not (is_stuff (own ++ x ∷ []) n)) (kept_old own x n h)
    ∙ ap (λ s. is_whole (destuffed_bits own n) && not s) (stuff_old own x n h)

-- it is found where it was, or after the new sample
pub end_more : (own : List Level) (x : Level)
    → stuffed_end (own ++ x ∷ []) ≡ or_at (stuffed_end own) (ends_at (own ++ x ∷ []) (length (own ++ x ∷ []))) (length (own ++ x ∷ []))
end_more own x =
    ap (λ n. first_place (ends_at (own ++ x ∷ [])) (suc n)) (length_more own x)
    ∙ ap (λ o. or_at o (ends_at (own ++ x ∷ []) (suc (length own))) (suc (length own)))
    (first_cong (ends_at (own ++ x ∷ [])) (ends_at own) (suc (length own)) (λ k lt. ends_old own x k (omega arith)))
    ∙ ap (λ n. or_at (stuffed_end own) (ends_at (own ++ x ∷ []) n) n) (sym (length_more own x))

-- whether a stuff bit is due, by the run
pub due_by_run : (last : Level) (run : ℕ) (bits own : List Level) → IsStuffedPart last run bits own → is_stuff own (length own) ≡ nat_le 5 run
due_by_run last run bits own p = stuff_run own (length own) ∙ ap (nat_le 5) (sym p.run_is)

and_not_false : (b : Bool) → (b && not false) ≡ false → b ≡ false
and_not_false true h = h
and_not_false false h = refl

-- where no stuff bit is due, more bits are to come
pub not_whole : (last : Level) (run : ℕ) (bits own : List Level) → IsStuffedPart last run bits own → run < 5 → is_whole bits ≡ false
not_whole last run bits own p short =
    ap is_whole p.bits_are
    ∙ and_not_false (is_whole (destuffed_bits own (length own)))
    (ap (λ s. is_whole (destuffed_bits own (length own)) && not s) (sym (due_by_run last run bits own p ∙ lt-leb 5 run short))
    ∙ first_none (ends_at own) (suc (length own)) p.going_on (length own) (omega arith))

kept_by : (s : Bool) (bits : List Level) (x : Level) → cond s bits (bits ++ x ∷ []) ≡ bits ++ cond s [] (x ∷ [])
kept_by true bits x = sym (append-nil bits)
kept_by false bits x = refl

run_next : (s : Bool) (run : ℕ) → run < 5 → cond s (run + 1) 1 ≤ 5
run_next true run h = omega arith
run_next false run h = omega arith

run_stays_small : (s : Bool) (run : ℕ) → run ≤ 5 → (5 ≤ run → s ≡ false) → cond s (run + 1) 1 ≤ 5
run_stays_small s run small due = elim (cases_lt run 5) [
  | inl short ↦ run_next s run short
  | inr long ↦ subst (λ b. cond b (run + 1) 1 ≤ 5) (sym (due long)) (omega arith)
]

front_stays : (bits : List Level) (x : Level) (run : ℕ) → is_front bits ≡ true → (run < 5 → is_whole bits ≡ false) → is_front (cond (nat_le 5 run) bits (bits ++ x ∷ [])) ≡ true
front_stays bits x run f w = elim (cases_lt run 5) [
  | inl short ↦ ap (λ b. is_front (cond b bits (bits ++ x ∷ []))) (lt-leb 5 run short) ∙ front_more bits x f (w short)
  | inr long ↦ ap (λ b. is_front (cond b bits (bits ++ x ∷ []))) (le-leb 5 run long) ∙ f
]

-- one more sample of the stuffed part, which is no sixth equal one
pub taken : (last : Level) (run : ℕ) (bits own : List Level) (x : Level) (run' : ℕ) (bits' : List Level) → IsStuffedPart last run bits own
    → run' ≡ cond (same last x) (run + 1) 1 → bits' ≡ cond (nat_le 5 run) bits (bits ++ x ∷ []) → (5 ≤ run → same last x ≡ false)
    → IsTaken x run' bits' (own ++ x ∷ [])
taken last run bits own x run' bits' p r b due =
    let run_here : run' ≡ run_at (own ++ x ∷ []) (length (own ++ x ∷ [])) =
    r ∙ ap (λ l. cond (same l x) (run + 1) 1) p.last_is
    ∙ ap (λ n. cond (same (before own (length own)) x) n 1) (add-one run ∙ ap suc p.run_is)
    ∙ sym (run_more own x) in
    let bits_here : bits' ≡ destuffed_bits (own ++ x ∷ []) (length (own ++ x ∷ [])) =
    b ∙ kept_by (nat_le 5 run) bits x
    ∙ ap (λ s. bits ++ cond s [] (x ∷ [])) (sym (due_by_run last run bits own p))
    ∙ ap (λ ks. ks ++ cond (is_stuff own (length own)) [] (x ∷ [])) p.bits_are
    ∙ sym (destuffed_more own x) in
    record {
      last_is = sym (before_more own x);
      run_is = run_here;
      run_small = subst (λ n. n ≤ 5) (sym r) (run_stays_small (same last x) run p.run_small due);
      bits_are = bits_here;
      front = ap is_front b ∙ front_stays bits x run p.front (not_whole last run bits own p);
      end_is =
          end_more own x
          ∙ ap (λ o. or_at o (ends_at (own ++ x ∷ []) (length (own ++ x ∷ []))) (length (own ++ x ∷ []))) p.going_on
          ∙ ap (λ ks. or_at None (is_whole ks && not (is_stuff (own ++ x ∷ []) (length (own ++ x ∷ [])))) (length (own ++ x ∷ []))) (sym bits_here)
          ∙ ap (λ s. or_at None (is_whole bits' && not s) (length (own ++ x ∷ []))) (stuff_run (own ++ x ∷ []) (length (own ++ x ∷ [])) ∙ ap (nat_le 5) (sym run_here));
    }

-- after the end of the stuffed part

pub end_stays : (own : List Level) (x : Level) (end : ℕ) → stuffed_end own ≡ Some end → stuffed_end (own ++ x ∷ []) ≡ Some end
end_stays own x end h = end_more own x ∙ ap (λ o. or_at o (ends_at (own ++ x ∷ []) (length (own ++ x ∷ []))) (length (own ++ x ∷ []))) h

pub tail_next : (place end : ℕ) (own : List Level) (x : Level) → IsTail place end own → place < 9 → IsTail (place + 1) end (own ++ x ∷ [])
tail_next place end own x t below =
    let place_is : place + end ≡ length own = t.place_is in
    record { found = end_stays own x end t.found; place_is = omega (arith, length_more own x); below = omega arith }

pub tail_bits : (place end : ℕ) (own : List Level) (x : Level) → IsTail place end own → destuffed_bits (own ++ x ∷ []) end ≡ destuffed_bits own end
tail_bits place end own x t =
    let place_is : place + end ≡ length own = t.place_is in
    kept_old own x end (omega arith)

-- what stands before the end is whole
pub tail_whole : (place end : ℕ) (own : List Level) → IsTail place end own → is_whole (destuffed_bits own end) ≡ true
tail_whole place end own t =
    let first : IsFirstPlace (ends_at own) (suc (length own)) end = first_is (ends_at own) (suc (length own)) end t.found in
    (and_parts (is_whole (destuffed_bits own end)) (not (is_stuff own end)) first.passes).0

-- more places keep no fewer bits
kept_longer : (own : List Level) (n m : ℕ) → n ≤ m → length (destuffed_bits own n) ≤ length (destuffed_bits own m)
kept_longer own n zero h = let e : n ≡ zero = omega arith in subst (λ k. length (destuffed_bits own k) ≤ length (destuffed_bits own zero)) (sym e) (omega arith)
kept_longer own n (suc m) h = elim (cases_lt m n) [
  | inl above ↦ (let e : n ≡ suc m = omega arith in subst (λ k. length (destuffed_bits own k) ≤ length (destuffed_bits own (suc m))) (sym e) (omega arith))
  | inr below ↦
      (let more : length (destuffed_bits own (suc m)) ≡ length (destuffed_bits own m) + length (cond (is_stuff own m) [] (at own m ∷ [])) = length-append (destuffed_bits own m) (cond (is_stuff own m) [] (at own m ∷ [])) in
      let rest : length (destuffed_bits own n) ≤ length (destuffed_bits own m) = kept_longer own n m below in
      omega arith)
]

-- the arbitration is over after the end
arbitration_over : (head : Content) (place end : ℕ) (own : List Level) → IsTail place end own → is_arbitration (bits_of head) (length (destuffed_bits own (length own))) ≡ false
arbitration_over head place end own t =
    let place_is : place + end ≡ length own = t.place_is in
    over (destuffed_bits own end) (bits_of head) (length (destuffed_bits own (length own))) (tail_whole place end own t) (kept_longer own end (length own) (omega arith))

-- so its transmitter stays one
pub tail_sends : (head : Content) (place end : ℕ) (own : List Level) (x : Level) → IsTail place end own → frame_role (Some head) own ≡ Tx → frame_role (Some head) (own ++ x ∷ []) ≡ Tx
tail_sends head place end own x t role =
    role_sends head own x role
    (ap (λ a. not (is_stuff own (length own)) && a
    && not (is_dominant (cond (is_stuff own (length own)) (opposite (before own (length own))) (at (bits_of head) (length (destuffed_bits own (length own)))))) && is_dominant x)
    (arbitration_over head place end own t)
    ∙ both_out (not (is_stuff own (length own))) (not (is_dominant (cond (is_stuff own (length own)) (opposite (before own (length own))) (at (bits_of head) (length (destuffed_bits own (length own))))))) (is_dominant x))
  where
    both_out : (a b c : Bool) → (a && false && b && c) ≡ false
    both_out true b c = refl
    both_out false b c = refl
