-- How many bits a frame has on the wire.
use Rattle.std.proofs.Common.{◌≡◌, ℕ, zero, suc, ◌+◌, ◌*◌, ◌<◌, ◌≤◌, ◌∙◌, List, [], ◌∷◌, length, Bool, true, false, cond, Option, Some, None, refl, sym, ap, subst, arith, append-nil, length-append, inl, inr}
use Rattle.std.proofs.lemmas.Bool.{cases_Bool, leb-true, eqb-true}
use Rattle.wl_level.specs.declared.Level.{Level}
use Rattle.wl_level.specs.declared.Level.TheVariants.{Dominant, Recessive}
use Rattle.wl_level.specs.Levels.{same, opposite}
use Rattle.wl_level.specs.Places.{at, before, run_at}
use Rattle.wl_level.proofs.Callers.{first_none}
use Rattle.wl_frame.specs.Stuffing.{is_stuff, destuffed_bits}
use Rattle.wl_frame.specs.Header.{is_extended}
use Rattle.wl_frame.specs.Grammar.{Content, IsContent, bits_of, byte_count, covered_length, layout_by}
use Rattle.wl_frame.proofs.Callers.{stuff_run, sent_whole}
use Rattle.wl_machine.specs.Frames.{stuffed_end}
use Rattle.wl_machine.specs.Laws.{FoundSent}
use Rattle.wl_machine.proofs.Callers.{ends_at, front_kept, kept_is_all, HasRest}
use Rattle.wl_wire.specs.Wire.{Wire}
use Rattle.wl_wire.specs.InStep.{AreSoundFrames, AreInFrame, or_all}
use Rattle.wl_wire.proofs.Events.{OwnHeads}
use Rattle.wl_wire.proofs.Stuffing.{sends_content}

-- a run grows by one at most, and begins anew with a stuff bit
run_step : (own : List Level) (n : ℕ) → run_at own (suc n) ≤ suc (run_at own n)
run_step own zero = omega arith
run_step own (suc n) = by (same (at own n) (at own (suc n)))
  where
    by : (b : Bool) → cond b (suc (run_at own (suc n))) 1 ≤ suc (run_at own (suc n))
    by true = omega arith
    by false = omega arith

opposite_differs : (l : Level) → same l (opposite l) ≡ false
opposite_differs Dominant = refl
opposite_differs Recessive = refl

run_anew : (own : List Level) (n : ℕ) → is_stuff own n ≡ true → at own n ≡ opposite (before own n) → run_at own (suc n) ≤ 1
run_anew own zero due e = omega arith
run_anew own (suc n) due e =
    let differs : same (at own n) (at own (suc n)) ≡ false = ap (same (at own n)) e ∙ opposite_differs (at own n) in
    subst (λ b. cond b (suc (run_at own (suc n))) 1 ≤ 1) (sym differs) (omega arith)

kept_step : (own : List Level) (n : ℕ) (b : Bool) → is_stuff own n ≡ b → length (destuffed_bits own (suc n)) ≡ length (destuffed_bits own n) + length (cond b [] (at own n ∷ []))
kept_step own n b e =
    length-append (destuffed_bits own n) (cond (is_stuff own n) [] (at own n ∷ [])) ∙ ap (λ c. length (destuffed_bits own n) + length (cond c [] (at own n ∷ []))) e

-- four places and the run there take no more than five kept bits
few_stuffed : (head : Content) (own : List Level) (m : ℕ) → FoundSent head own m → (n : ℕ) → n ≤ m → 4 * n + run_at own n ≤ 5 * length (destuffed_bits own n)
few_stuffed head own m found zero below = omega arith
few_stuffed head own m found (suc n) below =
    let old : 4 * n + run_at own n ≤ 5 * length (destuffed_bits own n) = few_stuffed head own m found n (omega arith) in
    elim (cases_Bool (is_stuff own n)) [
      | inl due ↦
          (let five : 5 ≤ run_at own n = leb-true 5 (run_at own n) (sym (stuff_run own n) ∙ due) in
          let turned : at own n ≡ opposite (before own n) = found n (omega arith) ∙ ap (λ b. cond b (opposite (before own n)) (at (bits_of head) (length (destuffed_bits own n)))) due in
          let anew : run_at own (suc n) ≤ 1 = run_anew own n due turned in
          let kept : length (destuffed_bits own (suc n)) ≡ length (destuffed_bits own n) + 0 = kept_step own n true due in
          omega arith)
      | inr free ↦
          (let more : run_at own (suc n) ≤ suc (run_at own n) = run_step own n in
          let kept : length (destuffed_bits own (suc n)) ≡ length (destuffed_bits own n) + 1 = kept_step own n false free in
          omega arith)
    ]

-- a frame has 118 bits at most, without its stuff bits
few_bytes : (remote : Bool) (dlc : ℕ) → byte_count remote dlc ≤ 8
few_bytes true dlc = omega arith
few_bytes false dlc = omega arith

few_covered_by : (extended : Bool) (bits : List Level) → (layout_by extended bits).header + 8 * (layout_by extended bits).bytes ≤ 103
few_covered_by true bits = let few : (layout_by true bits).bytes ≤ 8 = few_bytes _ _ in omega (arith, few)
few_covered_by false bits = let few : (layout_by false bits).bytes ≤ 8 = few_bytes _ _ in omega (arith, few)

few_bits : (c : Content) → IsContent c → length (bits_of c) ≤ 118
few_bits c is =
    let whole : length (bits_of c) ≡ covered_length (bits_of c) + 15 = eqb-true (length (bits_of c)) (covered_length (bits_of c) + 15) (sent_whole c is) in
    let few : covered_length (bits_of c) ≤ 103 = few_covered_by (is_extended (bits_of c)) (bits_of c) in
    omega arith

-- so 147 with them
few_by : (head : Content) (own : List Level) (m : ℕ) → IsContent head → FoundSent head own m → HasRest (bits_of head) (destuffed_bits own m) → m ≤ 147
few_by head own m is found front =
    let all : length (bits_of head) ≡ length (destuffed_bits own m) + length front.rest = ap length front.joined ∙ length-append (destuffed_bits own m) front.rest in
    let few : length (bits_of head) ≤ 118 = few_bits head is in
    let stuffed : 4 * m + run_at own m ≤ 5 * length (destuffed_bits own m) = few_stuffed head own m found m (omega arith) in
    omega arith

-- and 157 with the ten bits after them
module _ (w : Wire) (sound : AreSoundFrames w.count w.frames) (heads : OwnHeads w) (own : List Level) (f : AreInFrame w own) where
  content : IsContent f.sender.2
  content = sends_content w own f.sender.0 f.sender.2 sound heads f.sender.1 f.sender.3

  found_by : (o : Option ℕ) → stuffed_end own ≡ o → FoundSent f.sender.2 own (or_all o (length own))
  found_by o e = subst (λ p. FoundSent f.sender.2 own (or_all p (length own))) e (f.found f.sender.0 f.sender.2 f.sender.1 f.sender.3)

  short_by : (o : Option ℕ) → stuffed_end own ≡ o → length own < 157
  short_by None e =
      let few : length own ≤ 147 =
      few_by f.sender.2 own (length own) content (found_by None e)
      (front_kept f.sender.2 own (length own) content (λ k below. first_none (ends_at own) (suc (length own)) e k (omega arith)) (found_by None e) (length own) (omega arith)) in
      omega arith
  short_by (Some end) e =
      let all : destuffed_bits own end ≡ bits_of f.sender.2 = kept_is_all f.sender.2 own end content e (found_by (Some end) e) in
      let few : end ≤ 147 = few_by f.sender.2 own end content (found_by (Some end) e) (record { rest = []; joined = sym all ∙ sym (append-nil (destuffed_bits own end)) }) in
      let within : (end ≤ length own) × (length own < end + 10) = f.tail end e in
      let below : length own < end + 10 = within.1 in
      omega arith

  pub short_frame : length own < 157
  short_frame = short_by (stuffed_end own) refl
