-- Six dominant bits bring all machines of a wire in step.
use Rattle.std.proofs.Common.{◌≡◌, ◌∙◌, ℕ, zero, suc, ◌+◌, ◌<◌, ◌≤◌, List, [], ◌∷◌, ◌++◌, length, Bool, true, false, cond, Option, inl, inr, refl, sym, ap, subst, arith}
use Rattle.std.specs.Prelude.{◌==◌, slice_get}
use Rattle.std.proofs.lemmas.Bool.{eq-eqb, ne_eqb}
use Rattle.wl_level.specs.declared.Level.{Level}
use Rattle.wl_level.specs.declared.Level.TheVariants.{Dominant, Recessive}
use Rattle.wl_frame.specs.Grammar.{Content}
use Rattle.wl_confine.specs.declared.Mode.{Mode}
use Rattle.wl_confine.specs.declared.Mode.TheVariants.{Active}
use Rattle.wl_confine.specs.declared.Happened.TheVariants as happens
use Rattle.wl_machine.specs.declared.state.Role.{Role}
use Rattle.wl_machine.specs.Stretch.{Stretch, continues, begins}
use Rattle.wl_machine.specs.Stretch.Input.{Sample}
use Rattle.wl_machine.specs.Stretch.Sort.{Delimiting, Intermission}
use Rattle.wl_machine.specs.Judged.{stretch_after, drive_of}
use Rattle.wl_machine.specs.States.{sample_of, stretch_by}
use Rattle.wl_wire.specs.Wire.{Wire, Handed, Bit, bus, stretch_at, sampled, next_wire}
use Rattle.wl_heal.specs.Joining.{is_apart, is_apart_by}
use Rattle.wl_wire.specs.InStep.{AreInStep}
use Rattle.wl_heal.specs.Healing.{bits_after, AreActive, AllTakePart, IsDominantFor, errors_found, HealWithin}
use Rattle.wl_heal.proofs.Apart.{apart_test}
use Rattle.wl_heal.proofs.Errors.{errs, may_err, may_most, one_error, down_fine, delimiter_fine}
use Rattle.wl_heal.proofs.Inside.{inside_next}
use Rattle.wl_heal.proofs.Possible.{possible}
use Rattle.wl_heal.proofs.Samples.{going, longer}
use Rattle.wl_heal.proofs.Silent.{two_levels}
use Rattle.wl_heal.proofs.Six.{down_of, down_next, down_most, IsDown, is_down, is_down_by, flag_most, stays_down, delimits, flag_over}
use Rattle.wl_heal.proofs.Wires.{Drives, bus_dominant, bus_recessive, bit_next, level_cases}

-- in step within so many bits, with so many errors of each machine
abbrev pub Heals : (ℕ → ℕ) → ℕ → Wire → (ℕ → ℕ → Handed) → Type 0
Heals bound most w handed = (n : ℕ) × (n ≤ most) × AreInStep (bits_after w handed n) × ((k : ℕ) → k < w.count → errors_found n w handed k ≤ bound k)

-- a bit later, and some bits more
pub later : (bound more : ℕ → ℕ) (most : ℕ) (w : Wire) (handed : ℕ → ℕ → Handed)
    → ((k : ℕ) → k < w.count → errs (stretch_at w k) (sampled (bus w) (w.frames k) (handed 0 k)) + more k ≤ bound k)
    → Heals more most (next_wire w (Bit (handed 0))) (λ i. handed (suc i)) → Heals bound (suc most) w handed
later bound more most w handed few h = (suc h.0, (let le = h.1 in omega arith), h.2, λ k lt. let now = few k lt in let then_more = h.3 k lt in omega arith)

pub longer_within : (bound : ℕ → ℕ) (m n : ℕ) (w : Wire) (handed : ℕ → ℕ → Handed) → m ≤ n → Heals bound m w handed → Heals bound n w handed
longer_within bound m n w handed le h = (h.0, (let few = h.1 in omega arith), h.2, h.3)

abbrev none_more : ℕ → ℕ
none_more k = 0

-- what a machine finds
pub finds : (w : Wire) (handed : ℕ → Handed) (k : ℕ) (l : Level) → bus w ≡ l
    → stretch_at (next_wire w (Bit handed)) k ≡ stretch_after (stretch_at w k) (Sample (sample_of l (slice_get (w.frames k) (handed k).which) (handed k).mode))
finds w handed k l e =
    bit_next w handed k ∙ ap (λ b. stretch_after (stretch_at w k) (Sample (sample_of b (slice_get (w.frames k) (handed k).which) (handed k).mode))) e

-- nobody drives dominant
pub silent : (w : Wire) → ((k : ℕ) → k < w.count → drive_of (stretch_at w k) ≡ Recessive) → bus w ≡ Recessive
silent w none = elim (level_cases (bus w)) [
  | inl d ↦ (let driver : Drives w = bus_dominant w d in absurd (two_levels (drive_of (stretch_at w driver.machine)) driver.dominant (none driver.machine driver.inside)))
  | inr r ↦ r
]

pub take_part_next : (w : Wire) (handed : ℕ → Handed) → AllTakePart w → AllTakePart (next_wire w (Bit handed))
take_part_next w handed all k lt =
    ap is_apart (bit_next w handed k) ∙ inside_next is_apart_by apart_test (stretch_at w k) (sampled (bus w) (w.frames k) (handed k)) (all k lt)

-- one delimiter of all
delimiter_next : (role : Role) (own : List Level) (head : Option Content) (mode : Mode) → (b : Bool) → (length own == 7) ≡ b
    → stretch_after (stretch_by (Delimiting role) own) (Sample (sample_of Recessive head mode)) ≡ cond b (stretch_by (Intermission role) []) (stretch_by (Delimiting role) (own ++ Recessive ∷ []))
delimiter_next role own head mode true e = ap (λ b. going (Delimiting role) own Recessive (cond b (begins happens.Nothing (Intermission role) []) (continues happens.Nothing))) e
delimiter_next role own head mode false e = ap (λ b. going (Delimiting role) own Recessive (cond b (begins happens.Nothing (Intermission role) []) (continues happens.Nothing))) e

delimit_fine : (w : Wire) (handed : ℕ → ℕ → Handed) (own : List Level) → ((k : ℕ) → k < w.count → (role : Role) × (stretch_at w k ≡ stretch_by (Delimiting role) own))
    → (k : ℕ) → k < w.count → errs (stretch_at w k) (sampled (bus w) (w.frames k) (handed 0 k)) + 0 ≤ 0
delimit_fine w handed own all k lt =
    let r : bus w ≡ Recessive = silent w (λ j jt. ap drive_of (all j jt).1) in
    let fine : errs (stretch_at w k) (sampled (bus w) (w.frames k) (handed 0 k)) ≡ 0 =
    ap (λ s. errs s (sampled (bus w) (w.frames k) (handed 0 k))) (all k lt).1
    ∙ ap (λ l. errs (stretch_by (Delimiting (all k lt).0) own) (sample_of l (slice_get (w.frames k) (handed 0 k).which) (handed 0 k).mode)) r
    ∙ delimiter_fine (all k lt).0 own (slice_get (w.frames k) (handed 0 k).which) (handed 0 k).mode in
    omega arith

all_delimit : (n : ℕ) (w : Wire) (handed : ℕ → ℕ → Handed) (own : List Level) → length own + n ≡ 7
    → ((k : ℕ) → k < w.count → (role : Role) × (stretch_at w k ≡ stretch_by (Delimiting role) own)) → Heals none_more (suc n) w handed
all_delimit zero w handed own e all =
    later none_more none_more 0 w handed (delimit_fine w handed own all)
    (0, omega arith, inr (inl ([], record { each = λ k lt. ((all k lt).0, next k lt); short = omega arith })), λ k lt. omega arith)
  where
    next : (k : ℕ) → (lt : k < w.count) → stretch_at (next_wire w (Bit (handed 0))) k ≡ stretch_by (Intermission (all k lt).0) []
    next k lt =
        finds w (handed 0) k Recessive (silent w (λ j jt. ap drive_of (all j jt).1)) ∙ ap (λ s. stretch_after s (Sample (sample_of Recessive (slice_get (w.frames k) (handed 0 k).which) (handed 0 k).mode))) (all k lt).1
        ∙ delimiter_next (all k lt).0 own (slice_get (w.frames k) (handed 0 k).which) (handed 0 k).mode true (eq-eqb (length own) 7 (omega arith))
all_delimit (suc n) w handed own e all =
    later none_more none_more (suc n) w handed (delimit_fine w handed own all) (all_delimit n (next_wire w (Bit (handed 0))) (λ i. handed (suc i)) (own ++ Recessive ∷ []) (let long = longer own Recessive in omega arith) (λ k lt. ((all k lt).0, next k lt)))
  where
    next : (k : ℕ) → (lt : k < w.count) → stretch_at (next_wire w (Bit (handed 0))) k ≡ stretch_by (Delimiting (all k lt).0) (own ++ Recessive ∷ [])
    next k lt =
        finds w (handed 0) k Recessive (silent w (λ j jt. ap drive_of (all j jt).1)) ∙ ap (λ s. stretch_after s (Sample (sample_of Recessive (slice_get (w.frames k) (handed 0 k).which) (handed 0 k).mode))) (all k lt).1
        ∙ delimiter_next (all k lt).0 own (slice_get (w.frames k) (handed 0 k).which) (handed 0 k).mode false (ne_eqb (length own) 7 (λ f. omega arith))

-- all flags come to their ends
abbrev pub AllDown : ℕ → Wire → Type 0
AllDown n w = (k : ℕ) → k < w.count → IsDown n (stretch_at w k)

down_errs : (w : Wire) (handed : ℕ → ℕ → Handed) (n : ℕ) → AllDown n w → (k : ℕ) → k < w.count → errs (stretch_at w k) (sampled (bus w) (w.frames k) (handed 0 k)) + 0 ≤ 0
down_errs w handed n all k lt = let fine = down_fine (stretch_at w k).sort (stretch_at w k).own (sampled (bus w) (w.frames k) (handed 0 k)) (all k lt).down in omega arith

recessive_then : (w : Wire) (handed : ℕ → ℕ → Handed) (n : ℕ) → AllDown n w → bus w ≡ Recessive → Heals none_more 8 w handed
recessive_then w handed n all r =
    later none_more none_more 7 w handed (down_errs w handed n all) (all_delimit 6 (next_wire w (Bit (handed 0))) (λ i. handed (suc i)) (Recessive ∷ []) refl
    (λ k lt. let d = delimits (stretch_at w k).sort (stretch_at w k).own n (slice_get (w.frames k) (handed 0 k).which) (handed 0 k).mode (all k lt) (bus_recessive w r k lt) in (d.0, finds w (handed 0) k Recessive r ∙ d.1)))

all_down : (n : ℕ) (w : Wire) (handed : ℕ → ℕ → Handed) → AllDown n w → Heals none_more (n + 8) w handed
all_down zero w handed all =
    recessive_then w handed 0 all (silent w (λ k lt. flag_over (stretch_at w k).sort (stretch_at w k).own (possible (w.past k)) (all k lt)))
all_down (suc n) w handed all = elim (level_cases (bus w)) [
  | inr r ↦ longer_within none_more 8 (suc n + 8) w handed (omega arith) (recessive_then w handed (suc n) all r)
  | inl d ↦ longer_within none_more (suc (n + 8)) (suc n + 8) w handed (omega arith) (later none_more none_more (n + 8) w handed (down_errs w handed (suc n) all) (all_down n (next_wire w (Bit (handed 0))) (λ i. handed (suc i))
      (λ k lt. subst (IsDown n) (sym (finds w (handed 0) k Dominant d))
      (stays_down (stretch_at w k).sort (stretch_at w k).own n (slice_get (w.frames k) (handed 0 k).which) (handed 0 k).mode (possible (w.past k)) (all k lt)))))
]

-- dominant bits bring all there
abbrev pub may_at : Wire → ℕ → ℕ
may_at w k = may_err (stretch_at w k).sort

dominant_down : (n : ℕ) (w : Wire) (handed : ℕ → ℕ → Handed) → AreActive handed → AllTakePart w → IsDominantFor n w handed
    → ((k : ℕ) → k < w.count → down_of (stretch_at w k) ≤ n) → Heals (may_at w) (n + 14) w handed
dominant_down zero w handed active part dominant near =
    let h = all_down 6 w handed (λ k lt. is_down (stretch_at w k).sort (stretch_at w k).own (possible (w.past k)) (near k lt)) in
    (h.0, h.1, h.2, λ k lt. let none = h.3 k lt in omega arith)
dominant_down (suc n) w handed active part dominant near =
    longer_within (may_at w) (suc (n + 14)) (suc n + 14) w handed (omega arith)
    (later (may_at w) (may_at (next_wire w (Bit (handed 0)))) (n + 14) w handed errors
    (dominant_down n (next_wire w (Bit (handed 0))) (λ i. handed (suc i)) (λ i k. active (suc i) k) (take_part_next w (handed 0) part) (λ i lt. dominant (suc i) (omega arith)) next))
  where
    sample_is : (k : ℕ) → sampled (bus w) (w.frames k) (handed 0 k) ≡ sample_of Dominant (slice_get (w.frames k) (handed 0 k).which) Active
    sample_is k =
        ap (λ l. sample_of l (slice_get (w.frames k) (handed 0 k).which) (handed 0 k).mode) (dominant 0 (omega arith))
        ∙ ap (λ m. sample_of Dominant (slice_get (w.frames k) (handed 0 k).which) m) (active 0 k)

    is : (k : ℕ) → stretch_at (next_wire w (Bit (handed 0))) k ≡ stretch_after (stretch_at w k) (Sample (sample_of Dominant (slice_get (w.frames k) (handed 0 k).which) Active))
    is k = bit_next w (handed 0) k ∙ ap (λ y. stretch_after (stretch_at w k) (Sample y)) (sample_is k)

    next : (k : ℕ) → k < w.count → down_of (stretch_at (next_wire w (Bit (handed 0))) k) ≤ n
    next k lt =
        subst (λ s. down_of s ≤ n) (sym (is k))
        (down_next (slice_get (w.frames k) (handed 0 k).which) n (stretch_at w k).sort (stretch_at w k).own (part k lt) (near k lt))

    errors_by : (k : ℕ) → k < w.count → (b : Bool) → is_down_by (stretch_at w k).sort ≡ b
        → errs (stretch_at w k) (sample_of Dominant (slice_get (w.frames k) (handed 0 k).which) Active)
        + may_err (stretch_after (stretch_at w k) (Sample (sample_of Dominant (slice_get (w.frames k) (handed 0 k).which) Active))).sort ≤ cond b 0 1
    errors_by k lt true e =
        let fine = down_fine (stretch_at w k).sort (stretch_at w k).own (sample_of Dominant (slice_get (w.frames k) (handed 0 k).which) Active) e in
        let still = stays_down (stretch_at w k).sort (stretch_at w k).own 6 (slice_get (w.frames k) (handed 0 k).which) Active (possible (w.past k)) (record { down = e; left = flag_most (stretch_at w k).sort (stretch_at w k).own }) in
        let none : may_err (stretch_after (stretch_at w k) (Sample (sample_of Dominant (slice_get (w.frames k) (handed 0 k).which) Active))).sort ≡ 0 = ap (λ b. cond b 0 1) still.down in
        omega arith
    errors_by k lt false e = one_error (stretch_at w k) Dominant (slice_get (w.frames k) (handed 0 k).which)

    errors : (k : ℕ) → k < w.count → errs (stretch_at w k) (sampled (bus w) (w.frames k) (handed 0 k)) + may_at (next_wire w (Bit (handed 0))) k ≤ may_at w k
    errors k lt =
        subst (λ y. errs (stretch_at w k) y + may_at (next_wire w (Bit (handed 0))) k ≤ may_at w k) (sym (sample_is k))
        (subst (λ (s : Stretch). errs (stretch_at w k) (sample_of Dominant (slice_get (w.frames k) (handed 0 k).which) Active) + may_err s.sort ≤ may_at w k) (sym (is k))
        (errors_by k lt (is_down_by (stretch_at w k).sort) refl))

pub six_may : (w : Wire) (handed : ℕ → ℕ → Handed) → AreActive handed → AllTakePart w → IsDominantFor 6 w handed → Heals (may_at w) 20 w handed
six_may w handed active part dominant = dominant_down 6 w handed active part dominant (λ k lt. down_most (stretch_at w k).sort (stretch_at w k).own)

pub six_dominant : (w : Wire) (handed : ℕ → ℕ → Handed) → AreActive handed → AllTakePart w → IsDominantFor 6 w handed → HealWithin 20 w handed
six_dominant w handed active part dominant =
    let h = six_may w handed active part dominant in
    (h.0, h.1, h.2, λ k lt. let most = may_most (stretch_at w k).sort in let found = h.3 k lt in omega arith)
