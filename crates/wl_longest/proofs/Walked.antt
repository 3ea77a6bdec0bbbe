-- Bits in order: how the bits that are kept of a stuffed list end, place by place.
use Rattle.std.proofs.Common.{◌≡◌, ◌∙◌, refl, sym, ap, subst, inl, inr, ℕ, zero, suc, ◌+◌, ◌<◌, ◌≤◌, ◌==◌, cond, not, List, [], ◌∷◌, ◌++◌, length, Bool, true, false, arith, append-nil, length-append}
use Rattle.std.specs.Prelude.{nat_le}
use Rattle.std.proofs.lemmas.Bool.{cases_eq, leb-false, lt-leb, ne_eqb}
use Rattle.wl_level.specs.declared.Level.{Level}
use Rattle.wl_level.specs.declared.Level.TheVariants.{Recessive}
use Rattle.wl_level.specs.Levels.{opposite, same}
use Rattle.wl_level.specs.Places.{at, before, run_at}
use Rattle.wl_level.proofs.Callers.{same_opposite}
use Rattle.wl_frame.specs.Stuffing.{Stuffs, destuffed_bits, destuffed_list, is_stuff}
use Rattle.wl_frame.proofs.Callers.{stuff_run}
use Rattle.wl_longest.specs.declared.ending.Ending.{Ending}
use Rattle.wl_longest.specs.Longest.{ending_after, ending_from, no_ending}

abbrev pub made : Level → ℕ → ℕ → Ending
made last run stuffed = record { last = last; run = run; stuffed = stuffed }

pub ending_joined : (e : Ending) (bits more : List Level) → ending_from e (bits ++ more) ≡ ending_from (ending_from e bits) more
ending_joined e [] more = refl
ending_joined e (bit ∷ bits) more = ending_joined (ending_after e bit) bits more

module _ (last bit : Level) (run stuffed : ℕ) where
  turned : same last bit ≡ false → ending_after (made last run stuffed) bit ≡ made bit 1 stuffed
  turned differs = ap (λ s. cond (not s) (made bit 1 stuffed) (cond (run + 1 == 5) (made (opposite bit) 1 (stuffed + 1)) (made bit (run + 1) stuffed))) differs

  went_on : same last bit ≡ true → (run + 1 ≡ 5 → ⊥) → ending_after (made last run stuffed) bit ≡ made bit (run + 1) stuffed
  went_on equal other =
      ap (λ s. cond (not s) (made bit 1 stuffed) (cond (run + 1 == 5) (made (opposite bit) 1 (stuffed + 1)) (made bit (run + 1) stuffed))) equal
      ∙ ap (λ f. cond f (made (opposite bit) 1 (stuffed + 1)) (made bit (run + 1) stuffed)) (ne_eqb (run + 1) 5 other)

  filled : same last bit ≡ true → run + 1 ≡ 5 → ending_after (made last run stuffed) bit ≡ made (opposite bit) 1 (stuffed + 1)
  filled equal five =
      ap (λ s. cond (not s) (made bit 1 stuffed) (cond (run + 1 == 5) (made (opposite bit) 1 (stuffed + 1)) (made bit (run + 1) stuffed))) equal
      ∙ ap (λ r. cond (r == 5) (made (opposite bit) 1 (stuffed + 1)) (made bit (run + 1) stuffed)) five

-- How what is kept before a place ends, by whether a stuff bit is due there: if it is, it is counted before it comes.
abbrev Reached : List Level → ℕ → Bool → Type 0
Reached y n false = (stuffed : ℕ) × (ending_from no_ending (destuffed_bits y n) ≡ made (before y n) (run_at y n) stuffed) × (n ≡ length (destuffed_bits y n) + stuffed)
Reached y n true = (stuffed : ℕ) × (ending_from no_ending (destuffed_bits y n) ≡ made (opposite (before y n)) 1 stuffed) × (suc n ≡ length (destuffed_bits y n) + stuffed)

module _ (y : List Level) where
  run_next : (n : ℕ) → run_at y (suc n) ≡ cond (same (before y n) (at y n)) (suc (run_at y n)) 1
  run_next zero = elim (same Recessive (at y 0)) as (λ s. ◌≡◌ {A = ℕ} 1 (cond s 1 1)) [ true ↦ refl | false ↦ refl ]
  run_next (suc n) = refl

  -- the stuff bit comes
  after_stuff : (n : ℕ) → is_stuff y n ≡ true → at y n ≡ opposite (before y n) → Reached y n true → Reached y (suc n) (is_stuff y (suc n))
  after_stuff n due turns (stuffed, ends, count) =
      let run : run_at y (suc n) ≡ 1 =
      run_next n ∙ ap (λ b. cond (same (before y n) b) (suc (run_at y n)) 1) turns ∙ ap (λ s. cond s (suc (run_at y n)) 1) (same_opposite (before y n))
      in
      let kept : destuffed_bits y (suc n) ≡ destuffed_bits y n = ap (λ s. destuffed_bits y n ++ cond s [] (at y n ∷ [])) due ∙ append-nil (destuffed_bits y n) in
      subst (Reached y (suc n)) (sym (stuff_run y (suc n) ∙ ap (nat_le 5) run)) (
        stuffed,
        ap (ending_from no_ending) kept ∙ ends ∙ ap (λ l. made l 1 stuffed) (sym turns) ∙ ap (λ r. made (at y n) r stuffed) (sym run),
        count ∙ ap (λ ks. length ks + stuffed) (sym kept),
      )

  module _ (n stuffed : ℕ) (free : is_stuff y n ≡ false)
      (ends : ending_from no_ending (destuffed_bits y n) ≡ made (before y n) (run_at y n) stuffed) (count : n ≡ length (destuffed_bits y n) + stuffed) where
    kept_more : destuffed_bits y (suc n) ≡ destuffed_bits y n ++ at y n ∷ []
    kept_more = ap (λ s. destuffed_bits y n ++ cond s [] (at y n ∷ [])) free

    longer : length (destuffed_bits y (suc n)) ≡ length (destuffed_bits y n) + 1
    longer = ap length kept_more ∙ length-append (destuffed_bits y n) (at y n ∷ [])

    ends_more : ending_from no_ending (destuffed_bits y (suc n)) ≡ ending_after (made (before y n) (run_at y n) stuffed) (at y n)
    ends_more = ap (ending_from no_ending) kept_more ∙ ending_joined no_ending (destuffed_bits y n) (at y n ∷ []) ∙ ap (λ e. ending_after e (at y n)) ends

    short : run_at y n < 5
    short = leb-false 5 (run_at y n) (sym (stuff_run y n) ∙ free)

    -- a bit that is kept
    after_kept : (s : Bool) → same (before y n) (at y n) ≡ s → Reached y (suc n) (is_stuff y (suc n))
    after_kept false differs =
        let run : run_at y (suc n) ≡ 1 = run_next n ∙ ap (λ s. cond s (suc (run_at y n)) 1) differs in
        subst (Reached y (suc n)) (sym (stuff_run y (suc n) ∙ ap (nat_le 5) run)) (
          stuffed,
          ends_more ∙ turned (before y n) (at y n) (run_at y n) stuffed differs ∙ ap (λ r. made (at y n) r stuffed) (sym run),
          omega (arith, longer, count),
        )
    after_kept true equal =
        let run : run_at y (suc n) ≡ suc (run_at y n) = run_next n ∙ ap (λ s. cond s (suc (run_at y n)) 1) equal in
        elim (cases_eq (run_at y n + 1) 5) [
          | inl five ↦
              (let all : run_at y (suc n) ≡ 5 = omega (arith, run, five) in
              subst (Reached y (suc n)) (sym (stuff_run y (suc n) ∙ ap (nat_le 5) all)) (
                stuffed + 1,
                ends_more ∙ filled (before y n) (at y n) (run_at y n) stuffed equal five,
                omega (arith, longer, count),
              ))
          | inr other ↦
              (let below : run_at y (suc n) < 5 = omega (arith, run, other, short) in
              let same_run : run_at y n + 1 ≡ run_at y (suc n) = omega (arith, run) in
              subst (Reached y (suc n)) (sym (stuff_run y (suc n) ∙ lt-leb 5 (run_at y (suc n)) below)) (
                stuffed,
                ends_more ∙ went_on (before y n) (at y n) (run_at y n) stuffed equal other ∙ ap (λ r. made (at y n) r stuffed) same_run,
                omega (arith, longer, count),
              ))
        ]

  module _ (opposes : (k : ℕ) → k < length y → is_stuff y k ≡ true → at y k ≡ opposite (before y k)) where
    next : (n : ℕ) → n < length y → (b : Bool) → is_stuff y n ≡ b → Reached y n b → Reached y (suc n) (is_stuff y (suc n))
    next n h true due before_it = after_stuff n due (opposes n h due) before_it
    next n h false free (stuffed, ends, count) = after_kept n stuffed free ends count (same (before y n) (at y n)) refl

    reached : (n : ℕ) → n ≤ length y → Reached y n (is_stuff y n)
    reached zero h = (0, refl, refl)
    reached (suc n) h = next n (omega (arith, h)) (is_stuff y n) refl (reached n (omega (arith, h)))

-- a stuffed list has the bits of its list and the stuff bits that are counted
pub stuffed_length : (x y : List Level) → Stuffs y x → length y ≡ length x + (ending_from no_ending x).stuffed
stuffed_length x y s =
    let (stuffed, ends, count) = subst (Reached y (length y)) s.closed (reached y s.opposite (length y) (omega arith)) in
    let counted : (ending_from no_ending x).stuffed ≡ stuffed = ap (λ e. e.stuffed) (ap (ending_from no_ending) (sym s.content) ∙ ends) in
    let kept : length (destuffed_list y) ≡ length x = ap length s.content in
    omega (arith, count, counted, kept)
