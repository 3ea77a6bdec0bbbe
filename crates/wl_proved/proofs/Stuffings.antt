-- Each list has its stuff bits.
use Rattle.std.proofs.Common.{◌≡◌, ◌∙◌, refl, sym, ap, inl, inr, ℕ, suc, ◌<◌, List, [], ◌∷◌, ◌++◌, length, Bool, true, false, cond, arith, append-nil, append_assoc}
use Rattle.std.specs.Prelude.{nat_le}
use Rattle.std.proofs.lemmas.Bool.{cases_Bool, cases_lt}
use Rattle.wl_level.specs.declared.Level.{Level}
use Rattle.wl_level.specs.Levels.{opposite, same}
use Rattle.wl_level.specs.Places.{at, before, run_at}
use Rattle.wl_level.proofs.Callers.{at_new, at_old, before_old, same_opposite}
use Rattle.wl_frame.specs.Stuffing.{Stuffs, destuffed_list, is_stuff}
use Rattle.wl_frame.proofs.Callers.{before_more, destuffed_more, length_more, run_more, stuff_old, stuff_run}

abbrev StuffBitsOppose : List Level → Type 0
StuffBitsOppose y = (k : ℕ) → k < length y → is_stuff y k ≡ true → at y k ≡ opposite (before y k)

oppose_still : (y : List Level) (b : Level) → StuffBitsOppose y → (is_stuff y (length y) ≡ true → b ≡ opposite (before y (length y))) → StuffBitsOppose (y ++ b ∷ [])
oppose_still y b all here k less due = elim (cases_lt k (length y)) [
  | inl below ↦ at_old y b k below ∙ all k below (sym (stuff_old y b k (omega arith)) ∙ due) ∙ ap opposite (sym (before_old y b k (omega arith)))
  | inr above ↦
      (let last : k ≡ length y = omega (arith, length_more y b) in
      let due_here : is_stuff y (length y) ≡ true = sym (stuff_old y b (length y) (omega arith)) ∙ ap (is_stuff (y ++ b ∷ [])) (sym last) ∙ due in
      ap (at (y ++ b ∷ [])) last ∙ at_new y b ∙ here due_here
      ∙ ap opposite (sym (before_old y b (length y) (omega arith)) ∙ ap (before (y ++ b ∷ [])) (sym last)))
]

never_both : (v : Bool) {A : Type 0} → v ≡ false → v ≡ true → A
never_both true off on = cc
never_both false off on = cc

-- a bit more, and the stuff bit after it if one is due
next_stuffed : (y x : List Level) (b : Level) → Stuffs y x → (z : List Level) × Stuffs z (x ++ b ∷ [])
next_stuffed y x b s =
    let here : StuffBitsOppose (y ++ b ∷ []) = oppose_still y b s.opposite (λ due. never_both (is_stuff y (length y)) s.closed due) in
    let kept : destuffed_list (y ++ b ∷ []) ≡ x ++ b ∷ [] =
    destuffed_more y b ∙ ap (λ due. destuffed_list y ++ cond due [] (b ∷ [])) s.closed ∙ ap (λ bits. bits ++ b ∷ []) s.content in
    elim (cases_Bool (is_stuff (y ++ b ∷ []) (length (y ++ b ∷ [])))) [
      | inl due ↦
          (let z = (y ++ b ∷ []) ++ opposite b ∷ [] in (
            (y ++ b ∷ []) ++ opposite b ∷ [],
            record {
              content = destuffed_more (y ++ b ∷ []) (opposite b) ∙ ap (λ v. destuffed_list (y ++ b ∷ []) ++ cond v [] (opposite b ∷ [])) due ∙ append-nil (destuffed_list (y ++ b ∷ [])) ∙ kept;
              opposite = oppose_still (y ++ b ∷ []) (opposite b) here (λ v. ap opposite (sym (before_more y b)));
              closed = stuff_run ((y ++ b ∷ []) ++ opposite b ∷ []) (length ((y ++ b ∷ []) ++ opposite b ∷ []))
                  ∙ ap (nat_le 5) (run_more (y ++ b ∷ []) (opposite b) ∙ ap (λ c. cond (same c (opposite b)) (suc (run_at (y ++ b ∷ []) (length (y ++ b ∷ [])))) 1) (before_more y b)
                  ∙ ap (λ v. cond v (suc (run_at (y ++ b ∷ []) (length (y ++ b ∷ [])))) 1) (same_opposite b));
            },
          ))
      | inr free ↦ (y ++ b ∷ [], record { content = kept; opposite = here; closed = free })
    ]

stuffed_on : (y x rest : List Level) → Stuffs y x → (z : List Level) × Stuffs z (x ++ rest)
stuffed_on y x [] s = (y, subst_list (sym (append-nil x)) s)
  where
    subst_list : {u v : List Level} → u ≡ v → Stuffs y u → Stuffs y v
    subst_list e s = rw (sym e) s
stuffed_on y x (b ∷ more) s =
    let next = next_stuffed y x b s in
    let all = stuffed_on next.0 (x ++ b ∷ []) more next.1 in
    (all.0, rw (append_assoc x (b ∷ []) more) at all.1)

pub stuffing_of : (x : List Level) → (y : List Level) × Stuffs y x
stuffing_of x = stuffed_on [] [] x (record { content = refl; opposite = λ k less due. absurd (omega arith); closed = refl })
