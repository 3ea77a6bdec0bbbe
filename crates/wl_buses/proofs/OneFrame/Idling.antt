-- Machines on an idle bus are on one wire, whenever each began to sample it.
use Rattle.std.proofs.Common.{◌≡◌, ◌∙◌, inl, inr, refl, sym, ap, ℕ, zero, suc, ◌+◌, ◌<◌, List, [], ◌∷◌, ◌++◌, replicate, arith}
use Rattle.std.proofs.lemmas.List.{append_assoc}
use Rattle.wl_level.specs.declared.Level.TheVariants.{Recessive}
use Rattle.wl_frame.specs.Grammar.{Content}
use Rattle.wl_machine.specs.Stretch.{Input}
use Rattle.wl_machine.specs.Stretch.Input.{Sample}
use Rattle.wl_wire.specs.Wire.{sampled}
use Rattle.wl_buses.specs.OneFrame.Machines.{HasIdled, MayBeginTogether, no_frame_sample}
use Rattle.wl_buses.specs.OneFrame.Waits.{HasWaited}
use Rattle.wl_buses.proofs.OneFrame.Waited.{none_is, none_of, one_more, wait_together}

abbrev eleven : List Input
eleven = replicate 11 no_frame_sample

by_eleven : (n : ℕ) → replicate (11 + n) no_frame_sample ≡ eleven ++ replicate n no_frame_sample
by_eleven n = ap (λ m. replicate m no_frame_sample) (let e : 11 + n ≡ suc (suc (suc (suc (suc (suc (suc (suc (suc (suc (suc (n))))))))))) = omega arith in e)

-- a machine after its eleventh sample
waited : (frames : ℕ → List Content) (k : ℕ) (past : List Input) → HasIdled frames k past → HasWaited (frames k) eleven past
waited frames k past (zero, inl e) = inl e
waited frames k past (suc n, inl e) =
    inr (n, none_of frames k, refl, e ∙ by_eleven (suc n) ∙ ap (λ p. eleven ++ p) (one_more n) ∙ ap (λ x. eleven ++ (replicate n no_frame_sample ++ x ∷ [])) (sym (none_is frames k)))
waited frames k past (n, inr (h, e)) =
    inr (n, h, refl, e ∙ ap (λ p. p ++ Sample (sampled Recessive (frames k) h) ∷ []) (by_eleven n) ∙ append_assoc eleven (replicate n no_frame_sample) (Sample (sampled Recessive (frames k) h) ∷ []))

pub may_together : (frames : ℕ → List Content) (count : ℕ) (past : ℕ → List Input) → ((k : ℕ) → k < count → HasIdled frames k (past k)) → MayBeginTogether count frames past
may_together frames count past idled =
    let first : MayBeginTogether count frames (λ k. eleven) = record { earlier = []; reached = λ k less. refl; may = λ k less. inl refl } in
    wait_together frames count (λ k. eleven) past first (λ k less. waited frames k (past k) (idled k less))
