-- The frames on a bus as one list: its first parts, and of these what passes a node and what comes from a queue.
use Rattle.std.proofs.Common.{◌≡◌, ◌∙◌, refl, sym, ap, inl, inr, ℕ, zero, suc, ◌≤◌, ◌==◌, cond, Bool, true, false, List, [], ◌∷◌, ◌++◌, map, arith, append-nil, append_assoc}
use Rattle.std.specs.Prelude.{filter}
use Rattle.std.proofs.lemmas.Bool.{cases_eq}
use Rattle.std.proofs.lemmas.List.{map-append}
use Rattle.std.proofs.lemmas.List.Elements.{filter-append}
use Rattle.wl_frame.specs.Grammar.{Content}
use Rattle.wl_buses.specs.OneFrame.Stations.{Stations}
use Rattle.wl_buses.specs.FrameEnd.Rests.{passed_frame}
use Rattle.wl_buses.specs.NextFrames.Frames.{Frame}
use Rattle.wl_buses.specs.SentFrames.Winners.{passed_with}
use Rattle.wl_buses.specs.CleanPlans.Clean.{sent_contents}
use Rattle.wl_buses.proofs.Callers.{sent_both, sent_one}
use Rattle.wl_proved.specs.CleanRuns.{frames_from}

module _ (winner : ℕ → ℕ) (content : ℕ → Content) where
  -- the first so many frames, each with its sender
  abbrev pub first_frames : ℕ → List (ℕ × Content)
  first_frames zero = []
  first_frames (suc n) = first_frames n ++ (winner n, content n) ∷ []

  pub later_frames : (m n : ℕ) → n ≤ m → (later : List (ℕ × Content)) × (first_frames n ++ later ≡ first_frames m)
  later_frames zero zero few = ([], refl)
  later_frames zero (suc n) few = absurd (omega arith)
  later_frames (suc m) n few = elim (cases_eq n (suc m)) [
    | inl all ↦ ([], append-nil (first_frames n) ∙ ap first_frames all)
    | inr other ↦
        (let before = later_frames m n (omega (arith, other, few)) in
        (before.0 ++ (winner m, content m) ∷ [], sym (append_assoc (first_frames n) before.0 ((winner m, content m) ∷ [])) ∙ ap (λ l. l ++ (winner m, content m) ∷ []) before.1))
  ]

  module _ (i : ℕ) where
    from_both : (xs ys : List (ℕ × Content)) → frames_from i (xs ++ ys) ≡ frames_from i xs ++ frames_from i ys
    from_both xs ys = ap (map (λ x. x.1)) (filter-append (λ x. i == x.0) xs ys) ∙ map-append (λ x. x.1) (filter (λ x. i == x.0) xs) (filter (λ x. i == x.0) ys)

    from_one : (b : Bool) (x : ℕ × Content) → map (λ y. y.1) (cond b (x ∷ []) []) ≡ cond b (x.1 ∷ []) []
    from_one true x = refl
    from_one false x = refl

    -- those of node i are what it has sent, as they have passed it
    pub from_sent : (s : Stations) (frames : ℕ → Frame) (n : ℕ) → frames_from i (first_frames n) ≡ sent_contents (passed_with s frames winner content i n)
    from_sent s frames zero = refl
    from_sent s frames (suc n) =
        from_both (first_frames n) ((winner n, content n) ∷ []) ∙ ap (λ l. l ++ frames_from i ((winner n, content n) ∷ [])) (from_sent s frames n)
        ∙ ap (λ l. sent_contents (passed_with s frames winner content i n) ++ l) (from_one (i == winner n) (winner n, content n)
        ∙ sym (sent_one s frames winner content i (i == winner n) (passed_frame s (frames n).outset (frames n).bits i (winner n) (content n))))
        ∙ sym (sent_both s frames winner content i (passed_with s frames winner content i n) (passed_frame s (frames n).outset (frames n).bits i (winner n) (content n) ∷ []))
