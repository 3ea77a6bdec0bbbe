use Rattle.std.proofs.Common.{◌≡◌, ◌∙◌, ap, refl, ℕ, Bool, true, false, ◌||◌, List, [], ◌∷◌, ◌++◌}
use Rattle.wl_intervals.specs.Pairs.{covers, has_tick}
use Rattle.wl_traffic.proofs.bus.add.Goals as goal

or_false : (b : Bool) → (b || false) ≡ b
or_false true = refl
or_false false = refl

or_again : (a b c : Bool) → (a || (b || c)) ≡ ((a || b) || c)
or_again true b c = refl
or_again false b c = refl

-- an interval more
pushed : (ps : List (ℕ × ℕ)) (p : ℕ × ℕ) (t : ℕ) → covers (ps ++ p ∷ []) t ≡ (covers ps t || has_tick p t)
pushed [] p t = or_false (has_tick p t)
pushed (q ∷ ps) p t = ap (λ b. has_tick q t || b) (pushed ps p t) ∙ or_again (has_tick q t) (covers ps t) (has_tick p t)

pub returns-in-Ok : goal.returns-in-Ok
returns-in-Ok c t =
    ap (λ (ps : List (ℕ × ℕ)). covers ps t) c.in-Ok.ensures.ok ∙ pushed c.args.busy.now (c.args.from, c.args.to) t
