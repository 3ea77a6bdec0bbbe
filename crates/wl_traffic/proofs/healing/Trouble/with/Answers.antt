-- The spans before the sample end where it is, and the last one goes on.
use Rattle.std.proofs.Common.{◌≡◌, ◌∙◌, ◌++◌, ◌∷◌, [], ap, ap₂, sym, max, ℕ, List}
use Rattle.std.proofs.lemmas.List.Sums.{fold-append}
use Rattle.wl_clock.specs.Timing.{tick_of}
use Rattle.wl_level.specs.declared.Level.{Level}
use Rattle.wl_machine.specs.declared.doing.Doing.{Doing}
use Rattle.wl_node.specs.declared.setup.NodeSetup.{NodeSetup}
use Rattle.wl_traffic.specs.declared.spans.Span.{Span}
use Rattle.wl_traffic.specs.Healing.{trouble_by, trouble_of, trouble_until}
use Rattle.wl_traffic.specs.States.{doing_after, spans_of}
use Rattle.wl_traffic.proofs.Watching.{spans_more}
use Rattle.wl_traffic.proofs.healing.Trouble.with.Goals as goal

-- that of the last sample, up to an end
abbrev last : NodeSetup → (end : ℕ) → List (ℕ × Level) → ℕ × Level → Span
last setup end xs s =
    let at : ℕ = tick_of setup.clock s.0 in
    record { doing = doing_after setup (xs ++ s ∷ []); from = at; until = max at end }

more : (setup : NodeSetup) (end : ℕ) (xs : List (ℕ × Level)) (s : ℕ × Level)
    → trouble_until (spans_of setup end (xs ++ s ∷ [])) ≡ max (trouble_until (spans_of setup (tick_of setup.clock s.0) xs)) (trouble_of (last setup end xs s))
more setup end xs s =
    ap trouble_until (spans_more setup end xs s)
    ∙ fold-append (λ (n : ℕ) (x : Span). max n (trouble_of x)) 0 (spans_of setup (tick_of setup.clock s.0) xs) (last setup end xs s ∷ [])

pub returns : goal.returns
returns c setup samples sample has at doing end =
    ap₂ max (c.by.ensures ∙ ap (λ (u : ℕ). trouble_by u c.args.self) at ∙ has (tick_of setup.clock sample.0))
    (ap₂ (λ (d : Doing) (a : ℕ). trouble_of (record { doing = d; from = a; until = max a end })) doing at)
    ∙ sym (more setup end samples sample)
