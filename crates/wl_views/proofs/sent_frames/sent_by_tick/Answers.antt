use Rattle.std.proofs.Common.{◌≡◌, ◌∙◌, ◌<◌, rules, ap, sym, subst, ℕ, false, []}
use Rattle.std.specs.List.{All}
use Rattle.std.proofs.lemmas.List.Sorted.{IsNonDecreasingBy-from_sort_by_key, answers_always}
use Rattle.wl_frame.specs.Grammar.{Content}
use Rattle.wl_level.specs.ByTick.{by_tick}
use Rattle.wl_level.proofs.Callers.{sorted_is_by_tick}
use Rattle.wl_views.proofs.sent_frames.sent_by_tick.Goals as goal

-- some frame
abbrev some_frame : Content
some_frame = record { extended = false; id = 0; remote = false; dlc = 0; bytes = [] }

pub returns : goal.returns
returns c =
    sorted_is_by_tick c.args.plan.now.end some_frame c.in_ok-sent.sent.items c.sort_by_key.new.self.items c.in_ok-sort_by_key.ensures.permutation
    (IsNonDecreasingBy-from_sort_by_key (λ s. s.0) _ c.in_ok-sort_by_key.ensures.sorted (λ a r q k. search rules))
    (c.in_ok-sort_by_key.ensures.stable (λ s. s.0) (answers_always _ (λ a r. r ≡ a.0.now.0) _ (λ f a r q k. search rules)))
    (subst (All (λ (s : ℕ × Content). s.0 < c.args.plan.now.end)) (sym c.in_ok-sent.ensures) c.requires.ended)
    ∙ ap (by_tick c.args.plan.now.end) c.in_ok-sent.ensures
