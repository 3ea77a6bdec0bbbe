use Rattle.std.proofs.Common.{◌≡◌, ◌∙◌, ◌++◌, ap, sym, cond, string_bytes, Bool, true, List, [], ℕ}
use Rattle.std.specs.List.{list_any}
use Rattle.std.proofs.lemmas.Result.{on_ok_weaker}
use Rattle.wl_views.specs.Ticks.{microseconds}
use Rattle.wl_traffic.specs.Causes.{full_line, full_words}
use Rattle.wl_traffic.specs.Reasons.{is_stuck}
use Rattle.wl_traffic.proofs.causes.push_full.Goals as goal

pub returns : goal.returns
returns c =
    let words : List ℕ = full_words (microseconds c.args.tick c.args.full) in
    let stuck : list_any (is_stuck c.args.full) c.args.late.now ≡ true = sym c.any_stuck.ensures ∙ c.if-not-any_stuck.false in
    let line : full_line c.args.tick c.args.full c.args.late.now ≡ words = ap (λ (b : Bool). cond b words []) stuck in
    on_ok_weaker c.push_full_words.result
    (λ grows.
    grows ∙ ap (λ (t : ℕ). string_bytes c.args.text.now ++ full_words t) c.microseconds_of-time.ensures
    ∙ ap (λ (ys : List ℕ). string_bytes c.args.text.now ++ ys) (sym line))
    c.push_full_words.ensures
