use Rattle.std.proofs.Common.{◌≡◌, ◌∙◌, ◌==◌, ◌&&◌, Option, subst, sym}
use Rattle.wl_respond.specs.declared.bounds.Waits.{Waits}
use Rattle.wl_respond.specs.Texts.{AreLinesOf, missed_count, outcome_in, outcome_lines}
use Rattle.wl_respond.proofs.Waiting.{both_ok}
use Rattle.wl_respond.proofs.text.lines_by.Goals as goal

pub returns-in-Some : goal.returns-in-Some
returns-in-Some c =
    let names = c.args.names.now in
    let w = c.in-Some.waits in
    let asked = c.as_slice.ensures in
    let lines = c.as_slice-in-Some.ensures in
    let outcome = c.outcome_in-outcome.ensures in
    let words : outcome_lines names c.as_slice.result.now c.as_slice-in-Some.result.now c.outcome_in-outcome.result ≡ outcome_lines names w.asked w.lines (outcome_in w) =
    λ k. outcome_lines names (asked k) (lines k) (outcome k) in
    let all : (c.outcome_in-outcome.result.shown && (missed_count c.as_slice-in-Some.result.now == 0)) ≡ (w.shown && (missed_count w.lines == 0)) =
    λ k. (outcome k).shown && (missed_count (lines k) == 0) in
    both_ok c.made_response.result _ _ _ c.made_response.ensures.lines c.made_response.ensures.met
    (λ r text met. subst (λ (found : Option Waits). AreLinesOf names found r.lines.items r.met) (sym c.in-Some.is) (text ∙ words, met ∙ all))
