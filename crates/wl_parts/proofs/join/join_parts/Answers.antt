use Rattle.std.proofs.Common.{◌∙◌, sym}
use Rattle.wl_parts.proofs.Checks.{joined_by}
use Rattle.wl_parts.proofs.join.join_parts.Goals as goal

pub returns : goal.returns
returns c =
    joined_by c.args.parts.now c.in-Some.first.now c.in_ok-found.found c.in_ok-text.text c.all_clean.result
    (sym c.in-Some.ensures.value) (sym c.check_beside.ensures ∙ c.in_ok-check_beside.was) (sym c.check_numbers.ensures ∙ c.in_ok-check_numbers.was)
    c.in_ok-found.ensures c.in_ok-text.ensures c.all_clean.ensures
