use Rattle.std.proofs.Common.{◌≡◌, ◌∙◌, ◌-◌, ap, sym, map, length}
use Rattle.wl_parts.specs.Whole.{all_of, cut, found_between}
use Rattle.wl_sweep.specs.Parts.{kinds_of}
use Rattle.wl_sweep.specs.Sweeps.{all_findings, all_rows, row_findings}
use Rattle.wl_sweep.specs.Words.{members_line}
use Rattle.wl_sweep.proofs.Shares.{all-rows}
use Rattle.wl_sweep.proofs.sweep.Sweep.part.Goals as goal

pub returns : goal.returns
returns g c =
    let s = c.args.self.now in
    let n = c.args.share.count in
    let k = c.args.share.number in
    let runs = c.in_ok-size.ensures.runs ∙ ap length (sym (all-rows s (all_rows s))) in
    let low = c.cut.ensures.value ∙ ap (λ total. cut total n (k - 1)) runs in
    let high = c.cut-2.ensures.value ∙ ap (λ total. cut total n k) runs in
    let found = c.in_ok-found.ensures ∙ (λ i. found_between (kinds_of s) (low i) (high i) (map (row_findings s) (all_rows s))) in
    let members = c.in_ok-members.ensures ∙ (λ i. members_line s.options (c.in_ok-size.ensures.runs i) (c.in_ok-size.ensures.members i)) in
    λ i. record {
      of = c.of.view_is i;
      number = c.from.ensures i;
      count = c.from-2.ensures i;
      words = c.in_ok-words.ensures i;
      members = members i;
      tail = c.tail.view_is i;
      found = found i;
    }
