use Rattle.std.proofs.Common.{◌≡◌, ◌∙◌, ◌+◌, ◌++◌, Option, Some, ap, sym, map, option_map, codes, List, ℕ}
use Rattle.std.specs.List.{position_from}
use Rattle.wl_parts.specs.declared.found.FirstMember.{FirstMember}
use Rattle.wl_parts.specs.Whole.{rows_between, slice}
use Rattle.wl_sweep.specs.declared.tally.Tally.{Tally}
use Rattle.wl_sweep.specs.declared.finding.Finding.{Finding}
use Rattle.wl_sweep.specs.Family.{capped}
use Rattle.wl_sweep.specs.Findings.{is_refused, is_unclean}
use Rattle.wl_sweep.specs.Parts.{kinds_of}
use Rattle.wl_sweep.specs.Sweeps.{all_findings, all_rows, first_line, row_findings}
use Rattle.wl_sweep.proofs.Shares.{all-rows, first_number}
use Rattle.wl_sweep.proofs.sweep.Sweep.found.Goals as goal

pub returns : goal.returns
returns g c =
    let s = c.args.self.now in
    let lo = c.args.numbers.from in
    let hi = c.args.numbers.to in
    let unclean : ℕ → FirstMember = λ n. record { number = n; line = first_line s (codes "first that isn't") (Some n) } in
    let refused : ℕ → FirstMember = λ n. record { number = n; line = first_line s (codes "first refused") (Some n) } in
    let tally = c.in_ok-tally.ensures.tally in
    let all = all-rows s (all_rows s) in
    let rows = c.in_ok-tally.ensures.rows ∙ ap (λ l. l ++ rows_between (kinds_of s) lo hi (map (row_findings s) (all_rows s))) c.new-rows.ensures in
    let first_unclean =
    c.in_ok-unclean.ensures ∙ ap (λ (t : Tally). option_map unclean (option_map (λ n. capped (lo + n)) t.first)) tally
    ∙ ap (option_map unclean) (first_number s is_unclean lo hi (all_findings s) c.requires.order c.requires.most c.requires.few
    ∙ ap (λ (l : List Finding). position_from is_unclean lo (slice lo hi l)) (sym all)) in
    let first_refused =
    c.in_ok-refused.ensures ∙ ap (λ (t : Tally). option_map refused (option_map (λ n. capped (lo + n)) t.first_refused)) tally
    ∙ ap (option_map refused) (first_number s is_refused lo hi (all_findings s) c.requires.order c.requires.most c.requires.few
    ∙ ap (λ (l : List Finding). position_from is_refused lo (slice lo hi l)) (sym all)) in
    λ i. record { rows = rows i; unclean = first_unclean i; refused = first_refused i }
