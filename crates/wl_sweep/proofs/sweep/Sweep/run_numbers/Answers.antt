use Rattle.std.proofs.Common.{◌≡◌, ◌∙◌, ◌+◌, ◌-◌, ◌^◌, ◌<◌, ◌≤◌, ◌++◌, ◌∷◌, [], min, ap, sym, arith, map, length, length-append, List, ℕ}
use Rattle.std.specs.List.{range_with_len}
use Rattle.std.proofs.lemmas.List.{append_assoc, append-nil}
use Rattle.wl_parts.specs.Whole.{counts_in, rows_between, slice}
use Rattle.wl_parts.proofs.Callers.{length-slice, slice-nil}
use Rattle.wl_sweep.specs.declared.finding.Finding.{Finding}
use Rattle.wl_sweep.specs.Family.{run_count}
use Rattle.wl_sweep.specs.Parts.{kinds_of}
use Rattle.wl_sweep.specs.Rows.{row_count}
use Rattle.wl_sweep.specs.Sweeps.{all_findings, row_findings, rows_findings, text_in}
use Rattle.wl_sweep.specs.Tallies.{counts_of, findings_from, tally_of}
use Rattle.wl_sweep.proofs.Shares.{rest, row_slice, rows_rest, runs_in, slice_rest}
use Rattle.wl_sweep.proofs.sweep.Sweep.run_numbers.Goals as goal

pub loop-row-preserved : goal.loop-row-preserved
loop-row-preserved g c =
    let s = c.args.self.now in
    let row = c.loop-row.row in
    let lo = c.loop-row.left.from in
    let hi = c.loop-row.left.to in
    let before = c.loop-row.invariant in
    let f = c.in_ok-family.ensures in
    let kinds = kinds_of s in
    let r = runs_in s row in
    let ordered : lo ≤ hi = before.ordered in
    let rows : c.row_count-row-end.result ≡ row_count s.ranges = c.row_count-row-end.ensures ∙ ap row_count c.as_slice.ensures in
    let within : row < row_count s.ranges = omega arith in
    let here : List Finding = slice lo hi (row_findings s row) in
    let later : List Finding = rows_findings s (rest s (row + 1)) in
    let n : c.runs.result ≡ r = c.runs.ensures ∙ (λ i. run_count (f.options i) (f.text i)) in
    let first : c.runs_of-runs.result.from ≡ min lo r = c.runs_of-runs.ensures.from ∙ ap (λ k. min lo k) n in
    let last : c.runs_of-runs.result.to ≡ min hi r = c.runs_of-runs.ensures.to ∙ ap (λ k. min hi k) n in
    let more : c.in_ok-more.more ≡ tally_of here =
    c.in_ok-more.ensures ∙ (λ i. tally_of (findings_from (f.options i) (f.text i) (first i) (last i - first i)))
    ∙ ap tally_of (sym (row_slice s row lo hi ordered)) in
    let n1 : c.from.result ≡ r = c.from.ensures ∙ c.runs-in-loop-row.ensures ∙ (λ i. run_count (f.options i) (f.text i)) in
    let n2 : c.from-in-loop-row.result ≡ r = c.from-in-loop-row.ensures ∙ c.runs-in-loop-row-2.ensures ∙ (λ i. run_count (f.options i) (f.text i)) in
    let down : c.saturating_sub.result ≡ lo - r = c.saturating_sub.ensures ∙ ap (λ k. lo - k) n1 in
    let up : c.saturating_sub-in-loop-row.result ≡ hi - r = c.saturating_sub-in-loop-row.ensures ∙ ap (λ k. hi - k) n2 in
    let count : c.counts.result ≡ counts_in kinds here = c.counts.ensures ∙ ap counts_of more in
    let done = before.tally.0 in
    let after : List Finding = slice (lo - r) (hi - r) later in
    let all : List Finding = all_findings s in
    let together : (done ++ here) ++ after ≡ slice c.args.numbers.from c.args.numbers.to all =
    append_assoc done here after ∙ ap (λ l. done ++ l) (sym (slice_rest s row lo hi within)) ∙ before.tally.2 in
    let l1 : length ((done ++ here) ++ after) ≡ length (done ++ here) + length after = length-append (done ++ here) after in
    let l2 : length (done ++ here) ≡ length done + length here = length-append done here in
    let l3 : length ((done ++ here) ++ after) ≡ length (slice c.args.numbers.from c.args.numbers.to all) = ap length together in
    let l4 : length (slice c.args.numbers.from c.args.numbers.to all) ≡ min c.args.numbers.to (length all) - c.args.numbers.from = length-slice c.args.numbers.from c.args.numbers.to all in
    let most : length all < 2 ^ 64 = c.requires.few in
    let few : length done + length here < 2 ^ 64 = omega (arith, l1, l2, l3, l4, most) in
    record {
      ordered = omega (arith, down, up, ordered);
      rows =
          (λ i. c.in_ok-push.ensures.ok i ++ rows_between kinds (down i) (up i) (map (row_findings s) (rest s (row + 1))))
          ∙ append_assoc c.loop-row.rows (c.counts.result ∷ []) (rows_between kinds (lo - r) (hi - r) (map (row_findings s) (rest s (row + 1))))
          ∙ (λ i. c.loop-row.rows ++ (count i ∷ rows_between kinds (lo - r) (hi - r) (map (row_findings s) (rest s (row + 1)))))
          ∙ ap (λ l. c.loop-row.rows ++ l) (sym (rows_rest s row lo hi within)) ∙ before.rows;
      tally = (
        done ++ here,
        c.then-tally.ensures done here before.tally.1 more few,
        (λ i. (done ++ here) ++ slice (down i) (up i) later) ∙ together,
      );
    }

pub returns-clause-tally : goal.returns-clause-tally
returns-clause-tally g c =
    let s = c.args.self.now in
    let row = c.loop-row.row in
    let lo = c.loop-row.left.from in
    let hi = c.loop-row.left.to in
    let before = c.loop-row.invariant.tally in
    let rows : c.row_count-row-end.result ≡ row_count s.ranges = c.row_count-row-end.ensures ∙ ap row_count c.as_slice.ensures in
    let none : row_count s.ranges - row ≡ 0 = omega arith in
    before.1
    ∙ ap tally_of (sym (append-nil before.0)
    ∙ ap (λ l. before.0 ++ l) (sym (ap (λ k. slice lo hi (rows_findings s (range_with_len row k))) none ∙ slice-nil lo hi)) ∙ before.2)
