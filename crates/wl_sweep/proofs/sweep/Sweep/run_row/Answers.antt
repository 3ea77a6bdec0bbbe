use Rattle.std.proofs.Common.{◌≡◌, ◌∙◌, ◌-◌, ◌++◌, ap, arith, string_bytes, true, false, Bool}
use Rattle.wl_sweep.specs.Family.{member_count}
use Rattle.wl_sweep.specs.Tallies.{findings_from, findings_of, tally_of}
use Rattle.wl_sweep.specs.Words.{row_line}
use Rattle.wl_sweep.proofs.Growing.{with_line, without_line}
use Rattle.wl_sweep.proofs.sweep.Sweep.run_row.Goals as goal
use Rattle.wl_sweep.proofs.sweep.Sweep.run_row.Goals.{then-not-is_empty+in_ok-push_row, else-not-is_empty}

unlike : (b : Bool) → b ≡ false → b ≡ true → ⊥
unlike b is h = absurd (cc)

pub returns-clause-tally : goal.returns-clause-tally
returns-clause-tally g c =
    let f = c.in_ok-family.family in
    let none : c.runs.result - 0 ≡ c.runs.result = omega arith in
    c.in_ok-tally.ensures ∙ ap (λ n. tally_of (findings_from f.options f.text 0 n)) (none ∙ c.runs.ensures)
    ∙ (λ i. tally_of (findings_of (c.in_ok-family.ensures.options i) (c.in_ok-family.ensures.text i)))

pub returns-clause-members : goal.returns-clause-members
returns-clause-members g c = c.count.ensures ∙ (λ i. member_count (c.in_ok-family.ensures.options i) (c.in_ok-family.ensures.text i))

pub returns-clause-text : goal.returns-clause-text
returns-clause-text g c =
    let s = c.args.self.now in
    let f = c.in_ok-family.family in
    let none : c.runs.result - 0 ≡ c.runs.result = omega arith in
    let old = string_bytes c.args.text.now in
    let new = string_bytes c.if-not-is_empty.text in
    elim c.if-not-is_empty.branch [
      | then-not-is_empty+in_ok-push_row w ↦ with_line s s.ranges c.args.row c.in_ok-tally.tally old new
          (λ none. unlike c.is_empty.result w.if-not-is_empty.true (c.is_empty.ensures.1 none))
          (c.in_ok-tally.ensures ∙ ap (λ n. tally_of (findings_from f.options f.text 0 n)) (none ∙ c.runs.ensures)
          ∙ (λ i. tally_of (findings_of (c.in_ok-family.ensures.options i) (c.in_ok-family.ensures.text i))))
          (ap string_bytes w.text-is ∙ w.in_ok-push_row.ensures ∙ ap (λ gs. old ++ row_line c.args.row gs c.in_ok-tally.tally) w.as_slice.ensures)
      | else-not-is_empty w ↦ without_line s s.ranges c.args.row old new (c.is_empty.ensures.0 w.if-not-is_empty.false) (ap string_bytes w.text-is)
    ]
