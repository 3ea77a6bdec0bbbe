-- A change more.
use Rattle.std.proofs.Common.{◌+◌, ◌-◌, ◌%◌, ◌==◌, ◌<◌, ◌++◌, inl, inr, length, get_or, refl, sym, ◌∙◌, ap, subst, arith}
use Rattle.std.proofs.lemmas.Bool.{cases_lt}
use Rattle.std.proofs.lemmas.List.{get_or_default, get_or-set_same}
use Rattle.wl_record_core.specs.Truth.{count_below, IsIncreasing}
use Rattle.wl_record_core.proofs.Callers.{odd_is}
use Rattle.wl_pulse.specs.Pulses.{drove}
use Rattle.wl_serial.specs.Running.{by_quanta, one_more}
use Rattle.wl_serial.proofs.Along.{along_later, along_length, along_more, along_none, along_other, along_seen, by_quanta_is}
use Rattle.wl_serial.proofs.Counts.{drove_on, few_below, next_after, one_comes}
use Rattle.wl_serial.proofs.alone.run_along.Goals as goal

pub come_by-come-requires : goal.come_by-come-requires
come_by-come-requires c =
    subst IsIncreasing (sym c.as_slice.ensures) (c.requires.somewhere.each c.args.j c.index-running-j.result (omega (arith, c.requires.leader, c.requires.somewhere.all))).1.order

pub loop-from-init : goal.loop-from-init
loop-from-init c =
    let plan = c.args.plan.now in
    let i = c.args.i in
    let j = c.args.j in
    let rs = c.args.running.now in
    let x = c.index-running-i.result in
    let y = c.index-running-j.result in
    let b : i < length rs = omega (arith, c.requires.node, c.requires.somewhere.all) in
    let there : j < length rs = omega (arith, c.requires.leader, c.requires.somewhere.all) in (
      along_none plan j c.args.delay i c.args.until rs x b (c.requires.somewhere.each i x b),
      λ d. refl,
      λ d levels node.
          let some = c.requires.somewhere.each i d b in
          let e = ap (λ r. r.next) (by_quanta_is plan i some.0 (get_or rs i d) some.1) in
          let f = ap (λ r. r.next) (get_or_default rs i x d b) in
          omega (arith, e, f),
      λ d. inr (ap (λ r. r.next) (get_or_default rs i x d b)),
      (let f = c.requires.below x in omega (arith, f)),
      λ d before. c.come_by-come.ensures ∙ ap (λ xs. count_below ((get_or rs i x).next + 1 - c.args.delay) xs) (c.as_slice.ensures ∙ ap (λ r. r.changes) (get_or_default rs j y d there)),
    )

pub loop-from-preserved : goal.loop-from-preserved
loop-from-preserved c =
    let plan = c.args.plan.now in
    let i = c.args.i in
    let j = c.args.j in
    let delay = c.args.delay in
    let old = c.args.running.now in
    let rs = c.loop-from.running in
    let come = c.loop-from.come in
    let h = c.loop-from.invariant in
    let s = c.run.new.self in
    let x = c.index-running-i-in-loop-from.result in
    let y = c.index-running-j-in-loop-from.result in
    let upto = c.min-from.result in
    let min = c.min-from.ensures in
    let sum = c.saturating_add.ensures in
    let b : i < length old = omega (arith, c.requires.node, c.requires.somewhere.all) in
    let there : j < length old = omega (arith, c.requires.leader, c.requires.somewhere.all) in
    let e = along_length plan j delay i c.args.until old rs b h.0 in
    let here : i < length rs = omega (arith, b, e) in
    let none = c.in_default.is in
    let two = c.in_ok-tick.ensures.ran in
    let other = ap (λ r. r.changes) (along_other plan j delay i c.args.until old rs b h.0 y c.requires.other) in
    let slice = c.as_slice-in-loop-from.ensures in
    let order = subst IsIncreasing (sym (slice ∙ other)) (c.requires.somewhere.each j y there).1.order in
    let is = h.5 y c.loop-from-test.true ∙ ap (λ xs. count_below (c.loop-from.from + 1 - delay) xs) (sym (slice ∙ other)) in (
      along_more plan j delay i c.args.until upto old rs x y s c.loop-from.from (come % 2 == 1) c.level_by-level.result b there c.requires.other
          h.0 h.1 h.2 c.level_by-level.ensures
          (λ t after before.
          ap (λ xs. drove xs delay t) (sym slice)
          ∙ (drove_on c.table_laws.ensures c.as_slice-in-loop-from.result.now delay come c.loop-from.from t order is after
          (λ some. omega (arith, before, min, sum, c.change_at-next.ensures.there some))
          ∙ sym (odd_is come)))
          (omega (arith, min)) two,
      λ d.
          ap (λ r. r.changes) (get_or-set_same rs i s d here)
          ∙ (c.in_ok-tick.ensures.told ∙ (ap (one_more (get_or rs i x).changes) none ∙ (ap (λ r. r.changes) (get_or_default rs i x d here) ∙ h.1 d))),
      λ d levels node.
          let on = along_seen plan j delay i c.args.until old rs b h.0 d x levels node in
          let f = c.in_ok-tick.ensures.reached (levels ++ on.0) on.1 none in
          let g = ap (λ r. (by_quanta plan i r).next) (get_or-set_same rs i s d here) in
          omega (arith, f, g),
      λ d. inl (along_later plan j delay i c.args.until old rs b h.0 c.loop-from.from upto x s d
          (elim (cases_lt come (length c.as_slice-in-loop-from.result.now)) [
            | inl some ↦
                (let f = next_after c.table_laws.ensures c.as_slice-in-loop-from.result.now delay come c.loop-from.from order is some in
                omega (arith, f, min, sum, c.change_at-next.ensures.there some, c.loop-from-test.true, c.ranges.until.fits))
            | inr nothing ↦ omega (arith, min, sum, c.change_at-next.ensures.none nothing, c.loop-from-test.true, c.ranges.until.fits)
          ])
          two.further.next c.in_ok-tick.ensures.later (h.3 d)),
      omega (arith, min),
      λ d before. elim (cases_lt come (length c.as_slice-in-loop-from.result.now)) [
        | inl some ↦
            one_comes c.table_laws.ensures c.as_slice-in-loop-from.result.now delay come upto order some
            (omega (arith, before, min, sum, c.change_at-next.ensures.there some, c.ranges.until.fits))
            ∙ ap (λ xs. count_below (upto + 1 - delay) xs) (slice ∙ (other ∙ ap (λ r. r.changes) (get_or_default old j y d there)))
        | inr nothing ↦ absurd (omega (arith, before, min, sum, c.change_at-next.ensures.none nothing, c.ranges.until.fits))
      ],
    )

pub returns-in-Some-clause-ran : goal.returns-in-Some-clause-ran
returns-in-Some-clause-ran c =
    let plan = c.args.plan.now in
    let i = c.args.i in
    let j = c.args.j in
    let delay = c.args.delay in
    let old = c.args.running.now in
    let rs = c.loop-from.running in
    let come = c.loop-from.come in
    let h = c.loop-from.invariant in
    let x = c.index-running-i-in-loop-from.result in
    let y = c.index-running-j-in-loop-from.result in
    let min = c.min-from.ensures in
    let sum = c.saturating_add.ensures in
    let b : i < length old = omega (arith, c.requires.node, c.requires.somewhere.all) in
    let there : j < length old = omega (arith, c.requires.leader, c.requires.somewhere.all) in
    let other = ap (λ r. r.changes) (along_other plan j delay i c.args.until old rs b h.0 y c.requires.other) in
    let slice = c.as_slice-in-loop-from.ensures in
    let order = subst IsIncreasing (sym (slice ∙ other)) (c.requires.somewhere.each j y there).1.order in
    let is = h.5 y c.loop-from-test.true ∙ ap (λ xs. count_below (c.loop-from.from + 1 - delay) xs) (sym (slice ∙ other)) in
    along_more plan j delay i c.args.until c.min-from.result old rs x y c.run.new.self c.loop-from.from (come % 2 == 1) c.level_by-level.result b there c.requires.other
    h.0 h.1 h.2 c.level_by-level.ensures
    (λ t after before.
    ap (λ xs. drove xs delay t) (sym slice)
    ∙ (drove_on c.table_laws.ensures c.as_slice-in-loop-from.result.now delay come c.loop-from.from t order is after
    (λ some. omega (arith, before, min, sum, c.change_at-next.ensures.there some))
    ∙ sym (odd_is come)))
    (omega (arith, min)) c.in_ok-tick.ensures.ran

pub returns-in-Some-clause-later : goal.returns-in-Some-clause-later
returns-in-Some-clause-later c d =
    let plan = c.args.plan.now in
    let i = c.args.i in
    let j = c.args.j in
    let delay = c.args.delay in
    let old = c.args.running.now in
    let rs = c.loop-from.running in
    let come = c.loop-from.come in
    let h = c.loop-from.invariant in
    let y = c.index-running-j-in-loop-from.result in
    let min = c.min-from.ensures in
    let sum = c.saturating_add.ensures in
    let b : i < length old = omega (arith, c.requires.node, c.requires.somewhere.all) in
    let there : j < length old = omega (arith, c.requires.leader, c.requires.somewhere.all) in
    let other = ap (λ r. r.changes) (along_other plan j delay i c.args.until old rs b h.0 y c.requires.other) in
    let slice = c.as_slice-in-loop-from.ensures in
    let order = subst IsIncreasing (sym (slice ∙ other)) (c.requires.somewhere.each j y there).1.order in
    let is = h.5 y c.loop-from-test.true ∙ ap (λ xs. count_below (c.loop-from.from + 1 - delay) xs) (sym (slice ∙ other)) in
    along_later plan j delay i c.args.until old rs b h.0 c.loop-from.from c.min-from.result c.index-running-i-in-loop-from.result c.run.new.self d
    (elim (cases_lt come (length c.as_slice-in-loop-from.result.now)) [
      | inl some ↦
          (let f = next_after c.table_laws.ensures c.as_slice-in-loop-from.result.now delay come c.loop-from.from order is some in
          omega (arith, f, min, sum, c.change_at-next.ensures.there some, c.loop-from-test.true, c.ranges.until.fits))
      | inr nothing ↦ omega (arith, min, sum, c.change_at-next.ensures.none nothing, c.loop-from-test.true, c.ranges.until.fits)
    ])
    c.in_ok-tick.ensures.ran.further.next c.in_ok-tick.ensures.later (h.3 d)

pub loop-from-smaller : goal.loop-from-smaller
loop-from-smaller c =
    let plan = c.args.plan.now in
    let i = c.args.i in
    let j = c.args.j in
    let delay = c.args.delay in
    let old = c.args.running.now in
    let rs = c.loop-from.running in
    let come = c.loop-from.come in
    let h = c.loop-from.invariant in
    let y = c.index-running-j-in-loop-from.result in
    let min = c.min-from.ensures in
    let sum = c.saturating_add.ensures in
    let b : i < length old = omega (arith, c.requires.node, c.requires.somewhere.all) in
    let there : j < length old = omega (arith, c.requires.leader, c.requires.somewhere.all) in
    let other = ap (λ r. r.changes) (along_other plan j delay i c.args.until old rs b h.0 y c.requires.other) in
    let slice = c.as_slice-in-loop-from.ensures in
    let order = subst IsIncreasing (sym (slice ∙ other)) (c.requires.somewhere.each j y there).1.order in
    let is = h.5 y c.loop-from-test.true ∙ ap (λ xs. count_below (c.loop-from.from + 1 - delay) xs) (sym (slice ∙ other)) in
    let later : c.loop-from.from < c.min-from.result = (elim (cases_lt come (length c.as_slice-in-loop-from.result.now)) [
      | inl some ↦
          (let f = next_after c.table_laws.ensures c.as_slice-in-loop-from.result.now delay come c.loop-from.from order is some in
          omega (arith, f, min, sum, c.change_at-next.ensures.there some, c.loop-from-test.true, c.ranges.until.fits))
      | inr nothing ↦ omega (arith, min, sum, c.change_at-next.ensures.none nothing, c.loop-from-test.true, c.ranges.until.fits)
    ]) in
    omega (arith, later, min, c.loop-from-test.true)

pub overflow_add-come : goal.overflow_add-come
overflow_add-come c =
    let y = c.index-running-j-in-loop-from.result in
    let is = c.loop-from.invariant.5 y c.loop-from-test.true in
    let few = few_below c.table_laws.ensures (get_or c.args.running.now c.args.j y).changes (c.loop-from.from + 1 - c.args.delay)
    (c.requires.somewhere.each c.args.j y (omega (arith, c.requires.leader, c.requires.somewhere.all))).1.order in
    let ends = c.laws.ensures.checked.ends in
    omega (arith, is, few, ends, c.requires.ends, c.loop-from-test.true)
