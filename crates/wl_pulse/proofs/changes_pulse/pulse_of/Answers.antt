-- Until the next change has come, as many have come as now.
use Rattle.std.proofs.Common.{◌-◌, ◌%◌, ◌==◌, inl, inr, length, arith}
use Rattle.std.proofs.lemmas.Bool.{cases_lt}
use Rattle.wl_record_core.proofs.Callers.{odd_is}
use Rattle.wl_pulse.proofs.Callers.{after_them, drove_stays}
use Rattle.wl_pulse.proofs.changes_pulse.pulse_of.Goals as goal

pub returns-clause-until : goal.returns-clause-until
returns-clause-until c = elim (cases_lt c.count_until-count.result (length c.args.changes.now)) [
  | inl some ↦
      let after = after_them c.table_laws.ensures c.args.changes.now c.count_until-count.result (c.args.t - c.args.delay) c.requires.order c.count_until-count.ensures some in
      omega (arith, after, c.change_at.ensures.there some, c.saturating_add.ensures, c.requires.early, c.if-t-delay.false)
  | inr none ↦ omega (arith, c.change_at.ensures.none none, c.saturating_add.ensures, c.requires.early, c.if-t-delay.false)
]

pub returns-clause-dominant : goal.returns-clause-dominant
returns-clause-dominant c u from until =
    drove_stays c.table_laws.ensures c.args.changes.now c.args.delay c.count_until-count.result c.args.t u (c.count_until-count.result % 2 == 1) c.requires.order
    (omega (arith, c.if-t-delay.false)) c.count_until-count.ensures (odd_is c.count_until-count.result) from
    (λ some. omega (arith, until, c.change_at.ensures.there some, c.saturating_add.ensures))
