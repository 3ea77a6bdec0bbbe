-- Some quanta at once are as many steps.
use Rattle.std.proofs.Common.{◌≡◌, ◌+◌, ◌-◌, ◌<◌, ◌≤◌, ◌∙◌, ap, sym, subst}
use Rattle.wl_level.specs.declared.Level.{Level}
use Rattle.wl_sync.specs.declared.BitClock.TheInside.{Inside}
use Rattle.wl_sync.specs.Running.{Running, clock_after}
use Rattle.wl_sync.specs.Steps.{end_of}
use Rattle.wl_sync.proofs.Skips.{running_at, running_new, running_skipped, skipped_on, skipped_new, AreFree, are_free, within, skipped, unmoved, not_sampled, plain}
use Rattle.wl_sync.proofs.BitClock.skip.Goals as goal
use Rattle.wl_sync.proofs.BitClock.skip.Goals.{then-end-self, else-end-self}

are : (c : goal.After-level-1) → AreFree c.args.self.now c.args.level c.args.quanta
are c = are_free c.args.self.now c.args.level c.end_at-end.ensures.clock c.args.quanta c.requires.some c.requires.few

-- what the clock keeps, with this level
abbrev kept : Inside → Level → Running
kept s level = record { lengths = s.segments; quanta = s.quanta; longer = s.longer; shorter = s.shorter; synced = s.synced; level = level; sample = s.sample }

body : (c : goal.After-level-1) → kept c.if-end-self.self-inside c.args.level ≡ running_skipped c.args.self.now c.args.level c.args.quanta
body c = elim c.if-end-self.branch [
  | then-end-self w ↦ (
      let over : end_of c.args.self.now < c.args.self.now.quanta + c.args.quanta =
      subst (λ (r : Running). end_of c.args.self.now < r.quanta + c.args.quanta) c.self.view_is (subst (λ n. n < c.self.inside.quanta + c.args.quanta) c.end_at-end.ensures.end w.if-end-self.true) in
      ap (λ (s : Inside). kept s c.args.level) w.self-inside-is
      ∙ ap (λ (r : Running). running_new r c.args.level (r.quanta + c.args.quanta - c.end_at-end.result)) c.self.view_is
      ∙ ap (λ n. running_new c.args.self.now c.args.level (c.args.self.now.quanta + c.args.quanta - n)) c.end_at-end.ensures.end
      ∙ sym (skipped_new c.args.self.now c.args.level c.args.quanta over))
  | else-end-self w ↦ (
      let still : c.args.self.now.quanta + c.args.quanta ≤ end_of c.args.self.now =
      subst (λ (r : Running). r.quanta + c.args.quanta ≤ end_of c.args.self.now) c.self.view_is (subst (λ n. c.self.inside.quanta + c.args.quanta ≤ n) c.end_at-end.ensures.end w.if-end-self.false) in
      ap (λ (s : Inside). kept s c.args.level) w.self-inside-is
      ∙ ap (λ (r : Running). running_at r c.args.level (r.quanta + c.args.quanta)) c.self.view_is
      ∙ sym (skipped_on c.args.self.now c.args.level c.args.quanta still))
]

pub returns-clause-clock : goal.returns-clause-clock
returns-clause-clock c l past e x level =
    body c
    ∙ ap (λ r. running_skipped r c.args.level c.args.quanta) e
    ∙ ap (λ v. running_skipped (clock_after l past) v c.args.quanta) (sym level)
    ∙ sym (skipped l past x c.args.quanta c.requires.some (subst (λ r. AreFree r x.level c.args.quanta) e (subst (λ v. AreFree c.args.self.now v c.args.quanta) (sym level) (are c))))

pub returns-clause-unmoved : goal.returns-clause-unmoved
returns-clause-unmoved c l past e x level =
    unmoved l past x c.args.quanta (subst (λ r. AreFree r x.level c.args.quanta) e (subst (λ v. AreFree c.args.self.now v c.args.quanta) (sym level) (are c)))

pub returns-clause-unsampled : goal.returns-clause-unsampled
returns-clause-unsampled c l past e x level =
    not_sampled l past x c.args.quanta (subst (λ r. AreFree r x.level c.args.quanta) e (subst (λ v. AreFree c.args.self.now v c.args.quanta) (sym level) (are c)))

pub returns-clause-plain : goal.returns-clause-plain
returns-clause-plain c few l past e x level =
    let in_bit = within c.args.self.now c.args.level c.end_at-end.ensures.clock c.args.quanta c.requires.some few in
    let begun : 0 < (clock_after l past).quanta = subst (λ (r : Running). 0 < r.quanta) e in_bit.0 in
    plain l past x c.args.quanta (subst (λ r. AreFree r x.level c.args.quanta) e (subst (λ v. AreFree c.args.self.now v c.args.quanta) (sym level) (are c)))
    begun (subst (λ (r : Running). r.quanta + c.args.quanta ≤ end_of r) e in_bit.1)
