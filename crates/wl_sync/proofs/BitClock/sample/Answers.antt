-- Up to the next sample and with it, in the running bit or in the next one.
use Rattle.std.proofs.Common.{◌≡◌, ◌+◌, ◌<◌, ◌≤◌, ◌∙◌, ap, sym, subst}
use Rattle.wl_level.specs.declared.Level.{Level}
use Rattle.wl_segments.specs.Lengths.{sample_at}
use Rattle.wl_sync.specs.Edges.{Seen}
use Rattle.wl_sync.specs.Running.{Running, clock_after}
use Rattle.wl_sync.specs.Steps.{IsBitClock}
use Rattle.wl_sync.specs.Skips.{moved_place, quanta_before_sample, sampled_new, sampled_on, IsSampleAhead}
use Rattle.wl_sync.proofs.Samples.{clock_new, clock_on, clock_sampled, sampled_after}
use Rattle.wl_sync.proofs.BitClock.sample.Goals as goal

ahead_by : (r s : Running) (level : Level) (x : Seen) → r ≡ s → x.level ≡ level → IsSampleAhead r level → IsSampleAhead s x.level
ahead_by r s level x e f a = subst (λ t. IsSampleAhead t x.level) e (subst (IsSampleAhead r) (sym f) a)

pub returns-then-sample_at-self-clause-clock : goal.returns-then-sample_at-self-clause-clock
returns-then-sample_at-self-clause-clock c l past e x level =
    let r : Running = clock_after l past in
    let is : IsBitClock r = subst IsBitClock e c.sample_next.ensures.kept in
    let ahead : IsSampleAhead r x.level = ahead_by c.args.self.now r c.args.level x e level c.requires in
    let over : moved_place c.args.self.now < c.args.self.now.quanta =
    subst (λ (s : Running). sample_at c.args.self.now.lengths + s.longer < s.quanta) c.self.view_is
    (subst (λ n. n + c.self.inside.longer < c.self.inside.quanta) c.sample_at.ensures.place c.if-sample_at-self.true) in
    c.sample_next.ensures.clock
    ∙ ap (λ s. sampled_new s c.args.level) e
    ∙ ap (sampled_new r) (sym level)
    ∙ sym (clock_new r x is ahead (subst (λ (s : Running). moved_place s < s.quanta) e over))
    ∙ sym (clock_sampled l past x is ahead (quanta_before_sample c.args.self.now) (ap quanta_before_sample e))

pub returns-then-sample_at-self-clause-sampled : goal.returns-then-sample_at-self-clause-sampled
returns-then-sample_at-self-clause-sampled c l past e x level =
    sampled_after l past x (subst IsBitClock e c.sample_next.ensures.kept) (ahead_by c.args.self.now (clock_after l past) c.args.level x e level c.requires)
    (quanta_before_sample c.args.self.now) (ap quanta_before_sample e)

pub returns-clause-clock : goal.returns-clause-clock
returns-clause-clock c l past e x level =
    let r : Running = clock_after l past in
    let is : IsBitClock r = subst IsBitClock e c.sample_this.ensures.kept in
    let ahead : IsSampleAhead r x.level = ahead_by c.args.self.now r c.args.level x e level c.requires in
    let still : c.args.self.now.quanta ≤ moved_place c.args.self.now =
    subst (λ (s : Running). s.quanta ≤ sample_at c.args.self.now.lengths + s.longer) c.self.view_is
    (subst (λ n. c.self.inside.quanta ≤ n + c.self.inside.longer) c.sample_at.ensures.place c.if-sample_at-self.false) in
    c.sample_this.ensures.clock
    ∙ ap (λ s. sampled_on s c.args.level) e
    ∙ ap (sampled_on r) (sym level)
    ∙ sym (clock_on r x is ahead (subst (λ (s : Running). s.quanta ≤ moved_place s) e still))
    ∙ sym (clock_sampled l past x is ahead (quanta_before_sample c.args.self.now) (ap quanta_before_sample e))

pub returns-clause-sampled : goal.returns-clause-sampled
returns-clause-sampled c l past e x level =
    sampled_after l past x (subst IsBitClock e c.sample_this.ensures.kept) (ahead_by c.args.self.now (clock_after l past) c.args.level x e level c.requires)
    (quanta_before_sample c.args.self.now) (ap quanta_before_sample e)
