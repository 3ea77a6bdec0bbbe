-- Up to the next sample and with it, and bit after bit.
use Rattle.std.proofs.Common.{◌∙◌, true, ap, subst}
use Rattle.wl_sync.specs.Skips.{free_quanta}
use Rattle.wl_sync.specs.Steps.{IsBitClock}
use Rattle.wl_sync.proofs.Samples.{bits_after, free_bits, next_after}
use Rattle.wl_sync.proofs.BitClock.sample_bits.Goals as goal

pub returns-then-more-gt0-clause-first : goal.returns-then-more-gt0-clause-first
returns-then-more-gt0-clause-first c = next_after c.args.self.now c.args.level c.sample_next.ensures.kept c.requires

pub returns-then-more-gt0-clause-next : goal.returns-then-more-gt0-clause-next
returns-then-more-gt0-clause-next c = bits_after c.args.self.now c.args.level c.sample_next.ensures.kept c.requires

pub returns-clause-first : goal.returns-clause-first
returns-clause-first c = next_after c.args.self.now c.args.level (subst IsBitClock c.self.view_is c.self.invariant) c.requires

pub returns-clause-next : goal.returns-clause-next
returns-clause-next c = bits_after c.args.self.now c.args.level (subst IsBitClock c.self.view_is c.self.invariant) c.requires

pub returns-then-more-gt0-clause-free : goal.returns-then-more-gt0-clause-free
returns-then-more-gt0-clause-free c =
    ap (λ s. free_quanta true s c.args.level) c.sample_next.ensures.clock ∙ free_bits c.args.self.now c.args.level c.sample_next.ensures.kept c.requires 1

pub returns-clause-free : goal.returns-clause-free
returns-clause-free c =
    ap (λ s. free_quanta true s c.args.level) c.sample.ensures.value
    ∙ free_bits c.args.self.now c.args.level (subst IsBitClock c.self.view_is c.self.invariant) c.requires 0
