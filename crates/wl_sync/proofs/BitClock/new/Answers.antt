use Rattle.std.proofs.Common.{◌≡◌, ◌∙◌, ℕ, false, sym, ap, arith}
use Rattle.wl_level.specs.declared.Level.TheVariants.{Recessive}
use Rattle.wl_segments.specs.declared.SyncRules.TheVariants.{After, Book}
use Rattle.wl_segments.specs.Lengths.{Lengths, bit_quanta}
use Rattle.wl_sync.specs.Running.{Running}
use Rattle.wl_sync.proofs.Cuts.{running_at_first, first_is}
use Rattle.wl_sync.proofs.BitClock.new.Goals as goal
use Rattle.wl_sync.proofs.BitClock.new.Goals.{in-After, in-Book}

abbrev kept : Lengths → ℕ → Running
kept l q = record { lengths = l; quanta = q; longer = 0; shorter = 0; synced = false; level = Recessive; sample = Recessive }

pub returns : goal.returns
returns c = elim c.match-sync.branch [
  | in-After w ↦ (
      let s : c.args.segments.sync ≡ After = sym c.sync.ensures ∙ w.in-After.is in
      ap (kept c.args.segments) w.quanta-is ∙ sym (first_is c.args.segments ∙ ap (λ t. running_at_first t c.args.segments) s))
  | in-Book w ↦ (
      let s : c.args.segments.sync ≡ Book = sym c.sync.ensures ∙ w.in-Book.is in
      let q : c.match-sync.quanta ≡ bit_quanta c.args.segments = omega (arith, w.quanta-is, w.bit_quanta.ensures.quanta) in
      ap (kept c.args.segments) q ∙ sym (first_is c.args.segments ∙ ap (λ t. running_at_first t c.args.segments) s))
]
