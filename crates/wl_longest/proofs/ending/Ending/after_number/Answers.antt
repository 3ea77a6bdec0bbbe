use Rattle.std.proofs.Common.{◌≡◌, ◌∙◌, sym, ap, ◌+◌, ◌-◌, arith}
use Rattle.wl_frame.specs.Grammar.{number_bits}
use Rattle.wl_longest.specs.Longest.{ending_after, ending_from}
use Rattle.wl_longest.proofs.Steps.{next_bit, no_bits}
use Rattle.wl_longest.proofs.ending.Ending.after_number.Goals as goal

pub loop-k-preserved : goal.loop-k-preserved
loop-k-preserved c = record {
  bits =
      ap (λ e. ending_from e (number_bits (c.args.count - (c.loop-k.k + 1)) c.args.number)) (c.after-ending.ensures.value ∙ ap (ending_after c.loop-k.ending) c.level_at.ensures)
      ∙ next_bit c.loop-k.ending c.args.count c.loop-k.k c.args.number c.loop-k-test.true ∙ c.loop-k.invariant.bits;
  room = omega (arith, c.after-ending.ensures.room, c.loop-k.invariant.room);
  some = λ _. c.after-ending.ensures.some;
  few = c.after-ending.ensures.few;
}

pub returns-clause-value : goal.returns-clause-value
returns-clause-value c =
    let none : c.args.count - c.loop-k.k ≡ 0 = omega (arith, c.loop-k-test.false) in
    sym (no_bits c.loop-k.ending (c.args.count - c.loop-k.k) c.args.number none) ∙ c.loop-k.invariant.bits
