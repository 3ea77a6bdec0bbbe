use Rattle.std.proofs.Common.{arith, sym, ◌≡◌, ap, ◌∙◌, length-append, ◌∷◌, [], ◌-◌, ◌++◌, append-nil}
use Rattle.wl_frame.specs.Grammar.{number_bits}
use Rattle.wl_frame.proofs.Spelled.{push_step, number_bits_none}
use Rattle.wl_frame.proofs.numbers.push_number.Goals as goal

pub loop-k-preserved : goal.loop-k-preserved
loop-k-preserved c =
    rw c.push.ensures.items record {
      bits = push_step _ _ _ _ _ _ c.loop-k-test.true c.level_at.ensures c.loop-k.invariant.bits;
      length = length-append c.loop-k.bits.items (c.level_at.result ∷ []) ∙ omega (arith, c.loop-k.invariant.length);
    }

pub loop-k-init : goal.loop-k-init
loop-k-init c = record { bits = ap (λ n. c.args.bits.now.items ++ number_bits n c.args.number) (let all : c.args.count - 0 ≡ c.args.count = omega arith in all); length = omega arith }

pub returns-clause-bits : goal.returns-clause-bits
returns-clause-bits c =
    let none : c.args.count - c.loop-k.k ≡ 0 = omega arith in
    sym (append-nil c.loop-k.bits.items) ∙ ap (λ bs. c.loop-k.bits.items ++ bs) (sym (number_bits_none c.args.number))
    ∙ ap (λ n. c.loop-k.bits.items ++ number_bits n c.args.number) (sym none) ∙ c.loop-k.invariant.bits
