use Rattle.std.proofs.Common.{◌≡◌, ◌∙◌, ◌+◌, ◌-◌, ◌<◌, sym, arith, suc}
use Rattle.wl_parts.specs.Joined.{copies}
use Rattle.wl_parts.proofs.Checks.{number_doubled, number_here, number_missing}
use Rattle.wl_parts.proofs.join.check_numbers.Goals as goal

pub loop-before-preserved : goal.loop-before-preserved
loop-before-preserved c =
    let more : c.args.count - c.loop-before.before ≡ suc (c.args.count - (c.loop-before.before + 1)) = omega arith in
    let one : copies (c.loop-before.before + 1) c.args.parts.now ≡ 1 = omega (arith, c.copies-several.ensures) in
    sym (number_here (c.loop-before.before + 1) (c.args.count - c.loop-before.before) (c.args.count - (c.loop-before.before + 1)) c.args.parts.now more one)
    ∙ c.loop-before.invariant

pub returns-then-several-eq0 : goal.returns-then-several-eq0
returns-then-several-eq0 c =
    let more : c.args.count - c.loop-before.before ≡ suc (c.args.count - (c.loop-before.before + 1)) = omega arith in
    let none : copies (c.loop-before.before + 1) c.args.parts.now ≡ 0 = omega (arith, c.copies-several.ensures) in
    sym (number_missing (c.loop-before.before + 1) (c.args.count - c.loop-before.before) (c.args.count - (c.loop-before.before + 1)) c.args.parts.now more none)
    ∙ c.loop-before.invariant

pub returns-then-several-gt1 : goal.returns-then-several-gt1
returns-then-several-gt1 c =
    let more : c.args.count - c.loop-before.before ≡ suc (c.args.count - (c.loop-before.before + 1)) = omega arith in
    let several : 1 < copies (c.loop-before.before + 1) c.args.parts.now = omega (arith, c.copies-several.ensures) in
    sym (number_doubled (c.loop-before.before + 1) (c.args.count - c.loop-before.before) (c.args.count - (c.loop-before.before + 1)) c.args.parts.now more several)
    ∙ c.loop-before.invariant
