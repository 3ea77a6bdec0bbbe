use Rattle.std.proofs.Common.{◌∙◌, ◌∷◌, ◌++◌, List, ℕ, sym, subst}
use Rattle.wl_parts.specs.Reading.{OnlyMemory}
use Rattle.wl_parts.proofs.Answered.{sets_err, sets_left}
use Rattle.wl_parts.proofs.Strings.{LeftBytes, byte_fail, byte_step, bytes_end}
use Rattle.wl_parts.proofs.read.string.Goals as goal

pub returns-in_err-byte : goal.returns-in_err-byte
returns-in_err-byte c = λ bs rest is.
    sets_err c.from_residual.result c.in_err-byte.field-0.0 _ bs rest c.from_residual.ensures.1
    (byte_fail bs rest (OnlyMemory c.in_err-byte.field-0.0) c.loop-rest.all c.loop-rest.rest.now (sym c.is_end.ensures ∙ c.loop-rest-test.true)
    (λ b r e. c.in_err-byte.ensures.value b r e) (c.loop-rest.invariant bs rest is))

pub loop-rest-preserved : goal.loop-rest-preserved
loop-rest-preserved c = λ bs end is.
    subst (λ (all : List ℕ). LeftBytes bs end all c.in_ok-byte.more.now) (sym c.in_ok-push.ensures.ok)
    (byte_step bs end c.loop-rest.all c.loop-rest.rest.now c.in_ok-byte.more.now c.in_ok-byte.byte (sym c.is_end.ensures ∙ c.loop-rest-test.true)
    (λ b r e. c.in_ok-byte.ensures.value b r e) (c.loop-rest.invariant bs end is))

pub returns : goal.returns
returns c = λ bs rest is.
    let got = bytes_end bs rest c.loop-rest.all c.loop-rest.rest.now (sym c.is_end.ensures ∙ c.loop-rest-test.false) (c.loop-rest.invariant bs rest is) in
    sets_left c.after.result _ bs rest got.0 (c.after.ensures rest got.1)
