use Rattle.std.proofs.Common.{◌+◌, sym, subst, arith, List, ℕ}
use Rattle.wl_parts.specs.Reading.{OnlyMemory}
use Rattle.wl_parts.specs.Text.{word_words}
use Rattle.wl_parts.proofs.Answered.{Always, Left, all_always, fail, sets_err, step}
use Rattle.wl_parts.proofs.read.words.Goals as goal

pub returns-in_err-rest : goal.returns-in_err-rest
returns-in_err-rest c = λ ws end count is.
    let left = c.loop.invariant ws end count is in
    sets_err c.from_residual.result c.in_err-rest.field-0.0 _ ws end c.from_residual.ensures.1
    (fail word_words Always ws end (OnlyMemory c.in_err-rest.field-0.0) c.loop.all c.loop.counter c.args.count c.loop.rest.now (omega arith)
    (λ x r f e. c.in_err-rest.ensures x r e) (left.0, left.1, left.2, all_always left.0, left.3))

pub loop-preserved : goal.loop-preserved
loop-preserved c = λ ws end count is.
    let left = c.loop.invariant ws end count is in
    let more =
    subst (λ (all : List (List ℕ)). Left word_words Always ws end all (c.loop.counter + 1) c.args.count c.in_ok-rest.rest.now) (sym c.in_ok-push.ensures.ok)
    (step word_words Always ws end c.loop.all c.loop.counter c.args.count c.loop.rest.now c.in_ok-rest.rest.now c.word.new.read (omega arith)
    (λ x r f e. c.in_ok-rest.ensures x r e) (left.0, left.1, left.2, all_always left.0, left.3)) in
    (more.0, more.1, more.2, more.4)
