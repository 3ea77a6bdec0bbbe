use Rattle.std.proofs.Common.{◌≡◌, ◌-◌, suc, length, sym, subst, arith}
use Rattle.wl_node.proofs.Unsents.{Found, found_first, found_last, found_later}
use Rattle.wl_node.proofs.unsent.least_place.Goals as goal

pub loop-k-init : goal.loop-k-init
loop-k-init c =
    let some = c.if-k-eq0.false in
    let found = found_last c.args.waiting.now (length c.args.waiting.now - 1) c.index-waiting-k.result (omega (arith, some)) in
    subst (λ f. Found c.args.waiting.now (length c.args.waiting.now - 1) (length c.args.waiting.now - 1) f) (sym c.field_number-least.ensures) found

pub loop-k-preserved-then-field-least : goal.loop-k-preserved-then-field-least
loop-k-preserved-then-field-least c =
    let test = c.loop-k-test.true in
    let less = c.if-field-least.true in
    let k : c.loop-k.k ≡ suc (c.loop-k.k - 1) = omega (arith, test) in
    let was : Found c.args.waiting.now (suc (c.loop-k.k - 1)) c.loop-k.place c.loop-k.least = subst (λ n. Found c.args.waiting.now n c.loop-k.place c.loop-k.least) k c.loop-k.invariant in
    subst (λ f. Found c.args.waiting.now (c.loop-k.k - 1) (c.loop-k.k - 1) f) (sym c.field_number-field.ensures)
    (found_first c.args.waiting.now (c.loop-k.k - 1) c.loop-k.place c.loop-k.least c.index-waiting-k-in-loop-k.result was (omega (arith, less, c.field_number-field.ensures)))

pub loop-k-preserved : goal.loop-k-preserved
loop-k-preserved c =
    let test = c.loop-k-test.true in
    let more = c.if-field-least.false in
    let k : c.loop-k.k ≡ suc (c.loop-k.k - 1) = omega (arith, test) in
    let was : Found c.args.waiting.now (suc (c.loop-k.k - 1)) c.loop-k.place c.loop-k.least = subst (λ n. Found c.args.waiting.now n c.loop-k.place c.loop-k.least) k c.loop-k.invariant in
    found_later c.args.waiting.now (c.loop-k.k - 1) c.loop-k.place c.loop-k.least c.index-waiting-k-in-loop-k.result was (omega (arith, more, c.field_number-field.ensures))
