use Rattle.std.proofs.Common.{◌≡◌, sum, drop, [], ap, arith, ℕ, List}
use Rattle.std.proofs.Math.ListN.{drop_of_length-le}
use Rattle.wl_hub.specs.Words.{edge_widths, silence_widths}
use Rattle.wl_hub.proofs.place.totals.Goals as goal

pub returns-clause-edges : goal.returns-clause-edges
returns-clause-edges c =
    let none : drop c.loop-width.width-index c.args.shape.now ≡ [] = drop_of_length-le c.args.shape.now c.loop-width-test.false in
    let left : sum (edge_widths (drop c.loop-width.width-index c.args.shape.now)) ≡ 0 = ap (λ (l : List (ℕ × ℕ)). sum (edge_widths l)) none in
    omega (arith, left, c.loop-width.invariant.edges)

pub returns-clause-silences : goal.returns-clause-silences
returns-clause-silences c =
    let none : drop c.loop-width.width-index c.args.shape.now ≡ [] = drop_of_length-le c.args.shape.now c.loop-width-test.false in
    let left : sum (silence_widths (drop c.loop-width.width-index c.args.shape.now)) ≡ 0 = ap (λ (l : List (ℕ × ℕ)). sum (silence_widths l)) none in
    omega (arith, left, c.loop-width.invariant.silences)
