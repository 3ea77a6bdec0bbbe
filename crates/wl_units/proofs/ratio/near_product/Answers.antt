use Rattle.std.proofs.Common.{◌≤◌, ◌*◌, arith}
use Rattle.std.proofs.lemmas.Nat.{mul-le}
use Rattle.wl_units.proofs.ratio.near_product.Goals as goal

pub returns-clause-most : goal.returns-clause-most
returns-clause-most c =
    let bound : c.args.a * c.args.b ≤ 18446744073709551616 * 1099511627776 = mul-le c.args.a c.args.b 18446744073709551616 1099511627776 (let fits = c.ranges.a in omega arith) c.requires in
    omega (arith, bound)
