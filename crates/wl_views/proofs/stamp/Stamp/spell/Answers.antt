use Rattle.std.proofs.Common.{◌≤◌, length, arith}
use Rattle.std.specs.Fmt.{decimal}
use Rattle.std.proofs.lemmas.Fmt.{length-decimal-le}
use Rattle.wl_views.proofs.stamp.Stamp.spell.Goals as goal

pub write_digits-self-requires : goal.write_digits-self-requires
write_digits-self-requires c =
    let h = c.ranges.front.fits in
    let short : length (decimal c.args.front) ≤ 20 = length-decimal-le 20 c.args.front (omega arith) (omega arith) (omega arith) in
    (short, omega arith)
