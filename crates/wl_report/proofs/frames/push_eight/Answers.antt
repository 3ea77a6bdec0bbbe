use Rattle.std.proofs.Common.{arith}
use Rattle.std.proofs.lemmas.Grind.{common_steps}
use Rattle.wl_report.proofs.Hexadecimal.{eight_digits}
use Rattle.wl_report.proofs.frames.push_eight.Goals as goal

pub returns : goal.returns
returns c =
    let digits = eight_digits c.args.number in
    grind (arith, common_steps, digits)
