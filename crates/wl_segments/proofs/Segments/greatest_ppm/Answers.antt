use Rattle.std.proofs.Common.{◌≡◌, min, arith}
use Rattle.wl_segments.proofs.Tolerance.{flagged_ppm, stuffed_ppm, tolerated, tolerated_low}
use Rattle.wl_segments.proofs.Segments.greatest_ppm.Goals as goal

pub returns-clause-reached : goal.returns-clause-reached
returns-clause-reached c =
    let e : c.min-2.result ≡ min (flagged_ppm c.args.self.now) (stuffed_ppm c.args.self.now) = cc in
    tolerated c.args.self.now c.min-2.result (omega arith) (omega arith)

pub returns-clause-greatest : goal.returns-clause-greatest
returns-clause-greatest c ppm t =
    let e : c.min-2.result ≡ min (flagged_ppm c.args.self.now) (stuffed_ppm c.args.self.now) = cc in
    let low = tolerated_low c.args.self.now c.sjw.ensures.lengths ppm t in
    omega arith
