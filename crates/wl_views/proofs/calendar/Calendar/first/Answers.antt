use Rattle.std.proofs.Common.{◌+◌, ◌*◌, ℕ, arith}
use Rattle.wl_views.proofs.Calendars.{root_least, some_leaf}
use Rattle.wl_views.proofs.calendar.Calendar.first.Goals as goal

pub returns : goal.returns
returns c =
    let n : ℕ = c.args.self.now.nodes in
    let some = c.args.self.now.some in
    record {
      inside = omega arith;
      some =
          let found = some_leaf n c.args.self.now.tree c.args.self.now.ordered (2 * n) 1 (omega arith) (omega arith) (omega arith) in
          (found.0, found.1, (let e = found.2 in omega arith));
      least = λ k few.
          let less = root_least n c.args.self.now.tree c.args.self.now.ordered (2 * n) (n + k) (omega arith) (omega arith) (omega arith) in
          omega arith;
    }
