use Rattle.std.proofs.Common.{◌+◌, ◌/◌, ◌%◌, [], ◌∷◌, ℕ}
use Rattle.wl_views.proofs.Pieces.{four}
use Rattle.wl_views.proofs.stamp.push_four.Goals as goal

pub returns-clause-bytes : goal.returns-clause-bytes
returns-clause-bytes c =
    let n : ℕ = c.args.number in
    four ((48 + n / 1000 % 10) ∷ []) ((48 + n / 100 % 10) ∷ []) ((48 + n / 10 % 10) ∷ []) ((48 + n % 10) ∷ [])
    c.args.text.now.items c.push.new.self.items c.push-2.new.self.items c.push-3.new.self.items c.push-4.new.self.items
    c.push.ensures.items c.push-2.ensures.items c.push-3.ensures.items c.push-4.ensures.items
