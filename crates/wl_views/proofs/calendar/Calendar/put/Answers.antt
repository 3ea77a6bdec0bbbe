use Rattle.std.proofs.Common.{◌∙◌, ◌+◌, ◌*◌, ℕ, arith, get_or-set_other, get_or-set_same}
use Rattle.wl_views.proofs.Calendars.{moved}
use Rattle.wl_views.proofs.calendar.Calendar.put.Goals as goal

pub settle-requires-clause-tree : goal.settle-requires-clause-tree
settle-requires-clause-tree c =
    let n : ℕ = c.args.self.now.nodes in
    moved n c.args.self.now.tree (n + c.args.i) (c.args.tick * 64 + c.args.i) (omega arith) (omega arith) c.args.self.now.ordered

pub returns-clause-here : goal.returns-clause-here
returns-clause-here c =
    let n : ℕ = c.args.self.now.nodes in
    let long = c.args.self.now.ordered.all in
    let few = c.args.self.now.few in
    c.settle.ensures.leaves (n + c.args.i) (omega arith)
    ∙ get_or-set_same c.args.self.now.tree (n + c.args.i) (c.args.tick * 64 + c.args.i) 0 (omega arith)

pub returns-clause-others : goal.returns-clause-others
returns-clause-others c k few apart =
    let n : ℕ = c.args.self.now.nodes in
    c.settle.ensures.leaves (n + k) (omega arith)
    ∙ get_or-set_other c.args.self.now.tree (n + c.args.i) (n + k) (c.args.tick * 64 + c.args.i) 0 (omega arith)
