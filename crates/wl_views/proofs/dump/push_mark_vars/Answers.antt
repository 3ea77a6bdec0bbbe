use Rattle.std.proofs.Common.{ℕ, List, codes, string_bytes}
use Rattle.wl_views.specs.Vcd.{var_line}
use Rattle.wl_views.proofs.Pieces.{two}
use Rattle.wl_views.proofs.dump.push_mark_vars.Goals as goal

pub returns : goal.returns
returns c =
    let line : List ℕ → List ℕ → List ℕ = λ letter word. var_line (codes "wire 1") letter c.args.i c.args.name.now word in
    two (line (codes "s") (codes "sample")) (line (codes "b") (codes "start"))
    (string_bytes c.args.text.now) (string_bytes c.push_var.new.text) (string_bytes c.push_var-2.new.text)
    c.in_ok-push_var.ensures c.in_ok-push_var-2.ensures
