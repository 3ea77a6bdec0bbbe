use Rattle.std.proofs.Common.{◌∙◌, ◌++◌, string_bytes, ap}
use Rattle.std.proofs.lemmas.Bool.{lt-ltb, le-ltb}
use Rattle.wl_setup.proofs.CheckLemmas.{pair_more, pair_passed}
use Rattle.wl_setup.proofs.check.push_pairs_of.Goals as goal
use Rattle.wl_setup.proofs.check.push_pairs_of.Goals.{then-i-j+in_ok-line+in_ok-push_str, else-i-j}

pub loop-j-preserved : goal.loop-j-preserved
loop-j-preserved c =
    elim c.if-i-j.branch [
      | then-i-j+in_ok-line+in_ok-push_str w ↦
          pair_more c.args.topology.now c.args.i c.loop-j.j (string_bytes c.args.text.now) (string_bytes c.loop-j.text) (string_bytes w.in_ok-line.line) (string_bytes c.if-i-j.text)
          (lt-ltb _ _ w.if-i-j.true) c.loop-j.invariant w.in_ok-line.ensures
          (ap string_bytes w.text-is ∙ w.in_ok-push_str.ensures.bytes ∙ ap (λ more. string_bytes c.loop-j.text ++ more) w.as_str.ensures.value)
      | else-i-j w ↦
          pair_passed c.args.topology.now c.args.i c.loop-j.j (string_bytes c.args.text.now) (string_bytes c.if-i-j.text) (le-ltb _ _ w.if-i-j.false) (ap string_bytes w.text-is ∙ c.loop-j.invariant)
    ]
