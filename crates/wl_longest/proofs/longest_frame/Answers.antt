use Rattle.std.proofs.Common.{◌≡◌, ◌∙◌, sym, ap}
use Rattle.wl_longest.specs.Longest.{most_stuffed}
use Rattle.wl_longest.proofs.Headers.{header_width, longest_is}
use Rattle.wl_longest.proofs.longest_frame.Goals as goal
use Rattle.wl_longest.proofs.longest_frame.Goals.{then-extended, else-extended}

pub returns : goal.returns
returns c =
    let head : c.if-extended.head ≡ header_width c.args.extended = elim c.if-extended.branch [
      | then-extended w ↦ w.head-is ∙ sym (ap header_width w.if-extended.true)
      | else-extended w ↦ w.head-is ∙ sym (ap header_width w.if-extended.false)
    ] in
    longest_is c.args.extended c.args.id c.args.remote c.args.dlc c.if-extended.head c.free_bits-free.result c.most_stuffed.result
    head c.free_bits-free.ensures.value (c.most_stuffed.ensures.value ∙ ap (λ e. most_stuffed e c.free_bits-free.result) c.head_ending.ensures.value)
